-- Header fields, one at a time (RFC 9113, sections 8.2 and 8.3).
use Rattle.std.specs.Prelude.{ℕ, Bool, true, false, not, ◌||◌, ◌&&◌, ◌==◌, nat_le, bytes_eq, codes, List, [], ◌∷◌}
use Rattle.std.specs.List.{list_any}
use Rattle.hpack.specs.declared.header.Header.{Header}

-- the field has this name
abbrev pub is_named : List ℕ → Header → Bool
is_named name header = bytes_eq header.name name

-- ---- names and values (section 8.2.1)

-- a control character or a blank, an upper-case letter, or no ASCII
abbrev pub is_bad_in_name : ℕ → Bool
is_bad_in_name octet = nat_le octet 32 || (nat_le 65 octet && nat_le octet 90) || nat_le 127 octet

abbrev pub is_colon : ℕ → Bool
is_colon octet = octet == 58

-- an empty name, one with an octet that no name has, or one with a colon that is not its first octet
abbrev pub is_bad_name : List ℕ → Bool
is_bad_name [] = true
is_bad_name (octet ∷ octets) = list_any is_bad_in_name (octet ∷ octets) || list_any is_colon octets

-- NUL, LF or CR
abbrev pub is_bad_in_value : ℕ → Bool
is_bad_in_value octet = octet == 0 || octet == 10 || octet == 13

-- ---- fields that speak of the connection (section 8.2.2)

abbrev pub is_connection_field : Header → Bool
is_connection_field header =
    is_named (codes "connection") header || is_named (codes "proxy-connection") header || is_named (codes "keep-alive") header
    || is_named (codes "transfer-encoding") header || is_named (codes "upgrade") header

-- `te` with another value than `trailers`
abbrev pub is_bad_te : Header → Bool
is_bad_te header = is_named (codes "te") header && not (bytes_eq header.value (codes "trailers"))

-- a field that no list has
abbrev pub is_bad_field : Header → Bool
is_bad_field header = is_bad_name header.name || list_any is_bad_in_value header.value || is_connection_field header || is_bad_te header

-- ---- pseudo-header fields (section 8.3)

-- the name begins with a colon
abbrev pub begins_with_colon : List ℕ → Bool
begins_with_colon [] = false
begins_with_colon (octet ∷ octets) = is_colon octet

abbrev pub is_pseudo : Header → Bool
is_pseudo header = begins_with_colon header.name

-- those of requests (section 8.3.1), and that of replies (section 8.3.2)
abbrev pub is_request_pseudo : Header → Bool
is_request_pseudo header =
    is_named (codes ":method") header || is_named (codes ":scheme") header || is_named (codes ":path") header || is_named (codes ":authority") header

abbrev pub is_reply_pseudo : Header → Bool
is_reply_pseudo header = is_named (codes ":status") header

-- Header lists that are malformed, computed (RFC 9113, sections 8.2 and 8.3).
use Rattle.std.specs.Prelude.{ℕ, Bool, false, not, ◌||◌, ◌&&◌, ◌==◌, nat_le, bytes_eq, codes, List, [], ◌∷◌, drop, if◌then◌else◌}
use Rattle.std.specs.List.{list_any, prefix_len}
use Rattle.hpack.specs.declared.header.Header.{Header}
use Rattle.header_lists.specs.declared.kind.ListKind.{ListKind}
use Rattle.header_lists.specs.declared.kind.ListKind.TheVariants.{Request, Reply, Trailers}
use Rattle.header_lists.specs.Fields.{is_named, is_bad_field, is_pseudo, is_request_pseudo, is_reply_pseudo}

-- some field has this name
abbrev pub has_field : List ℕ → List Header → Bool
has_field name headers = list_any (is_named name) headers

-- ---- the order of pseudo-header fields

-- the list from its first field on that is no pseudo-header
abbrev pub after_pseudo : List Header → List Header
after_pseudo headers = drop (prefix_len is_pseudo headers) headers

-- a pseudo-header stands after another field
abbrev pub has_late_pseudo : List Header → Bool
has_late_pseudo headers = list_any is_pseudo (after_pseudo headers)

-- a pseudo-header is repeated
abbrev pub has_repeated_pseudo : List Header → Bool
has_repeated_pseudo [] = false
has_repeated_pseudo (header ∷ headers) = (is_pseudo header && has_field header.name headers) || has_repeated_pseudo headers

-- ---- which pseudo-header fields a list has

-- a pseudo-header that has no place in such a list
abbrev pub is_foreign : ListKind → Header → Bool
is_foreign Request header = is_pseudo header && not (is_request_pseudo header)
is_foreign Reply header = is_pseudo header && not (is_reply_pseudo header)
is_foreign Trailers header = is_pseudo header

-- a request whose method is CONNECT (section 8.5)
abbrev pub is_connect_field : Header → Bool
is_connect_field header = is_named (codes ":method") header && bytes_eq header.value (codes "CONNECT")

abbrev pub is_connect : List Header → Bool
is_connect headers = list_any is_connect_field headers

-- CONNECT has no scheme and no path, and has an authority; any other request has a scheme and a path
abbrev pub lacks_target : List Header → Bool
lacks_target headers = if is_connect headers
    then has_field (codes ":scheme") headers || has_field (codes ":path") headers || not (has_field (codes ":authority") headers)
    else (not (has_field (codes ":scheme") headers) || not (has_field (codes ":path") headers))

-- a pseudo-header that such a list has is missing
abbrev pub lacks_pseudo : ListKind → List Header → Bool
lacks_pseudo Request headers = not (has_field (codes ":method") headers) || lacks_target headers
lacks_pseudo Reply headers = not (has_field (codes ":status") headers)
lacks_pseudo Trailers headers = false

-- ---- malformed lists

abbrev pub is_malformed : ListKind → List Header → Bool
is_malformed kind headers =
    list_any is_bad_field headers || has_late_pseudo headers || has_repeated_pseudo headers || list_any (is_foreign kind) headers || lacks_pseudo kind headers

-- ---- informational replies (section 8.1)

abbrev pub is_digit : ℕ → Bool
is_digit octet = nat_le 48 octet && nat_le octet 57

-- three digits, the first of them 1
abbrev pub is_informational_status : List ℕ → Bool
is_informational_status (a ∷ b ∷ c ∷ []) = a == 49 && is_digit b && is_digit c
is_informational_status octets = false

abbrev pub is_informational_field : Header → Bool
is_informational_field header = is_named (codes ":status") header && is_informational_status header.value

abbrev pub is_informational : List Header → Bool
is_informational headers = list_any is_informational_field headers

-- Header fields, one at a time: what no field is (RFC 9113, sections 8.2 and 8.3).
use Rattle.std.specs.Prelude.{◌≡◌, ◌≢◌, ℕ, ◌≤◌, ◌⊎◌, Any, codes, List, [], ◌∷◌, drop}
use Rattle.hpack.specs.declared.header.Header.{Header}

abbrev pub IsNamed : List ℕ → Header → Type 0
IsNamed name header = header.name ≡ name

-- ---- names and values (section 8.2.1)

-- no name has a control character or a blank (up to 32), an upper-case letter (65 to 90), or what is no visible ASCII (from 127)
abbrev pub IsNoNameOctet : ℕ → Type 0
IsNoNameOctet octet = ((octet ≤ 32) ⊎ ((65 ≤ octet) × (octet ≤ 90))) ⊎ (127 ≤ octet)

abbrev pub IsColon : ℕ → Type 0
IsColon octet = octet ≡ 58

-- the name is empty, has an octet that no name has, or has a colon behind its first octet
abbrev pub IsBadName : List ℕ → Type 0
IsBadName name = (name ≡ []) ⊎ (Any IsNoNameOctet name ⊎ Any IsColon (drop 1 name))

-- NUL, LF or CR
abbrev pub IsNoValueOctet : ℕ → Type 0
IsNoValueOctet octet = ((octet ≡ 0) ⊎ (octet ≡ 10)) ⊎ (octet ≡ 13)

-- ---- fields that speak of the connection (section 8.2.2)

abbrev pub IsOfConnection : Header → Type 0
IsOfConnection header =
    (((IsNamed (codes "connection") header ⊎ IsNamed (codes "proxy-connection") header) ⊎ IsNamed (codes "keep-alive") header)
    ⊎ IsNamed (codes "transfer-encoding") header) ⊎ IsNamed (codes "upgrade") header

-- `te` with another value than `trailers`
abbrev pub IsOtherTe : Header → Type 0
IsOtherTe header = IsNamed (codes "te") header × (header.value ≢ codes "trailers")

-- ---- pseudo-header fields (section 8.3)

-- the name begins with a colon
abbrev pub IsPseudo : Header → Type 0
IsPseudo header = (rest : List ℕ) × (header.name ≡ 58 ∷ rest)

-- The rules of header lists, and which a list breaks (RFC 9113, sections 8.1 to 8.3).
use Rattle.std.specs.Prelude.{◌≡◌, ℕ, ◌⊎◌, Any, codes, List, [], ◌∷◌}
use Rattle.hpack.specs.declared.header.Header.{Header}
use Rattle.header_lists.specs.declared.kind.ListKind.{ListKind}
use Rattle.header_lists.specs.declared.kind.ListKind.TheVariants.{Request, Reply, Trailers}
use Rattle.header_rules.specs.FieldRules.{IsNamed, IsBadName, IsNoValueOctet, IsOfConnection, IsOtherTe, IsPseudo}

-- some field has this name
abbrev pub Has : List ℕ → List Header → Type 0
Has name headers = Any (IsNamed name) headers

-- a field stands somewhere before another one to which it is so related
abbrev pub SomeBefore : (Header → Header → Type 0) → List Header → Type 0
SomeBefore R [] = ⊥
SomeBefore R (header ∷ headers) = Any (R header) headers ⊎ SomeBefore R headers

-- a pseudo-header behind a field that is none
abbrev pub IsLate : Header → Header → Type 0
IsLate header other = ¬ IsPseudo header × IsPseudo other

-- a pseudo-header once more
abbrev pub IsRepeated : Header → Header → Type 0
IsRepeated header other = IsPseudo header × (other.name ≡ header.name)

-- a pseudo-header of requests (section 8.3.1), of replies (section 8.3.2); trailers have none (section 8.1)
abbrev pub HasPlace : ListKind → Header → Type 0
HasPlace Request header =
    ((IsNamed (codes ":method") header ⊎ IsNamed (codes ":scheme") header) ⊎ IsNamed (codes ":path") header) ⊎ IsNamed (codes ":authority") header
HasPlace Reply header = IsNamed (codes ":status") header
HasPlace Trailers header = ⊥

abbrev pub IsForeign : ListKind → Header → Type 0
IsForeign kind header = IsPseudo header × ¬ HasPlace kind header

-- the method is CONNECT (section 8.5)
abbrev pub IsConnect : List Header → Type 0
IsConnect headers = Any (λ header. IsNamed (codes ":method") header × (header.value ≡ codes "CONNECT")) headers

-- ---- the rules

pub data ListRule : Type 0 where
  -- each name is one that fields have
  NameOfField : ListRule
  -- so is each value
  ValueOfField : ListRule
  -- no field speaks of the connection
  NoConnectionField : ListRule
  -- `te` is `trailers`
  TeOfTrailers : ListRule
  -- pseudo-headers stand before other fields
  PseudoFirst : ListRule
  -- none stands twice
  PseudoOnce : ListRule
  -- each is one that such a list has
  PseudoOfKind : ListRule
  -- a request has a method
  MethodIsThere : ListRule
  -- a request that is no CONNECT has a scheme and a path
  TargetIsThere : ListRule
  -- a CONNECT has no scheme and no path, and has an authority
  TargetOfConnect : ListRule
  -- a reply has a status
  StatusIsThere : ListRule

-- the list breaks the rule
abbrev pub Breaks : ListRule → ListKind → List Header → Type 0
Breaks NameOfField kind headers = Any (λ header. IsBadName header.name) headers
Breaks ValueOfField kind headers = Any (λ header. Any IsNoValueOctet header.value) headers
Breaks NoConnectionField kind headers = Any IsOfConnection headers
Breaks TeOfTrailers kind headers = Any IsOtherTe headers
Breaks PseudoFirst kind headers = SomeBefore IsLate headers
Breaks PseudoOnce kind headers = SomeBefore IsRepeated headers
Breaks PseudoOfKind kind headers = Any (IsForeign kind) headers
Breaks MethodIsThere Request headers = ¬ Has (codes ":method") headers
Breaks MethodIsThere kind headers = ⊥
Breaks TargetIsThere Request headers = ¬ IsConnect headers × (¬ Has (codes ":scheme") headers ⊎ ¬ Has (codes ":path") headers)
Breaks TargetIsThere kind headers = ⊥
Breaks TargetOfConnect Request headers = IsConnect headers × ((Has (codes ":scheme") headers ⊎ Has (codes ":path") headers) ⊎ ¬ Has (codes ":authority") headers)
Breaks TargetOfConnect kind headers = ⊥
Breaks StatusIsThere Reply headers = ¬ Has (codes ":status") headers
Breaks StatusIsThere kind headers = ⊥

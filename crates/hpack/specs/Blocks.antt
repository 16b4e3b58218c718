-- Header blocks (RFC 7541, section 3): representations, one after the other.
use Rattle.std.specs.Prelude.{◌≡◌, ℕ, ◌≤◌, List, [], ◌∷◌, ◌++◌}
use Rattle.hpack.specs.declared.limits.TheConstants.{MAX_HEADER_LIST_SIZE}
use Rattle.hpack.specs.declared.stop.BlockRule.{BlockRule}
use Rattle.hpack.specs.declared.header.Header.{Header}
use Rattle.hpack.specs.Representations.{Listing, IsRepresentation, BreaksRepresentation}
use Rattle.hpack.specs.Tables.{Table, list_size}

-- the octets are the parts, and each part is a representation, which turns the headers and the table that
-- were there before it into those after it
abbrev pub AreRepresentations : List (List ℕ) → Listing → List ℕ → Listing → Type 0
AreRepresentations [] old octets new = (octets ≡ []) × (old ≡ new)
AreRepresentations (part ∷ parts) old octets new =
    (rest : List ℕ) × (next : Listing) × (octets ≡ part ++ rest) × IsRepresentation old part next × AreRepresentations parts next rest new

-- The octets are a header block of the headers, which leaves the table that was there before as the one after.
pub record IsBlock (before : Table) (octets : List ℕ) (headers : List Header) (after : Table) : Type 0 where
  pub parts : List (List ℕ)
  pub are_representations : AreRepresentations parts (record { headers = []; table = before }) octets (record { headers = headers; table = after })

-- The octets break the rule first: what stands before is a header block, of a list of at most
-- 16,384, and the representation with which the rest begins breaks the rule.
pub record BreaksBlock (rule : BlockRule) (before : Table) (octets : List ℕ) : Type 0 where
  pub front : List ℕ
  pub rest : List ℕ
  pub headers : List Header
  pub table : Table
  pub whole : octets ≡ front ++ rest
  pub is_block : IsBlock before front headers table
  pub small : list_size headers ≤ MAX_HEADER_LIST_SIZE
  pub broken : BreaksRepresentation (record { headers = headers; table = table }) rule rest

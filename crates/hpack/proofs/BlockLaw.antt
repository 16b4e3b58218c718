-- Header blocks are read exactly, up to the size of the list.
use Rattle.std.proofs.Common.{◌≡◌, ℕ, zero, suc, ◌<◌, ◌≤◌, List, [], ◌∷◌, ◌++◌, length, inl, inr, Ok, Err, refl, ap, sym, ◌∙◌, subst, arith}
use Rattle.hpack.specs.declared.limits.TheConstants.{MAX_HEADER_LIST_SIZE, WITH_INDEXING_BITS, WITHOUT_INDEXING_BITS}
use Rattle.hpack.specs.declared.stop.BlockRule.{BlockRule}
use Rattle.std.proofs.lemmas.List.{append_assoc, length-append}
use Rattle.hpack.specs.declared.header.Header.{Header}
use Rattle.hpack.specs.declared.representation.Representation.{Representation}
use Rattle.hpack.specs.declared.representation.Representation.TheVariants.{Indexed, WithIndexing, WithoutIndexing, NeverIndexed, SizeUpdate}
use Rattle.hpack.specs.Readers.{BeginsWith}
use Rattle.hpack.specs.Integers.{IsInteger}
use Rattle.hpack.specs.Tables.{Table, list_size}
use Rattle.hpack.specs.Representations.{representation_of, IsLiteral, Listing, IsOf, IsRepresentation, BreaksRepresentation}
use Rattle.hpack.specs.RepresentationReading.{representation_at}
use Rattle.hpack.specs.Blocks.{AreRepresentations, IsBlock, BreaksBlock}
use Rattle.hpack.specs.BlockReading.{at_most, to_end, block_at}
use Rattle.hpack.proofs.ReaderLaws.{bind_ok, bind_err, at_ok, at_err, answered}
use Rattle.hpack.proofs.FieldLaw.{LeavesSmallList, kind_exact}
use Rattle.hpack.proofs.TableLemmas.{list_size-push}

-- a representation has an octet

no_literal : (bits : ℕ) (table : Table) (header : Header) → IsLiteral bits table [] header → ⊥
no_literal bits table header t = none t.front t.rest t.first t.whole t.is_first
  where
    none : (front rest : List ℕ) (index : ℕ) → [] ≡ front ++ rest → IsInteger bits front index → ⊥
    none [] rest index e is = is
    none (octet ∷ octets) rest index e is = cc

no_octets : (kind : Representation) (old new : Listing) → IsOf kind old [] new → ⊥
no_octets Indexed old new is = is.is_header.is_index
no_octets WithIndexing old new is = no_literal WITH_INDEXING_BITS old.table is.header is.is_header
no_octets WithoutIndexing old new is = no_literal WITHOUT_INDEXING_BITS old.table is.header is.is_header
no_octets NeverIndexed old new is = no_literal WITHOUT_INDEXING_BITS old.table is.header is.is_header
no_octets SizeUpdate old new is = is.is_limit

-- the first octet of the part has the kind
kind_of_part : (old new : Listing) (octet : ℕ) (octets front rest : List ℕ) → octet ∷ octets ≡ front ++ rest → IsOf (representation_of octet) old front new → IsRepresentation old front new
kind_of_part old new octet octets [] rest whole is = absurd (no_octets (representation_of octet) old new is)
kind_of_part old new octet octets (first ∷ more) rest whole is =
    let same : octet ≡ first = cc in
    subst (λ o. IsOf (representation_of o) old (first ∷ more) new) same is

rep_sound : (old : Listing) (octets : List ℕ) (found : Listing × List ℕ) → representation_at old octets ≡ Ok found → BeginsWith (LeavesSmallList (IsRepresentation old)) octets found
unfolding representation_at
rep_sound old [] found e = absurd (cc)
rep_sound old (octet ∷ octets) found e =
    let b = (kind_exact (representation_of octet) old).sound (octet ∷ octets) found e in
    record { front = b.front; whole = b.whole; is_value = record { is = kind_of_part old found.0 octet octets b.front found.1 b.whole b.is_value.is; small = b.is_value.small } }

rep_whole : (old : Listing) (front rest : List ℕ) (new : Listing) → IsRepresentation old front new → list_size new.headers ≤ MAX_HEADER_LIST_SIZE → representation_at old (front ++ rest) ≡ Ok (new, rest)
unfolding representation_at
rep_whole old [] rest new is small = absurd is
rep_whole old (octet ∷ octets) rest new is small = (kind_exact (representation_of octet) old).whole (octet ∷ octets) rest new (record { is = is; small = small })

rep_fails : (old : Listing) (octet : ℕ) (octets : List ℕ) (rule : BlockRule) → representation_at old (octet ∷ octets) ≡ Err rule → BreaksRepresentation old rule (octet ∷ octets)
unfolding representation_at
rep_fails old octet octets rule e = (kind_exact (representation_of octet) old).refuses (octet ∷ octets) rule e

rep_broke : (old : Listing) (octets : List ℕ) (rule : BlockRule) → BreaksRepresentation old rule octets → representation_at old octets ≡ Err rule
unfolding representation_at
rep_broke old [] rule is = absurd is
rep_broke old (octet ∷ octets) rule is = (kind_exact (representation_of octet) old).broken (octet ∷ octets) rule is

-- each representation takes an octet at least
some_octet : (old new : Listing) (part : List ℕ) → IsRepresentation old part new → 0 < length part
some_octet old new [] is = absurd is
some_octet old new (octet ∷ octets) is = omega arith

pub shorter : (old : Listing) (octets : List ℕ) (found : Listing × List ℕ) → representation_at old octets ≡ Ok found → length found.1 < length octets
shorter old octets found e =
    let b = rep_sound old octets found e in
    let some = some_octet old found.0 b.front b.is_value.is in
    let sum = length-append b.front found.1 in
    let whole = ap length b.whole in
    omega arith

-- more turns than octets change nothing
same_turns : (m n : ℕ) (old : Listing) (octets : List ℕ) → length octets ≤ m → length octets ≤ n → at_most m old octets ≡ at_most n old octets
unfolding at_most
same_turns m n old [] a b = refl
same_turns zero n old (octet ∷ octets) a b = absurd (omega arith)
same_turns (suc m) zero old (octet ∷ octets) a b = absurd (omega arith)
same_turns (suc m) (suc n) old (octet ∷ octets) a b =
    elim (answered (representation_at old (octet ∷ octets))) [
      | inl read ↦
          let less = shorter old (octet ∷ octets) read.0 read.1 in
          at_ok _ (λ x. at_most m x.0 x.1) read.0 read.1
          ∙ same_turns m n read.0.0 read.0.1 (omega arith) (omega arith)
          ∙ sym (at_ok _ (λ x. at_most n x.0 x.1) read.0 read.1)
      | inr failed ↦ at_err _ (λ x. at_most m x.0 x.1) failed.0 failed.1 ∙ sym (at_err _ (λ x. at_most n x.0 x.1) failed.0 failed.1)
    ]

-- one step of the reading
pub to_end_none : (old : Listing) (octets : List ℕ) → length octets ≤ 0 → to_end old octets ≡ Ok old
unfolding to_end at_most
to_end_none old [] none = refl
to_end_none old (octet ∷ octets) none = absurd (omega arith)

pub to_end_more : (old : Listing) (octets : List ℕ) (found : Listing × List ℕ) → representation_at old octets ≡ Ok found → to_end old octets ≡ to_end found.0 found.1
unfolding to_end at_most
to_end_more old [] found e = absurd (let less = shorter old [] found e in omega arith)
to_end_more old (octet ∷ octets) found e =
    let less = shorter old (octet ∷ octets) found e in
    at_ok _ (λ x. at_most (length octets) x.0 x.1) found e
    ∙ same_turns (length octets) (length found.1) found.0 found.1 (omega arith) (omega arith)

pub to_end_stop : (old : Listing) (octets : List ℕ) (rule : BlockRule) → 0 < length octets → representation_at old octets ≡ Err rule → to_end old octets ≡ Err rule
unfolding to_end at_most
to_end_stop old [] rule some e = absurd (omega arith)
to_end_stop old (octet ∷ octets) rule some e = at_err _ (λ x. at_most (length octets) x.0 x.1) rule e

-- the list never shrinks
kind_grows : (kind : Representation) (old : Listing) (octets : List ℕ) (new : Listing) → IsOf kind old octets new → list_size old.headers ≤ list_size new.headers
kind_grows Indexed old octets new is = let size = list_size-push old.headers is.header in let e = ap (λ (s : Listing). list_size s.headers) is.joins in omega arith
kind_grows WithIndexing old octets new is = let size = list_size-push old.headers is.header in let e = ap (λ (s : Listing). list_size s.headers) is.joins in omega arith
kind_grows WithoutIndexing old octets new is = let size = list_size-push old.headers is.header in let e = ap (λ (s : Listing). list_size s.headers) is.joins in omega arith
kind_grows NeverIndexed old octets new is = let size = list_size-push old.headers is.header in let e = ap (λ (s : Listing). list_size s.headers) is.joins in omega arith
kind_grows SizeUpdate old octets new is = let none : list_size old.headers ≡ 0 = ap list_size is.at_start in omega arith

grows : (parts : List (List ℕ)) (old : Listing) (octets : List ℕ) (new : Listing) → AreRepresentations parts old octets new → list_size old.headers ≤ list_size new.headers
grows [] old octets new are = let e = ap (λ (s : Listing). list_size s.headers) are.1 in omega arith
grows (part ∷ parts) old octets new are =
    let one = one_grows old part are.1 are.3 in
    let more = grows parts are.1 are.0 new are.4 in
    omega arith
  where
    one_grows : (old : Listing) (part : List ℕ) (next : Listing) → IsRepresentation old part next → list_size old.headers ≤ list_size next.headers
    one_grows old [] next is = absurd is
    one_grows old (octet ∷ octets) next is = kind_grows (representation_of octet) old (octet ∷ octets) next is

-- what was read are representations
record Found (old : Listing) (octets : List ℕ) (new : Listing) : Type 0 where
  parts : List (List ℕ)
  are : AreRepresentations parts old octets new
  small : list_size new.headers ≤ MAX_HEADER_LIST_SIZE

found_representations : (turns : ℕ) (old : Listing) (octets : List ℕ) (new : Listing) → length octets ≤ turns → list_size old.headers ≤ MAX_HEADER_LIST_SIZE → at_most turns old octets ≡ Ok new → Found old octets new
unfolding at_most
found_representations turns old [] new fits small e =
    let same : old ≡ new = cc in
    record { parts = []; are = (refl, same); small = subst (λ (s : Listing). list_size s.headers ≤ MAX_HEADER_LIST_SIZE) same small }
found_representations zero old (octet ∷ octets) new fits small e = absurd (omega arith)
found_representations (suc turns) old (octet ∷ octets) new fits small e =
    let b = bind_ok (representation_at old (octet ∷ octets)) (λ x. at_most turns x.0 x.1) new e in
    let less = shorter old (octet ∷ octets) b.0 b.1 in
    let one = rep_sound old (octet ∷ octets) b.0 b.1 in
    let more = found_representations turns b.0.0 b.0.1 new (omega arith) one.is_value.small b.2 in
    record { parts = one.front ∷ more.parts; are = (b.0.1, b.0.0, one.whole, one.is_value.is, more.are); small = more.small }

-- representations are read
representations_read : (parts : List (List ℕ)) (old : Listing) (octets : List ℕ) (new : Listing) → AreRepresentations parts old octets new → list_size new.headers ≤ MAX_HEADER_LIST_SIZE → to_end old octets ≡ Ok new
representations_read [] old octets new are small =
    to_end_none old octets (let e = ap length are.0 in omega arith) ∙ ap (λ s. Ok s) are.1
representations_read (part ∷ parts) old octets new are small =
    let more = grows parts are.1 are.0 new are.4 in
    ap (to_end old) are.2
    ∙ to_end_more old (part ++ are.0) (are.1, are.0) (rep_whole old part are.0 are.1 are.3 (omega arith))
    ∙ representations_read parts are.1 are.0 new are.4 small

-- where the reading stops a rule is broken
record Refusal (rule : BlockRule) (old : Listing) (octets : List ℕ) : Type 0 where
  front : List ℕ
  rest : List ℕ
  parts : List (List ℕ)
  now : Listing
  whole : octets ≡ front ++ rest
  are : AreRepresentations parts old front now
  small : list_size now.headers ≤ MAX_HEADER_LIST_SIZE
  broken : BreaksRepresentation now rule rest

refusal : (turns : ℕ) (old : Listing) (octets : List ℕ) (rule : BlockRule) → length octets ≤ turns → list_size old.headers ≤ MAX_HEADER_LIST_SIZE → at_most turns old octets ≡ Err rule → Refusal rule old octets
unfolding at_most
refusal turns old [] rule fits small e = absurd (cc)
refusal zero old (octet ∷ octets) rule fits small e = absurd (omega arith)
refusal (suc turns) old (octet ∷ octets) rule fits small e =
    elim (bind_err (representation_at old (octet ∷ octets)) (λ x. at_most turns x.0 x.1) rule e) [
      | inl h ↦ record { front = []; rest = octet ∷ octets; parts = []; now = old; whole = refl; are = (refl, refl); small = small; broken = rep_fails old octet octets rule h }
      | inr h ↦
          let less = shorter old (octet ∷ octets) h.0 h.1 in
          let one = rep_sound old (octet ∷ octets) h.0 h.1 in
          let more = refusal turns h.0.0 h.0.1 rule (omega arith) one.is_value.small h.2 in
          record {
            front = one.front ++ more.front;
            rest = more.rest;
            parts = one.front ∷ more.parts;
            now = more.now;
            whole = one.whole ∙ ap (λ r. one.front ++ r) more.whole ∙ sym (append_assoc one.front more.front more.rest);
            are = (more.front, h.0.0, refl, one.is_value.is, more.are);
            small = more.small;
            broken = more.broken;
          }
    ]

-- where a rule is broken after representations the reading stops
stops : (parts : List (List ℕ)) (old : Listing) (front rest : List ℕ) (now : Listing) (rule : BlockRule) → AreRepresentations parts old front now → list_size now.headers ≤ MAX_HEADER_LIST_SIZE → BreaksRepresentation now rule rest → to_end old (front ++ rest) ≡ Err rule
stops [] old front rest now rule are within broken =
    ap (λ f. to_end old (f ++ rest)) are.0 ∙ ap (λ s. to_end s rest) are.1 ∙ to_end_stop now rest rule (some now rest rule broken) (rep_broke now rest rule broken)
  where
    some : (now : Listing) (rest : List ℕ) (rule : BlockRule) → BreaksRepresentation now rule rest → 0 < length rest
    some now [] rule broken = absurd broken
    some now (octet ∷ octets) rule broken = omega arith
stops (part ∷ parts) old front rest now rule are within broken =
    let more = grows parts are.1 are.0 now are.4 in
    ap (λ f. to_end old (f ++ rest)) are.2
    ∙ ap (to_end old) (append_assoc part are.0 rest)
    ∙ to_end_more old (part ++ (are.0 ++ rest)) (are.1, are.0 ++ rest) (rep_whole old part (are.0 ++ rest) are.1 are.3 (omega arith))
    ∙ stops parts are.1 are.0 rest now rule are.4 within broken

-- blocks

pub block_found : (before : Table) (octets : List ℕ) (headers : List Header) (after : Table) → block_at before octets ≡ Ok (record { headers = headers; table = after }) → IsBlock before octets headers after × (list_size headers ≤ MAX_HEADER_LIST_SIZE)
unfolding block_at to_end
block_found before octets headers after e =
    let f = found_representations (length octets) (record { headers = []; table = before }) octets (record { headers = headers; table = after }) (omega arith) (omega arith) e in
    (record { parts = f.parts; are_representations = f.are }, f.small)

pub block_read : (before : Table) (octets : List ℕ) (headers : List Header) (after : Table) → IsBlock before octets headers after → list_size headers ≤ MAX_HEADER_LIST_SIZE → block_at before octets ≡ Ok (record { headers = headers; table = after })
unfolding block_at
block_read before octets headers after is small = representations_read is.parts (record { headers = []; table = before }) octets (record { headers = headers; table = after }) is.are_representations small

pub block_broken : (before : Table) (octets : List ℕ) (rule : BlockRule) → block_at before octets ≡ Err rule → BreaksBlock rule before octets
unfolding block_at to_end
block_broken before octets rule e =
    let s = refusal (length octets) (record { headers = []; table = before }) octets rule (omega arith) (omega arith) e in
    record {
      front = s.front;
      rest = s.rest;
      headers = s.now.headers;
      table = s.now.table;
      whole = s.whole;
      is_block = record { parts = s.parts; are_representations = s.are };
      small = s.small;
      broken = s.broken;
    }

pub block_stops : (before : Table) (octets : List ℕ) (rule : BlockRule) → BreaksBlock rule before octets → block_at before octets ≡ Err rule
unfolding block_at
block_stops before octets rule b =
    ap (to_end (record { headers = []; table = before })) b.whole
    ∙ stops b.is_block.parts (record { headers = []; table = before }) b.front b.rest (record { headers = b.headers; table = b.table }) rule b.is_block.are_representations b.small b.broken

-- Representations are read exactly, up to the size of the list.
use Rattle.std.proofs.Common.{◌≡◌, ℕ, ◌+◌, ◌<◌, ◌≤◌, true, false, List, [], ◌∷◌, ◌++◌, ◌⊎◌, inl, inr, Result, Ok, Err, refl, ap, sym, ◌∙◌, subst, arith}
use Rattle.hpack.specs.declared.limits.TheConstants.{MAX_HEADER_LIST_SIZE, MAX_TABLE_SIZE, WITH_INDEXING_BITS, WITHOUT_INDEXING_BITS, SIZE_UPDATE_BITS}
use Rattle.hpack.specs.declared.stop.BlockRule.{BlockRule}
use Rattle.hpack.specs.declared.stop.BlockRule.TheVariants.{WrongSizeUpdate, ListTooLarge}
use Rattle.std.specs.Prelude.{nat_le, if◌then◌else◌}
use Rattle.std.proofs.lemmas.Bool.{leb-true, leb-false, le-leb, lt-leb, cond-true, cond-false}
use Rattle.hpack.specs.declared.header.Header.{Header}
use Rattle.hpack.specs.declared.representation.Representation.{Representation}
use Rattle.hpack.specs.declared.representation.Representation.TheVariants.{Indexed, WithIndexing, WithoutIndexing, NeverIndexed, SizeUpdate}
use Rattle.esi_base.specs.Answers.{◌>>=◌}
use Rattle.hpack.specs.Readers.{BeginsWith, IsExact}
use Rattle.hpack.specs.IntegerReading.{integer_at}
use Rattle.hpack.specs.Tables.{Table, size_of, list_size, table_with, table_limited}
use Rattle.hpack.specs.Representations.{IsIndexed, IsLiteral, Listing, IsField, IsSizeUpdate, IsOf, BreaksIndexed, BreaksLiteral, BreaksSize, BreaksUpdate, BreaksOf}
use Rattle.hpack.specs.RepresentationReading.{indexed_at, literal_at, list_with, listing_with, is_empty, update_at, read_as}
use Rattle.hpack.proofs.ReaderLaws.{bind_ok, bind_err, at_ok, at_err, chosen}
use Rattle.hpack.proofs.IntegerLaw.{integer_exact}
use Rattle.hpack.proofs.RepresentationLaw.{indexed_exact, literal_exact}
use Rattle.hpack.proofs.TableLemmas.{list_size-push}

-- a part that leaves a list of at most 16,384
pub record LeavesSmallList (Is : List ℕ → Listing → Type 0) (octets : List ℕ) (new : Listing) : Type 0 where
  pub is : Is octets new
  pub small : list_size new.headers ≤ MAX_HEADER_LIST_SIZE

list_with_ok : (headers : List Header) (header : Header) (now : List Header) → list_with headers header ≡ Ok now → (headers ++ header ∷ [] ≡ now) × (list_size now ≤ MAX_HEADER_LIST_SIZE)
list_with_ok headers header now e = elim (chosen (nat_le (list_size headers + size_of header) MAX_HEADER_LIST_SIZE) _ _ _ e) [
  | inl fits ↦
      let same : headers ++ header ∷ [] ≡ now = let f = fits.1 in cc in
      let small = leb-true _ _ fits.0 in
      let size = list_size-push headers header in
      let size_now = ap list_size same in
      (same, omega arith)
  | inr large ↦ absurd (let f = large.1 in cc)
]

list_with_err : (headers : List Header) (header : Header) (rule : BlockRule) → list_with headers header ≡ Err rule → (rule ≡ ListTooLarge) × (MAX_HEADER_LIST_SIZE < list_size (headers ++ header ∷ []))
list_with_err headers header rule e = elim (chosen (nat_le (list_size headers + size_of header) MAX_HEADER_LIST_SIZE) _ _ _ e) [
  | inl fits ↦ absurd (let f = fits.1 in cc)
  | inr large ↦
      let above = leb-false _ _ large.0 in
      let size = list_size-push headers header in
      (let f = large.1 in cc, omega arith)
]

list_with_fits : (headers : List Header) (header : Header) → list_size (headers ++ header ∷ []) ≤ MAX_HEADER_LIST_SIZE → list_with headers header ≡ Ok (headers ++ header ∷ [])
list_with_fits headers header small =
    let size = list_size-push headers header in
    cond-true _ _ _ (le-leb (list_size headers + size_of header) MAX_HEADER_LIST_SIZE (omega arith))

list_with_large : (headers : List Header) (header : Header) → MAX_HEADER_LIST_SIZE < list_size (headers ++ header ∷ []) → list_with headers header ≡ Err ListTooLarge
list_with_large headers header large =
    let size = list_size-push headers header in
    cond-false _ _ _ (lt-leb (list_size headers + size_of header) MAX_HEADER_LIST_SIZE (omega arith))

-- a field of any form joins the headers
field_exact : (read : List ℕ → Result (Header × List ℕ) BlockRule) (IsHeader : List ℕ → Header → Type 0) (BreaksHeader : BlockRule → List ℕ → Type 0) (after : Header → Table) (old : Listing)
    → IsExact read IsHeader BreaksHeader
    → IsExact (λ octets. listing_with after old.headers (read octets)) (LeavesSmallList (IsField IsHeader after old)) (λ rule octets. BreaksHeader rule octets ⊎ BreaksSize IsHeader old rule octets)
field_exact read IsHeader BreaksHeader after old exact = record { sound = sound; whole = whole; refuses = fails; broken = broke }
  where
    after_field : Header × List ℕ → List Header → Result (Listing × List ℕ) BlockRule
    after_field field now = Ok (record { headers = now; table = after field.0 }, field.1)

    on : Header × List ℕ → Result (Listing × List ℕ) BlockRule
    on field = list_with old.headers field.0 >>= after_field field

    sound : (octets : List ℕ) (found : Listing × List ℕ) → listing_with after old.headers (read octets) ≡ Ok found → BeginsWith (LeavesSmallList (IsField IsHeader after old)) octets found
    sound octets found e =
        let b = bind_ok (read octets) on found e in
        let l = bind_ok (list_with old.headers b.0.0) (after_field b.0) found b.2 in
        let one = exact.sound octets b.0 b.1 in
        let fits = list_with_ok old.headers b.0.0 l.0 l.1 in
        let joins : record { headers = l.0; table = after b.0.0 } ≡ found.0 = let f = l.2 in cc in
        let rest : b.0.1 ≡ found.1 = let f = l.2 in cc in
        record {
          front = one.front;
          whole = one.whole ∙ ap (λ r. one.front ++ r) rest;
          is_value = record {
            is = record { header = b.0.0; is_header = one.is_value; joins = sym joins ∙ ap (λ hs. record { headers = hs; table = after b.0.0 }) (sym fits.0) };
            small = subst (λ (s : Listing). list_size s.headers ≤ MAX_HEADER_LIST_SIZE) joins fits.1;
          };
        }

    whole : (front rest : List ℕ) (new : Listing) → LeavesSmallList (IsField IsHeader after old) front new → listing_with after old.headers (read (front ++ rest)) ≡ Ok (new, rest)
    whole front rest new w =
        let small : list_size (old.headers ++ w.is.header ∷ []) ≤ MAX_HEADER_LIST_SIZE = subst (λ (s : Listing). list_size s.headers ≤ MAX_HEADER_LIST_SIZE) w.is.joins w.small in
        at_ok (read (front ++ rest)) on (w.is.header, rest) (exact.whole front rest w.is.header w.is.is_header)
        ∙ at_ok (list_with old.headers w.is.header) (after_field (w.is.header, rest)) _ (list_with_fits old.headers w.is.header small)
        ∙ ap (λ s. Ok (s, rest)) (sym w.is.joins)

    fails : (octets : List ℕ) (rule : BlockRule) → listing_with after old.headers (read octets) ≡ Err rule → BreaksHeader rule octets ⊎ BreaksSize IsHeader old rule octets
    fails octets rule e = elim (bind_err (read octets) on rule e) [
      | inl h ↦ inl (exact.refuses octets rule h)
      | inr h ↦ elim (bind_err (list_with old.headers h.0.0) (after_field h.0) rule h.2) [
        | inl l ↦
            let one = exact.sound octets h.0 h.1 in
            let large = list_with_err old.headers h.0.0 rule l in
            inr (large.0, record { front = one.front; rest = h.0.1; first = h.0.0; whole = one.whole; is_first = one.is_value; fact = large.1 })
        | inr l ↦ absurd (let f = l.2 in cc)
      ]
    ]

    broke : (octets : List ℕ) (rule : BlockRule) → BreaksHeader rule octets ⊎ BreaksSize IsHeader old rule octets → listing_with after old.headers (read octets) ≡ Err rule
    broke octets rule (inl h) = at_err (read octets) on rule (exact.broken octets rule h)
    broke octets rule (inr h) =
        ap (λ o. listing_with after old.headers (read o)) h.1.whole
        ∙ at_ok (read (h.1.front ++ h.1.rest)) on (h.1.first, h.1.rest) (exact.whole h.1.front h.1.rest h.1.first h.1.is_first)
        ∙ at_err (list_with old.headers h.1.first) (after_field (h.1.first, h.1.rest)) rule (list_with_large old.headers h.1.first h.1.fact ∙ ap (λ other. Err other) (sym h.0))

-- size updates

abbrev update_from : Table → ℕ × List ℕ → Result (Listing × List ℕ) BlockRule
update_from table limit = if nat_le limit.0 MAX_TABLE_SIZE then Ok (record { headers = []; table = table_limited limit.0 table }, limit.1) else Err WrongSizeUpdate

abbrev update_in : Listing → List ℕ → Result (Listing × List ℕ) BlockRule
update_in old octets = if is_empty old.headers then update_at old.table octets else Err WrongSizeUpdate

-- where the list is empty, and where it is not
empty_choice : (headers : List Header) → ((headers ≡ []) × (is_empty headers ≡ true)) ⊎ ((headers ≡ [] → ⊥) × (is_empty headers ≡ false))
empty_choice [] = inl (refl, refl)
empty_choice (header ∷ headers) = inr (λ e. cc, refl)

update_sound : (old : Listing) (octets : List ℕ) (found : Listing × List ℕ) → update_in old octets ≡ Ok found → BeginsWith (LeavesSmallList (IsSizeUpdate old)) octets found
unfolding update_at
update_sound old octets found e = elim (empty_choice old.headers) [
  | inl none ↦
      let read : update_at old.table octets ≡ Ok found = sym (cond-true _ _ _ none.1) ∙ e in
      let b = bind_ok (integer_at SIZE_UPDATE_BITS octets) (update_from old.table) found read in
      let one = (integer_exact SIZE_UPDATE_BITS).sound octets b.0 b.1 in
      elim (chosen (nat_le b.0.0 MAX_TABLE_SIZE) _ _ _ b.2) [
        | inl fits ↦
            let resizes : record { headers = []; table = table_limited b.0.0 old.table } ≡ found.0 = let f = fits.1 in cc in
            let rest : b.0.1 ≡ found.1 = let f = fits.1 in cc in
            record {
              front = one.front;
              whole = one.whole ∙ ap (λ r. one.front ++ r) rest;
              is_value = record {
                is = record { limit = b.0.0; at_start = none.0; is_limit = one.is_value; small = leb-true _ _ fits.0; resizes = sym resizes };
                small = subst (λ (s : Listing). list_size s.headers ≤ MAX_HEADER_LIST_SIZE) resizes (omega arith);
              };
            }
        | inr large ↦ absurd (let f = large.1 in cc)
      ]
  | inr some ↦ absurd (let f = sym (cond-false _ _ _ some.1) ∙ e in cc)
]

update_whole : (old : Listing) (front rest : List ℕ) (new : Listing) → LeavesSmallList (IsSizeUpdate old) front new → update_in old (front ++ rest) ≡ Ok (new, rest)
unfolding update_at
update_whole old front rest new w =
    ap (λ hs. if is_empty hs then update_at old.table (front ++ rest) else Err WrongSizeUpdate) w.is.at_start
    ∙ at_ok (integer_at SIZE_UPDATE_BITS (front ++ rest)) (update_from old.table) (w.is.limit, rest) ((integer_exact SIZE_UPDATE_BITS).whole front rest w.is.limit w.is.is_limit)
    ∙ cond-true _ _ _ (le-leb w.is.limit MAX_TABLE_SIZE w.is.small)
    ∙ ap (λ s. Ok (s, rest)) (sym w.is.resizes)

update_fails : (old : Listing) (octets : List ℕ) (rule : BlockRule) → update_in old octets ≡ Err rule → BreaksUpdate old rule octets
unfolding update_at
update_fails old octets rule e = elim (empty_choice old.headers) [
  | inl none ↦
      let failed : update_at old.table octets ≡ Err rule = sym (cond-true _ _ _ none.1) ∙ e in
      inr (
        none.0,
        elim (bind_err (integer_at SIZE_UPDATE_BITS octets) (update_from old.table) rule failed) [
          | inl h ↦ inl ((integer_exact SIZE_UPDATE_BITS).refuses octets rule h)
          | inr h ↦
              let one = (integer_exact SIZE_UPDATE_BITS).sound octets h.0 h.1 in
              elim (chosen (nat_le h.0.0 MAX_TABLE_SIZE) _ _ _ h.2) [
                | inl fits ↦ absurd (let f = fits.1 in cc)
                | inr large ↦ inr (let f = large.1 in cc, record { front = one.front; rest = h.0.1; first = h.0.0; whole = one.whole; is_first = one.is_value; fact = leb-false _ _ large.0 })
              ]
        ],
      )
  | inr some ↦ inl (let f = sym (cond-false _ _ _ some.1) ∙ e in cc, some.0)
]

update_broke : (old : Listing) (octets : List ℕ) (rule : BlockRule) → BreaksUpdate old rule octets → update_in old octets ≡ Err rule
unfolding update_at
update_broke old octets rule (inl h) = elim (empty_choice old.headers) [
  | inl none ↦ absurd (h.1 none.0)
  | inr some ↦ cond-false _ _ _ some.1 ∙ ap (λ other. Err other) (sym h.0)
]
update_broke old octets rule (inr (none, inl h)) =
    ap (λ hs. if is_empty hs then update_at old.table octets else Err WrongSizeUpdate) none
    ∙ at_err (integer_at SIZE_UPDATE_BITS octets) (update_from old.table) rule ((integer_exact SIZE_UPDATE_BITS).broken octets rule h)
update_broke old octets rule (inr (none, inr h)) =
    ap (λ hs. if is_empty hs then update_at old.table octets else Err WrongSizeUpdate) none
    ∙ ap (λ o. integer_at SIZE_UPDATE_BITS o >>= update_from old.table) h.1.whole
    ∙ at_ok (integer_at SIZE_UPDATE_BITS (h.1.front ++ h.1.rest)) (update_from old.table) (h.1.first, h.1.rest) ((integer_exact SIZE_UPDATE_BITS).whole h.1.front h.1.rest h.1.first h.1.is_first)
    ∙ cond-false _ _ _ (lt-leb h.1.first MAX_TABLE_SIZE h.1.fact)
    ∙ ap (λ other. Err other) (sym h.0)

update_exact : (old : Listing) → IsExact (update_in old) (LeavesSmallList (IsSizeUpdate old)) (BreaksUpdate old)
update_exact old = record { sound = update_sound old; whole = update_whole old; refuses = update_fails old; broken = update_broke old }

-- the five kinds

pub kind_exact : (kind : Representation) (old : Listing) → IsExact (read_as kind old) (LeavesSmallList (IsOf kind old)) (BreaksOf kind old)
unfolding read_as
kind_exact Indexed old = field_exact (indexed_at old.table) (IsIndexed old.table) (BreaksIndexed old.table) (λ header. old.table) old (indexed_exact old.table)
kind_exact WithIndexing old = field_exact (literal_at WITH_INDEXING_BITS old.table) (IsLiteral WITH_INDEXING_BITS old.table) (BreaksLiteral WITH_INDEXING_BITS old.table) (λ header. table_with header old.table) old (literal_exact WITH_INDEXING_BITS old.table)
kind_exact WithoutIndexing old = field_exact (literal_at WITHOUT_INDEXING_BITS old.table) (IsLiteral WITHOUT_INDEXING_BITS old.table) (BreaksLiteral WITHOUT_INDEXING_BITS old.table) (λ header. old.table) old (literal_exact WITHOUT_INDEXING_BITS old.table)
kind_exact NeverIndexed old = field_exact (literal_at WITHOUT_INDEXING_BITS old.table) (IsLiteral WITHOUT_INDEXING_BITS old.table) (BreaksLiteral WITHOUT_INDEXING_BITS old.table) (λ header. old.table) old (literal_exact WITHOUT_INDEXING_BITS old.table)
kind_exact SizeUpdate old = update_exact old

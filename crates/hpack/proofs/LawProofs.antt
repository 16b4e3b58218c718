-- The laws of tables and header blocks: they follow from the reading, which is a function.
use Rattle.std.proofs.Common.{◌≡◌, ℕ, ◌-◌, ◌<◌, ◌≤◌, List, [], ◌∷◌, ◌++◌, length, ◌⊎◌, inl, inr, refl, ap, sym, subst, arith}
use Rattle.std.proofs.lemmas.Bool.{le-leb, lt-leb, cond-true, cond-false, cases_lt}
use Rattle.hpack.specs.declared.header.Header.{Header}
use Rattle.hpack.specs.declared.stop.BlockRule.{BlockRule}
use Rattle.hpack.specs.Tables.{Table, size_of, list_size, fitting}
use Rattle.hpack.specs.Representations.{Listing}
use Rattle.hpack.specs.Blocks.{BreaksBlock}
use Rattle.hpack.specs.BlockReading.{block_at}
use Rattle.hpack.specs.Laws.{IsLongestFront, IsSmallBlock, HasReading, IsRefusal}
use Rattle.hpack.proofs.ReaderLaws.{answered}
use Rattle.hpack.proofs.BlockLaw.{block_found, block_read, block_broken, block_stops}
use Rattle.hpack.proofs.TableLemmas.{list_size-cons}

-- the first entry fits, and the longest prefix of the others stands after it
longer : (room : ℕ) (header : Header) (headers front : List Header) → size_of header ≤ room → IsLongestFront (room - size_of header) headers front → IsLongestFront room (header ∷ headers) (header ∷ front)
longer room header headers front fits is = record {
  rest = is.rest;
  whole = ap (λ hs. header ∷ hs) is.whole;
  fits = let size = list_size-cons header front in let within = is.fits in omega arith;
  longest = longest;
}
  where
    longest : (other more : List Header) → header ∷ headers ≡ other ++ more → list_size other ≤ room → length other ≤ length (header ∷ front)
    longest [] more whole small = omega arith
    longest (first ∷ others) more whole small =
        let same : header ≡ first = cc in
        let rest : headers ≡ others ++ more = cc in
        let size = list_size-cons first others in
        let size_same = ap size_of same in
        let within = is.longest others more rest (omega arith) in
        omega arith

-- the first entry does not fit
none_fits : (room : ℕ) (header : Header) (headers : List Header) → room < size_of header → IsLongestFront room (header ∷ headers) []
none_fits room header headers large = record { rest = header ∷ headers; whole = refl; fits = omega arith; longest = longest }
  where
    longest : (other more : List Header) → header ∷ headers ≡ other ++ more → list_size other ≤ room → length other ≤ 0
    longest [] more whole small = omega arith
    longest (first ∷ others) more whole small =
        let same : header ≡ first = cc in
        let size = list_size-cons first others in
        let size_same = ap size_of same in
        absurd (omega arith)

no_entries : (room : ℕ) → IsLongestFront room [] []
no_entries room = record { rest = []; whole = refl; fits = omega arith; longest = longest }
  where
    longest : (other more : List Header) → [] ≡ other ++ more → list_size other ≤ room → length other ≤ 0
    longest [] more whole small = omega arith
    longest (first ∷ others) more whole small = absurd (cc)

pub fitting_longest : (room : ℕ) (entries : List Header) → IsLongestFront room entries (fitting room entries)
fitting_longest room [] = no_entries room
fitting_longest room (header ∷ headers) = elim (cases_lt room (size_of header)) [
  | inl large ↦ subst (IsLongestFront room (header ∷ headers)) (sym (cond-false _ _ _ (lt-leb (size_of header) room large))) (none_fits room header headers large)
  | inr fits ↦
      subst (IsLongestFront room (header ∷ headers)) (sym (cond-true _ _ _ (le-leb (size_of header) room fits)))
      (longer room header headers (fitting (room - size_of header) headers) fits (fitting_longest (room - size_of header) headers))
]

-- one answer

abbrev listing : Table → List Header → Listing
listing table headers = record { headers = headers; table = table }

pub one_reading : (before : Table) (octets : List ℕ) (headers others : List Header) (after other : Table) → IsSmallBlock before octets headers after → IsSmallBlock before octets others other → (headers ≡ others) × (after ≡ other)
one_reading before octets headers others after other one two =
    let same : listing after headers ≡ listing other others =
    let a = block_read before octets headers after one.is_block one.small in
    let b = block_read before octets others other two.is_block two.small in
    cc
    in
    (ap (λ l. l.headers) same, ap (λ l. l.table) same)

pub one_refusal : (before : Table) (octets : List ℕ) (rule other : BlockRule) → BreaksBlock rule before octets → BreaksBlock other before octets → rule ≡ other
one_refusal before octets rule other one two = let a = block_stops before octets rule one in let b = block_stops before octets other two in cc

pub never_both : (before : Table) (octets : List ℕ) (rule : BlockRule) → HasReading before octets → BreaksBlock rule before octets → ⊥
never_both before octets rule has broken =
    let a = block_read before octets has.headers has.after has.reading.is_block has.reading.small in
    let b = block_stops before octets rule broken in
    cc

pub one_of_both : (before : Table) (octets : List ℕ) → HasReading before octets ⊎ IsRefusal before octets
one_of_both before octets = elim (answered (block_at before octets)) [
  | inl read ↦
      let found = block_found before octets read.0.headers read.0.table read.1 in
      inl (record { headers = read.0.headers; after = read.0.table; reading = record { is_block = found.0; small = found.1 } })
  | inr failed ↦ inr (record { rule = failed.0; broken = block_broken before octets failed.0 failed.1 })
]

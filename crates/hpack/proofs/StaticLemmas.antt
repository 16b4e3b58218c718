-- The pieces of the code's text are the static table.
use Rattle.std.proofs.Common.{◌≡◌, ℕ, zero, suc, ◌+◌, ◌*◌, ◌<◌, ◌≤◌, true, List, [], ◌∷◌, ◌++◌, length, get_or, Some, refl, ap, sym, ◌∙◌, arith}
use Rattle.std.specs.Prelude.{nat_le, slice_get, Option, ◌-◌}
use Rattle.std.proofs.lemmas.Bool.{agree_below_at, leb-true, ne_eqb, cond-false}
use Rattle.hpack.specs.declared.static_table.TheConstants.{ENDS}
use Rattle.hpack.specs.declared.header.Header.{Header}
use Rattle.hpack.specs.StaticTable.{static_table, field, length_static_table}
use Rattle.hpack.specs.Tables.{Table}
use Rattle.hpack.specs.RepresentationReading.{entry_at, entry_of}
use Rattle.hpack.specs.StaticPieces.{piece}

pub in_order : (at : ℕ) → at < 122 → get_or ENDS at 0 ≤ get_or ENDS (at + 1) 0
in_order at h = leb-true _ _ (agree_below_at (λ k. nat_le (get_or ENDS k 0) (get_or ENDS (k + 1) 0)) (λ k. true) 122 at refl h)

pub within : (at : ℕ) → at < 122 → get_or ENDS (at + 1) 0 ≤ 684
within at h = leb-true _ _ (agree_below_at (λ k. nat_le (get_or ENDS (k + 1) 0) 684) (λ k. true) 122 at refl h)

abbrev piece_pair : ℕ → Header
piece_pair at = field (piece (2 * at)) (piece (2 * at + 1))

abbrev pairs_from : ℕ → ℕ → List Header
pairs_from zero at = []
pairs_from (suc count) at = piece_pair at ∷ pairs_from count (at + 1)

pairs : pairs_from 61 0 ≡ static_table
unfolding piece static_table
pairs = refl

pair_at : (count at i : ℕ) → i < count → slice_get (pairs_from count at) i ≡ Some (piece_pair (at + i))
pair_at zero at i h = absurd (omega arith)
pair_at (suc count) at zero h = ap (λ k. Some (piece_pair k)) (omega arith)
pair_at (suc count) at (suc i) h = pair_at count (at + 1) i (omega arith) ∙ ap (λ k. Some (piece_pair k)) (omega arith)

pub static_pair : (at : ℕ) → at < 61 → slice_get static_table at ≡ Some (field (piece (2 * at)) (piece (2 * at + 1)))
static_pair at h = ap (λ t. slice_get t at) (sym pairs) ∙ pair_at 61 0 at h ∙ ap (λ k. Some (piece_pair k)) (omega arith)

suc_add : (m n : ℕ) → suc m + n ≡ suc (m + n)
suc_add m n = omega arith

pub slice_get-append_right : {A : Type 0} (xs ys : List A) (i : ℕ) → slice_get (xs ++ ys) (length xs + i) ≡ slice_get ys i
slice_get-append_right [] ys i = ap (slice_get ys) (omega arith)
slice_get-append_right (x ∷ xs) ys i = ap (slice_get (x ∷ (xs ++ ys))) (suc_add (length xs) i) ∙ slice_get-append_right xs ys i

-- an entry after those of the static table
pub entry_dynamic : (table : Table) (index : ℕ) (found : Option Header) → (index ≡ 0 → ⊥) → 61 ≤ index - 1 → found ≡ slice_get table.entries (index - 1 - 61) → entry_at table index ≡ entry_of found
unfolding entry_at
entry_dynamic table index found some high e =
    let split : index - 1 ≡ length static_table + (index - 1 - 61) = let n = length_static_table in omega arith in
    cond-false _ _ _ (ne_eqb index 0 some)
    ∙ ap entry_of (ap (slice_get (static_table ++ table.entries)) split ∙ slice_get-append_right static_table table.entries (index - 1 - 61) ∙ sym e)

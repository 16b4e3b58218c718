-- A loop that fills sixteen limbs, from the lowest on.
use Rattle.std.proofs.Common.{◌≡◌, ℕ, ◌+◌, ◌<◌, ◌≤◌, List, length, get_or, set, sym, ◌∙◌, ap, arith, ⊎_elim}
use Rattle.std.proofs.lemmas.List.{get_or-set_same, get_or-set_other, length-set}
use Rattle.std.proofs.lemmas.Bool.{cases_eq}
use Rattle.esi_base.specs.Parts.{part}
use Rattle.esi_base.specs.Limbs.{limbs_of, limbs_from_parts}

-- the first limbs of a number stand in their places
pub record AreFirstLimbs (limbs : List ℕ) (n i : ℕ) : Type 0 where
  pub count : length limbs ≡ 16
  pub first : (k : ℕ) → k < i → get_or limbs k 0 ≡ part 64 n k

pub first_limbs_more : (limbs : List ℕ) (n i v : ℕ) → i < 16 → v ≡ part 64 n i → AreFirstLimbs limbs n i → AreFirstLimbs (set limbs i v) n (i + 1)
first_limbs_more limbs n i v l e h = record {
  count = length-set limbs i v ∙ h.count;
  first = λ k m. ⊎_elim
      (λ (s : k ≡ i). ap (λ j. get_or (set limbs i v) j 0) s ∙ get_or-set_same limbs i v 0 (omega (arith, h.count)) ∙ e ∙ ap (λ j. part 64 n j) (sym s))
      (λ (d : k ≡ i → ⊥). get_or-set_other limbs i k v 0 d ∙ h.first k (omega (arith, d)))
      (cases_eq k i);
}

pub first_limbs_all : (limbs : List ℕ) (n i : ℕ) → 16 ≤ i → AreFirstLimbs limbs n i → limbs ≡ limbs_of n
first_limbs_all limbs n i l h = limbs_from_parts limbs n h.count (λ k m. h.first k (omega arith))

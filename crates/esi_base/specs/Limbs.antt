-- A number as sixteen limbs of 64 bits, the least significant limb first.
use Rattle.std.specs.Prelude.{◌≡◌, ℕ, ◌*◌, ◌^◌, ◌<◌, ◌≤◌, List, length}
use Rattle.std.proofs.Common.{sym, ◌∙◌, get_or, arith}
use Rattle.std.proofs.lemmas.List.{ext_get_or}
use Rattle.std.proofs.Math.Pow.{pow_mono}
use Rattle.std.proofs.Math.Nat.{mod-eq_of_lt, lt_of_lt_of_le}
use Rattle.esi_base.specs.Parts.{whole, part, parts, AreSmall, AreSmall-parts, length-parts, whole-parts, get_or-parts}

-- sixteen limbs of 64 bits
pub record IsLimbs (limbs : List ℕ) : Type 0 where
  pub count : length limbs ≡ 16
  pub small : AreSmall 64 limbs

-- the lowest 1,024 bits of a number, as limbs
unfoldable pub limbs_of : ℕ → List ℕ
limbs_of n = parts 64 16 n

pub IsLimbs-limbs_of : (n : ℕ) → IsLimbs (limbs_of n)
unfolding limbs_of
IsLimbs-limbs_of n = record { count = length-parts 64 16 n; small = AreSmall-parts 64 16 n }

whole_again : (w k n width : ℕ) → n < 2 ^ width → width ≤ w * k → whole w (parts w k n) ≡ n
whole_again w k n width h l = whole-parts w k n ∙ mod-eq_of_lt (lt_of_lt_of_le h (pow_mono l))

pub whole-limbs_of : (n width : ℕ) → n < 2 ^ width → width ≤ 1024 → whole 64 (limbs_of n) ≡ n
unfolding limbs_of
whole-limbs_of n width h l = whole_again 64 16 n width h l

same_parts : (w k n : ℕ) (xs : List ℕ) → length xs ≡ k → ((i : ℕ) → i < k → get_or xs i 0 ≡ part w n i) → xs ≡ parts w k n
same_parts w k n xs count same =
    ext_get_or 0 xs (parts w k n) (count ∙ sym (length-parts w k n))
    (λ i h. let l : i < k = omega arith in same i l ∙ sym (get_or-parts w k n i 0 l))

-- limbs that are each the number's are its limbs
pub limbs_from_parts : (xs : List ℕ) (n : ℕ) → length xs ≡ 16 → ((i : ℕ) → i < 16 → get_or xs i 0 ≡ part 64 n i) → xs ≡ limbs_of n
unfolding limbs_of
limbs_from_parts xs n count same = same_parts 64 16 n xs count same

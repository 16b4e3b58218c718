-- The octets of a word one by one, and the last of some octets.
use Rattle.std.proofs.Common.{◌≡◌, ℕ, zero, suc, ◌+◌, ◌*◌, ◌/◌, ◌%◌, ◌^◌, ◌<◌, ◌≤◌, ◌==◌, ◌↔◌, not, IsTrue, List, [], ◌∷◌, ◌++◌, length, drop, take, get_or, set, sym, ap, ◌∙◌, arith, drop-cons}
use Rattle.std.proofs.lemmas.Bool.Decides.{nat_tests}
use Rattle.std.proofs.lemmas.List.{drop_all, take_more_set}
use Rattle.std.proofs.lemmas.Nat.{shr-shr, pow_pos}
use Rattle.std.proofs.Math.Nat.{le-div_iff_mul-le}
use Rattle.esi_base.specs.Parts.{whole, part, parts, AreSmall, whole-drop}

-- the last octet alone, as a number
last_alone : (octets : List ℕ) (last : ℕ) → length octets ≡ last + 1 → whole 8 (drop last octets) ≡ get_or octets last 0
last_alone octets last e =
    ap (whole 8) (drop-cons octets last 0 (omega arith) ∙ ap (λ xs. get_or octets last 0 ∷ xs) (drop_all (suc last) octets (omega arith)))
    ∙ omega arith

-- the bits of the last octet from an index on are those of the number
pub last_shifted : (octets : List ℕ) (last used : ℕ) → AreSmall 8 octets → length octets ≡ last + 1 → get_or octets last 0 / 2 ^ used ≡ whole 8 octets / 2 ^ (8 * last + used)
last_shifted octets last used small e =
    ap (λ n. n / 2 ^ used) (sym (last_alone octets last e) ∙ whole-drop 8 last octets small)
    ∙ shr-shr (whole 8 octets) (8 * last) used

-- a number has a bit at an index or above exactly where it is no less than the power
pub is_above : (n width : ℕ) → IsTrue (not (n / 2 ^ width == 0)) ↔ (2 ^ width ≤ n)
is_above n width = (λ h. from h, λ h. to h)
  where
    one_more : (1 ≤ n / 2 ^ width) ↔ (1 * 2 ^ width ≤ n)
    one_more = le-div_iff_mul-le {k = 2 ^ width} {x = 1} {y = n} (pow_pos width)

    from : IsTrue (not (n / 2 ^ width == 0)) → 2 ^ width ≤ n
    from h = grind (arith, nat_tests, one_more.0)

    to : 2 ^ width ≤ n → IsTrue (not (n / 2 ^ width == 0))
    to h = let g = one_more.1 (omega arith) in grind (arith, nat_tests)

-- one part more
parts_more : (w k n : ℕ) → parts w (k + 1) n ≡ parts w k n ++ part w n k ∷ []
parts_more w zero n = ap (λ m. m % 2 ^ w ∷ []) (let e : n ≡ n / 1 = omega arith in e) ∙ ap (λ j. n / 2 ^ j % 2 ^ w ∷ []) (let e : 0 ≡ w * 0 = omega arith in e)
parts_more w (suc k) n =
    ap (λ j. parts w j n) (let e : suc k + 1 ≡ suc (k + 1) = omega arith in e)
    ∙ ap (λ ps. n % 2 ^ w ∷ ps) (parts_more w k (n / 2 ^ w))
    ∙ ap (λ m. n % 2 ^ w ∷ (parts w k (n / 2 ^ w) ++ m % 2 ^ w ∷ [])) (shr-shr n w (w * k) ∙ ap (λ j. n / 2 ^ j) (let e : w + w * k ≡ w * suc k = omega arith in e))

-- one octet more
pub octets_more : (out : List ℕ) (at n octet : ℕ) → at < length out → take at out ≡ parts 8 at n → octet ≡ part 8 n at → take (at + 1) (set out at octet) ≡ parts 8 (at + 1) n
octets_more out at n octet l e h = take_more_set out at octet l ∙ ap (λ xs. xs ++ octet ∷ []) e ∙ ap (λ x. parts 8 at n ++ x ∷ []) h ∙ sym (parts_more 8 at n)

-- The octets of a number as its limbs.
use Rattle.std.proofs.Common.{◌≡◌, ℕ, ◌+◌, ◌-◌, ◌*◌, ◌/◌, ◌%◌, ◌^◌, List, length, take, drop, min, ◌∙◌, ap, arith, length-drop}
use Rattle.std.proofs.lemmas.List.{take_min, drop_min}
use Rattle.esi_base.specs.Parts.{whole, part, AreSmall, AreSmall-drop, whole-take, whole-drop}

eight_octets : (xs : List ℕ) (i : ℕ) → AreSmall 8 xs → whole 8 (take 8 (drop (8 * i) xs)) ≡ part 64 (whole 8 xs) i
eight_octets xs i h =
    whole-take 8 8 (drop (8 * i) xs) (AreSmall-drop 8 (8 * i) xs h)
    ∙ ap (λ n. n % 2 ^ 64) (whole-drop 8 (8 * i) xs h ∙ ap (λ j. whole 8 xs / 2 ^ j) (let e : 8 * (8 * i) ≡ 64 * i = omega arith in e))

-- the octets from the limb's first one on, at most eight of those that there are
pub octets_of_limb : (xs : List ℕ) (i from end : ℕ) → AreSmall 8 xs → from ≡ min (8 * i) (length xs) → end ≡ min (from + 8) (length xs)
    → whole 8 (take (end - from) (drop from xs)) ≡ part 64 (whole 8 xs) i
octets_of_limb xs i from end h e g =
    let rest : drop from xs ≡ drop (8 * i) xs = ap (λ k. drop k xs) e ∙ drop_min (8 * i) xs in
    let count : end - from ≡ min 8 (length (drop (8 * i) xs)) = omega (arith, length-drop (8 * i) xs) in
    ap (λ ys. whole 8 (take (end - from) ys)) rest
    ∙ ap (λ k. whole 8 (take k (drop (8 * i) xs))) count
    ∙ ap (λ ys. whole 8 ys) (take_min 8 (drop (8 * i) xs))
    ∙ eight_octets xs i h

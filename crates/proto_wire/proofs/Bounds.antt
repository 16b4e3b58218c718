-- How great a number of octets or groups can be.
use Rattle.std.proofs.Common.{◌≡◌, ℕ, ◌+◌, ◌-◌, ◌*◌, ◌%◌, ◌^◌, ◌<◌, ◌≤◌, List, ◌∷◌, length, drop, get_or, arith, refl, sym, subst, ap, ◌∙◌, le_refl}
use Rattle.std.proofs.lemmas.Nat.{pow-add, pow_pos}
use Rattle.std.proofs.lemmas.List.{drop_more, drop_all}
use Rattle.std.proofs.Math.Nat.{lt_of_lt_of_le}
use Rattle.std.proofs.Math.Pow.{pow_mono}
use Rattle.esi_base.specs.Parts.{whole}
use Rattle.proto_wire.specs.Varint.{number_of_groups}

-- a number below a power is below a greater one
pub below_pow : (n k m : ℕ) → n < 2 ^ k → k ≤ m → n < 2 ^ m
below_pow n k m h le = lt_of_lt_of_le h (pow_mono le)

-- one octet more
pub octet_more : (octet n k j : ℕ) → octet < 256 → n < 2 ^ (8 * k) → j ≡ k + 1 → octet + 256 * n < 2 ^ (8 * j)
octet_more octet n k j small h e =
    let power : 2 ^ (8 * j) ≡ 2 ^ (8 * k) * 2 ^ 8 = ap (λ m. 2 ^ m) (let f : 8 * j ≡ 8 * k + 8 = omega arith in f) ∙ pow-add 2 (8 * k) 8 in
    let room : octet + 256 * n < 2 ^ (8 * k) * 256 = omega arith in
    subst (λ m. octet + 256 * n < m) (sym power) room

-- one group more
pub group_more : (octet n k j : ℕ) → n < 2 ^ (7 * k) → j ≡ k + 1 → octet % 128 + 128 * n < 2 ^ (7 * j)
group_more octet n k j h e =
    let power : 2 ^ (7 * j) ≡ 2 ^ (7 * k) * 2 ^ 7 = ap (λ m. 2 ^ m) (let f : 7 * j ≡ 7 * k + 7 = omega arith in f) ∙ pow-add 2 (7 * k) 7 in
    let room : octet % 128 + 128 * n < 2 ^ (7 * k) * 128 = omega arith in
    subst (λ m. octet % 128 + 128 * n < m) (sym power) room

-- The loops that read a number from its last octet on: the octet before the offset is read.

drop_before : (xs : List ℕ) (at : ℕ) → 0 < at → at ≤ length xs → drop (at - 1) xs ≡ get_or xs (at - 1) 0 ∷ drop at xs
drop_before xs at some within =
    let next : at - 1 + 1 ≡ at = omega arith in
    drop_more xs (at - 1) 0 (omega arith) ∙ ap (λ n. get_or xs (at - 1) 0 ∷ drop n xs) next

pub groups_before : (xs : List ℕ) (at n group : ℕ) → 0 < at → at ≤ length xs → n ≡ number_of_groups (drop at xs) → group ≡ get_or xs (at - 1) 0 % 128
    → group + 128 * n ≡ number_of_groups (drop (at - 1) xs)
unfolding number_of_groups
groups_before xs at n group some within e g = rw (drop_before xs at some within, e, g) refl

pub groups_below : (xs : List ℕ) (at n group : ℕ) → 0 < at → at ≤ length xs → n < 2 ^ (7 * (length xs - at)) → group ≡ get_or xs (at - 1) 0 % 128
    → group + 128 * n < 2 ^ (7 * (length xs - (at - 1)))
groups_below xs at n group some within h g =
    rw g (group_more (get_or xs (at - 1) 0) n (length xs - at) (length xs - (at - 1)) h (omega arith))

pub octets_before : (xs : List ℕ) (at n octet : ℕ) → 0 < at → at ≤ length xs → n ≡ whole 8 (drop at xs) → octet ≡ get_or xs (at - 1) 0
    → octet + 256 * n ≡ whole 8 (drop (at - 1) xs)
octets_before xs at n octet some within e o = rw (drop_before xs at some within, e, o) refl

pub octets_below : (xs : List ℕ) (at n octet : ℕ) → 0 < at → at ≤ length xs → n < 2 ^ (8 * (length xs - at)) → octet < 256
    → octet + 256 * n < 2 ^ (8 * (length xs - (at - 1)))
octets_below xs at n octet some within h small = octet_more octet n (length xs - at) (length xs - (at - 1)) small h (omega arith)

-- none is read yet
pub no_groups : (xs : List ℕ) → 0 ≡ number_of_groups (drop (length xs) xs)
unfolding number_of_groups
no_groups xs = rw (drop_all (length xs) xs (le_refl (length xs))) refl

pub some_power : (k : ℕ) → 0 < 2 ^ k
some_power k = pow_pos k

-- How many bits the count of a FIFO has: the least number with which it can count so far.
use Rattle.std.specs.Prelude.{◌≡◌, ℕ, zero, suc, ◌-◌, ◌^◌, ◌<◌, ◌≤◌, refl}
use Rattle.std.proofs.Common.{sym, subst, arith, inl, inr}
use Rattle.std.specs.Int.Count.{count_leading_zeros}
use Rattle.std.proofs.lemmas.Bool.{cases_lt}
use Rattle.std.proofs.lemmas.Nat.{leading_top}
use Rattle.std.proofs.Math.Nat.{pow-le-pow_right}
use Rattle.looped_nets.specs.Fifos.{count_bits, IsDepth}

pub record IsLeast (depth bits : ℕ) : Type 0 where
  pub room : depth < 2 ^ bits
  pub least : (other : ℕ) → depth < 2 ^ other → bits ≤ other

lower : (j k n : ℕ) → 2 ^ j ≤ n → n < 2 ^ k → j < k
lower j k n low high =
    elim (cases_lt j k) [
      | inl lt ↦ lt
      | inr ge ↦ absurd (omega (arith, low, high, pow-le-pow_right {n = 2} (omega arith) ge))
    ]

pub count_is_least : (depth : ℕ) → 1 ≤ depth → depth < 2 ^ 32 → IsLeast depth (count_bits depth)
unfolding count_bits
count_is_least depth some few =
    let top = leading_top 32 depth some few in
    let e : suc top.0 ≡ count_bits depth = omega (arith, top.1) in
    subst (λ b. IsLeast depth b) e (record { room = top.3; least = λ other h. lower top.0 other depth top.2 h })

-- what the code counts
pub counted_bits : (depth : ℕ) → 32 - count_leading_zeros 32 depth ≡ count_bits depth
unfolding count_bits
counted_bits depth = refl

-- of the depths that there are it is 2 to 7
pub record IsCountWidth (bits : ℕ) : Type 0 where
  pub low : 2 ≤ bits
  pub high : bits ≤ 7

no_fewer : (bits depth : ℕ) → 2 ≤ depth → depth < 2 ^ bits → 2 ≤ bits
no_fewer zero depth some room = absurd (omega (arith, some, room))
no_fewer (suc zero) depth some room = absurd (omega (arith, some, room))
no_fewer (suc (suc bits)) depth some room = omega arith

pub count_bits_width : (depth : ℕ) → IsDepth depth → IsCountWidth (count_bits depth)
count_bits_width depth good =
    let is = count_is_least depth (omega (arith, good.some)) (omega (arith, good.few)) in
    record { low = no_fewer (count_bits depth) depth good.some is.room; high = is.least 7 (omega (arith, good.few)) }

pub least_counted : (depth : ℕ) → IsDepth depth → IsLeast depth (32 - count_leading_zeros 32 depth)
least_counted depth good = subst (λ b. IsLeast depth b) (sym (counted_bits depth)) (count_is_least depth (omega (arith, good.some)) (omega (arith, good.few)))

pub width_counted : (depth : ℕ) → IsDepth depth → IsCountWidth (32 - count_leading_zeros 32 depth)
width_counted depth good = subst (λ b. IsCountWidth b) (sym (counted_bits depth)) (count_bits_width depth good)

-- Prefixes of fewer than 8 bits fit an octet.
use Rattle.std.proofs.Common.{ℕ, ◌^◌, ◌<◌, ◌≤◌, arith}
use Rattle.std.proofs.lemmas.Nat.{pow_pos}
use Rattle.std.proofs.Math.Pow.{pow_mono}

-- a power that fits 7 bits, and is not 0
pub prefix_low : (bits : ℕ) → bits < 8 → (0 < 2 ^ bits) × (2 ^ bits ≤ 128)
prefix_low bits low = (pow_pos bits, let fits : bits ≤ 7 = omega arith in pow_mono fits)

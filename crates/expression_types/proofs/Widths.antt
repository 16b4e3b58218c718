-- Widths: of types, and of numbers.
use Rattle.std.proofs.Common.{◌≡◌, ℕ, suc, ◌^◌, ◌<◌, ◌≤◌, true, min, arith}
use Rattle.std.specs.Prelude.{nat_lt}
use Rattle.std.proofs.lemmas.Bool.{le-leb}
use Rattle.std.proofs.Math.Pow.{pow_mono}
use Rattle.std.proofs.lemmas.Grind.{common_steps}
use Rattle.design_lex.specs.declared.limits.TheConstants.{TOO_WIDE}
use Rattle.expression_types.specs.Typing.{ranged}

-- a width is in range where the width that stands for it is
pub ranged_capped : (width : ℕ) → ranged (min TOO_WIDE width) ≡ ranged width
ranged_capped width = grind (arith, common_steps)

-- a number of 128 bits fits each width from there on
pub wide_fits : (width value : ℕ) → value < 2 ^ 128 → 128 ≤ width → nat_lt value (2 ^ width) ≡ true
wide_fits width value fits wide = let more : 2 ^ 128 ≤ 2 ^ width = pow_mono wide in le-leb (suc value) (2 ^ width) (omega arith)

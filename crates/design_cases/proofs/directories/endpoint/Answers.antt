-- A number of 8 bits is a good type.
use Rattle.std.proofs.Common.{arith}
use Rattle.channel_types.specs.Goods.{good_type, good_deeper, good_bits}
use Rattle.design_lex.specs.declared.token.Class.TheVariants.{Unsigned}
use Rattle.design_cases.proofs.directories.endpoint.Goals as goal

pub invariant_of-result : goal.invariant_of-result
invariant_of-result c = record { good = ∣ good_type _ (good_deeper 1 16 _ (omega arith) (good_bits Unsigned 8 (omega arith) (omega arith))) ∣₁ }

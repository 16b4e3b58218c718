use Rattle.std.proofs.Common.{length, arith}
use Rattle.netlist.specs.declared.limits.TheConstants.{MAX_NETS}
use Rattle.channel_lower.specs.Lowering.{next_turn, element_at, part_of}
use Rattle.channel_lower.specs.Long.{too_long, next_grows}
use Rattle.channel_lower.proofs.passes.push_all_next.Goals as goal

pub returns-in-Err-clause-too_many : goal.returns-in-Err-clause-too_many
returns-in-Err-clause-too_many c =
    λ e. too_long (λ k. next_turn (part_of c.args.parts.now (element_at c.args.flat.now.elements k)) k) c.args.lowering.now c.loop-number.lowering c.loop-number.number (length c.args.flat.now.elements) MAX_NETS (next_grows c.args.parts.now c.args.flat.now.elements) (let lt = c.loop-number-test.true in let end = c.len-number-end.ensures in omega (arith, lt, end)) c.loop-number.invariant.is (c.in-Err.ensures.too_many e)

use Rattle.std.proofs.Common.{◌-◌, ◌<◌, length, ap, subst, arith}
use Rattle.netlist.specs.declared.limits.TheConstants.{MAX_NETS}
use Rattle.channel_lower.specs.Lowering.{backward_turn, element_at, part_of, from_end}
use Rattle.channel_lower.specs.Long.{size, too_long, backward_grows}
use Rattle.channel_lower.proofs.passes.push_all_backward.Goals as goal

pub returns-in-Err-clause-too_many : goal.returns-in-Err-clause-too_many
returns-in-Err-clause-too_many c =
    λ e. too_long (λ k. backward_turn (part_of c.args.parts.now (element_at c.args.flat.now.elements (from_end c.args.flat.now.elements k))) (element_at c.args.flat.now.elements (from_end c.args.flat.now.elements k)) (from_end c.args.flat.now.elements k)) c.args.lowering.now c.loop-done.lowering c.loop-done.done (length c.args.flat.now.elements) MAX_NETS (backward_grows c.args.parts.now c.args.flat.now.elements) (let lt = c.loop-done-test.true in let end = c.len-count.ensures in omega (arith, lt, end)) c.loop-done.invariant.is
    (subst (λ m. MAX_NETS < size (backward_turn (part_of c.args.parts.now (element_at c.args.flat.now.elements m)) (element_at c.args.flat.now.elements m) m c.loop-done.lowering)) (ap (λ n. n - 1 - c.loop-done.done) c.len-count.ensures) (c.in-Err.ensures.too_many e))

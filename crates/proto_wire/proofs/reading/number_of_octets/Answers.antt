-- Eight octets are below 2 ^ 64.
use Rattle.std.proofs.Common.{◌<◌, ◌+◌, ◌*◌, ◌-◌, ◌^◌, length, arith}
use Rattle.proto_wire.proofs.Bounds.{below_pow, octets_before, octets_below}
use Rattle.proto_wire.proofs.reading.number_of_octets.Goals as goal

below_here : (c : goal.After-from) → c.from.result + 256 * c.loop-at.number < 2 ^ (8 * (length c.args.octets.now - (c.loop-at.at - 1)))
below_here c =
    let small = c.type_inv.octets (c.loop-at.at - 1) in
    let read = c.from.ensures in
    octets_below c.args.octets.now c.loop-at.at c.loop-at.number c.from.result c.loop-at-test.true c.loop-at.auto.at c.loop-at.invariant.1 (omega arith)

below : (c : goal.After-from) → c.from.result + 256 * c.loop-at.number < 2 ^ 64
below c = below_pow (c.from.result + 256 * c.loop-at.number) (8 * (length c.args.octets.now - (c.loop-at.at - 1))) 64 (below_here c) (omega arith)

pub overflow_mul-number : goal.overflow_mul-number
overflow_mul-number c = let h = below c in omega arith

pub overflow_add-number : goal.overflow_add-number
overflow_add-number c = let h = below c in omega arith

pub loop-at-preserved : goal.loop-at-preserved
loop-at-preserved c = (
  octets_before c.args.octets.now c.loop-at.at c.loop-at.number c.from.result c.loop-at-test.true c.loop-at.auto.at c.loop-at.invariant.0 c.from.ensures,
  below_here c,
)

pub returns-clause-below : goal.returns-clause-below
returns-clause-below c = below_pow c.loop-at.number (8 * (length c.args.octets.now - c.loop-at.at)) (8 * length c.args.octets.now) c.loop-at.invariant.1 (omega arith)

-- Ten groups are below 2 ^ 70.
use Rattle.std.proofs.Common.{◌<◌, ◌+◌, ◌*◌, ◌-◌, ◌^◌, length, arith}
use Rattle.proto_wire.proofs.Bounds.{below_pow, groups_before, groups_below, no_groups, some_power}
use Rattle.proto_wire.proofs.varint.number_of_groups.Goals as goal

pub loop-at-init : goal.loop-at-init
loop-at-init c = (no_groups c.args.octets.now, some_power (7 * (length c.args.octets.now - length c.args.octets.now)))

below : (c : goal.After-from) → c.from.result + 128 * c.loop-at.number < 2 ^ 128
below c = below_pow _ (7 * (length c.args.octets.now - (c.loop-at.at - 1))) 128 (groups_below c.args.octets.now c.loop-at.at c.loop-at.number c.from.result c.loop-at-test.true c.loop-at.auto.at c.loop-at.invariant.1 c.from.ensures) (omega arith)

pub overflow_mul-number : goal.overflow_mul-number
overflow_mul-number c = let h = below c in omega arith

pub overflow_add-number : goal.overflow_add-number
overflow_add-number c = let h = below c in omega arith

pub loop-at-preserved : goal.loop-at-preserved
loop-at-preserved c = (
  groups_before c.args.octets.now c.loop-at.at c.loop-at.number c.from.result c.loop-at-test.true c.loop-at.auto.at c.loop-at.invariant.0 c.from.ensures,
  groups_below c.args.octets.now c.loop-at.at c.loop-at.number c.from.result c.loop-at-test.true c.loop-at.auto.at c.loop-at.invariant.1 c.from.ensures,
)

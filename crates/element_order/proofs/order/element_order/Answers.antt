use Rattle.std.proofs.Common.{◌≡◌, ◌≤◌, ◌+◌, length, ◌∙◌, ap, arith}
use Rattle.element_order.proofs.Placings.{walk_room}
use Rattle.element_order.proofs.order.element_order.Goals as goal

pub loop-worklist-smaller : goal.loop-worklist-smaller
loop-worklist-smaller c =
    let after = c.place_next.new.self in
    let same = c.in_ok-place_next.ensures.needs in
    let walk = c.in_ok-place_next.ensures.walk in
    let room : length after.placed ≤ length after.needs.now = walk_room after.needs.now after.feeds.items after.placed after.ready.keys after.waits.items walk in
    let more : length after.placed ≡ length c.loop-worklist.worklist.placed + 1 = c.in_ok-place_next.ensures.more c.if-branch.true in
    let count : length after.needs.now ≡ length c.args.needs.now = ap (λ needs. length needs.now) same ∙ ap length c.loop-worklist.invariant.needs in
    omega arith

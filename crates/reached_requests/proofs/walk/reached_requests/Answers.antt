use Rattle.std.proofs.Common.{arith}
use Rattle.reached_requests.proofs.KnownLaws.{top_done}
use Rattle.reached_requests.proofs.walk.reached_requests.Goals as goal

pub returns : goal.returns
returns c =
    let ended = c.loop-item-test.false in
    top_done c.args.declarations.now c.args.top.now c.in_ok-modules.modules.sources c.as_slice-item-items.result.now c.len-levels.result c.loop-item.item-index _ c.in_ok-modules.ensures c.len-levels.ensures c.as_slice-item-items.ensures (omega (arith, ended)) c.loop-item.invariant

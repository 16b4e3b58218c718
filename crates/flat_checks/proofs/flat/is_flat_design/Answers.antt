use Rattle.flat_checks.specs.Numbered.{good_flat_list}
use Rattle.flat_checks.proofs.flat.is_flat_design.Goals as goal

pub returns : goal.returns
returns c = λ once.
    good_flat_list c.args.flat.now c.args.servers c.len-channels.result c.args.clients.now c.as_slice-elements.result.now c.len-channels.ensures c.as_slice-elements.ensures (c.are_numbered.ensures c.if-not-are_numbered.false) (c.are_below.ensures c.if-not-are_below.false)
    (λ f. c.in_ok-is_once.ensures once f)

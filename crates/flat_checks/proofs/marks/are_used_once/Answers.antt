use Rattle.std.specs.Prelude.{flat_map}
use Rattle.flat_design.specs.FlatLaws.{sources_in}
use Rattle.flat_checks.specs.Marks.{once_if_marked}
use Rattle.flat_checks.proofs.marks.are_used_once.Goals as goal

pub returns : goal.returns
returns c = λ t. λ f.
    once_if_marked c.args.channels _ _ _ _ (flat_map sources_in c.args.elements.now) c.args.clients.now c.in_ok-marks.ensures (c.mark_sources.ensures c.if-not-mark_sources.false) (c.mark_all.ensures c.if-not-mark_all.false) c.as_slice.ensures (c.are_marked-is_once.ensures t) f

use Rattle.netlist.specs.declared.limits.TheConstants.{MAX_NETS}
use Rattle.net_lists.specs.ListLaws.{on_ok}
use Rattle.channel_lower.specs.Lowering.{element_at, part_of}
use Rattle.channel_lower.specs.Done.{forward_may, forward_first, forward_done}
use Rattle.channel_lower.specs.Long.{forward_long}
use Rattle.channel_lower.proofs.passes.push_forward_at.Goals as goal

pub push_forward-requires-clause-valid : goal.push_forward-requires-clause-valid
push_forward-requires-clause-valid c =
    forward_first c.args.parts.now c.args.flat.now c.args.servers c.args.clients.now c.requires.lowerable c.args.lowering.now c.len-kept.ensures.kept c.args.number c.requires.number c.requires.so_far c.part_at-part.result.now c.element_of-element.result.now c.part_at-part.ensures c.element_of-element.ensures

pub push_forward-requires-clause-ready : goal.push_forward-requires-clause-ready
push_forward-requires-clause-ready c =
    forward_may c.args.parts.now c.args.flat.now c.args.servers c.args.clients.now c.requires.lowerable c.args.lowering.now c.len-kept.ensures.kept c.args.number c.requires.number c.requires.so_far c.part_at-part.result.now c.element_of-element.result.now c.part_at-part.ensures c.element_of-element.ensures

pub returns-clause-so_far : goal.returns-clause-so_far
returns-clause-so_far c =
    on_ok c.push_forward.result _ _
    (forward_done c.args.parts.now c.args.flat.now c.args.servers c.args.clients.now c.requires.lowerable c.args.lowering.now c.len-kept.ensures.kept c.args.number c.requires.number c.requires.so_far c.part_at-part.result.now c.element_of-element.result.now c.part_at-part.ensures c.element_of-element.ensures c.push_forward.new.lowering)
    c.push_forward.ensures.pushed

pub returns-clause-too_many : goal.returns-clause-too_many
returns-clause-too_many c =
    λ e.
    forward_long (part_of c.args.parts.now (element_at c.args.flat.now.elements c.args.number)) c.part_at-part.result.now (element_at c.args.flat.now.elements c.args.number) c.element_of-element.result.now c.args.number MAX_NETS c.args.lowering.now c.part_at-part.ensures c.element_of-element.ensures
    (c.push_forward.ensures.too_many e)

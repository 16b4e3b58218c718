use Rattle.netlist.specs.declared.limits.TheConstants.{MAX_NETS}
use Rattle.channel_lower.specs.Lowering.{element_at, part_of}
use Rattle.channel_lower.specs.Done.{backward_may, backward_below, backward_within, backward_done}
use Rattle.channel_lower.specs.Long.{backward_long}
use Rattle.channel_lower.proofs.passes.push_backward_at.Goals as goal

pub push_backward-requires-clause-first : goal.push_backward-requires-clause-first
push_backward-requires-clause-first c =
    backward_below c.args.parts.now c.args.flat.now c.args.servers c.args.clients.now c.requires.lowerable c.args.lowering.now c.len-kept.ensures.kept c.args.number c.args.done c.requires.number c.requires.so_far c.part_at-part.result.now c.element_of-element.result.now c.part_at-part.ensures c.element_of-element.ensures

pub push_backward-requires-clause-ready : goal.push_backward-requires-clause-ready
push_backward-requires-clause-ready c =
    backward_may c.args.parts.now c.args.flat.now c.args.servers c.args.clients.now c.requires.lowerable c.args.lowering.now c.len-kept.ensures.kept c.args.number c.args.done c.requires.number c.requires.so_far c.part_at-part.result.now c.element_of-element.result.now c.part_at-part.ensures c.element_of-element.ensures

pub push_backward-requires-clause-within : goal.push_backward-requires-clause-within
push_backward-requires-clause-within c =
    backward_within c.args.parts.now c.args.flat.now c.args.servers c.args.clients.now c.requires.lowerable c.args.lowering.now c.len-kept.ensures.kept c.args.number c.args.done c.requires.number c.requires.so_far c.part_at-part.result.now c.element_of-element.result.now c.part_at-part.ensures c.element_of-element.ensures

pub returns-in-Ok-clause-so_far : goal.returns-in-Ok-clause-so_far
returns-in-Ok-clause-so_far c =
    backward_done c.args.parts.now c.args.flat.now c.args.servers c.args.clients.now c.requires.lowerable c.args.lowering.now c.len-kept.ensures.kept c.args.number c.args.done c.requires.number c.requires.so_far c.part_at-part.result.now c.element_of-element.result.now c.part_at-part.ensures c.element_of-element.ensures c.push_backward.new.lowering c.len-still_kept.ensures.kept c.in-Ok.ensures.pushed

pub returns-in-Err-clause-too_many : goal.returns-in-Err-clause-too_many
returns-in-Err-clause-too_many c =
    λ e.
    backward_long (part_of c.args.parts.now (element_at c.args.flat.now.elements c.args.number)) c.part_at-part.result.now (element_at c.args.flat.now.elements c.args.number) c.element_of-element.result.now c.args.number MAX_NETS c.args.lowering.now c.part_at-part.ensures c.element_of-element.ensures
    (c.in-Err.ensures.too_many e)

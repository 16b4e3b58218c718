use Rattle.netlist.specs.declared.limits.TheConstants.{MAX_NETS}
use Rattle.net_lists.specs.ListLaws.{on_ok}
use Rattle.channel_lower.specs.Lowering.{element_at, part_of}
use Rattle.channel_lower.specs.Done.{register_done}
use Rattle.channel_lower.specs.Long.{register_long}
use Rattle.channel_lower.proofs.passes.push_registers_at.Goals as goal

pub returns-clause-so_far : goal.returns-clause-so_far
returns-clause-so_far c =
    on_ok c.push_registers.result _ _
    (register_done c.args.parts.now c.args.flat.now c.args.servers c.args.clients.now c.requires.lowerable c.args.lowering.now c.len-kept.ensures.kept c.args.number c.part_at-part.result.now c.push_registers.new.lowering c.requires.so_far c.part_at-part.ensures)
    c.push_registers.ensures.pushed

pub returns-clause-too_many : goal.returns-clause-too_many
returns-clause-too_many c = λ e. register_long (part_of c.args.parts.now (element_at c.args.flat.now.elements c.args.number)) c.part_at-part.result.now MAX_NETS c.args.lowering.now c.part_at-part.ensures (c.push_registers.ensures.too_many e)

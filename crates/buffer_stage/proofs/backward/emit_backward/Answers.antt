use Rattle.std.proofs.Common.{arith}
use Rattle.buffer_stage.specs.PassLemmas.{has_all, ready_below}
use Rattle.buffer_stage.proofs.backward.emit_backward.Goals as goal

pub list_nets-requires : goal.list_nets-requires
list_nets-requires c =
    let below = ready_below c.args.netlist.now c.args.part.now c.args.laid.now c.args.readies.now _ c.requires.ready c.requires.count c.requires.first c.len-backward.ensures.kept.limit in
    omega (arith, below, c.in_ok-first.ensures.first, c.inputs_of.ensures.few)

pub returns-in_default-list_nets-clause-refused : goal.returns-in_default-list_nets-clause-refused
returns-in_default-list_nets-clause-refused c = has_all _ _ _ c.in_ok-first.ensures.pushed

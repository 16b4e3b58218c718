use Rattle.std.proofs.Common.{◌∙◌}
use Rattle.formula_nets.specs.FitLaws.{listed_fits, listed_carries}
use Rattle.formula_nets.proofs.pushing.push_formula.Goals as goal

pub push_nets-requires : goal.push_nets-requires
push_nets-requires c =
    listed_fits c.args.netlist.now c.args.variables.now c.args.formula.now c.len-base.result c.as_slice.result.now c.len-base.ensures.kept c.requires c.len-base.ensures.count
    (c.as_slice.ensures ∙ c.in-Ok.ensures.listed)

pub returns-in-Ok-push_nets-clause-wide : goal.returns-in-Ok-push_nets-clause-wide
returns-in-Ok-push_nets-clause-wide c =
    listed_carries c.args.netlist.now c.push_nets.new.netlist c.args.variables.now c.args.formula.now c.len-base.result c.in-Ok.net c.as_slice.result.now c.len-base.ensures.kept c.requires c.len-base.ensures.count
    (c.as_slice.ensures ∙ c.in-Ok.ensures.listed) c.in-Ok.ensures.number c.in-Ok-push_nets.ensures.pushed

use Rattle.std.specs.Prelude.{option_copied}
use Rattle.design_names.proofs.ReferenceSteps.{instance_step}
use Rattle.design_names.proofs.directions.wrong_in_statement.Goals as goal

pub returns-in-Instance : goal.returns-in-Instance
returns-in-Instance c =
    instance_step c.args.scope.now c.args.first c.wrong_in_bindings.result c.outs_in_bindings.result c.in-Instance.at c.in-Instance.id c.in-Instance.source c.in-Instance.bindings c.as_slice.result.now
    c.as_slice-in-Instance.result.now (option_copied c.find_module.result) c.args.statement.now c.in-Instance.is c.as_slice.ensures c.as_slice-in-Instance.ensures c.wrong_in_bindings.ensures
    c.find_module.ensures c.outs_in_bindings.ensures

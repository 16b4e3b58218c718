use Rattle.design_names.proofs.ReferenceSteps.{instance_references_step}
use Rattle.design_names.proofs.undeclared.undeclared_references.Goals as goal

pub returns-in-Instance : goal.returns-in-Instance
returns-in-Instance c =
    instance_references_step c.args.scope.now c.args.first c.undeclared_bindings.result c.in-Instance.at c.in-Instance.id c.in-Instance.«module» c.in-Instance.bindings c.as_slice.result.now
    c.args.statement.now c.in-Instance.is c.as_slice.ensures c.undeclared_bindings.ensures

use Rattle.design_names.proofs.ReferenceSteps.{body_step}
use Rattle.design_names.proofs.undeclared.undeclared_in_body.Goals as goal

pub returns : goal.returns
returns c =
    body_step c.args.declared.now c.args.body.now c.args.first c.undeclared_in_statements-place.result c.undeclared_implements.result c.as_slice.result.now c.as_slice-2.result.now c.as_slice.ensures
    c.as_slice-2.ensures c.undeclared_in_statements-place.ensures c.undeclared_implements.ensures

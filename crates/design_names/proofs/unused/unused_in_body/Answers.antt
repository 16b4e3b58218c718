use Rattle.statement_checks.specs.Walks.{if_ok_then}
use Rattle.design_names.proofs.UnusedSteps.{unused_step}
use Rattle.design_names.proofs.unused.unused_in_body.Goals as goal

pub returns : goal.returns
returns c =
    if_ok_then c.unbound_in_statements.result c.unbound_in_statements.ensures
    (λ last e. unused_step c.args.declared.now c.args.body.now c.args.first c.unused_ports-ports.result c.unused_of_statements-parts.result last c.in_ok-used.used c.as_slice-statements.result.now
    c.as_slice-statements.ensures c.in_ok-used.ensures c.unused_ports-ports.ensures c.unused_of_statements-parts.ensures e)

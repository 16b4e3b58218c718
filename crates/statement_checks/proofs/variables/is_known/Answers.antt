use Rattle.std.proofs.Common.{◌≡◌, true, sym, ◌∙◌}
use Rattle.check_rules.specs.Scopes.{is_name}
use Rattle.statement_checks.proofs.VariableSteps.{known_at}
use Rattle.statement_checks.proofs.variables.is_known.Goals as goal

pub returns-then-eq : goal.returns-then-eq
returns-then-eq c =
    let same : is_name c.args.name.now c.other-item.result.now ≡ true = rw (sym c.as_slice.ensures, sym c.as_slice-in-loop-other.ensures) (sym c.eq.ensures ∙ c.if-eq.true) in
    known_at c.args.name.now c.args.known.now c.loop-other.other-index c.other-item.result c.loop-other-test.true c.other-item.is same

use Rattle.std.proofs.Common.{◌≡◌, map, take}
use Rattle.design_scopes.specs.Resolving.{scope_in}
use Rattle.design_totals.specs.Capped.{no_totals, joined_from, statement_capped}
use Rattle.design_totals.proofs.statements.body_totals.Given as goal

abbrev pub invariant-loop-statement : goal.invariant-loop-statement
invariant-loop-statement l = l.totals ≡ joined_from no_totals (map (λ s. statement_capped (scope_in l.declared l.body) l.modules l.known s.now) (take l.statement-index l.body.statements))

-- The counts of a body that are out of their range, as a list over its statements.
use Rattle.std.specs.Prelude.{ℕ, List, flat_map}
use Rattle.check_rules.specs.Counts.{statement_counts}
use Rattle.design_scopes.specs.declared.body.Body.{Body}

abbrev pub body_counts : Body → List ℕ
body_counts b = flat_map (λ s. statement_counts s.now) b.statements

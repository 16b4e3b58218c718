use Rattle.std.proofs.Common.{Err, sym, ap, ◌∙◌}
use Rattle.design_expressions.specs.ExpressionSteps.{deep_reported, unwanted_reported}
use Rattle.design_expressions.proofs.reading.too_deep.Goals as goal

pub returns-then-is_name-clause-stops : goal.returns-then-is_name-clause-stops
returns-then-is_name-clause-stops c =
    deep_reported c.args.cursor.now c.token_begin.result (cc) c.token_begin.ensures ∙ ap (λ n. Err (record { number = n; at = c.token_begin.result })) (sym c.number.ensures)

pub returns-clause-stops : goal.returns-clause-stops
returns-clause-stops c = unwanted_reported c.args.cursor.now c.refuse.result (cc) c.refuse.ensures

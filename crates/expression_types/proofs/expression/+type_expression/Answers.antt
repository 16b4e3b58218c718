use Rattle.std.proofs.Common.{List, map, ap, sym, ◌∙◌, subst}
use Rattle.esi_base.specs.Answers.{StopsAs}
use Rattle.expression_types.specs.Views.{Variable, variable_in, typed_in}
use Rattle.expression_types.specs.Typing.{typed, mux_of}
use Rattle.expression_types.specs.TypingEquations.{typed-Mux}
use Rattle.expression_types.proofs.Stops.{third_stops}
use Rattle.expression_types.proofs.expression.+type_expression.Goals as goal

pub returns-in-Ok-type_expression-9 : goal.returns-in-Ok-type_expression-9
returns-in-Ok-type_expression-9 t c =
    let vs : List Variable = map variable_in c.args.variables.now in
    third_stops (typed vs c.args.expression.now) (typed vs c.in-Mux.condition) (typed vs c.in-Mux.when_one) (typed vs c.in-Mux.when_zero)
    (typed_in c.in-Ok-type_expression-8.condition) (typed_in c.in-Ok-type_expression-9.one) (mux_of c.in-Mux.at) c.in-Err-type_expression-10.stop
    (ap (typed vs) c.in-Mux.is ∙ typed-Mux vs c.in-Mux.at c.in-Mux.condition c.in-Mux.when_one c.in-Mux.when_zero)
    (ap (typed vs) (sym c.get-in-Mux.ensures) ∙ c.in-Ok-type_expression-8.ensures)
    (ap (typed vs) (sym c.get-in-Ok-type_expression-8.ensures) ∙ c.in-Ok-type_expression-9.ensures)
    (subst (λ e. StopsAs (typed vs e) c.in-Err-type_expression-10.stop) c.get-in-Ok-type_expression-9.ensures c.in-Err-type_expression-10.ensures)

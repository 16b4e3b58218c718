use Rattle.std.proofs.Common.{◌≡◌, true, map, sym, ◌∙◌, inl, inr, arith}
use Rattle.std.proofs.lemmas.List.{length-map}
use Rattle.expression_types.specs.Views.{type_in}
use Rattle.expression_types.specs.Typing.{fields_given}
use Rattle.expression_types.proofs.Walks.{not_given, none_left}
use Rattle.expression_types.proofs.making.are_fields.Goals as goal

pub returns-then-fields-types : goal.returns-then-fields-types
returns-then-fields-types c = not_given c.args.fields.now (map type_in c.args.types.now) (λ e. omega (arith, length-map c.args.types.now type_in))

pub returns : goal.returns
returns c =
    let fields = c.loop-field.field-iterator.a.rest.now in
    let types = c.loop-field.field-iterator.b.rest.now in
    let none : fields_given fields (map type_in types) ≡ true = elim c.in-None.ensures.steps as (λ _. fields_given fields (map type_in types) ≡ true) [
      | inl p ↦ none_left fields (map type_in types) (omega (arith, c.loop-field.invariant.0, length-map types type_in)) p.1.0
      | inr p ↦ none_left fields (map type_in types) (omega (arith, c.loop-field.invariant.0, length-map types type_in)) (omega (arith, c.loop-field.invariant.0, p.1.0))
    ] in
    sym none ∙ c.loop-field.invariant.1

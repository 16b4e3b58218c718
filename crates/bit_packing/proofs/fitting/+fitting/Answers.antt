use Rattle.std.proofs.Common.{◌≡◌, true, List, [], ◌∷◌, length, map, refl, sym, ◌∙◌, inl, inr, arith}
use Rattle.std.proofs.lemmas.Grind.{common_steps}
use Rattle.channel_types.specs.declared.esi_type.Field.{Field}
use Rattle.bit_packing.specs.declared.value.Value.{Value}
use Rattle.bit_packing.specs.Fitting.{Test, field_fits, pass_each, fits_fields}
use Rattle.bit_packing.proofs.fitting.+fitting.Goals as goal

no_field : (fields : List Field) (values : List Value) → length fields ≡ 0 → pass_each (map field_fits fields) values ≡ true
no_field [] values e = refl
no_field (f ∷ fs) values e = absurd (omega arith)

no_value : (tests : List Test) (values : List Value) → length values ≡ 0 → pass_each tests values ≡ true
no_value [] values e = refl
no_value (test ∷ tests) [] e = refl
no_value (test ∷ tests) (v ∷ vs) e = absurd (omega arith)

as_many : (fields : List Field) (values : List Value) → length values ≡ length fields → pass_each (map field_fits fields) values ≡ true → true ≡ fits_fields (map field_fits fields) values
as_many fields values e h = grind (arith, common_steps)

pub are_of_fields-returns : goal.are_of_fields-returns
are_of_fields-returns t c =
    let fields = c.loop-field.field-iterator.a.rest.now in
    let values = c.loop-field.field-iterator.b.rest.now in
    let none : pass_each (map field_fits fields) values ≡ true = elim c.in-None.ensures.steps as (λ _. pass_each (map field_fits fields) values ≡ true)
    [ inl p ↦ no_field fields values p.1.0 | inr p ↦ no_value (map field_fits fields) values p.1.0 ] in
    as_many c.args.fields.now c.args.values.now (omega arith) (sym c.loop-field.invariant ∙ none)

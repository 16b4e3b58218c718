-- A body typed element by element, up to the first that does not fit.
use Rattle.std.specs.Prelude.{ℕ, Option, Some, None, Result, Ok, Err, List, [], ◌∷◌, ◌++◌, flat_map, length, set, slice_get}
use Rattle.channel_types.specs.declared.esi_type.EsiType.{EsiType}
use Rattle.esi_base.specs.Answers.{◌>>=◌}
use Rattle.design_tree.specs.declared.leaves.Reference.{Reference}
use Rattle.design_tree.specs.declared.statements.Statement.{Statement}
use Rattle.design_tree.specs.declared.statements.Statement.TheVariants as S
use Rattle.check_rules.specs.Scopes.{Scope}
use Rattle.channel_typing.specs.declared.typed_element.TypedElement.{TypedElement}
use Rattle.channel_typing.specs.Typing.{Known, Made, Making, unknown, instance_made, type_at, bound_misfits, operation_made}
use Rattle.channel_typing.specs.Misfits.{nothing_known, drive_misfits}

-- the first of the places, or else the value
abbrev pub first_or : {A : Type 0} → List ℕ → A → Result A ℕ
first_or [] value = Ok value
first_or (at ∷ more) value = Err at

abbrev pub statement_typed : Scope → (Reference → Option EsiType) → Statement → Making
statement_typed scope of (S.Request at service port id) = Ok unknown
statement_typed scope of (S.Instance at id body bindings) = first_or (flat_map (bound_misfits scope of body) bindings) instance_made
statement_typed scope of (S.Channels at names operation) = operation_made of (length names) operation
statement_typed scope of (S.Drive at sink source) = Ok unknown

abbrev pub number_typed : Scope → List Statement → Known → Option Statement → Making
number_typed scope elements known None = Ok unknown
number_typed scope elements known (Some s) = statement_typed scope (type_at scope elements known) s

-- the element, and what is known once it is typed
abbrev pub stepped : Known → ℕ → Made → Result (TypedElement × Known) ℕ
stepped known number made = Ok (made.element, set known number made.ty)

abbrev pub element_step : Scope → List Statement → Known → ℕ → Result (TypedElement × Known) ℕ
element_step scope elements known number = number_typed scope elements known (slice_get elements number) >>= stepped known number

-- the elements in an order, behind those that are typed already
abbrev pub typed_along : Scope → List Statement → Known → List TypedElement → List ℕ → Result (List TypedElement × Known) ℕ
typed_along scope elements known done [] = Ok (done, known)
typed_along scope elements known done (number ∷ order) =
    element_step scope elements known number >>= (λ next. typed_along scope elements next.1 (done ++ next.0 ∷ []) order)

abbrev pub drives_typed : Scope → List Statement → List TypedElement × Known → Result (List TypedElement) ℕ
drives_typed scope elements typed = first_or (drive_misfits (type_at scope elements typed.1) scope.statements) typed.0

abbrev pub body_typed : Scope → List Statement → List ℕ → Result (List TypedElement) ℕ
body_typed scope elements order = typed_along scope elements (nothing_known elements) [] order >>= drives_typed scope elements

-- The types of the channels of a body, and what does not fit: a line for each case.
use Rattle.std.specs.Prelude.{◌≡◌, ℕ, true, Some, None, Ok, Err, List, [], ◌∷◌, length, slice_get, Contains}
use Rattle.channel_types.specs.declared.esi_type.EsiType.{EsiType}
use Rattle.design_tree.specs.declared.leaves.Name.{Name}
use Rattle.design_tree.specs.declared.leaves.Number.{Number}
use Rattle.design_tree.specs.declared.leaves.ApplicationId.{ApplicationId}
use Rattle.design_tree.specs.declared.leaves.Reference.{Reference}
use Rattle.design_tree.specs.declared.leaves.Reference.TheVariants as R
use Rattle.design_tree.specs.declared.expression.Expression.{Expression}
use Rattle.design_tree.specs.declared.statements.Binding.{Binding}
use Rattle.design_tree.specs.declared.statements.Operation.{Operation}
use Rattle.design_tree.specs.declared.statements.Operation.TheVariants as O
use Rattle.design_tree.specs.declared.statements.Statement.{Statement}
use Rattle.design_tree.specs.declared.statements.Statement.TheVariants as S
use Rattle.netlist.specs.Nets.{Bits}
use Rattle.expression_types.specs.Views.{Variable, Typed}
use Rattle.expression_types.specs.Typing.{typed, literal_word}
use Rattle.expression_types.specs.Rows.{first_octet}
use Rattle.check_rules.specs.Scopes.{Scope, find_module}
use Rattle.check_rules.specs.References.{is_among, operation_sources, reference_place}
use Rattle.channel_typing.specs.DeclaredTypes.{declared_type, port_type}
use Rattle.channel_typing.specs.Joins.{join_type, IsJoinable}

-- ---- one operation, whose sources have types

abbrev pub variable_of : Name → EsiType → Variable
variable_of name ty = record { name = name.octets; ty = ty }

-- the variable of a map; the variables of a scan: its state, then its input
abbrev pub map_variables : Name → EsiType → List Variable
map_variables variable ty = variable_of variable ty ∷ []

abbrev pub scan_variables : Name → EsiType → Name → EsiType → List Variable
scan_variables state state_type variable ty = variable_of state state_type ∷ variable_of variable ty ∷ []

-- The channels of an operation whose sources have these types have this type.
pub data MakesType : Operation → List EsiType → EsiType → Type 0 where
  stage : (source : Reference) (ty : EsiType) → MakesType (O.Stage source) (ty ∷ []) ty
  buffer : (stages : Number) (source : Reference) (ty : EsiType) → MakesType (O.Buffer stages source) (ty ∷ []) ty
  fifo : (depth : Number) (source : Reference) (ty : EsiType) → MakesType (O.Fifo depth source) (ty ∷ []) ty
  as_fifo : (source : Reference) (ty : EsiType) → MakesType (O.AsFifo source) (ty ∷ []) ty
  as_vr : (source : Reference) (ty : EsiType) → MakesType (O.AsVr source) (ty ∷ []) ty
  fork : (source : Reference) (ty : EsiType) → MakesType (O.Fork source) (ty ∷ []) ty
  join : (left right : Reference) (a b : EsiType) → IsJoinable a b → MakesType (O.Join left right) (a ∷ b ∷ []) (join_type a b)
  mapping : (source : Reference) (variable : Name) (body : Expression) (a : EsiType) (t : Typed)
      → typed (map_variables variable a) body ≡ Ok t → MakesType (O.Map source variable body) (a ∷ []) t.ty
  scan : (source : Reference) (state : Name) (ty : EsiType) (initial : Number) (variable : Name) (body : Expression) (a : EsiType) (word : Bits) (t : Typed)
      → literal_word ty initial.value ≡ Some word → typed (scan_variables state ty variable a) body ≡ Ok t → t.ty ≡ ty
      → MakesType (O.Scan source state ty initial variable body) (a ∷ []) ty

-- An operation whose sources have these types does not fit, at the place.
pub data IsOperationMisfit : Operation → List EsiType → ℕ → Type 0 where
  -- the expression of a map has no type: at its innermost misfit
  untyped_mapping : (source : Reference) (variable : Name) (body : Expression) (a : EsiType) (at : ℕ)
      → typed (map_variables variable a) body ≡ Err at → IsOperationMisfit (O.Map source variable body) (a ∷ []) at
  -- the state of a scan is neither of a bits type nor void, or its first number does not fit
  misfitting_state : (source : Reference) (state : Name) (ty : EsiType) (initial : Number) (variable : Name) (body : Expression) (a : EsiType)
      → literal_word ty initial.value ≡ None
      → IsOperationMisfit (O.Scan source state ty initial variable body) (a ∷ []) (first_octet body)
  -- the expression of a scan has no type
  untyped_scan : (source : Reference) (state : Name) (ty : EsiType) (initial : Number) (variable : Name) (body : Expression) (a : EsiType) (word : Bits) (at : ℕ)
      → literal_word ty initial.value ≡ Some word → typed (scan_variables state ty variable a) body ≡ Err at
      → IsOperationMisfit (O.Scan source state ty initial variable body) (a ∷ []) at
  -- it has another type than the state
  other_result : (source : Reference) (state : Name) (ty : EsiType) (initial : Number) (variable : Name) (body : Expression) (a : EsiType) (word : Bits) (t : Typed)
      → literal_word ty initial.value ≡ Some word → typed (scan_variables state ty variable a) body ≡ Ok t → (t.ty ≡ ty → ⊥)
      → IsOperationMisfit (O.Scan source state ty initial variable body) (a ∷ []) (first_octet body)
  -- a join of too many bits, or of too many types inside one another
  unjoinable : (left right : Reference) (a b : EsiType) → (IsJoinable a b → ⊥) → IsOperationMisfit (O.Join left right) (a ∷ b ∷ []) (reference_place left)

-- ---- the channels of a body

-- the references have these types, one for each
abbrev pub EachHas : (Reference → EsiType → Type 0) → List Reference → List EsiType → Type 0
EachHas Has [] [] = Unit {0}
EachHas Has [] (ty ∷ tys) = ⊥
EachHas Has (r ∷ rs) [] = ⊥
EachHas Has (r ∷ rs) (ty ∷ tys) = Has r ty × EachHas Has rs tys

-- The type of what a reference of a body is to: the one with which it is declared, or that of the channels that an operation
-- makes whose sources have their types.
pub data HasType (scope : Scope) : Reference → EsiType → Type 0 where
  of_declaration : (r : Reference) (ty : EsiType) → declared_type scope r ≡ Some ty → HasType scope r ty
  of_operation : (name : Name) (at : ℕ) (names : List Name) (operation : Operation) (types : List EsiType) (ty : EsiType)
      → declared_type scope (R.Channel name) ≡ None
      → Contains scope.statements (S.Channels at names operation) → is_among name names ≡ true
      → length types ≡ length (operation_sources operation)
      → ((k : ℕ) (r : Reference) (a : EsiType) → slice_get (operation_sources operation) k ≡ Some r → slice_get types k ≡ Some a → HasType scope r a)
      → MakesType operation types ty → HasType scope (R.Channel name) ty

-- A statement of a body does not fit, at the place.
pub data IsMisfit (scope : Scope) : Statement → ℕ → Type 0 where
  misfitting : (at : ℕ) (names : List Name) (operation : Operation) (types : List EsiType) (place : ℕ)
      → EachHas (HasType scope) (operation_sources operation) types → IsOperationMisfit operation types place
      → IsMisfit scope (S.Channels at names operation) place
  -- a port of an instance is bound to what has another type: at that reference
  misbound : (at : ℕ) (id : ApplicationId) (body : Name) (bindings : List Binding) (bound : Binding) (asked ty : EsiType)
      → Contains bindings bound → port_type bound.port (find_module body scope.modules) ≡ Some asked → HasType scope bound.source ty → (ty ≡ asked → ⊥)
      → IsMisfit scope (S.Instance at id body bindings) (reference_place bound.source)
  -- what is driven has another type than what drives it: at the second reference
  misdriven : (at : ℕ) (sink source : Reference) (asked ty : EsiType)
      → HasType scope sink asked → HasType scope source ty → (ty ≡ asked → ⊥)
      → IsMisfit scope (S.Drive at sink source) (reference_place source)

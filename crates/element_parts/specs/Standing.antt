-- What stands for an operation: the part of the table, with what its formulas mean.
use Rattle.std.specs.Prelude.{◌≡◌, ℕ, Some, List, [], ◌∷◌, length, Contains}
use Rattle.channel_types.specs.declared.esi_type.EsiType.{EsiType}
use Rattle.design_tree.specs.declared.leaves.Name.{Name}
use Rattle.design_tree.specs.declared.leaves.Number.{Number}
use Rattle.design_tree.specs.declared.leaves.Reference.{Reference}
use Rattle.design_tree.specs.declared.expression.Expression.{Expression}
use Rattle.design_tree.specs.declared.statements.Operation.{Operation}
use Rattle.design_tree.specs.declared.statements.Operation.TheVariants as O
use Rattle.design_tree.specs.declared.statements.Statement.TheVariants as S
use Rattle.netlist.specs.declared.part.Part.{Part}
use Rattle.netlist.specs.declared.part.Part.TheVariants as P
use Rattle.netlist.specs.Nets.{Bits}
use Rattle.expression_types.specs.Views.{Typed}
use Rattle.expression_types.specs.Typing.{literal_word}
use Rattle.expression_types.specs.MeaningLaws.{HasMeaning}
use Rattle.check_rules.specs.Scopes.{Scope}
use Rattle.check_rules.specs.References.{operation_sources}
use Rattle.channel_typing.specs.Joins.{join_type, IsJoinable}
use Rattle.channel_typing.specs.Rules.{map_variables, scan_variables, EachHas, HasType}
use Rattle.channel_typing.specs.Typing.{width_in, count_in}
use Rattle.channel_typing.specs.Misfits.{misfits}
use Rattle.element_parts.specs.Listing.{parts_of}

-- For an operation that makes so many channels, and whose sources have these types, a part stands, so many in a row, whose
-- words have this width. The formula of a map or a scan is worth what its expression means.
pub data StandsFor (channels : ℕ) : Operation → List EsiType → Part → ℕ → ℕ → Type 0 where
  stage : (source : Reference) (a : EsiType) → StandsFor channels (O.Stage source) (a ∷ []) (P.Stage (width_in a)) 1 (width_in a)
  buffer : (stages : Number) (source : Reference) (a : EsiType) → StandsFor channels (O.Buffer stages source) (a ∷ []) (P.Stage (width_in a)) (count_in stages.value) (width_in a)
  fifo : (depth : Number) (source : Reference) (a : EsiType) → StandsFor channels (O.Fifo depth source) (a ∷ []) (P.Fifo (width_in a) (count_in depth.value)) 1 (width_in a)
  as_fifo : (source : Reference) (a : EsiType) → StandsFor channels (O.AsFifo source) (a ∷ []) P.AsFifo 1 (width_in a)
  as_vr : (source : Reference) (a : EsiType) → StandsFor channels (O.AsVr source) (a ∷ []) P.AsVr 1 (width_in a)
  fork : (source : Reference) (a : EsiType) → StandsFor channels (O.Fork source) (a ∷ []) (P.Fork (count_in channels)) 1 (width_in a)
  join : (left right : Reference) (a b : EsiType) → IsJoinable a b → StandsFor channels (O.Join left right) (a ∷ b ∷ []) P.Join 1 (width_in (join_type a b))
  mapping : (source : Reference) (variable : Name) (body : Expression) (a : EsiType) (t : Typed)
      → HasMeaning (map_variables variable a) body t
      → StandsFor channels (O.Map source variable body) (a ∷ []) (P.Map t.formula) 1 (width_in t.ty)
  scan : (source : Reference) (state : Name) (ty : EsiType) (initial : Number) (variable : Name) (body : Expression) (a : EsiType) (word : Bits) (t : Typed)
      → literal_word ty initial.value ≡ Some word → HasMeaning (scan_variables state ty variable a) body t → t.ty ≡ ty
      → StandsFor channels (O.Scan source state ty initial variable body) (a ∷ []) (P.Scan word t.formula) 1 (width_in ty)

-- The part stands for an operation of one of the bodies, with the types that its sources have by the rules.
pub record IsPartOf (scopes : List Scope) (part : Part) : Type 0 where
  pub scope : Scope
  pub body : Contains scopes scope
  pub at : ℕ
  pub names : List Name
  pub operation : Operation
  pub statement : Contains scope.statements (S.Channels at names operation)
  pub types : List EsiType
  pub known : EachHas (HasType scope) (operation_sources operation) types
  pub count : ℕ
  pub width : ℕ
  pub stands : StandsFor (length names) operation types part count width

-- Each part of the table stands for an operation of the design, where all types fit.
abbrev pub EachPartStands : Type 0
EachPartStands = (scopes : List Scope) → misfits scopes ≡ [] → (part : Part) → Contains (parts_of scopes).parts part → IsPartOf scopes part

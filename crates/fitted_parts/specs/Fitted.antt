-- The parts that stand for the operations of a design that breaks no rule are good, and fit the channels between which they stand.
use Rattle.std.specs.Prelude.{◌≡◌, ℕ, ◌≤◌, Some, List, length, map, All, Contains}
use Rattle.channel_types.specs.declared.esi_type.EsiType.{EsiType}
use Rattle.channel_types.specs.Types.{width_of, IsGoodType}
use Rattle.design_tree.specs.declared.leaves.Name.{Name}
use Rattle.design_tree.specs.declared.leaves.Reference.{Reference}
use Rattle.design_tree.specs.declared.statements.Operation.{Operation}
use Rattle.design_tree.specs.declared.statements.Statement.TheVariants as S
use Rattle.design_tree.specs.declared.declarations.Declaration.{Declaration}
use Rattle.design_tree.specs.declared.design.DesignTree.TheVariants as F
use Rattle.design_tree.specs.declared.top.Top.{Top}
use Rattle.netlist.specs.declared.part.Part.{Part}
use Rattle.netlist.specs.Parts.{IsGoodPart, outputs_of, part_width}
use Rattle.netlist.specs.Plans.{IsWidth}
use Rattle.check_rules.specs.Scopes.{Scope, scopes}
use Rattle.check_rules.specs.References.{operation_sources}
use Rattle.check_rules.specs.Checks.{Accepts, checks}
use Rattle.channel_typing.specs.Rules.{EachHas, HasType, MakesType}
use Rattle.channel_typing.specs.Typing.{width_in}
use Rattle.channel_typing.specs.Misfits.{misfits}
use Rattle.element_parts.specs.Standing.{StandsFor}
use Rattle.esi_text.specs.TypesIn.{types_in}

-- The numbers of the part are within their limits, it takes words as wide as these types and gives words of this width to so
-- many channels, and at least one of it stands in a row.
pub record IsFitting (channels : ℕ) (types : List EsiType) (part : Part) (count width : ℕ) : Type 0 where
  pub good : IsGoodPart part
  pub fits : part_width part (map width_of types) ≡ Some width
  pub wide : IsWidth width
  pub makes : outputs_of part ≡ channels
  pub some : 1 ≤ count

-- In a design in whose text all types are good, so are those of its bodies: at most 1,024 bits wide.
abbrev pub EachTypeIsGood : Type 0
EachTypeIsGood = (declarations : List Declaration) (top : Top) → All IsGoodType (types_in (F.Modules declarations top)) → (scope : Scope) → Contains (scopes declarations top) scope
    → (r : Reference) (ty : EsiType) → HasType scope r ty → IsGoodType ty

-- Where it breaks no rule besides, what stands for an operation fits.
abbrev pub EachFits : Type 0
EachFits = (declarations : List Declaration) (top : Top) → Accepts (checks misfits (F.Modules declarations top)) → All IsGoodType (types_in (F.Modules declarations top))
    → (scope : Scope) → Contains (scopes declarations top) scope → (at : ℕ) (names : List Name) (operation : Operation) → Contains scope.statements (S.Channels at names operation)
    → (types : List EsiType) (ty : EsiType) (part : Part) (count width : ℕ) → EachHas (HasType scope) (operation_sources operation) types → MakesType operation types ty
    → StandsFor (length names) operation types part count width → width ≡ width_in ty → IsFitting (length names) types part count width

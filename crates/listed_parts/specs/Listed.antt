-- Which part of the table stands for each element of a design that breaks no rule.
use Rattle.std.specs.Prelude.{◌≡◌, ℕ, Some, List, length, map, slice_get, Contains}
use Rattle.channel_types.specs.declared.esi_type.EsiType.{EsiType}
use Rattle.design_tree.specs.declared.leaves.Name.{Name}
use Rattle.design_tree.specs.declared.statements.Operation.{Operation}
use Rattle.design_tree.specs.declared.statements.Statement.TheVariants as S
use Rattle.design_tree.specs.declared.declarations.Declaration.{Declaration}
use Rattle.design_tree.specs.declared.design.DesignTree.TheVariants as F
use Rattle.design_tree.specs.declared.top.Top.{Top}
use Rattle.netlist.specs.declared.part.Part.{Part}
use Rattle.check_rules.specs.Scopes.{Scope, scopes}
use Rattle.check_rules.specs.References.{operation_sources}
use Rattle.check_rules.specs.Dependencies.{elements_of}
use Rattle.check_rules.specs.Checks.{Accepts, checks}
use Rattle.body_plans.specs.declared.ordered.OrderedElement.{OrderedElement}
use Rattle.design_plans.specs.Planning.{elements_in}
use Rattle.channel_typing.specs.Rules.{EachHas, HasType, MakesType}
use Rattle.channel_typing.specs.Typing.{width_in}
use Rattle.channel_typing.specs.Misfits.{misfits, order_of}
use Rattle.element_parts.specs.Listing.{parts_of}
use Rattle.element_parts.specs.Standing.{StandsFor}
use Rattle.once_laws.specs.Accepted.{number_of}

-- For an operation of a body, over the types that its sources have by the rules, the part stands whose number its element has,
-- so many in a row and with words of this width.
pub record IsListed (scope : Scope) (parts : List Part) (names : List Name) (operation : Operation) (o : OrderedElement) : Type 0 where
  pub types : List EsiType
  pub known : EachHas (HasType scope) (operation_sources operation) types
  pub part : Part
  pub there : slice_get parts o.part ≡ Some part
  pub stands : StandsFor (length names) operation types part o.count o.width
  -- the type of the channels that it makes, and that their words are as wide
  pub ty : EsiType
  pub makes : MakesType operation types ty
  pub word : o.width ≡ width_in ty

-- The elements of a body stand in its element order, and each operation among them is listed.
pub record AreListed (scope : Scope) (parts : List Part) (elements : List OrderedElement) : Type 0 where
  pub numbers : map number_of elements ≡ order_of scope
  pub each : (o : OrderedElement) → Contains elements o → (at : ℕ) (names : List Name) (operation : Operation) → slice_get (elements_of scope.statements) o.number ≡ Some (S.Channels at names operation)
      → IsListed scope parts names operation o

-- So are those of each body of a design that breaks no rule: no element of it is without a type.
abbrev pub EachListed : Type 0
EachListed = (declarations : List Declaration) (top : Top) → Accepts (checks misfits (F.Modules declarations top)) → (k : ℕ) (scope : Scope) → slice_get (scopes declarations top) k ≡ Some scope
    → AreListed scope (parts_of (scopes declarations top)).parts (elements_in (parts_of (scopes declarations top)).ordered k)

-- The types that stand in a design, in the order of its text.
use Rattle.std.specs.Prelude.{List, [], ◌∷◌, ◌++◌, map}
use Rattle.std.specs.List.{flat_map}
use Rattle.channel_types.specs.declared.esi_type.EsiType.{EsiType}
use Rattle.design_tree.specs.declared.expression.Expression.{Expression}
use Rattle.design_tree.specs.declared.expression.Expression.TheOpen.{Expression-F}
use Rattle.design_tree.specs.declared.expression.Expression.TheFolds.{fold-Expression}
use Rattle.design_tree.specs.declared.statements.Operation.{Operation}
use Rattle.design_tree.specs.declared.statements.Operation.TheVariants as O
use Rattle.design_tree.specs.declared.statements.Statement.{Statement}
use Rattle.design_tree.specs.declared.statements.Statement.TheVariants as S
use Rattle.design_tree.specs.declared.declarations.Member.{Member}
use Rattle.design_tree.specs.declared.declarations.ModulePort.{ModulePort}
use Rattle.design_tree.specs.declared.declarations.Declaration.{Declaration}
use Rattle.design_tree.specs.declared.declarations.Declaration.TheVariants as I
use Rattle.design_tree.specs.declared.top.TopItem.{TopItem}
use Rattle.design_tree.specs.declared.top.TopItem.TheVariants as P
use Rattle.design_tree.specs.declared.design.DesignTree.{DesignTree}
use Rattle.design_tree.specs.declared.design.DesignTree.TheVariants as F

-- ---- expressions: `lit`, `make` and `cast` name a type

abbrev pub types_step : Expression-F (List EsiType) → List EsiType
types_step (Expression-F.Variable name) = []
types_step (Expression-F.Part of suffixes) = of
types_step (Expression-F.Literal at ty value) = ty ∷ []
types_step (Expression-F.Make at ty parts) = ty ∷ flat_map (λ part. part) parts
types_step (Expression-F.Cast at ty of) = ty ∷ of
types_step (Expression-F.Zext at width of) = of
types_step (Expression-F.Slice at high low of) = of
types_step (Expression-F.Not at of) = of
types_step (Expression-F.Binary at operator left right) = left ++ right
types_step (Expression-F.Mux at condition when_one when_zero) = condition ++ when_one ++ when_zero

abbrev pub expression_types : Expression → List EsiType
expression_types = fold-Expression (List EsiType) types_step

-- ---- statements: a `scan` has the type of its state, and `map` and `scan` an expression

abbrev pub operation_types : Operation → List EsiType
operation_types (O.Map source variable body) = expression_types body
operation_types (O.Scan source state ty initial variable body) = ty ∷ expression_types body
operation_types other = []

abbrev pub statement_types : Statement → List EsiType
statement_types (S.Channels at names operation) = operation_types operation
statement_types other = []

-- ---- declarations: the members of a bundle and the ports of a module have types

abbrev pub member_type : Member → EsiType
member_type m = m.ty

abbrev pub port_type : ModulePort → EsiType
port_type p = p.ty

abbrev pub declaration_types : Declaration → List EsiType
declaration_types (I.Bundle b) = map member_type b.members
declaration_types (I.Service s) = []
declaration_types (I.Module m) = map port_type m.ports ++ flat_map statement_types m.body

-- ---- designs

abbrev pub top_item_types : TopItem → List EsiType
top_item_types (P.Statement statement) = statement_types statement
top_item_types (P.Implement service) = []

abbrev pub types_in : DesignTree → List EsiType
types_in (F.Pipe pipe) = pipe.ty ∷ []
types_in (F.Modules declarations top) = flat_map declaration_types declarations ++ flat_map top_item_types top.body

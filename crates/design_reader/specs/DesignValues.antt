-- The values of the trees of declarations and designs (the grammar of the design text: `Rules` of design_grammar).
use Rattle.std.specs.Prelude.{List, [], ◌∷◌}
use Rattle.ll1_grammar.specs.Rule.{Tree}
use Rattle.ll1_grammar.specs.Kinds.{first, second}
use Rattle.ll1_grammar.specs.Bridge.{either, items}
use Rattle.design_lex.specs.declared.token.Token.{Token}
use Rattle.channel_types.specs.TypeGrammar.{Found}
use Rattle.design_tree.specs.declared.statements.Statement.{Statement}
use Rattle.design_tree.specs.declared.declarations.Direction.{Direction}
use Rattle.design_tree.specs.declared.declarations.Direction.TheVariants.{ToHardware, FromHardware}
use Rattle.design_tree.specs.declared.declarations.Member.{Member}
use Rattle.design_tree.specs.declared.declarations.Bundle.{Bundle}
use Rattle.design_tree.specs.declared.declarations.ServicePort.{ServicePort}
use Rattle.design_tree.specs.declared.declarations.Service.{Service}
use Rattle.design_tree.specs.declared.declarations.PortDirection.{PortDirection}
use Rattle.design_tree.specs.declared.declarations.PortDirection.TheVariants.{In, Out}
use Rattle.design_tree.specs.declared.declarations.ModulePort.{ModulePort}
use Rattle.design_tree.specs.declared.declarations.Module.{Module}
use Rattle.design_tree.specs.declared.declarations.Declaration.{Declaration}
use Rattle.design_tree.specs.declared.declarations.Declaration.TheVariants as I
use Rattle.design_tree.specs.declared.design.Pipe.{Pipe}
use Rattle.design_tree.specs.declared.top.TopItem.{TopItem}
use Rattle.design_tree.specs.declared.top.TopItem.TheVariants as B
use Rattle.design_tree.specs.declared.top.Top.{Top}
use Rattle.design_tree.specs.declared.design.DesignTree.{DesignTree}
use Rattle.design_tree.specs.declared.design.DesignTree.TheVariants as F
use Rattle.design_expressions.specs.ExpressionValues.{name_in, number_at}

-- ---- services

abbrev pub service_port_in : Tree Token → ServicePort
service_port_in t = let named : Tree Token = second t in record { name = name_in (first named); bundle = name_in (first (second (second named))) }

-- after `service`: the name, and in braces one port at least
abbrev pub service_in : Tree Token → Service
service_in t = let ports : Tree Token = second (second t) in record { name = name_in (first t); ports = service_port_in (first ports) ∷ items service_port_in (first (second ports)) }

-- ---- bundles and modules; `type_value` is the value of a type's tree

abbrev pub direction_in : Tree Token → Direction
direction_in = either (λ t. ToHardware) (λ t. FromHardware)

abbrev pub port_direction_in : Tree Token → PortDirection
port_direction_in = either (λ t. In) (λ t. Out)

module _ (type_value : Tree Token → Found) where
  abbrev pub member_in : Tree Token → Member
  member_in t = let directed : Tree Token = second (second t) in record { name = name_in (first t); direction = direction_in (first directed); ty = (type_value (first (second directed))).0 }

  -- after `bundle`: the name, and in braces one member at least
  abbrev pub bundle_in : Tree Token → Bundle
  bundle_in t = let members : Tree Token = second (second t) in record { name = name_in (first t); members = member_in (first members) ∷ items member_in (first (second members)) }

  abbrev pub module_port_in : Tree Token → ModulePort
  module_port_in t = record { direction = port_direction_in (first t); name = name_in (first (second t)); ty = (type_value (second (second (second t)))).0 }

  -- one or more, after commas
  abbrev pub listed_ports_in : Tree Token → List ModulePort
  listed_ports_in t = module_port_in (first t) ∷ items (λ w. module_port_in (second w)) (second t)

  abbrev pub module_ports_in : Tree Token → List ModulePort
  module_ports_in = either listed_ports_in (λ t. [])

  -- after `pipe`: the type, and the count of stages
  abbrev pub pipe_in : Tree Token → Pipe
  pipe_in t = record { ty = (type_value (first t)).0; stages = number_at (first (second (second t))) }

-- ---- bodies: `statement_value` is the value of a statement's tree

module _ (statement_value : Tree Token → Statement) where
  abbrev pub top_item_in : Tree Token → TopItem
  top_item_in = either (λ t. B.Statement (statement_value t)) (λ t. B.Implement (name_in (first (second t))))

  -- after `top`: the name, and the body in braces
  abbrev pub top_in : Tree Token → Top
  top_in t = record { name = name_in (first t); body = items top_item_in (first (second (second t))) }

-- ---- the whole

module _ (type_value : Tree Token → Found) (statement_value : Tree Token → Statement) where
  -- after `module`: the name, the ports in parentheses, and the body in braces
  abbrev pub module_in : Tree Token → Module
  module_in t =
      let ported : Tree Token = second (second t) in
      record { name = name_in (first t); ports = module_ports_in type_value (first ported); body = items statement_value (first (second (second (second ported)))) }

  abbrev pub declaration_in : Tree Token → Declaration
  declaration_in = either (λ t. I.Bundle (bundle_in type_value (second t))) (either (λ t. I.Service (service_in (second t))) (λ t. I.Module (module_in (second t))))

  abbrev pub tree_in : Tree Token → DesignTree
  tree_in = either (λ t. F.Pipe (pipe_in type_value (second t))) (λ t. F.Modules (items declaration_in (first t)) (top_in statement_value (second (second t))))

  -- after the version
  abbrev pub design_in : Tree Token → DesignTree
  design_in t = tree_in (second (second (second t)))

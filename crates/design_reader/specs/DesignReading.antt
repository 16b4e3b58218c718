-- The readers of declarations and designs, as functions of the lexemes that are left.
use Rattle.std.specs.Prelude.{ℕ, List, [], ◌∷◌, ◌++◌}
use Rattle.ll1_grammar.specs.Rule.{Kinds}
use Rattle.ll1_grammar.specs.Readers.{Reader, pure, ◌>>=◌, ◌>>◌, on, on_any}
use Rattle.design_lex.specs.declared.token.Token.{Token}
use Rattle.design_grammar.specs.declared.kind.Kind.TheVariants.{One, Semicolon, Colon, Comma, OpenBrace, CloseBrace, OpenParenthesis, CloseParenthesis, Esi, Pipe, Stages, Bundle, Service, Module, Top, ToHw, FromHw, Port, In, Out, Implement}
use Rattle.design_grammar.specs.Kinds.{code, names}
use Rattle.design_grammar.specs.Grammar.{expect}
use Rattle.design_grammar.specs.Rules.{designs}
use Rattle.design_grammar.specs.Lists.{items_onto, after_comma}
use Rattle.channel_types.specs.TypeGrammar.{Found}
use Rattle.design_tree.specs.declared.statements.Statement.{Statement}
use Rattle.design_tree.specs.declared.declarations.Direction.{Direction}
use Rattle.design_tree.specs.declared.declarations.Direction.TheVariants.{ToHardware, FromHardware}
use Rattle.design_tree.specs.declared.declarations.Member.{Member}
use Rattle.design_tree.specs.declared.declarations.Bundle as a_bundle
use Rattle.design_tree.specs.declared.declarations.ServicePort.{ServicePort}
use Rattle.design_tree.specs.declared.declarations.Service as a_service
use Rattle.design_tree.specs.declared.declarations.PortDirection.{PortDirection}
use Rattle.design_tree.specs.declared.declarations.PortDirection.TheVariants as D
use Rattle.design_tree.specs.declared.declarations.ModulePort.{ModulePort}
use Rattle.design_tree.specs.declared.declarations.Module as a_module
use Rattle.design_tree.specs.declared.declarations.Declaration.{Declaration}
use Rattle.design_tree.specs.declared.declarations.Declaration.TheVariants as I
use Rattle.design_tree.specs.declared.design.Pipe as a_pipe
use Rattle.design_tree.specs.declared.top.TopItem.{TopItem}
use Rattle.design_tree.specs.declared.top.TopItem.TheVariants as B
use Rattle.design_tree.specs.declared.top.Top as a_top
use Rattle.design_tree.specs.declared.design.DesignTree.{DesignTree}
use Rattle.design_tree.specs.declared.design.DesignTree.TheVariants as F
use Rattle.design_types.specs.TypeReading.{type_at}
use Rattle.design_expressions.specs.ExpressionReading.{next_name, next_number}
use Rattle.design_statements.specs.StatementReading.{statement_at, statement_starts}

-- the kinds with which a module's port, an item of the top's body, and a declaration begin
abbrev pub port_starts : Kinds
port_starts = code In ∷ code Out ∷ []

abbrev pub top_item_starts : Kinds
top_item_starts = statement_starts ++ code Implement ∷ []

abbrev pub declaration_starts : Kinds
declaration_starts = code Bundle ∷ code Service ∷ code Module ∷ []

-- ---- services

unfoldable pub service_port : Reader Token ServicePort
service_port = do
  expect Port
  n ← next_name
  expect Colon
  b ← next_name
  expect Semicolon
  pure (record { name = n; bundle = b })

-- the first and all after it
abbrev pub more_service_ports : ServicePort → Reader Token (List ServicePort)
more_service_ports p = items_onto (code Port ∷ []) service_port (p ∷ [])

unfoldable pub service : Reader Token a_service.Service
service = do
  expect Service
  n ← next_name
  expect OpenBrace
  p ← service_port
  ps ← more_service_ports p
  expect CloseBrace
  pure (record { name = n; ports = ps })

-- ---- what the top implements

unfoldable pub implement : Reader Token TopItem
implement = do
  expect Implement
  n ← next_name
  expect Semicolon
  pure (B.Implement n)

-- ---- bundles and modules

unfoldable pub to_hardware : Reader Token Direction
to_hardware = expect ToHw >> pure ToHardware

unfoldable pub from_hardware : Reader Token Direction
from_hardware = expect FromHw >> pure FromHardware

unfoldable pub direction : Reader Token Direction
direction = on designs (code ToHw) to_hardware from_hardware

unfoldable pub inwards : Reader Token PortDirection
inwards = expect In >> pure D.In

unfoldable pub outwards : Reader Token PortDirection
outwards = expect Out >> pure D.Out

unfoldable pub port_direction : Reader Token PortDirection
port_direction = on designs (code In) inwards outwards

-- `inner` reads a type
module _ (inner : Reader Token Found) where
  unfoldable pub member : Reader Token Member
  member = do
    n ← next_name
    expect Colon
    d ← direction
    ty ← inner
    expect Semicolon
    pure (record { name = n; direction = d; ty = ty.0 })

  -- the first and all after it
  abbrev pub more_members : Member → Reader Token (List Member)
  more_members m = items_onto names member (m ∷ [])

  unfoldable pub bundle : Reader Token a_bundle.Bundle
  bundle = do
    expect Bundle
    n ← next_name
    expect OpenBrace
    m ← member
    ms ← more_members m
    expect CloseBrace
    pure (record { name = n; members = ms })

  unfoldable pub module_port : Reader Token ModulePort
  module_port = do
    d ← port_direction
    n ← next_name
    expect Colon
    ty ← inner
    pure (record { direction = d; name = n; ty = ty.0 })

  -- the first and all those after commas
  abbrev pub more_module_ports : ModulePort → Reader Token (List ModulePort)
  more_module_ports p = items_onto (code Comma ∷ []) (after_comma module_port) (p ∷ [])

  unfoldable pub listed_module_ports : Reader Token (List ModulePort)
  listed_module_ports = module_port >>= more_module_ports

  -- none where the parenthesis is closed at once
  unfoldable pub module_ports : Reader Token (List ModulePort)
  module_ports = on_any designs port_starts listed_module_ports (pure [])

  unfoldable pub pipe : Reader Token a_pipe.Pipe
  pipe = do
    expect Pipe
    ty ← inner
    expect Stages
    n ← next_number
    expect Semicolon
    pure (record { ty = ty.0; stages = n })

-- ---- bodies: `statement` reads a statement

module _ (statement : Reader Token Statement) where
  abbrev pub statements : Reader Token (List Statement)
  statements = items_onto statement_starts statement []

  unfoldable pub top_item : Reader Token TopItem
  top_item = on_any designs statement_starts (statement >>= λ s. pure (B.Statement s)) implement

  abbrev pub top_items : Reader Token (List TopItem)
  top_items = items_onto top_item_starts top_item []

  unfoldable pub top : Reader Token a_top.Top
  top = do
    expect Top
    n ← next_name
    expect OpenBrace
    ps ← top_items
    expect CloseBrace
    pure (record { name = n; body = ps })

-- ---- the whole

module _ (inner : Reader Token Found) (statement : Reader Token Statement) where
  unfoldable pub module_definition : Reader Token a_module.Module
  module_definition = do
    expect Module
    n ← next_name
    expect OpenParenthesis
    ps ← module_ports inner
    expect CloseParenthesis
    expect OpenBrace
    ss ← statements statement
    expect CloseBrace
    pure (record { name = n; ports = ps; body = ss })

  unfoldable pub module_declaration : Reader Token Declaration
  module_declaration = module_definition >>= λ m. pure (I.Module m)

  unfoldable pub declaration : Reader Token Declaration
  declaration = on designs (code Bundle) (bundle inner >>= λ b. pure (I.Bundle b)) (on designs (code Service) (service >>= λ s. pure (I.Service s)) module_declaration)

  abbrev pub declarations : Reader Token (List Declaration)
  declarations = items_onto declaration_starts declaration []

  unfoldable pub declarations_and_top : Reader Token DesignTree
  declarations_and_top = do
    is ← declarations
    t ← top statement
    pure (F.Modules is t)

  unfoldable pub tree : Reader Token DesignTree
  tree = on designs (code Pipe) (pipe inner >>= λ p. pure (F.Pipe p)) declarations_and_top

  -- the version, and the tree after it
  unfoldable pub design : Reader Token DesignTree
  design = do
    expect Esi
    expect One
    expect Semicolon
    tree

-- with so many types and expressions inside one another at most
abbrev pub design_at : ℕ → ℕ → Reader Token DesignTree
design_at types expressions = design (type_at types) (statement_at types expressions)

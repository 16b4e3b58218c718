-- The steps of the readers: the items of lists, and which way a test of the next token goes.
use Rattle.std.proofs.Common.{◌≡◌, ℕ, true, false, List, [], Ok, refl, sym, ap, ◌∙◌}
use Rattle.ll1_grammar.specs.Lexemes.{Lexemes}
use Rattle.ll1_grammar.specs.Rule.{Rule, Tree, ◌⟫◌}
use Rattle.ll1_grammar.specs.Rule.Rule.{alt}
use Rattle.ll1_grammar.specs.Kinds.{among, is_ll1, may_be_empty}
use Rattle.ll1_grammar.specs.Among.{by_false}
use Rattle.ll1_grammar.specs.Readers.{Reader}
use Rattle.ll1_grammar.specs.Bridge.{Implements}
use Rattle.design_lex.specs.Tokens as lex
use Rattle.design_lex.specs.declared.token.Token.{Token}
use Rattle.design_grammar.specs.declared.kind.Kind.TheVariants.{Comma, Pipe, Bundle, Service, ToHw, In}
use Rattle.design_grammar.specs.Kinds.{code, word_kind}
use Rattle.design_grammar.specs.Grammar.{kind_code}
use Rattle.design_grammar.specs.Rules.{designs, token, a_type, service_port_rule, member_rule, module_port_rule, statement_rule, implement_rule, item_rule, design_rule}
use Rattle.design_grammar.specs.Lists.{Shortens, after_comma, item_shorter}
use Rattle.ll1_grammar.specs.WithoutLimits.{no_check}
use Rattle.channel_types.specs.TypeGrammar.{Found, type_of}
use Rattle.design_types.specs.TypeReading.{type_at}
use Rattle.design_grammar.specs.NextToken.{IsOther, is_other, comes_not}
use Rattle.design_expressions.specs.ExpressionTrees.{ExpressionTree, ExpressionBreak, expression_env, expression_readable}
use Rattle.design_expressions.specs.ExpressionLaw.{type_within_implements}
use Rattle.design_statements.specs.StatementReading.{statement_at, statement_starts}
use Rattle.design_statements.specs.StatementTexts.{statement_of, statement_at_implements}
use Rattle.design_tree.specs.declared.statements.Statement.{Statement}
use Rattle.design_tree.specs.declared.declarations.ModulePort.{ModulePort}
use Rattle.channel_types.specs.declared.limits.TheConstants.{OPEN_TYPES}
use Rattle.design_reader.specs.DesignValues.{design_in}
use Rattle.design_reader.specs.DesignReading.{service_port, member, module_port, direction, from_hardware, port_direction, outwards, top_item, implement, port_starts, module_ports, declaration, module_declaration, tree, declarations_and_top, design_at}
use Rattle.design_reader.specs.DesignLaw.{service_port_implements, member_implements, other_port_implements, declaration_implements, top_item_implements, design_implements}

-- ---- each item of a list takes lexemes away, with the readers of types and expressions to any depth

module _ (levels : ℕ) where
  shorter_by : {A : Type 0} {item : Reader Token A} {value : Tree Token → A} (r : Rule) → is_ll1 designs r ≡ true → may_be_empty designs r ≡ false
      → Implements designs no_check (expression_env levels) item value r [] → Shortens item
  shorter_by r decided n implements = item_shorter no_check (expression_env levels) (ExpressionTree levels) (ExpressionBreak levels) (expression_readable levels no_check) r decided implements n

  types_read : Implements designs no_check (expression_env levels) (type_at OPEN_TYPES) (type_of OPEN_TYPES) a_type []
  types_read = type_within_implements levels no_check

  pub service_port_shorter : Shortens service_port
  unfolding word_kind
  service_port_shorter = shorter_by service_port_rule refl refl (service_port_implements no_check (expression_env levels))

  pub member_shorter : Shortens (member (type_at OPEN_TYPES))
  unfolding word_kind
  member_shorter = shorter_by member_rule refl refl (member_implements no_check (expression_env levels) (type_at OPEN_TYPES) (type_of OPEN_TYPES) types_read)

  pub other_port_shorter : Shortens (after_comma (module_port (type_at OPEN_TYPES)))
  unfolding word_kind
  other_port_shorter = shorter_by (token Comma ⟫ module_port_rule) refl refl (other_port_implements no_check (expression_env levels) (type_at OPEN_TYPES) (type_of OPEN_TYPES) types_read)

  pub statement_shorter : Shortens (statement_at OPEN_TYPES levels)
  unfolding word_kind
  statement_shorter = shorter_by statement_rule refl refl (statement_at_implements levels)

  pub top_item_shorter : Shortens (top_item (statement_at OPEN_TYPES levels))
  unfolding word_kind
  top_item_shorter =
      shorter_by (alt statement_rule implement_rule) refl refl
      (top_item_implements no_check (expression_env levels) (ExpressionTree levels) (ExpressionBreak levels) (expression_readable levels no_check) (type_at OPEN_TYPES) (type_of OPEN_TYPES) types_read
      (statement_at OPEN_TYPES levels) (statement_of levels) (statement_at_implements levels))

  pub declaration_shorter : Shortens (declaration (type_at OPEN_TYPES) (statement_at OPEN_TYPES levels))
  unfolding word_kind
  declaration_shorter =
      shorter_by item_rule refl refl
      (declaration_implements no_check (expression_env levels) (ExpressionTree levels) (ExpressionBreak levels) (expression_readable levels no_check) (type_at OPEN_TYPES) (type_of OPEN_TYPES) types_read
      (statement_at OPEN_TYPES levels) (statement_of levels) (statement_at_implements levels))

  -- the reader of designs is the law's reader of the rule, with the value of its tree
  pub designs_read : Implements designs no_check (expression_env levels) (design_at OPEN_TYPES levels) (design_in (type_of OPEN_TYPES) (statement_of levels)) design_rule []
  designs_read =
      design_implements no_check (expression_env levels) (ExpressionTree levels) (ExpressionBreak levels) (expression_readable levels no_check) (type_at OPEN_TYPES) (type_of OPEN_TYPES) types_read
      (statement_at OPEN_TYPES levels) (statement_of levels) (statement_at_implements levels)

-- ---- where no token of the kinds that are reported comes, the last of the readers reads

pub from_read : (ts : Lexemes Token) → IsOther (code ToHw) ts → direction ts ≡ from_hardware ts
unfolding direction
from_read ts a = by_false _ _ _ (is_other (code ToHw) ts a)

pub out_read : (ts : Lexemes Token) → IsOther (code In) ts → port_direction ts ≡ outwards ts
unfolding port_direction
out_read ts a = by_false _ _ _ (is_other (code In) ts a)

pub implement_read : (statement : Reader Token Statement) (ts : Lexemes Token) → among statement_starts (kind_code (lex.first_token ts)) ≡ false → top_item statement ts ≡ implement ts
unfolding top_item
implement_read statement ts a = by_false _ _ _ (comes_not statement_starts ts a)

pub no_ports : (inner : Reader Token Found) (ts : Lexemes Token) (ports : List ModulePort) → among port_starts (kind_code (lex.first_token ts)) ≡ false → ports ≡ [] → module_ports inner ts ≡ Ok (ports, ts)
unfolding module_ports
no_ports inner ts ports a e = by_false _ _ _ (comes_not port_starts ts a) ∙ ap (λ z. Ok (z, ts)) (sym e)

pub module_read : (inner : Reader Token Found) (statement : Reader Token Statement) (ts : Lexemes Token) → IsOther (code Bundle) ts → IsOther (code Service) ts
    → declaration inner statement ts ≡ module_declaration inner statement ts
unfolding declaration
module_read inner statement ts a b = by_false _ _ _ (is_other (code Bundle) ts a) ∙ by_false _ _ _ (is_other (code Service) ts b)

pub declarations_read : (inner : Reader Token Found) (statement : Reader Token Statement) (ts : Lexemes Token) → IsOther (code Pipe) ts → tree inner statement ts ≡ declarations_and_top inner statement ts
unfolding tree
declarations_read inner statement ts a = by_false _ _ _ (is_other (code Pipe) ts a)

-- The grammar's readers of the rules that are called, for expressions: they stand on those of types, of which at most
-- `OPEN_TYPES` may stand inside one another.
use Rattle.std.specs.Prelude.{ℕ, Bool, ◌==◌}
use Rattle.ll1_grammar.specs.Rule.{Tree}
use Rattle.ll1_grammar.specs.declared.refusal.TokenRefusal.{TokenRefusal}
use Rattle.ll1_grammar.specs.Trees.{Checks}
use Rattle.ll1_grammar.specs.Parse.{Parser}
use Rattle.ll1_grammar.specs.WithoutLimits.{no_check}
use Rattle.ll1_grammar.specs.Nested.{NoTree, TooDeep, no_level}
use Rattle.ll1_grammar.specs.Nesting.{nesting, NestingTree, NestingBreak}
use Rattle.ll1_grammar.specs.NestingLaws.{Base, all_own, no_base, nesting_base, nesting_readable}
use Rattle.ll1_grammar.specs.WholeTexts.{Readable}
use Rattle.design_lex.specs.declared.token.Token.{Token}
use Rattle.design_grammar.specs.Rules.{designs}
use Rattle.design_grammar.specs.Decided.{designs_calls}
use Rattle.channel_types.specs.TypeGrammar.{type_check}
use Rattle.channel_types.specs.declared.limits.TheConstants.{OPEN_TYPES}

-- the rule of expressions is called with 1
abbrev pub is_expression : ℕ → Bool
is_expression n = n == 1

-- no tree of an expression is checked
abbrev pub unchecked : ℕ → Checks Token
unchecked level = no_check

-- the readers of types, their trees, and where these break a limit
abbrev pub type_env : ℕ → Parser Token
type_env = nesting designs all_own type_check (no_level designs) NoTree (TooDeep designs) OPEN_TYPES

abbrev pub TypeTree : ℕ → Tree Token → Type 0
TypeTree = NestingTree designs all_own type_check (no_level designs) NoTree (TooDeep designs) OPEN_TYPES

abbrev pub BrokenType : ℕ → TokenRefusal → ℕ → Tree Token → Type 0
BrokenType = NestingBreak designs all_own type_check (no_level designs) NoTree (TooDeep designs) OPEN_TYPES

-- the readers of both, with so many levels of expressions still to be opened
abbrev pub expression_env : ℕ → ℕ → Parser Token
expression_env levels = nesting designs is_expression unchecked type_env TypeTree BrokenType levels

-- the trees of both, with expressions that many levels deep at most,
abbrev pub ExpressionTree : ℕ → ℕ → Tree Token → Type 0
ExpressionTree levels = NestingTree designs is_expression unchecked type_env TypeTree BrokenType levels

-- and where such a tree breaks a limit
abbrev pub ExpressionBreak : ℕ → ℕ → TokenRefusal → ℕ → Tree Token → Type 0
ExpressionBreak levels = NestingBreak designs is_expression unchecked type_env TypeTree BrokenType levels

-- a tree of an expression, that many levels deep at most, all of whose types are good
abbrev pub IsExpressionTree : ℕ → Tree Token → Type 0
IsExpressionTree levels t = ExpressionTree levels 1 t

pub type_base : Base designs is_expression type_env TypeTree BrokenType
type_base = nesting_base designs designs_calls all_own type_check (no_level designs) NoTree (TooDeep designs) (no_base designs designs_calls) OPEN_TYPES is_expression

-- all that the law needs of these readers
pub expression_readable : (levels : ℕ) (check : Checks Token) → Readable designs check (ExpressionTree levels) (ExpressionBreak levels) (expression_env levels)
expression_readable levels check = nesting_readable designs designs_calls is_expression unchecked type_env TypeTree BrokenType type_base levels check

-- The laws of the reader of statements: what it reads are the texts of the grammar's rule within the limits.
use Rattle.std.specs.Prelude.{◌≡◌, ℕ, true, [], refl}
use Rattle.ll1_grammar.specs.Rule.{Tree}
use Rattle.ll1_grammar.specs.WithoutLimits.{no_check}
use Rattle.ll1_grammar.specs.Bridge.{Implements}
use Rattle.ll1_grammar.specs.Kinds.{first_set, is_ll1}
use Rattle.design_lex.specs.declared.token.Token.{Token}
use Rattle.design_grammar.specs.Kinds.{word_kind}
use Rattle.design_grammar.specs.Rules.{designs, statement_rule}
use Rattle.channel_types.specs.declared.limits.TheConstants.{OPEN_TYPES}
use Rattle.channel_types.specs.TypeGrammar.{type_of}
use Rattle.design_types.specs.TypeReading.{type_at}
use Rattle.design_tree.specs.declared.statements.Statement.{Statement}
use Rattle.design_expressions.specs.declared.limits.TheConstants.{OPEN_EXPRESSIONS}
use Rattle.design_expressions.specs.ExpressionValues.{expression_of}
use Rattle.design_expressions.specs.ExpressionReading.{expression_at}
use Rattle.design_expressions.specs.ExpressionTrees.{ExpressionTree, ExpressionBreak, expression_env, expression_readable}
use Rattle.design_expressions.specs.WithinLimits.{AreFound, AreRead, AreRefused, are_found, are_read, are_refused}
use Rattle.design_expressions.specs.ExpressionLaw.{type_within_implements, expression_implements}
use Rattle.design_statements.specs.StatementValues.{statement_in}
use Rattle.design_statements.specs.StatementReading.{statement_starts, statement_at}
use Rattle.design_statements.specs.StatementLaw.{statement_implements}

-- the value of the tree of a statement, with so many levels of expressions
abbrev pub statement_of : ℕ → Tree Token → Statement
statement_of levels = statement_in (type_of OPEN_TYPES) (expression_of levels)

-- the reader of statements reads what the grammar's reader does, to each depth of expressions
pub statement_at_implements : (levels : ℕ) → Implements designs no_check (expression_env levels) (statement_at OPEN_TYPES levels) (statement_of levels) statement_rule []
statement_at_implements levels =
    statement_implements no_check (expression_env levels) (ExpressionTree levels) (ExpressionBreak levels) (expression_readable levels no_check) (type_at OPEN_TYPES) (type_of OPEN_TYPES) (expression_at levels) (expression_of levels)
    (type_within_implements levels no_check) (expression_implements levels no_check)

-- A statement begins with these kinds of tokens, and with no others.
abbrev pub StartsKnown : Type 0
StartsKnown = first_set designs statement_rule ≡ statement_starts

-- What is read is the text of a statement, each of these texts is read, and all else is refused where it stops to be one.
abbrev pub StatementsFound : Type 0
StatementsFound = AreFound statement_rule (statement_of OPEN_EXPRESSIONS) (statement_at OPEN_TYPES OPEN_EXPRESSIONS)

abbrev pub StatementsRead : Type 0
StatementsRead = AreRead statement_rule (statement_of OPEN_EXPRESSIONS) (statement_at OPEN_TYPES OPEN_EXPRESSIONS)

abbrev pub OthersRefused : Type 0
OthersRefused = AreRefused statement_rule (statement_of OPEN_EXPRESSIONS) (statement_at OPEN_TYPES OPEN_EXPRESSIONS)

-- one token decides which way the reader goes
pub statements_decided : is_ll1 designs statement_rule ≡ true
unfolding word_kind
statements_decided = refl

pub statements_found : StatementsFound
statements_found = are_found statement_rule (statement_of OPEN_EXPRESSIONS) (statement_at OPEN_TYPES OPEN_EXPRESSIONS) statements_decided (statement_at_implements OPEN_EXPRESSIONS)

pub statements_read : StatementsRead
statements_read = are_read statement_rule (statement_of OPEN_EXPRESSIONS) (statement_at OPEN_TYPES OPEN_EXPRESSIONS) statements_decided (statement_at_implements OPEN_EXPRESSIONS)

pub others_refused : OthersRefused
others_refused = are_refused statement_rule (statement_of OPEN_EXPRESSIONS) (statement_at OPEN_TYPES OPEN_EXPRESSIONS) statements_decided (statement_at_implements OPEN_EXPRESSIONS)

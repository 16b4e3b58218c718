-- What a reader reads, with at most so many types and expressions inside one another as the limits allow: the texts of its
-- rule, and no others.
use Rattle.std.specs.Prelude.{◌≡◌, true, [], Ok, Err}
use Rattle.ll1_grammar.specs.Lexemes.{Lexemes}
use Rattle.ll1_grammar.specs.Rule.{Rule, Tree}
use Rattle.ll1_grammar.specs.Kinds.{is_ll1}
use Rattle.ll1_grammar.specs.declared.refusal.TokenRefusal.{TokenRefusal}
use Rattle.ll1_grammar.specs.Texts.{StopsAt}
use Rattle.ll1_grammar.specs.WithoutLimits.{no_check}
use Rattle.ll1_grammar.specs.WholeTexts.{IsFrontOf, front_found, front_only, front_refused}
use Rattle.ll1_grammar.specs.Readers.{Reader}
use Rattle.ll1_grammar.specs.Bridge.{Implements}
use Rattle.design_lex.specs.declared.token.Token.{Token}
use Rattle.design_grammar.specs.Rules.{designs}
use Rattle.design_expressions.specs.declared.limits.TheConstants.{OPEN_EXPRESSIONS}
use Rattle.design_expressions.specs.ExpressionTrees.{ExpressionTree, ExpressionBreak, expression_env, expression_readable}

-- A text of the rule stands first, as long as it goes, and this is its value: its tree is one of the grammar, all of whose
-- types are good, within the limits.
abbrev pub IsFirst : {A : Type 0} → Rule → (Tree Token → A) → Lexemes Token → A → Lexemes Token → Type 0
IsFirst rule value = IsFrontOf designs no_check (ExpressionTree OPEN_EXPRESSIONS) rule value

-- The refusal is at the first token with which no text of the rule goes on, or at which a limit is broken.
abbrev pub StopsToBe : Rule → Lexemes Token → TokenRefusal → Type 0
StopsToBe rule = StopsAt designs no_check (ExpressionBreak OPEN_EXPRESSIONS) rule

module _ {A : Type 0} (rule : Rule) (value : Tree Token → A) (read : Reader Token A) where
  -- What is read is a text of the rule,
  abbrev pub AreFound : Type 0
  AreFound = (ts : Lexemes Token) (a : A) (rest : Lexemes Token) → read ts ≡ Ok (a, rest) → IsFirst rule value ts a rest

  -- each of these texts is read,
  abbrev pub AreRead : Type 0
  AreRead = (ts : Lexemes Token) (a : A) (rest : Lexemes Token) → IsFirst rule value ts a rest → read ts ≡ Ok (a, rest)

  -- and all else is refused where it stops to be one.
  abbrev pub AreRefused : Type 0
  AreRefused = (ts : Lexemes Token) (refusal : TokenRefusal) → read ts ≡ Err refusal → StopsToBe rule ts refusal

  -- So it is where one token decides which way the rule goes, and the reader reads what the grammar's does.
  module _ (decided : is_ll1 designs rule ≡ true) (implements : Implements designs no_check (expression_env OPEN_EXPRESSIONS) read value rule []) where
    pub are_found : AreFound
    are_found = front_found designs no_check (ExpressionTree OPEN_EXPRESSIONS) (ExpressionBreak OPEN_EXPRESSIONS) (expression_env OPEN_EXPRESSIONS) (expression_readable OPEN_EXPRESSIONS no_check) rule decided value read implements

    pub are_read : AreRead
    are_read = front_only designs no_check (ExpressionTree OPEN_EXPRESSIONS) (ExpressionBreak OPEN_EXPRESSIONS) (expression_env OPEN_EXPRESSIONS) (expression_readable OPEN_EXPRESSIONS no_check) rule decided value read implements

    pub are_refused : AreRefused
    are_refused = front_refused designs no_check (ExpressionTree OPEN_EXPRESSIONS) (ExpressionBreak OPEN_EXPRESSIONS) (expression_env OPEN_EXPRESSIONS) (expression_readable OPEN_EXPRESSIONS no_check) rule decided value read implements

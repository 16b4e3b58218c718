-- What a design text means, by the grammar: the design that it is, or its refusal with its place.
use Rattle.std.specs.Prelude.{◌≡◌, ℕ, List, [], ◌∷◌, length, nat_lt, Result, Ok, Err, if◌then◌else◌}
use Rattle.ll1_grammar.specs.Rule.{Tree}
use Rattle.ll1_grammar.specs.declared.refusal.TokenRefusal.{TokenRefusal}
use Rattle.ll1_grammar.specs.WithoutLimits.{no_check}
use Rattle.ll1_grammar.specs.Parse.{parse}
use Rattle.ll1_grammar.specs.Readers.{Reader, read_to_end}
use Rattle.ll1_grammar.specs.Bridge.{read_of}
use Rattle.ll1_grammar.specs.Texts.{IsText, StopsAt}
use Rattle.esi_base.specs.declared.place.Refusal.{Refusal}
use Rattle.esi_base.specs.declared.stop.Stop.{Stop}
use Rattle.esi_base.specs.declared.stop.Stop.TheVariants.{Refused, NoMemory}
use Rattle.design_lex.specs.declared.token.Token.{Token}
use Rattle.design_lex.specs.Tokens.{tokens}
use Rattle.design_grammar.specs.declared.kind.Kind.TheVariants.{Nothing}
use Rattle.design_grammar.specs.Kinds.{code}
use Rattle.design_grammar.specs.Rules.{designs, design_rule}
use Rattle.channel_types.specs.TypeAnswers.{refusal_at}
use Rattle.design_tree.specs.declared.design.DesignTree.{DesignTree}
use Rattle.design_expressions.specs.ExpressionTrees.{ExpressionTree, ExpressionBreak, expression_env}
use Rattle.design_expressions.specs.declared.limits.TheConstants.{OPEN_EXPRESSIONS}
use Rattle.design_roundtrip.specs.RoundTrip.{design_of_tree}
use Rattle.esi_text.specs.RuleNumbers.{rule_number}
use Rattle.esi_text.specs.declared.limits.TheConstants.{LONGEST_DESIGN}
use Rattle.esi_text.specs.declared.rule.DesignRule.TheVariants.{TooLong}

-- the refusal of a text that is too long
abbrev pub too_long : Refusal
too_long = record { number = rule_number TooLong; place = record { line = 1; column = 1 } }

-- what tokens mean, with a refusal by line and column
abbrev pub meaning_in : List ℕ → Result DesignTree TokenRefusal → Result DesignTree Refusal
meaning_in text (Ok tree) = Ok tree
meaning_in text (Err refusal) = Err (refusal_at text refusal)

-- why a reader of tokens stopped, by line and column
abbrev pub stop_in : List ℕ → Stop TokenRefusal → Stop Refusal
stop_in text (Refused refusal) = Refused (refusal_at text refusal)
stop_in text NoMemory = NoMemory

-- as many types as may be open, and so many expressions, are open at a place at most
module _ (depth : ℕ) where
  -- What lexemes mean: the grammar's own reader (`parse`) reads a design from them, as far as its rule goes. The design is
  -- what the tree says that it reads (`design_of_tree`); else it stops with a refusal.
  unfoldable pub design_by_grammar : Reader Token DesignTree
  design_by_grammar ts = read_of designs (design_of_tree depth) (parse designs no_check (expression_env depth) design_rule [] ts)

  -- The lexemes of a whole text: after the design nothing is left, and what is left there is refused.
  abbrev pub meaning_of_tokens : List ℕ → Result DesignTree TokenRefusal
  meaning_of_tokens text = read_to_end designs (code Nothing ∷ []) (design_by_grammar (tokens text 0))

  -- A text that is too long means that refusal, and each other one what its lexemes mean, by line and column.
  unfoldable pub design_of_depth : List ℕ → Result DesignTree Refusal
  design_of_depth text = if nat_lt LONGEST_DESIGN (length text) then Err too_long else meaning_in text (meaning_of_tokens text)

  -- The text is one of the grammar within its limits, and the design is what its tree says, offsets included.
  pub record IsDesignTextOfDepth (text : List ℕ) (design : DesignTree) : Type 0 where
    pub tree : Tree Token
    pub is_text : IsText designs no_check (ExpressionTree depth) design_rule (tokens text 0) tree
    pub says : design ≡ design_of_tree depth tree

  -- The text stops to be a design: at the first token with which no text of the grammar goes on, by all the kinds that
  -- may stand there, or at which a limit of types or expressions is broken.
  pub record StopsToBeDesignOfDepth (text : List ℕ) (refusal : Refusal) : Type 0 where
    pub token_refusal : TokenRefusal
    pub stops : StopsAt designs no_check (ExpressionBreak depth) design_rule (tokens text 0) token_refusal
    pub is_reported : refusal ≡ refusal_at text token_refusal

-- what a design text means
abbrev pub design_of : List ℕ → Result DesignTree Refusal
design_of = design_of_depth OPEN_EXPRESSIONS

-- this is the design of the text
abbrev pub IsDesignText : List ℕ → DesignTree → Type 0
IsDesignText = IsDesignTextOfDepth OPEN_EXPRESSIONS

-- with this refusal the text stops to be a design
abbrev pub StopsToBeDesign : List ℕ → Refusal → Type 0
StopsToBeDesign = StopsToBeDesignOfDepth OPEN_EXPRESSIONS

-- No text has two designs.
abbrev pub OneDesign : Type 0
OneDesign = (text : List ℕ) (a b : DesignTree) → IsDesignText text a → IsDesignText text b → a ≡ b

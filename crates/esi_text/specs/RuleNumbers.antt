-- The numbers with which a design text is refused.
use Rattle.std.specs.Prelude.{ℕ, List, [], ◌∷◌, ◌++◌, map, Contains}
use Rattle.design_lex.specs.RuleNumbers.{rule_number as lexical_number}
use Rattle.design_lex.specs.declared.token.LexicalRule.TheVariants.{UnknownOctet, LongWord, BadNumber}
use Rattle.design_grammar.specs.RuleNumbers.{rule_number as grammar_number}
use Rattle.design_grammar.specs.declared.rule.GrammarRule.TheVariants.{TooManyOpenTypes, GreatCount, UnexpectedToken, EarlyEnd, ReservedWord, TooManyOpenExpressions, UnknownVersion}
use Rattle.channel_types.specs.TypeRules.{rule_number as type_number}
use Rattle.channel_types.specs.declared.type_rule.TypeRule.TheVariants.{WidthOutOfRange, RepeatedField}
use Rattle.esi_text.specs.declared.rule.DesignRule.{DesignRule}
use Rattle.esi_text.specs.declared.rule.DesignRule.TheVariants.{TooLong}

-- the number of the rule of a whole text
abbrev pub rule_number : DesignRule → ℕ
rule_number TooLong = 210

-- the numbers of refusals at a token or at the end: all rules of types, of tokens and of the grammar
abbrev pub token_numbers : List ℕ
token_numbers =
    map type_number (WidthOutOfRange ∷ RepeatedField ∷ [])
    ++ map lexical_number (UnknownOctet ∷ LongWord ∷ BadNumber ∷ [])
    ++ map grammar_number (TooManyOpenTypes ∷ GreatCount ∷ UnexpectedToken ∷ EarlyEnd ∷ ReservedWord ∷ TooManyOpenExpressions ∷ UnknownVersion ∷ [])

-- a design text is refused with one of these, or for its length
abbrev pub IsDesignNumber : ℕ → Type 0
IsDesignNumber number = Contains (rule_number TooLong ∷ token_numbers) number

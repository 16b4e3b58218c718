-- The numbers of the grammar's rules, and which numbers are of tokens.
use Rattle.std.specs.Prelude.{◌≡◌, ℕ, ◌⊎◌}
use Rattle.design_lex.specs.declared.token.LexicalRule.{LexicalRule}
use Rattle.design_lex.specs.RuleNumbers.{rule_number as lexical_number}
use Rattle.design_grammar.specs.declared.rule.GrammarRule.{GrammarRule}
use Rattle.design_grammar.specs.declared.rule.GrammarRule.TheVariants.{TooManyOpenTypes, GreatCount, UnexpectedToken, EarlyEnd, ReservedWord, TooManyOpenExpressions, UnknownVersion}

abbrev pub rule_number : GrammarRule → ℕ
rule_number TooManyOpenTypes = 103
rule_number GreatCount = 203
rule_number UnexpectedToken = 205
rule_number EarlyEnd = 206
rule_number ReservedWord = 207
rule_number TooManyOpenExpressions = 208
rule_number UnknownVersion = 209

-- a rule of tokens or of the grammar has the number: it is broken at one token, at which the refusal is reported
abbrev pub IsTokenRule : ℕ → Type 0
IsTokenRule n = ((rule : GrammarRule) × (n ≡ rule_number rule)) ⊎ ((rule : LexicalRule) × (n ≡ lexical_number rule))

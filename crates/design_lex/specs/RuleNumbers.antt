-- The numbers of the rules of tokens.
use Rattle.std.specs.Prelude.{ℕ}
use Rattle.design_lex.specs.declared.token.LexicalRule.{LexicalRule}
use Rattle.design_lex.specs.declared.token.LexicalRule.TheVariants.{UnknownOctet, LongWord, BadNumber}

abbrev pub rule_number : LexicalRule → ℕ
rule_number UnknownOctet = 201
rule_number LongWord = 202
rule_number BadNumber = 203

-- The numbers of the rules of tokens, and which rule a token breaks where it may not stand.
use Rattle.std.specs.Prelude.{ℕ}
use Rattle.verilog_lex.specs.declared.rule.TokenRule.{TokenRule}
use Rattle.verilog_lex.specs.declared.rule.TokenRule.TheVariants.{Unexpected, EarlyEnd, UnknownOctet, ConstantDigits, ConstantWidth}
use Rattle.verilog_tokens.specs.declared.token.ConstantFault.TheVariants.{Width, Digits}
use Rattle.verilog_tokens.specs.declared.token.Token.{Token}
use Rattle.verilog_tokens.specs.declared.token.Token.TheVariants as T

abbrev pub rule_number : TokenRule → ℕ
rule_number Unexpected = 601
rule_number EarlyEnd = 602
rule_number UnknownOctet = 603
rule_number ConstantDigits = 604
rule_number ConstantWidth = 605

-- what is wrong with the token itself comes first
abbrev pub rule_of : Token → TokenRule
rule_of T.EndOfText = EarlyEnd
rule_of T.Faulty = UnknownOctet
rule_of (T.BadConstant Digits) = ConstantDigits
rule_of (T.BadConstant Width) = ConstantWidth
rule_of _ = Unexpected

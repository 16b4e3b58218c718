-- Which rule a token breaks where something else is due.
use Rattle.std.specs.Prelude.{ℕ, nat_lt, if◌then◌else◌}
use Rattle.verilog_lex.specs.RuleNumbers.{rule_of}
use Rattle.verilog_lex.specs.declared.rule.TokenRule.{TokenRule}
use Rattle.verilog_lex.specs.declared.rule.TokenRule.TheVariants.{Unexpected}
use Rattle.verilog_rules.specs.declared.due.Due.{Due}
use Rattle.verilog_rules.specs.declared.due.Due.TheVariants as D
use Rattle.verilog_rules.specs.declared.rule.ReadingRule.{ReadingRule}
use Rattle.verilog_rules.specs.declared.rule.ReadingRule.TheVariants as R
use Rattle.verilog_tokens.specs.declared.token.Keyword.TheVariants.{Assign}
use Rattle.verilog_tokens.specs.declared.token.Sign.TheVariants.{Comma, RightParenthesis}
use Rattle.verilog_tokens.specs.declared.token.Token.{Token}
use Rattle.verilog_tokens.specs.declared.token.Token.TheVariants as T

-- the rule that the token breaks by itself
abbrev pub by_itself : Token → ReadingRule
by_itself token = R.Token (rule_of token)

-- where the name of a net that is declared is due, every other word is out of order
abbrev pub as_declaration : Token → ReadingRule
as_declaration (T.Keyword keyword) = R.Declaration
as_declaration (T.Net n) = R.Declaration
as_declaration (T.Port port) = R.Declaration
as_declaration T.Clock = R.Declaration
as_declaration T.Reset = R.Declaration
as_declaration (T.Title title) = R.Declaration
as_declaration T.Other = R.Declaration
as_declaration token = by_itself token

abbrev pub driving_for : TokenRule → ReadingRule
driving_for Unexpected = R.Driving
driving_for rule = R.Token rule

-- where a driver is due, something is not driven
abbrev pub as_driver : Token → ReadingRule
as_driver token = driving_for (rule_of token)

-- where the name of a net that is driven is due, so many nets being declared
abbrev pub as_driven : ℕ → Token → ReadingRule
as_driven declared (T.Net n) = if nat_lt n declared then R.Driving else R.Undeclared
as_driven declared (T.Title title) = R.Undeclared
as_driven declared T.Other = R.Undeclared
as_driven declared token = by_itself token

-- where an operand is due, so many nets being declared
abbrev pub as_operand : ℕ → Token → ReadingRule
as_operand declared (T.Net n) = if nat_lt n declared then R.Unassigned else R.Undeclared
as_operand declared (T.Title title) = R.Undeclared
as_operand declared T.Other = R.Undeclared
as_operand declared token = by_itself token

-- where a port of the module line is due, another port does not agree with the comments
abbrev pub as_port_name : Token → ReadingRule
as_port_name (T.Port port) = R.EndpointLine
as_port_name token = by_itself token

-- where `,` or `)` is due behind a port, the other one does not agree with the comments
abbrev pub as_port_end : Token → ReadingRule
as_port_end (T.Sign Comma) = R.EndpointLine
as_port_end (T.Sign RightParenthesis) = R.EndpointLine
as_port_end token = by_itself token

-- where all is driven, a further `assign` drives something twice
abbrev pub as_all_driven : Token → ReadingRule
as_all_driven (T.Keyword Assign) = R.Driving
as_all_driven token = by_itself token

-- the rule that a token breaks which is not what is due
abbrev pub broken_by : Due → Token → ReadingRule
broken_by D.Token token = by_itself token
broken_by D.Declaration token = as_declaration token
broken_by D.Driver token = as_driver token
broken_by (D.Driven declared) token = as_driven declared token
broken_by (D.Operand declared) token = as_operand declared token
broken_by D.PortName token = as_port_name token
broken_by D.PortEnd token = as_port_end token
broken_by D.AllDriven token = as_all_driven token

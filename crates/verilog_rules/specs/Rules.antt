-- The numbers of the rules.
use Rattle.std.specs.Prelude.{ℕ}
use Rattle.verilog_lex.specs.RuleNumbers.{rule_number}
use Rattle.verilog_rules.specs.declared.rule.ReadingRule.{ReadingRule}
use Rattle.verilog_rules.specs.declared.rule.ReadingRule.TheVariants.{Token, Width, Undeclared, Declaration, Driving, Widths, Unassigned, EndpointLine, TooMany}

abbrev pub number_of : ReadingRule → ℕ
number_of (Token rule) = rule_number rule
number_of Width = 605
number_of Undeclared = 606
number_of Declaration = 607
number_of Driving = 608
number_of Widths = 609
number_of Unassigned = 610
number_of EndpointLine = 611
number_of TooMany = 612

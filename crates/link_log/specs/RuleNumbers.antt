-- The numbers by which a broken rule of a log is reported.
use Rattle.std.specs.Prelude.{ℕ}
use Rattle.link_log.specs.declared.rule.LogRule.{LogRule}
use Rattle.link_log.specs.declared.rule.LogRule.TheVariants.{TooLong, UnknownWord, PartCount, BadPart, NotOpen, NeverOpened, PastLimit}

abbrev pub rule_number : LogRule → ℕ
rule_number TooLong = 210
rule_number UnknownWord = 901
rule_number PartCount = 902
rule_number BadPart = 903
rule_number NotOpen = 904
rule_number NeverOpened = 905
rule_number PastLimit = 906

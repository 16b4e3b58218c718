-- The numbers by which a broken rule of a schedule is reported.
use Rattle.std.specs.Prelude.{ℕ}
use Rattle.schedule_text.specs.declared.rule.ScheduleRule.{ScheduleRule}
use Rattle.schedule_text.specs.declared.rule.ScheduleRule.TheVariants.{TooLong, UnknownWord, PartCount, BadPart, PastLimit}

abbrev pub rule_number : ScheduleRule → ℕ
rule_number TooLong = 210
rule_number UnknownWord = 911
rule_number PartCount = 912
rule_number BadPart = 913
rule_number PastLimit = 914

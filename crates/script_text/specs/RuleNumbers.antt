-- The numbers by which a broken rule of a script is reported.
use Rattle.std.specs.Prelude.{ℕ}
use Rattle.script_text.specs.declared.rule.ScriptRule.{ScriptRule}
use Rattle.script_text.specs.declared.rule.ScriptRule.TheVariants.{TooLong, UnknownWord, PartCount, BadPart, AttachAfterSend, NotAttached, PastLimit}

abbrev pub rule_number : ScriptRule → ℕ
rule_number TooLong = 210
rule_number UnknownWord = 801
rule_number PartCount = 802
rule_number BadPart = 803
rule_number AttachAfterSend = 804
rule_number NotAttached = 805
rule_number PastLimit = 806

-- The numbers by which a broken rule of a stimulus is reported.
use Rattle.std.specs.Prelude.{ℕ}
use Rattle.stimulus_text.specs.declared.rule.StimulusRule.{StimulusRule}
use Rattle.stimulus_text.specs.declared.rule.StimulusRule.TheVariants.{TooLong, UnknownWord, PartCount, BadPart, UnknownEndpoint, NoValue, PastLimit}

abbrev pub rule_number : StimulusRule → ℕ
rule_number TooLong = 210
rule_number UnknownWord = 221
rule_number PartCount = 222
rule_number BadPart = 223
rule_number UnknownEndpoint = 224
rule_number NoValue = 225
rule_number PastLimit = 226

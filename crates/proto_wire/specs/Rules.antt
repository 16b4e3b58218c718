-- The number of each rule of fields and of messages.
use Rattle.std.specs.Prelude.{ℕ}
use Rattle.proto_wire.specs.declared.rule.WireRule.{WireRule}
use Rattle.proto_wire.specs.declared.rule.WireRule.TheVariants.{CutShort, OversizedVarint, WireType, FieldNumber, NotUtf8}

abbrev pub rule_number : WireRule → ℕ
rule_number CutShort = 701
rule_number OversizedVarint = 702
rule_number WireType = 703
rule_number FieldNumber = 704
rule_number NotUtf8 = 705

-- Worked octets: what the definitions make of them.
use Rattle.std.specs.Prelude.{◌≡◌, ℕ, Result, Ok, Err, List, [], ◌∷◌, refl}
use Rattle.proto_wire.specs.declared.field.WireRefusal.{WireRefusal}
use Rattle.proto_wire.specs.declared.rule.WireRule.TheVariants.{CutShort}
use Rattle.proto_wire.specs.Rules.{rule_number}
use Rattle.proto_wire.specs.Varint.{number_of_groups}
use Rattle.proto_wire.specs.FieldReading.{varint_at, number_of_key, varint_value_at, fixed64_at, fixed32_at, span_at, value_at, field_from, field_at}
use Rattle.proto_wire.specs.AllFields.{fields_from, fields_of, steps_over, read_on}
use Rattle.cosim_msgs.specs.declared.channel_desc.ChannelDesc.{ChannelDesc}
use Rattle.cosim_msgs.specs.declared.list_of_channels.ListOfChannels.{ListOfChannels}
use Rattle.cosim_msgs.specs.declared.addressed_message.AddressedMessage.{AddressedMessage}
use Rattle.cosim_msgs.specs.Reading.{run}
use Rattle.cosim_msgs.specs.Messages.{empty_desc, empty_list, empty_addressed}
use Rattle.cosim_msgs.specs.Steps.{desc_step, list_step, addressed_step}

abbrev addressed_in : List ℕ → Result AddressedMessage WireRefusal
addressed_in octets = run (addressed_step octets) empty_addressed octets 0

abbrev list_in : List ℕ → Result ListOfChannels WireRefusal
list_in octets = run (list_step octets) empty_list octets 0

abbrev addressed_of : List ℕ → List ℕ → AddressedMessage
addressed_of name octets = record { channel_name = name; message = record { octets = octets } }

abbrev desc_in : List ℕ → Result ChannelDesc WireRefusal
desc_in octets = run (desc_step octets) empty_desc octets 0

-- The second message, which is empty, leaves what the first one said. A channel ends where it says: its own octets end inside
-- a field, at the offset in all the octets. A direction of 2^32 + 1 is 1, after a field 15 that is skipped.
pub reading_examples :
    (addressed_in (18 ∷ 3 ∷ 10 ∷ 1 ∷ 1 ∷ 18 ∷ 0 ∷ []) ≡ Ok (addressed_of [] (1 ∷ [])))
    × (list_in (10 ∷ 2 ∷ 10 ∷ 5 ∷ 97 ∷ 98 ∷ 99 ∷ 100 ∷ 101 ∷ []) ≡ Err (record { number = rule_number CutShort; at = 2 }))
    × (desc_in (120 ∷ 1 ∷ 16 ∷ 129 ∷ 128 ∷ 128 ∷ 128 ∷ 16 ∷ []) ≡ Ok (record { name = []; dir = 1; ty = [] }))
unfolding number_of_groups varint_at number_of_key varint_value_at fixed64_at fixed32_at span_at value_at field_from field_at fields_from fields_of steps_over read_on desc_step list_step addressed_step
reading_examples = (refl, refl, refl)

-- What one field makes of each message, as the code goes: the answers of the readers.
use Rattle.std.specs.Prelude.{ℕ, Option, Some, None, List, [], ◌∷◌, ◌++◌, take, Bool, true, false, Result, Ok, Err}
use Rattle.std.specs.Str.{is_utf8}
use Rattle.proto_wire.specs.declared.field.WireRefusal.{WireRefusal}
use Rattle.esi_base.specs.Answers.{◌>>=◌}
use Rattle.proto_wire.specs.AllFields.{Step}
use Rattle.cosim_msgs.specs.declared.data_message.TheConstants.{DATA}
use Rattle.cosim_msgs.specs.declared.channel_desc.TheConstants.{NAME, DIR, TYPE}
use Rattle.cosim_msgs.specs.declared.list_of_channels.TheConstants.{CHANNELS}
use Rattle.cosim_msgs.specs.declared.addressed_message.TheConstants.{CHANNEL_NAME, MESSAGE}
use Rattle.cosim_msgs.specs.declared.octet_range.OctetRange.{OctetRange}
use Rattle.cosim_msgs.specs.declared.void_message.VoidMessage.{VoidMessage}
use Rattle.cosim_msgs.specs.declared.data_message.Message.{Message}
use Rattle.cosim_msgs.specs.declared.channel_desc.ChannelDesc.{ChannelDesc}
use Rattle.cosim_msgs.specs.declared.list_of_channels.ListOfChannels.{ListOfChannels}
use Rattle.cosim_msgs.specs.declared.addressed_message.AddressedMessage.{AddressedMessage}
use Rattle.cosim_msgs.specs.Values.{varint_as, span_as, octets_as, low_32}
use Rattle.cosim_msgs.specs.Reading.{run}
use Rattle.cosim_msgs.specs.Messages.{not_utf8, empty_desc}

-- the octets that a field gives, or those from before
abbrev pub octets_or : List ℕ → Option (List ℕ) → List ℕ
octets_or before None = before
octets_or before (Some octets) = octets

-- octets that were tested to be UTF-8
abbrev pub text_if_utf8 : ℕ → List ℕ → Bool → Result (List ℕ) WireRefusal
text_if_utf8 at octets true = Ok octets
text_if_utf8 at octets false = Err (not_utf8 at)

-- the same of octets that have to be UTF-8
abbrev pub text_or : ℕ → List ℕ → Option (List ℕ) → Result (List ℕ) WireRefusal
text_or at before None = Ok before
text_or at before (Some text) = text_if_utf8 at text (is_utf8 text)

abbrev pub dir_or : ℕ → Option ℕ → ℕ
dir_or before None = before
dir_or before (Some n) = low_32 n

abbrev pub void_step : Step VoidMessage
void_step before entry = Ok before

abbrev pub message_step : List ℕ → Step Message
message_step octets before entry = Ok (record { octets = octets_or before.octets (octets_as octets DATA entry.field) })

unfoldable pub desc_step : List ℕ → Step ChannelDesc
desc_step octets before entry = do
  name ← text_or entry.at before.name (octets_as octets NAME entry.field)
  ty ← text_or entry.at before.ty (octets_as octets TYPE entry.field)
  Ok (record { name = name; dir = dir_or before.dir (varint_as DIR entry.field); ty = ty })

-- the description at an offset, to be added
abbrev pub channels_with : List ℕ → List ChannelDesc → Option OctetRange → Result (List ChannelDesc) WireRefusal
channels_with octets channels None = Ok channels
channels_with octets channels (Some within) = run (desc_step (take within.to octets)) empty_desc (take within.to octets) within.from >>= λ desc. Ok (channels ++ desc ∷ [])

unfoldable pub list_step : List ℕ → Step ListOfChannels
list_step octets before entry = channels_with octets before.channels (span_as CHANNELS entry.field) >>= λ channels. Ok (record { channels = channels })

-- the message goes on in the embedded one
abbrev pub message_with : List ℕ → Message → Option OctetRange → Result Message WireRefusal
message_with octets before None = Ok before
message_with octets before (Some within) = run (message_step (take within.to octets)) before (take within.to octets) within.from

unfoldable pub addressed_step : List ℕ → Step AddressedMessage
addressed_step octets before entry = do
  name ← text_or entry.at before.channel_name (octets_as octets CHANNEL_NAME entry.field)
  message ← message_with octets before.message (span_as MESSAGE entry.field)
  Ok (record { channel_name = name; message = message })

-- The five messages: what fields say of each, and which fields it refuses.
use Rattle.std.specs.Prelude.{◌≡◌, ℕ, ◌⊎◌, Some, List, [], ◌∷◌, ◌++◌, All, map, take}
use Rattle.std.specs.List.{AllZip}
use Rattle.std.specs.Str.{IsUtf8}
use Rattle.proto_wire.specs.declared.field.WireRefusal.{WireRefusal}
use Rattle.proto_wire.specs.declared.rule.WireRule.TheVariants.{NotUtf8}
use Rattle.proto_wire.specs.Rules.{rule_number}
use Rattle.proto_wire.specs.AllFields.{FieldEntry}
use Rattle.cosim_msgs.specs.declared.data_message.TheConstants.{DATA}
use Rattle.cosim_msgs.specs.declared.channel_desc.TheConstants.{NAME, DIR, TYPE}
use Rattle.cosim_msgs.specs.declared.list_of_channels.TheConstants.{CHANNELS}
use Rattle.cosim_msgs.specs.declared.addressed_message.TheConstants.{CHANNEL_NAME, MESSAGE}
use Rattle.cosim_msgs.specs.declared.octet_range.OctetRange.{OctetRange}
use Rattle.cosim_msgs.specs.declared.void_message.VoidMessage.{VoidMessage}
use Rattle.cosim_msgs.specs.declared.data_message.Message.{Message}
use Rattle.cosim_msgs.specs.declared.channel_desc.ChannelDesc.{ChannelDesc}
use Rattle.cosim_msgs.specs.declared.list_of_channels.ListOfChannels.{ListOfChannels}
use Rattle.cosim_msgs.specs.declared.addressed_message.AddressedMessage.{AddressedMessage}
use Rattle.cosim_msgs.specs.Values.{span_as, octets_as, varints, spans, octet_strings, last_of, low_32}
use Rattle.cosim_msgs.specs.Reading.{Encodes, Refuses}

-- ---- names and types are UTF-8

abbrev pub not_utf8 : ℕ → WireRefusal
not_utf8 at = record { number = rule_number NotUtf8; at = at }

-- a field gives octets to the one of a number, and they are not UTF-8
pub record IsNoText (octets : List ℕ) (number : ℕ) (entry : FieldEntry) (refusal : WireRefusal) : Type 0 where
  pub text : List ℕ
  pub given : octets_as octets number entry.field ≡ Some text
  pub broken : IsUtf8 text → ⊥
  pub refusal_is : refusal ≡ not_utf8 entry.at

-- ---- the message without fields: whatever fields stand there say nothing, and none is faulty

abbrev pub void_message : VoidMessage
void_message = record {}

abbrev pub VoidSays : VoidMessage → List FieldEntry → VoidMessage → Type 0
VoidSays before fields message = before ≡ message

abbrev pub NoFault : FieldEntry → WireRefusal → Type 0
NoFault entry refusal = ⊥

-- ---- what a channel carries: field 1 is the data, of which the last wins

abbrev pub empty_message : Message
empty_message = record { octets = [] }

abbrev pub MessageSays : List ℕ → Message → List FieldEntry → Message → Type 0
MessageSays octets before fields message = message.octets ≡ last_of before.octets (octet_strings octets DATA fields)

-- ---- the description of a channel: field 1 is the name, 2 the direction, 3 the type; the last of each wins, and every name and
-- type is UTF-8, also one that does not win

abbrev pub empty_desc : ChannelDesc
empty_desc = record { name = []; dir = 0; ty = [] }

pub record DescSays (octets : List ℕ) (before : ChannelDesc) (fields : List FieldEntry) (desc : ChannelDesc) : Type 0 where
  pub names : All IsUtf8 (octet_strings octets NAME fields)
  pub name : desc.name ≡ last_of before.name (octet_strings octets NAME fields)
  pub dir : desc.dir ≡ last_of before.dir (map low_32 (varints DIR fields))
  pub types : All IsUtf8 (octet_strings octets TYPE fields)
  pub ty : desc.ty ≡ last_of before.ty (octet_strings octets TYPE fields)

abbrev pub DescFaulty : List ℕ → FieldEntry → WireRefusal → Type 0
DescFaulty octets entry refusal = IsNoText octets NAME entry refusal ⊎ IsNoText octets TYPE entry refusal

-- the octets from an offset on are a channel's description
abbrev pub IsChannelDesc : List ℕ → ℕ → ChannelDesc → Type 0
IsChannelDesc octets at desc = Encodes (DescSays octets) empty_desc octets at desc

abbrev pub RefusesDesc : List ℕ → ℕ → WireRefusal → Type 0
RefusesDesc octets at refusal = Refuses (DescSays octets) (DescFaulty octets) empty_desc octets at refusal

-- ---- the list of channels: each field 1 is a channel, in order, and the octets of each are a description of its own

pub record ListSays (octets : List ℕ) (before : ListOfChannels) (fields : List FieldEntry) (list : ListOfChannels) : Type 0 where
  pub channels : List ChannelDesc
  pub each : AllZip (λ within desc. IsChannelDesc (take within.to octets) within.from desc) (spans CHANNELS fields) channels
  pub joined : list.channels ≡ before.channels ++ channels

pub record ListFaulty (octets : List ℕ) (entry : FieldEntry) (refusal : WireRefusal) : Type 0 where
  pub within : OctetRange
  pub given : span_as CHANNELS entry.field ≡ Some within
  pub refused : RefusesDesc (take within.to octets) within.from refusal

abbrev pub list_of : List ChannelDesc → ListOfChannels
list_of channels = record { channels = channels }

abbrev pub empty_list : ListOfChannels
empty_list = record { channels = [] }

-- ---- a message for a channel: field 1 is the channel's name, and each field 2 a message. These are merged: each goes on with
-- what those before it said, as if their octets stood one after another

abbrev pub Merges : List ℕ → Message → List OctetRange → Message → Type 0
Merges octets before [] message = before ≡ message
Merges octets before (within ∷ others) message =
    (next : Message) × Encodes (MessageSays (take within.to octets)) before (take within.to octets) within.from next × Merges octets next others message

pub record AddressedSays (octets : List ℕ) (before : AddressedMessage) (fields : List FieldEntry) (addressed : AddressedMessage) : Type 0 where
  pub names : All IsUtf8 (octet_strings octets CHANNEL_NAME fields)
  pub name : addressed.channel_name ≡ last_of before.channel_name (octet_strings octets CHANNEL_NAME fields)
  pub message : Merges octets before.message (spans MESSAGE fields) addressed.message

pub record MessageFaulty (octets : List ℕ) (entry : FieldEntry) (refusal : WireRefusal) : Type 0 where
  pub within : OctetRange
  pub given : span_as MESSAGE entry.field ≡ Some within
  pub refused : Refuses (MessageSays (take within.to octets)) NoFault empty_message (take within.to octets) within.from refusal

abbrev pub AddressedFaulty : List ℕ → FieldEntry → WireRefusal → Type 0
AddressedFaulty octets entry refusal = IsNoText octets CHANNEL_NAME entry refusal ⊎ MessageFaulty octets entry refusal

abbrev pub empty_addressed : AddressedMessage
empty_addressed = record { channel_name = []; message = empty_message }

-- ---- which octets are a message, and which are refused

abbrev pub IsDataMessage : List ℕ → ℕ → Message → Type 0
IsDataMessage octets at message = Encodes (MessageSays octets) empty_message octets at message

abbrev pub RefusesMessage : List ℕ → ℕ → WireRefusal → Type 0
RefusesMessage octets at refusal = Refuses (MessageSays octets) NoFault empty_message octets at refusal

abbrev pub IsListOfChannels : List ℕ → ℕ → ListOfChannels → Type 0
IsListOfChannels octets at list = Encodes (ListSays octets) empty_list octets at list

abbrev pub RefusesList : List ℕ → ℕ → WireRefusal → Type 0
RefusesList octets at refusal = Refuses (ListSays octets) (ListFaulty octets) empty_list octets at refusal

abbrev pub IsAddressedMessage : List ℕ → ℕ → AddressedMessage → Type 0
IsAddressedMessage octets at addressed = Encodes (AddressedSays octets) empty_addressed octets at addressed

abbrev pub RefusesAddressed : List ℕ → ℕ → WireRefusal → Type 0
RefusesAddressed octets at refusal = Refuses (AddressedSays octets) (AddressedFaulty octets) empty_addressed octets at refusal

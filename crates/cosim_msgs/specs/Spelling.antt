-- How messages are written: fields in order of number, scalars of their default left out (docs/messages.md).
use Rattle.std.specs.Prelude.{◌≡◌, ◌≤◌, ℕ, zero, suc, List, [], ◌∷◌, ◌++◌, All, refl, codes}
use Rattle.std.specs.List.{flat_map}
use Rattle.std.specs.Str.{IsUtf8}
use Rattle.proto_wire.specs.Written.{groups_of, varint_of, varint_field, span_field}
use Rattle.cosim_msgs.specs.declared.data_message.TheConstants.{DATA}
use Rattle.cosim_msgs.specs.declared.channel_desc.TheConstants.{NAME, DIR, TYPE}
use Rattle.cosim_msgs.specs.declared.list_of_channels.TheConstants.{CHANNELS}
use Rattle.cosim_msgs.specs.declared.addressed_message.TheConstants.{CHANNEL_NAME, MESSAGE}
use Rattle.cosim_msgs.specs.declared.void_message.VoidMessage.{VoidMessage}
use Rattle.cosim_msgs.specs.declared.data_message.Message.{Message}
use Rattle.cosim_msgs.specs.declared.channel_desc.ChannelDesc.{ChannelDesc}
use Rattle.cosim_msgs.specs.declared.list_of_channels.ListOfChannels.{ListOfChannels}
use Rattle.cosim_msgs.specs.declared.addressed_message.AddressedMessage.{AddressedMessage}

-- a field of octets, and one of a varint, which are left out where they have their default
abbrev pub octets_field : ℕ → List ℕ → List ℕ
octets_field number [] = []
octets_field number (octet ∷ octets) = span_field number (octet ∷ octets)

abbrev pub number_field : ℕ → ℕ → List ℕ
number_field number zero = []
number_field number (suc n) = varint_field number (suc n)

abbrev pub void_spelling : VoidMessage → List ℕ
void_spelling message = []

abbrev pub message_spelling : Message → List ℕ
message_spelling message = octets_field DATA message.octets

abbrev pub desc_spelling : ChannelDesc → List ℕ
desc_spelling desc = octets_field NAME desc.name ++ (number_field DIR desc.dir ++ octets_field TYPE desc.ty)

-- each channel is an embedded message
abbrev pub channel_field : ChannelDesc → List ℕ
channel_field desc = span_field CHANNELS (desc_spelling desc)

abbrev pub channels_spelling : List ChannelDesc → List ℕ
channels_spelling channels = flat_map channel_field channels

abbrev pub list_spelling : ListOfChannels → List ℕ
list_spelling list = channels_spelling list.channels

-- an embedded message is written also where it has no octets
abbrev pub addressed_spelling : AddressedMessage → List ℕ
addressed_spelling addressed = octets_field CHANNEL_NAME addressed.channel_name ++ span_field MESSAGE (message_spelling addressed.message)

-- A description may be written where its direction is one of the two.
abbrev pub IsWritableDesc : ChannelDesc → Type 0
IsWritableDesc desc = desc.dir ≤ 1

abbrev pub IsWritableList : ListOfChannels → Type 0
IsWritableList list = All IsWritableDesc list.channels

-- names and types are UTF-8
abbrev pub HasTexts : ChannelDesc → Type 0
HasTexts desc = IsUtf8 desc.name × IsUtf8 desc.ty

abbrev pub HasTextsList : ListOfChannels → Type 0
HasTextsList list = All HasTexts list.channels

abbrev pub HasTextsAddressed : AddressedMessage → Type 0
HasTextsAddressed addressed = IsUtf8 addressed.channel_name

-- the list of a pipe of octets: in towards the server, whose direction is left out, and out towards the client
pub spelling_examples :
    (list_spelling (record { channels = record { name = codes "in"; dir = 0; ty = codes "ui8" } ∷ record { name = codes "out"; dir = 1; ty = codes "ui8" } ∷ [] })
    ≡ 10 ∷ 9 ∷ 10 ∷ 2 ∷ 105 ∷ 110 ∷ 26 ∷ 3 ∷ 117 ∷ 105 ∷ 56 ∷ 10 ∷ 12 ∷ 10 ∷ 3 ∷ 111 ∷ 117 ∷ 116 ∷ 16 ∷ 1 ∷ 26 ∷ 3 ∷ 117 ∷ 105 ∷ 56 ∷ [])
    × (addressed_spelling (record { channel_name = []; message = record { octets = [] } }) ≡ 18 ∷ 0 ∷ [])
unfolding groups_of varint_of varint_field span_field
spelling_examples = (refl, refl)

-- Messages whose octets stand in octets that were given, as the messages that they are.
use Rattle.std.specs.Prelude.{ℕ, List}
use Rattle.std.specs.Borrow.{Bor}
use Rattle.cosim_msgs.specs.declared.data_message.Message.{Message}
use Rattle.cosim_msgs.specs.declared.channel_desc.ChannelDesc.{ChannelDesc}
use Rattle.cosim_msgs.specs.declared.channel_desc.BorrowedDesc.{BorrowedDesc}
use Rattle.cosim_msgs.specs.declared.addressed_message.AddressedMessage.{AddressedMessage}
use Rattle.cosim_msgs.specs.declared.addressed_message.BorrowedAddressed.{BorrowedAddressed}

abbrev pub message_of : List ℕ → Message
message_of octets = record { octets = octets }

abbrev pub message_view : Bor (List ℕ) → Message
message_view octets = message_of octets.now

abbrev pub desc_view : BorrowedDesc → ChannelDesc
desc_view desc = record { name = desc.name.now; dir = desc.dir; ty = desc.ty.now }

abbrev pub addressed_view : BorrowedAddressed → AddressedMessage
addressed_view addressed = record { channel_name = addressed.channel_name.now; message = message_of addressed.message.now }

-- What ListChannels answers.
use Rattle.std.specs.Prelude.{ℕ, ◌++◌, map}
use Rattle.channel_types.specs.Text.{text_of}
use Rattle.esi_types.specs.declared.directory.Directory.{Directory}
use Rattle.esi_types.specs.declared.endpoint.Endpoint.{Endpoint}
use Rattle.cosim_msgs.specs.declared.channel_desc.ChannelDesc.{ChannelDesc}
use Rattle.cosim_msgs.specs.declared.list_of_channels.ListOfChannels.{ListOfChannels}
use Rattle.grpc_calls.specs.declared.listing.TheConstants.{TO_SERVER, TO_CLIENT}

-- an endpoint of a side as a channel: its name, its direction, and the text of its type
abbrev pub desc_of : ℕ → Endpoint → ChannelDesc
desc_of dir endpoint = record { name = endpoint.name; dir = dir; ty = text_of endpoint.ty }

-- all channels, those to the server first
abbrev pub listing_of : Directory → ListOfChannels
listing_of directory = record { channels = map (desc_of TO_SERVER) directory.to_server ++ map (desc_of TO_CLIENT) directory.to_client }

-- The procedures of the service `esi.cosim.ChannelServer`, and their paths ("gRPC over HTTP/2", Path: the service's name and
-- the procedure's, a slash before each).
use Rattle.std.specs.Prelude.{ℕ, Option, Some, None, List, bytes_eq, codes, if◌then◌else◌}
use Rattle.grpc_calls.specs.declared.procedure.Procedure.{Procedure}
use Rattle.grpc_calls.specs.declared.procedure.Procedure.TheVariants.{GetManifest, ListChannels, SendToServer, ConnectToClientChannel}

abbrev pub path_of : Procedure → List ℕ
path_of GetManifest = codes "/esi.cosim.ChannelServer/GetManifest"
path_of ListChannels = codes "/esi.cosim.ChannelServer/ListChannels"
path_of SendToServer = codes "/esi.cosim.ChannelServer/SendToServer"
path_of ConnectToClientChannel = codes "/esi.cosim.ChannelServer/ConnectToClientChannel"

-- the procedure of a path
abbrev pub procedure_at : List ℕ → Option Procedure
procedure_at path =
    if bytes_eq path (path_of GetManifest)
    then Some GetManifest
    else (if bytes_eq path (path_of ListChannels)
    then Some ListChannels
    else (if bytes_eq path (path_of SendToServer)
    then Some SendToServer
    else (if bytes_eq path (path_of ConnectToClientChannel) then Some ConnectToClientChannel else None)))

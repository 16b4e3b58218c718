-- What a module has beside its nets, from the directory of a design's endpoints.
use Rattle.std.specs.Prelude.{ℕ, List, map}
use Rattle.esi_types.specs.declared.directory.Directory.{Directory}
use Rattle.esi_types.specs.declared.endpoint.Endpoint.{Endpoint}
use Rattle.verilog_module.specs.declared.module.EndpointLine.{EndpointLine}
use Rattle.verilog_module.specs.declared.module.Offer.{Offer}
use Rattle.verilog_module.specs.OfNetlist.{Interface}

-- an endpoint as its comment line has it
abbrev pub line_of : Endpoint → EndpointLine
line_of end = record { name = end.name; ty = end.ty }

-- of a title, the endpoints, and the nets that drive the output ports: ready of each to-server endpoint, valid and word of each
-- to-client endpoint
abbrev pub interface_of : List ℕ → Directory → List ℕ → List Offer → Interface
interface_of title directory readies offers = record {
  title = title;
  to_server = map line_of directory.to_server;
  to_client = map line_of directory.to_client;
  readies = readies;
  offers = offers;
}

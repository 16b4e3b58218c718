-- Each channel of the list has one of the two directions.
use Rattle.std.proofs.Common.{◌≡◌, ℕ, ◌≤◌, List, IfOk, Result, Ok, Err, sym, subst, arith}
use Rattle.std.specs.Prelude.{map, All}
use Rattle.std.proofs.lemmas.List.Elements.{All-append, All-map}
use Rattle.esi_base.specs.declared.stop.NoMemory.{NoMemory}
use Rattle.esi_types.specs.declared.directory.Directory.{Directory}
use Rattle.esi_types.specs.declared.endpoint.Endpoint.{Endpoint}
use Rattle.cosim_msgs.specs.declared.list_of_channels.ListOfChannels.{ListOfChannels}
use Rattle.cosim_msgs.specs.Spelling.{IsWritableList, IsWritableDesc}
use Rattle.grpc_calls.specs.declared.listing.TheConstants.{TO_SERVER, TO_CLIENT}
use Rattle.grpc_calls.specs.Listings.{desc_of, listing_of}
use Rattle.grpc_calls.proofs.listing.channel_list.Goals as goal

side : (dir : ℕ) (endpoints : List Endpoint) → dir ≤ 1 → All IsWritableDesc (map (desc_of dir) endpoints)
side dir endpoints h = All-map IsWritableDesc (desc_of dir) endpoints (λ k d l. h)

writable : (directory : Directory) (result : Result ListOfChannels NoMemory) → IfOk result (λ list. list ≡ listing_of directory) → IfOk result (λ list. IsWritableList list)
writable directory (Ok list) e =
    subst (λ (l : ListOfChannels). IsWritableList l) (sym e)
    (All-append IsWritableDesc (map (desc_of TO_SERVER) directory.to_server) (map (desc_of TO_CLIENT) directory.to_client) (side TO_SERVER directory.to_server (omega arith)) (side TO_CLIENT directory.to_client (omega arith)))
writable directory (Err failed) e = tt

pub returns-clause-writable : goal.returns-clause-writable
returns-clause-writable c = writable c.args.directory.now c.listed.result c.listed.ensures

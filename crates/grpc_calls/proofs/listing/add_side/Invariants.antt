use Rattle.std.proofs.Common.{◌≡◌, ◌++◌, take}
use Rattle.std.specs.Prelude.{map}
use Rattle.grpc_calls.specs.Listings.{desc_of}
use Rattle.grpc_calls.proofs.listing.add_side.Given as goal

abbrev pub invariant-loop-endpoint : goal.invariant-loop-endpoint
invariant-loop-endpoint l = l.channels ≡ l.initial.channels ++ map (desc_of l.dir) (take l.endpoint-index l.endpoints)

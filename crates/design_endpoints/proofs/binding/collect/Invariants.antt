use Rattle.std.proofs.Common.{◌≡◌, map, take}
use Rattle.std.specs.List.{flat_map}
use Rattle.reached_requests.specs.Modules.{seen}
use Rattle.design_endpoints.specs.Endpoints.{named_in, ends_asked}
use Rattle.design_endpoints.proofs.binding.collect.Given as goal

abbrev pub invariant-loop-request : goal.invariant-loop-request
invariant-loop-request l = map named_in l.ends ≡ flat_map (ends_asked l.way l.declared.bundles l.declared.services) (map seen (take l.request-index l.requests))

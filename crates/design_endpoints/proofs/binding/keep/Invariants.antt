use Rattle.std.proofs.Common.{◌≡◌, map, drop}
use Rattle.std.specs.Prelude.{find}
use Rattle.reached_requests.specs.Modules.{seen}
use Rattle.design_endpoints.specs.BindRules.{breaks}
use Rattle.design_endpoints.proofs.binding.keep.Given as goal

abbrev pub invariant-loop-request : goal.invariant-loop-request
invariant-loop-request l =
    let broken = breaks l.lookup.declared.bundles l.lookup.declared.services l.lookup.implemented l.rule in
    find broken (map seen (drop l.request-index l.requests)) ≡ find broken (map seen l.requests)

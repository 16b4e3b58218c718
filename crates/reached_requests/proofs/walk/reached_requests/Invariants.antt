use Rattle.std.proofs.Common.{◌≡◌, ◌++◌, map, take, drop}
use Rattle.std.specs.Prelude.{flat_map}
use Rattle.check_rules.specs.Scopes.{statement_in}
use Rattle.reached_requests.specs.Requests.{known_of, body_requests}
use Rattle.reached_requests.specs.Modules.{referred, seen}
use Rattle.reached_requests.proofs.walk.reached_requests.Given as goal

abbrev pub invariant-loop-item : goal.invariant-loop-item
invariant-loop-item l =
    map seen l.requests ++ body_requests (take l.levels (known_of (referred l.modules.sources))) (flat_map statement_in (drop l.item-index l.item-items))
    ≡ body_requests (take l.levels (known_of (referred l.modules.sources))) (flat_map statement_in l.item-items)

use Rattle.std.proofs.Common.{◌≡◌, ◌++◌, map, take, drop, ◌+◌, ◌*◌}
use Rattle.reached_requests.specs.Requests.{known_of, body_requests, inside}
use Rattle.reached_requests.specs.Modules.{referred, seen}
use Rattle.reached_requests.proofs.walk.+walk.Given as goal

abbrev pub decreases-add_body : goal.decreases-add_body
decreases-add_body l = 3 * l.levels + 2

abbrev pub decreases-add_statement : goal.decreases-add_statement
decreases-add_statement l = 3 * l.levels + 1

abbrev pub decreases-add_instance : goal.decreases-add_instance
decreases-add_instance l = 3 * l.levels

-- what there is, and what the other statements reach
abbrev pub invariant-add_body-loop-statement : goal.invariant-add_body-loop-statement
invariant-add_body-loop-statement l =
    map seen l.requests ++ map (inside l.prefix) (body_requests (take l.levels (known_of (referred l.modules.sources))) (drop l.statement-index l.statements))
    ≡ map seen l.initial.requests ++ map (inside l.prefix) (body_requests (take l.levels (known_of (referred l.modules.sources))) l.statements)

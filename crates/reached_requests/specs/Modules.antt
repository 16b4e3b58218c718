-- The code's values as those of the definition.
use Rattle.std.specs.Prelude.{ℕ, Option, Some, None, List, [], map, take}
use Rattle.std.specs.Borrow.{Bor}
use Rattle.name_tables.specs.Labels.{Label}
use Rattle.design_tree.specs.declared.declarations.Module.{Module}
use Rattle.check_rules.specs.References.{named}
use Rattle.reached_requests.specs.declared.request.ReachedRequest.{ReachedRequest}
use Rattle.reached_requests.specs.Requests.{Reached, Known, body_requests}

-- what some references refer to
abbrev pub referred : {A : Type 0} → List (Bor A) → List A
referred = map (λ r. r.now)

abbrev pub module_label : Module → Label
module_label m = (named m.name).label

abbrev pub seen : ReachedRequest → Reached
seen r = record { id = r.id; service = r.service.now; port = r.port.now; at = r.at }

-- what the module reaches that was found, by its number among all
abbrev pub requests_of_found : List Known → Option (ℕ × Bor Module) → List Reached
requests_of_found known None = []
requests_of_found known (Some found) = body_requests (take found.0 known) found.1.now.body

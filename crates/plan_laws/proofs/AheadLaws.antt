-- The plan of a body whose names stand before they are taken.
use Rattle.std.proofs.Common.{◌<◌, length, refl, subst}
use Rattle.std.specs.Prelude.{filter}
use Rattle.std.proofs.lemmas.List.Elements.{All-append}
use Rattle.check_rules.specs.Uses.{is_out}
use Rattle.flat_design.specs.FlatLaws.{AreSteps}
use Rattle.body_plans.specs.Channels.{given, places_of, channels}
use Rattle.body_plans.specs.Plans.{drives_of, steps_along, port_places, client_endpoints}
use Rattle.plan_laws.specs.Ahead.{out_label, EachAhead}
use Rattle.plan_laws.proofs.Steps.{steps_ahead}
use Rattle.plan_laws.proofs.Outs.{drivers_in, clients_in}

pub each_ahead : EachAhead
each_ahead plans takes k scope before elements order h =
    let all = channels scope before elements order in
    let drives = drives_of scope.statements in
    record {
      steps = subst (λ n. AreSteps plans takes k n (steps_along scope before elements (places_of all) (given scope before) order) (length all)) h.taken
          (steps_ahead plans takes k scope before elements (given scope before) all order refl h.ahead);
      outs = All-append (λ q. q < length all) (port_places (places_of all) drives scope.ports) (client_endpoints scope before (places_of all) drives)
          (drivers_in out_label all drives (filter is_out scope.ports) h.ports) (clients_in scope before all drives scope.statements h.clients);
    }

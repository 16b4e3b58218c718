-- What a body hands out are channels that it has.
use Rattle.std.proofs.Common.{◌≡◌, ℕ, ◌<◌, List, [], ◌∷◌, map, length, ap, sym, subst}
use Rattle.std.specs.Prelude.{flat_map}
use Rattle.std.proofs.lemmas.List.{append-nil}
use Rattle.std.proofs.lemmas.List.Elements.{All-nil, All-cons, All-append}
use Rattle.design_tree.specs.declared.leaves.Reference.{Reference}
use Rattle.design_tree.specs.declared.statements.Statement.{Statement}
use Rattle.design_tree.specs.declared.statements.Statement.TheVariants as S
use Rattle.name_tables.specs.Labels.{Label}
use Rattle.check_rules.specs.Scopes.{Scope, bundle_of}
use Rattle.flat_design.specs.Laying.{count_up}
use Rattle.flat_design.specs.FlatLaws.{Below}
use Rattle.body_plans.specs.Channels.{Channel, Before, client_label, client_members, endpoints_of, places_of}
use Rattle.body_plans.specs.Plans.{source_place, Drives, place_if, driver_place, client_places, endpoint_places}
use Rattle.plan_laws.specs.Ahead.{IsAmong, IsDriven, AreDriven, member_sink, IsHanded, AreHanded}
use Rattle.plan_laws.proofs.Places.{source_low, below-count_up, block_low, block_places}

source_in : (cs : List Channel) (r : Reference) → IsAmong cs r → source_place (places_of cs) r < length cs
source_in cs r h = subst (λ xs. source_place (places_of xs) r < length cs) (append-nil cs) (source_low cs [] r h)

driver_in : (cs : List Channel) (drives : Drives) (sink : Label) → IsDriven cs drives sink → driver_place (places_of cs) drives sink < length cs
driver_in cs drives sink h = subst (λ q. q < length cs) (sym (ap (place_if (places_of cs)) h.found)) (source_in cs h.source h.among)

pub drivers_in : {A : Type 0} (sink_of : A → Label) (cs : List Channel) (drives : Drives) (xs : List A) → AreDriven cs drives (map sink_of xs) → Below (length cs) (map (λ x. driver_place (places_of cs) drives (sink_of x)) xs)
drivers_in sink_of cs drives [] h = All-nil (λ q. q < length cs)
drivers_in sink_of cs drives (x ∷ xs) h =
    All-cons (λ q. q < length cs) (driver_place (places_of cs) drives (sink_of x)) (map (λ x. driver_place (places_of cs) drives (sink_of x)) xs) (driver_in cs drives (sink_of x) h.0) (drivers_in sink_of cs drives xs h.1)

client_in : (scope : Scope) (before : Before) (cs : List Channel) (drives : Drives) (s : Statement) → IsHanded scope before cs drives s → Below (length cs) (client_places scope before (places_of cs) drives s)
client_in scope before cs drives (S.Request at service port id) h = drivers_in (member_sink id) cs drives (client_members (bundle_of scope service port)) h
client_in scope before cs drives (S.Instance at id body bindings) h =
    let count : ℕ = (endpoints_of before body).to_client in
    let places_are : endpoint_places (places_of cs) (client_label id) count ≡ count_up (length h.before) count = subst (λ xs. endpoint_places (places_of xs) (client_label id) count ≡ count_up (length h.before) count) (append-nil cs) (block_places cs [] (client_label id) count h) in
    subst (λ xs. Below (length cs) xs) (sym places_are) (below-count_up (length h.before) count (length cs) (block_low cs (client_label id) count h))
client_in scope before cs drives (S.Channels at names operation) h = All-nil (λ q. q < length cs)
client_in scope before cs drives (S.Drive at sink source) h = All-nil (λ q. q < length cs)

pub clients_in : (scope : Scope) (before : Before) (cs : List Channel) (drives : Drives) (ss : List Statement) → AreHanded scope before cs drives ss → Below (length cs) (flat_map (client_places scope before (places_of cs) drives) ss)
clients_in scope before cs drives [] h = All-nil (λ q. q < length cs)
clients_in scope before cs drives (s ∷ ss) h =
    All-append (λ q. q < length cs) (client_places scope before (places_of cs) drives s) (flat_map (client_places scope before (places_of cs) drives) ss) (client_in scope before cs drives s h.0) (clients_in scope before cs drives ss h.1)

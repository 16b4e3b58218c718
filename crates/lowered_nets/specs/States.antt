-- The passes of lowering, turn by turn, and how far each turn gets, where all nets fit in the end.
use Rattle.std.specs.Prelude.{◌≡◌, ℕ, zero, suc, ◌+◌, ◌≤◌, ◌∷◌, [], List, length, get_or, refl}
use Rattle.std.proofs.Common.{subst, arith, add-one}
use Rattle.std.proofs.lemmas.Bool.{false≢true}
use Rattle.std.proofs.lemmas.List.{length-replicate}
use Rattle.netlist.specs.declared.net.Net.TheVariants.{Input}
use Rattle.netlist.specs.declared.part.Part.{Part}
use Rattle.netlist.specs.Plans.{Plan, empty_plan, IsPlan}
use Rattle.flat_design.specs.declared.element.Element.{Element}
use Rattle.flat_design.specs.declared.element.Flat.{Flat}
use Rattle.buffer_stage.specs.Passes.{register_nets, forward_nets, backward_nets}
use Rattle.channel_lower.specs.declared.lowering.Lowering.{Lowering}
use Rattle.channel_lower.specs.Lowerable.{IsLowerable, place_of}
use Rattle.channel_lower.specs.Lowering.{element_at, part_of, laid_of, channel_at, wires_at, readies_at, from_end, server_turn, client_turn, register_turn, forward_turn, backward_turn, nothing, server_pass, client_pass, register_pass, forward_pass, backward_pass, next_pass}
use Rattle.channel_lower.specs.Progress.{Progress}
use Rattle.channel_lower.specs.Steps.{server_step, client_step, handed_below, register_step, forward_step, backward_step}
use Rattle.lowered_nets.specs.Before.{Before, before_on, turns_before, AreFitting, IsUnlinked, unlinked_behind, nothing_unlinked, plan_before}

module _ (parts : List Part) (flat : Flat) (servers : ℕ) (clients : List ℕ) where
  abbrev pub element : ℕ → Element
  element k = element_at flat.elements k

  abbrev pub part : ℕ → Part
  part k = part_of parts (element k)

  abbrev pub count : ℕ
  count = length flat.elements

  abbrev pub place : ℕ → ℕ
  place k = place_of servers flat.elements k

  abbrev pub last_first : ℕ → ℕ
  last_first d = from_end flat.elements d

  -- ---- after so many turns of each pass

  abbrev pub served : ℕ → Lowering
  served c = server_pass flat.widths c (nothing (length flat.widths))

  abbrev pub handed : ℕ → Lowering
  handed k = client_pass clients k (served servers)

  abbrev pub registered : ℕ → Lowering
  registered k = register_pass parts flat.elements k (handed (length clients))

  abbrev pub forwarded : ℕ → Lowering
  forwarded k = forward_pass parts flat.elements k (registered count)

  abbrev pub returned : ℕ → Lowering
  returned d = backward_pass parts flat.elements d (forwarded count)

  abbrev pub finished : ℕ → Lowering
  finished k = next_pass parts flat.elements k (returned count)

  -- ---- each turn adds nets

  abbrev server_at : ℕ → Lowering → Lowering
  server_at c = server_turn (get_or flat.widths c 0)

  abbrev client_at : ℕ → Lowering → Lowering
  client_at k = client_turn (channel_at clients k)

  abbrev register_at : ℕ → Lowering → Lowering
  register_at k = register_turn (part k)

  abbrev forward_at : ℕ → Lowering → Lowering
  forward_at k = forward_turn (part k) (element k) k

  abbrev backward_at : ℕ → Lowering → Lowering
  backward_at d = backward_turn (part (last_first d)) (element (last_first d)) (last_first d)

  server_adds : (c : ℕ) (s : Lowering) → Before s.netlist (server_at c s).netlist
  server_adds c s = record { more = Input 1 ∷ Input (get_or flat.widths c 0) ∷ []; is = refl }

  client_adds : (k : ℕ) (s : Lowering) → Before s.netlist (client_at k s).netlist
  client_adds k s = record { more = Input 1 ∷ []; is = refl }

  register_adds : (k : ℕ) (s : Lowering) → Before s.netlist (register_at k s).netlist
  register_adds k s = record { more = register_nets (part k); is = refl }

  forward_adds : (k : ℕ) (s : Lowering) → Before s.netlist (forward_at k s).netlist
  forward_adds k s = record { more = forward_nets (part k) (get_or s.registers k 0) (wires_at s.wires (element k).sources) (length s.netlist.nets); is = refl }

  backward_adds : (d : ℕ) (s : Lowering) → Before s.netlist (backward_at d s).netlist
  backward_adds d s = record {
    more = backward_nets (part (last_first d)) (laid_of s.row (last_first d)) (readies_at s.readies (element (last_first d)).sinks) (length s.netlist.nets);
    is = refl;
  }

  -- ---- from each turn to the last backward one

  abbrev end : Plan
  end = (returned count).netlist

  pub from_returned : (d : ℕ) → d ≤ count → Before (returned d).netlist end
  from_returned d le = turns_before backward_at backward_adds (forwarded count) count d le

  pub from_forwarded : (k : ℕ) → k ≤ count → Before (forwarded k).netlist end
  from_forwarded k le = before_on (forwarded k).netlist (forwarded count).netlist end (turns_before forward_at forward_adds (registered count) count k le) (from_returned 0 (omega arith))

  pub from_registered : (k : ℕ) → k ≤ count → Before (registered k).netlist end
  from_registered k le = before_on (registered k).netlist (registered count).netlist end (turns_before register_at register_adds (handed (length clients)) count k le) (from_forwarded 0 (omega arith))

  from_handed : (k : ℕ) → k ≤ length clients → Before (handed k).netlist end
  from_handed k le = before_on (handed k).netlist (handed (length clients)).netlist end (turns_before client_at client_adds (served servers) (length clients) k le) (from_registered 0 (omega arith))

  from_served : (c : ℕ) → c ≤ servers → Before (served c).netlist end
  from_served c le = before_on (served c).netlist (served servers).netlist end (turns_before server_at server_adds (nothing (length flat.widths)) servers c le) (from_handed 0 (omega arith))

  -- ---- from nothing to each turn, before which no next net is set

  to_served : (c : ℕ) → Before empty_plan (served c).netlist
  to_served c = turns_before server_at server_adds (nothing (length flat.widths)) c 0 (omega arith)

  to_handed : (k : ℕ) → Before empty_plan (handed k).netlist
  to_handed k = before_on empty_plan (served servers).netlist (handed k).netlist (to_served servers) (turns_before client_at client_adds (served servers) k 0 (omega arith))

  to_registered : (k : ℕ) → Before empty_plan (registered k).netlist
  to_registered k =
      before_on empty_plan (handed (length clients)).netlist (registered k).netlist (to_handed (length clients)) (turns_before register_at register_adds (handed (length clients)) k 0 (omega arith))

  to_forwarded : (k : ℕ) → Before empty_plan (forwarded k).netlist
  to_forwarded k = before_on empty_plan (registered count).netlist (forwarded k).netlist (to_registered count) (turns_before forward_at forward_adds (registered count) k 0 (omega arith))

  to_returned : (d : ℕ) → Before empty_plan (returned d).netlist
  to_returned d = before_on empty_plan (forwarded count).netlist (returned d).netlist (to_forwarded count) (turns_before backward_at backward_adds (forwarded count) d 0 (omega arith))

  unlinked : (new : Plan) → Before empty_plan new → IsUnlinked new
  unlinked new b = unlinked_behind empty_plan new b nothing_unlinked

  pub unlinked_registered : (k : ℕ) → IsUnlinked (registered k).netlist
  unlinked_registered k = unlinked (registered k).netlist (to_registered k)

  pub unlinked_forwarded : (k : ℕ) → IsUnlinked (forwarded k).netlist
  unlinked_forwarded k = unlinked (forwarded k).netlist (to_forwarded k)

  pub unlinked_returned : (d : ℕ) → IsUnlinked (returned d).netlist
  unlinked_returned d = unlinked (returned d).netlist (to_returned d)

  module _ (lowerable : IsLowerable parts flat servers clients) (fitting : AreFitting (returned (length flat.elements)).netlist) where
    kept : (s : Lowering) → Before s.netlist end → Before empty_plan s.netlist → IsPlan s.netlist
    kept s b u = plan_before s.netlist end b (unlinked s.netlist u) fitting

    pub kept_forwarded : (k : ℕ) → k ≤ count → IsPlan (forwarded k).netlist
    kept_forwarded k le = kept (forwarded k) (from_forwarded k le) (to_forwarded k)

    pub kept_returned : (d : ℕ) → d ≤ count → IsPlan (returned d).netlist
    kept_returned d le = kept (returned d) (from_returned d le) (to_returned d)

    -- ---- how far each turn gets

    begins : Progress parts flat clients (nothing (length flat.widths)) 0 0 0 0 0 0
    begins = record {
      wire_count = refl;
      wires = λ c lt. absurd (omega (arith, lt));
      ready_count = length-replicate (length flat.widths) 0;
      handed_ready = λ k lt. absurd (omega (arith, lt));
      register_count = refl;
      registers = λ k lt. absurd (omega (arith, lt));
      row_count = refl;
      gone_forward = λ k lt. absurd (omega (arith, lt));
      gone_back = λ k lt le. absurd (omega (arith, lt, le));
      sources = λ k j lt le inner. absurd (omega (arith, lt, le));
      owes = record { each = λ r is. absurd (false≢true is) };
    }

    served_so_far : (c : ℕ) → c ≤ servers → Progress parts flat clients (served c) c 0 0 0 0 0
    served_so_far zero le = begins
    served_so_far (suc c) le =
        subst (λ m. Progress parts flat clients (served (suc c)) m 0 0 0 0 0) (add-one c)
        (server_step parts flat clients (served c) c (kept (served c) (from_served c (omega arith)) (to_served c)) (served_so_far c (omega arith)))

    handed_so_far : (k : ℕ) → k ≤ length clients → Progress parts flat clients (handed k) servers k 0 0 0 0
    handed_so_far zero le = served_so_far servers (omega arith)
    handed_so_far (suc k) le =
        subst (λ m. Progress parts flat clients (handed (suc k)) servers m 0 0 0 0) (add-one k)
        (client_step parts flat clients (handed k) servers k (kept (handed k) (from_handed k (omega arith)) (to_handed k)) (handed_below parts flat clients servers lowerable k (omega arith)) (handed_so_far k (omega arith)))

    pub registered_so_far : (k : ℕ) → k ≤ count → Progress parts flat clients (registered k) servers (length clients) k 0 0 0
    registered_so_far zero le = handed_so_far (length clients) (omega arith)
    registered_so_far (suc k) le =
        subst (λ m. Progress parts flat clients (registered (suc k)) servers (length clients) m 0 0 0) (add-one k)
        (register_step parts flat clients (registered k) servers (length clients) k (kept (registered k) (from_registered k (omega arith)) (to_registered k)) (registered_so_far k (omega arith)))

    pub forwarded_so_far : (k : ℕ) → k ≤ count → Progress parts flat clients (forwarded k) (place k) (length clients) count k 0 0
    forwarded_so_far zero le = registered_so_far count (omega arith)
    forwarded_so_far (suc k) le =
        subst (λ m. Progress parts flat clients (forwarded (suc k)) (place m) (length clients) count m 0 0) (add-one k)
        (forward_step parts flat clients servers lowerable (forwarded k) (length clients) count k (omega arith) (omega arith) (kept_forwarded k (omega arith)) (forwarded_so_far k (omega arith)))

    pub returned_so_far : (d : ℕ) → d ≤ count → Progress parts flat clients (returned d) (place count) (length clients) count count d 0
    returned_so_far zero le = forwarded_so_far count (omega arith)
    returned_so_far (suc d) le =
        subst (λ m. Progress parts flat clients (returned (suc d)) (place count) (length clients) count count m 0) (add-one d)
        (backward_step parts flat clients servers lowerable (returned d) count (last_first d) d refl (let e : last_first d + d + 1 ≡ count = omega (arith, le) in e) (returned_so_far d (omega arith)) (kept_returned d (omega arith)) (kept_returned (suc d) le))

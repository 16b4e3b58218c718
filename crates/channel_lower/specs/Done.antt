-- The same steps, of whatever is equal to what a turn takes and leaves.
use Rattle.std.specs.Prelude.{◌≡◌, ℕ, ◌+◌, ◌<◌, ◌≤◌, List, length, get_or, refl}
use Rattle.std.proofs.Common.{sym, ◌∙◌, ap, subst}
use Rattle.netlist.specs.declared.part.Part.{Part}
use Rattle.netlist.specs.Plans.{IsPlan}
use Rattle.flat_design.specs.declared.element.Element.{Element}
use Rattle.flat_design.specs.declared.element.Flat.{Flat}
use Rattle.buffer_stage.specs.Passes.{MayGoForward, MayGoBack, MayGoOn, wire_at, ready_at}
use Rattle.channel_lower.specs.declared.lowering.Lowering.{Lowering}
use Rattle.channel_lower.specs.Lowerable.{IsLowerable, place_of}
use Rattle.channel_lower.specs.Lowering.{element_at, part_of, laid_of, channel_at, wires_at, readies_at, server_turn, client_turn, register_turn, forward_turn, backward_turn, next_turn}
use Rattle.channel_lower.specs.Progress.{Progress}
use Rattle.channel_lower.specs.Steps.{server_step, client_step, handed_below, register_step, forward_ready, forward_valid, forward_step, backward_ready, backward_first, backward_sources, backward_step, next_ready, next_step}

module _ (parts : List Part) (flat : Flat) (servers : ℕ) (clients : List ℕ) (lowerable : IsLowerable parts flat servers clients) (s : Lowering) (kept : IsPlan s.netlist) where
  abbrev element : ℕ → Element
  element k = element_at flat.elements k

  abbrev part : ℕ → Part
  part k = part_of parts (element k)

  pub server_done : (c width : ℕ) (new : Lowering) → Progress parts flat clients s c 0 0 0 0 0 → width ≡ get_or flat.widths c 0 → new ≡ server_turn width s → Progress parts flat clients new (c + 1) 0 0 0 0 0
  server_done c width new p w e = subst (λ (t : Lowering). Progress parts flat clients t (c + 1) 0 0 0 0 0) (sym (e ∙ ap (λ n. server_turn n s) w)) (server_step parts flat clients s c kept p)

  pub client_done : (k : ℕ) (new : Lowering) → k < length clients → Progress parts flat clients s servers k 0 0 0 0 → new ≡ client_turn (channel_at clients k) s → Progress parts flat clients new servers (k + 1) 0 0 0 0
  client_done k new lt p e =
      subst (λ (t : Lowering). Progress parts flat clients t servers (k + 1) 0 0 0 0) (sym e) (client_step parts flat clients s servers k kept (handed_below parts flat clients servers lowerable k lt) p)

  pub register_done : (k : ℕ) (q : Part) (new : Lowering) → Progress parts flat clients s servers (length clients) k 0 0 0 → q ≡ part k → new ≡ register_turn q s → Progress parts flat clients new servers (length clients) (k + 1) 0 0 0
  register_done k q new p a e =
      subst (λ (t : Lowering). Progress parts flat clients t servers (length clients) (k + 1) 0 0 0) (sym (e ∙ ap (λ (r : Part). register_turn r s) a)) (register_step parts flat clients s servers (length clients) k kept p)

  -- ---- forward

  module _ (k : ℕ) (lt : k < length flat.elements) (p : Progress parts flat clients s (place_of servers flat.elements k) (length clients) (length flat.elements) k 0 0) (q : Part) (y : Element) (a : q ≡ part k) (b : y ≡ element k) where
    pub forward_may : MayGoForward s.netlist q (get_or s.registers k 0) (wires_at s.wires y.sources)
    forward_may =
        subst (λ (x : Element). MayGoForward s.netlist q (get_or s.registers k 0) (wires_at s.wires x.sources)) (sym b)
        (subst (λ (r : Part). MayGoForward s.netlist r (get_or s.registers k 0) (wires_at s.wires (element k).sources)) (sym a)
        (forward_ready parts flat clients servers lowerable s (length clients) (length flat.elements) k lt lt kept p))

    pub forward_first : (wire_at (wires_at s.wires y.sources) 0).valid ≤ length s.netlist.nets
    forward_first =
        subst (λ (x : Element). (wire_at (wires_at s.wires x.sources) 0).valid ≤ length s.netlist.nets) (sym b) (forward_valid parts flat clients servers lowerable s (length clients) (length flat.elements) k lt p)

    pub forward_done : (new : Lowering) → new ≡ forward_turn q y k s → Progress parts flat clients new (place_of servers flat.elements (k + 1)) (length clients) (length flat.elements) (k + 1) 0 0
    forward_done new e =
        subst (λ (t : Lowering). Progress parts flat clients t (place_of servers flat.elements (k + 1)) (length clients) (length flat.elements) (k + 1) 0 0)
        (sym (e ∙ ap (λ (r : Part). forward_turn r y k s) a ∙ ap (λ (x : Element). forward_turn (part k) x k s) b))
        (forward_step parts flat clients servers lowerable s (length clients) (length flat.elements) k lt lt kept p)

  -- ---- backward

  module _ (k d : ℕ) (turn : k + d + 1 ≡ length flat.elements)
      (p : Progress parts flat clients s (place_of servers flat.elements (length flat.elements)) (length clients) (length flat.elements) (length flat.elements) d 0) (q : Part) (y : Element) (a : q ≡ part k) (b : y ≡ element k) where
    pub backward_may : MayGoBack s.netlist q (laid_of s.row k) (readies_at s.readies y.sinks)
    backward_may =
        subst (λ (x : Element). MayGoBack s.netlist q (laid_of s.row k) (readies_at s.readies x.sinks)) (sym b)
        (subst (λ (r : Part). MayGoBack s.netlist r (laid_of s.row k) (readies_at s.readies (element k).sinks)) (sym a)
        (backward_ready parts flat clients servers lowerable s (length flat.elements) k d refl turn p kept))

    pub backward_below : ready_at (readies_at s.readies y.sinks) 0 ≤ length s.netlist.nets
    backward_below = subst (λ (x : Element). ready_at (readies_at s.readies x.sinks) 0 ≤ length s.netlist.nets) (sym b) (backward_first parts flat clients servers lowerable s (length flat.elements) k d refl turn p)

    pub backward_within : (j : ℕ) → j < length y.sources → channel_at y.sources j < length s.readies
    backward_within =
        subst (λ (x : Element). (j : ℕ) → j < length x.sources → channel_at x.sources j < length s.readies) (sym b) (backward_sources parts flat clients servers lowerable s (length flat.elements) k d refl turn p)

    pub backward_done : (new : Lowering) → IsPlan new.netlist → new ≡ backward_turn q y k s
        → Progress parts flat clients new (place_of servers flat.elements (length flat.elements)) (length clients) (length flat.elements) (length flat.elements) (d + 1) 0
    backward_done new then e =
        let is : new ≡ backward_turn (part k) (element k) k s = e ∙ ap (λ (r : Part). backward_turn r y k s) a ∙ ap (λ (x : Element). backward_turn (part k) x k s) b in
        subst (λ (t : Lowering). Progress parts flat clients t (place_of servers flat.elements (length flat.elements)) (length clients) (length flat.elements) (length flat.elements) (d + 1) 0) (sym is)
        (backward_step parts flat clients servers lowerable s (length flat.elements) k d refl turn p kept (subst (λ (t : Lowering). IsPlan t.netlist) is then))

  -- ---- next

  module _ (k : ℕ) (lt : k < length flat.elements)
      (p : Progress parts flat clients s (place_of servers flat.elements (length flat.elements)) (length clients) (length flat.elements) (length flat.elements) (length flat.elements) k) (q : Part) (a : q ≡ part k) where
    pub next_may : MayGoOn s.netlist q (laid_of s.row k)
    next_may =
        subst (λ (r : Part). MayGoOn s.netlist r (laid_of s.row k)) (sym a)
        (next_ready parts flat clients servers lowerable s (place_of servers flat.elements (length flat.elements)) (length clients) (length flat.elements) k lt refl p kept)

    pub next_done : (new : Lowering) → new ≡ next_turn q k s
        → Progress parts flat clients new (place_of servers flat.elements (length flat.elements)) (length clients) (length flat.elements) (length flat.elements) (length flat.elements) (k + 1)
    next_done new e =
        subst (λ (t : Lowering). Progress parts flat clients t (place_of servers flat.elements (length flat.elements)) (length clients) (length flat.elements) (length flat.elements) (length flat.elements) (k + 1))
        (sym (e ∙ ap (λ (r : Part). next_turn r k s) a))
        (next_step parts flat clients servers lowerable s (place_of servers flat.elements (length flat.elements)) (length clients) (length flat.elements) k lt refl p kept)

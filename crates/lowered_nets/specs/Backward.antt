-- What each element has once it has gone back: the ready nets of the channels that it makes, its backward nets, and the channels that it takes have
-- its ready nets.
use Rattle.std.specs.Prelude.{◌≡◌, ℕ, zero, suc, ◌+◌, ◌<◌, ◌≤◌, List, [], ◌∷◌, length, refl}
use Rattle.std.specs.List.{slice_set}
use Rattle.std.proofs.Common.{sym, ◌∙◌, ap, subst, arith, inl, inr}
use Rattle.std.proofs.lemmas.Bool.{cases_lt, cases_eq}
use Rattle.std.proofs.lemmas.List.{length-set, get_or-set_same, get_or-set_other}
use Rattle.netlist.specs.declared.net.Net.{Net}
use Rattle.netlist.specs.declared.part.Part.{Part}
use Rattle.netlist.specs.declared.part.Part.TheVariants.{Stage, Fifo, AsFifo, AsVr, Map, Scan, Fork, Join}
use Rattle.netlist.specs.Plans.{Plan}
use Rattle.net_lists.specs.Lists.{with_nets, StandFrom}
use Rattle.flat_design.specs.declared.element.Element.{Element}
use Rattle.flat_design.specs.declared.element.Flat.{Flat}
use Rattle.buffer_stage.specs.declared.laid.Laid.{Laid}
use Rattle.buffer_stage.specs.Passes.{input_count, ready_at, laid_at, backward_nets, first_ready, input_readies, laid_backward}
use Rattle.channel_lower.specs.declared.lowering.Lowering.{Lowering}
use Rattle.channel_lower.specs.Growth.{Grows, grown_stand}
use Rattle.channel_lower.specs.Lowerable.{IsLowerable}
use Rattle.channel_lower.specs.Lowering.{turns, element_at, part_of, laid_of, channel_at, readies_at, ready_turn, with_readies}
use Rattle.channel_lower.specs.Numbers.{place_rises, place_end, sink_at, source_below}
use Rattle.channel_lower.specs.Steps.{nets_from-at, behind}
use Rattle.lowered_nets.specs.Before.{AreFitting, grows_all}
use Rattle.lowered_nets.specs.Forward.{WentForward, placed, went_forward}
use Rattle.lowered_nets.specs.States as S
use Rattle.lowered_nets.specs.Uses.{taken_once, taken_by_one}

pub record WentBack (plan : Plan) (readies : List ℕ) (part : Part) (laid : Laid) (element : Element) : Type 0 where
  pub given : laid.readies ≡ readies_at readies element.sinks
  pub nets : StandFrom plan.nets laid.backward (backward_nets part laid laid.readies laid.backward)
  pub ins : (j : ℕ) → j < input_count part → ready_at readies (channel_at element.sources j) ≡ first_ready part laid.readies laid.backward + j

-- backward nets ask nothing that they make
same_backward : (part : Part) (laid : Laid) (readies : List ℕ) (at : ℕ) → backward_nets part laid readies at ≡ backward_nets part (laid_backward laid readies at) readies at
same_backward (Stage width) laid readies at = refl
same_backward (Fifo width depth) laid readies at = refl
same_backward AsFifo laid readies at = refl
same_backward AsVr laid readies at = refl
same_backward (Map body) laid readies at = refl
same_backward (Scan reset body) laid readies at = refl
same_backward (Fork branches) laid readies at = refl
same_backward Join laid readies at = refl

-- ---- ready nets that are set

module _ (channels nets readies : List ℕ) where
  abbrev so_far : ℕ → List ℕ
  so_far n = turns (ready_turn channels nets) n readies

  length_so_far : (n : ℕ) → length (so_far n) ≡ length readies
  length_so_far zero = refl
  length_so_far (suc n) = length-set (so_far n) (channel_at channels n) (ready_at nets n) ∙ length_so_far n

  ready_other : (n c : ℕ) → ((i : ℕ) → i < n → c ≡ channel_at channels i → ⊥) → ready_at (so_far n) c ≡ ready_at readies c
  ready_other zero c ne = refl
  ready_other (suc n) c ne = get_or-set_other (so_far n) (channel_at channels n) c (ready_at nets n) 0 (ne n (omega arith)) ∙ ready_other n c (λ i lt. ne i (omega (arith, lt)))

  ready_own : (n j : ℕ) → j < n → ((i : ℕ) → i < n → j < i → channel_at channels j ≡ channel_at channels i → ⊥) → channel_at channels j < length readies → ready_at (so_far n) (channel_at channels j) ≡ ready_at nets j
  ready_own zero j lt ne room = absurd (omega (arith, lt))
  ready_own (suc n) j lt ne room =
      elim (cases_lt j n) [
        | inl below ↦
            get_or-set_other (so_far n) (channel_at channels n) (channel_at channels j) (ready_at nets n) 0 (ne n (omega arith) below) ∙ ready_own n j below (λ i less late. ne i (omega (arith, less)) late) room
        | inr ge ↦
            let e : j ≡ n = omega (arith, lt, ge) in
            subst (λ m. ready_at (slice_set (so_far n) (channel_at channels m) (ready_at nets m)) (channel_at channels j) ≡ ready_at nets j) e
            (get_or-set_same (so_far n) (channel_at channels j) (ready_at nets j) 0 (omega (arith, room, length_so_far n)))
      ]

  readies_kept : (others : List ℕ) → ((a i : ℕ) → a < length others → i < length channels → channel_at others a ≡ channel_at channels i → ⊥) → readies_at (with_readies channels nets readies) others ≡ readies_at readies others
  readies_kept [] ne = refl
  readies_kept (c ∷ others) ne =
      ap (λ n. n ∷ readies_at (with_readies channels nets readies) others) (ready_other (length channels) c (λ i lt. ne 0 i (omega arith) lt))
      ∙ ap (λ ns. ready_at readies c ∷ ns) (readies_kept others (λ a i inner lt. ne (suc a) i (omega (arith, inner)) lt))

module _ (parts : List Part) (flat : Flat) (servers : ℕ) (clients : List ℕ) (lowerable : IsLowerable parts flat servers clients) (fitting : AreFitting (S.returned parts flat servers clients (length flat.elements)).netlist) where
  abbrev element : ℕ → Element
  element k = element_at flat.elements k

  abbrev part : ℕ → Part
  part k = part_of parts (element k)

  abbrev count : ℕ
  count = length flat.elements

  abbrev place : ℕ → ℕ
  place k = S.place parts flat servers clients k

  abbrev returned : ℕ → Lowering
  returned d = S.returned parts flat servers clients d

  abbrev turned : ℕ → ℕ
  turned d = S.last_first parts flat servers clients d

  -- ---- one turn

  module _ (d : ℕ) (le : suc d ≤ length flat.elements) where
    abbrev s : Lowering
    s = returned d

    abbrev k : ℕ
    k = turned d

    here : k + d + 1 ≡ count
    here = omega (arith, le)

    abbrev laid : Laid
    laid = laid_of s.row k

    abbrev outs : List ℕ
    outs = readies_at s.readies (element k).sinks

    abbrev at : ℕ
    at = length s.netlist.nets

    abbrev nets : List Net
    nets = backward_nets (part k) laid outs at

    abbrev new : Plan
    new = with_nets s.netlist nets

    abbrev after : Laid
    after = laid_backward laid outs at

    abbrev row : List Laid
    row = slice_set s.row k after

    abbrev ins : List ℕ
    ins = input_readies (part k) outs at

    abbrev readies : List ℕ
    readies = with_readies (element k).sources ins s.readies

    grows : Grows s.netlist new
    grows = grows_all s.netlist nets (S.kept_returned parts flat servers clients lowerable fitting d (omega (arith, le))).width_count

    row_room : k < length s.row
    row_room = let c = (S.returned_so_far parts flat servers clients lowerable fitting d (omega (arith, le))).row_count in omega (arith, here, c)

    row_own : laid_of row k ≡ after
    row_own = get_or-set_same s.row k after (laid_at 0) row_room

    row_other : (j : ℕ) → (j ≡ k → ⊥) → laid_of row j ≡ laid_of s.row j
    row_other j ne = get_or-set_other s.row k j after (laid_at 0) ne

    -- what an element behind it makes, it does not take
    sinks_apart : (j a i : ℕ) → k ≤ j → j < count → a < length (element j).sinks → i < length (element k).sources → channel_at (element j).sinks a ≡ channel_at (element k).sources i → ⊥
    sinks_apart j a i low lt inner inside e =
        let is = sink_at servers flat.elements j a (placed parts flat servers clients lowerable fitting j lt) inner in
        let below = source_below servers flat.elements k i (placed parts flat servers clients lowerable fitting k (omega (arith, here))) inside in
        omega (arith, e, is, below, place_rises servers flat.elements k j low)

    sinks_kept : (j : ℕ) → k ≤ j → j < count → readies_at readies (element j).sinks ≡ readies_at s.readies (element j).sinks
    sinks_kept j low lt = readies_kept (element k).sources ins s.readies (element j).sinks (λ a i inner inside. sinks_apart j a i low lt inner inside)

    own_turn : WentBack new readies (part k) after (element k)
    own_turn =
        let below : k < count = omega (arith, here) in
        let takes = (lowerable.fit k below).takes in
        let ready_count = (S.returned_so_far parts flat servers clients lowerable fitting d (omega (arith, le))).ready_count in
        record {
          given = sym (sinks_kept k (omega arith) below);
          nets = subst (λ (ns : List Net). StandFrom new.nets at ns) (same_backward (part k) laid outs at) (behind s.netlist nets);
          ins = λ j inner.
              let inside : j < length (element k).sources = omega (arith, inner, takes) in
              let source = source_below servers flat.elements k j (placed parts flat servers clients lowerable fitting k below) inside in
              let room : channel_at (element k).sources j < length s.readies =
              omega (arith, source, ready_count, place_rises servers flat.elements k count (omega (arith, below)), place_end servers (length flat.widths) flat.elements lowerable.design.numbered) in
              ready_own (element k).sources ins s.readies (length (element k).sources) j inside (λ i less late e. taken_once servers flat clients lowerable.design k j i below late less e) room
              ∙ nets_from-at (first_ready (part k) outs at) (input_count (part k)) j inner;
        }

    later_turn : (j : ℕ) → k < j → j < count → WentBack s.netlist s.readies (part j) (laid_of s.row j) (element j) → WentBack new readies (part j) (laid_of s.row j) (element j)
    later_turn j lt within old =
        let takes = (lowerable.fit j within).takes in
        record {
          given = old.given ∙ sym (sinks_kept j (omega (arith, lt)) within);
          nets = grown_stand s.netlist new grows _ _ old.nets;
          ins = λ i inner.
              ready_other (element k).sources ins s.readies (length (element k).sources) (channel_at (element j).sources i)
              (λ a less e. taken_by_one servers flat clients lowerable.design k j a i lt within less (omega (arith, inner, takes)) (sym e))
              ∙ old.ins i inner;
        }

    forward_turned : (j : ℕ) → WentForward s.netlist s.wires (part j) (laid_of s.row j) (place j) (element j).sources → WentForward new s.wires (part j) (laid_of row j) (place j) (element j).sources
    forward_turned j old =
        elim (cases_eq j k) [
          | inl e ↦
              let mine : WentForward s.netlist s.wires (part k) (laid_of s.row k) (place k) (element k).sources =
              subst (λ m. WentForward s.netlist s.wires (part m) (laid_of s.row m) (place m) (element m).sources) e old in
              subst (λ m. WentForward new s.wires (part m) (laid_of row m) (place m) (element m).sources) (sym e)
              (subst (λ (l : Laid). WentForward new s.wires (part k) l (place k) (element k).sources) (sym row_own)
              (record { inputs = mine.inputs; nets = grown_stand s.netlist new grows _ _ mine.nets; outs = mine.outs }))
          | inr ne ↦
              subst (λ (l : Laid). WentForward new s.wires (part j) l (place j) (element j).sources) (sym (row_other j ne))
              (record { inputs = old.inputs; nets = grown_stand s.netlist new grows _ _ old.nets; outs = old.outs })
        ]

  -- ---- all turns

  pub still_forward : (d : ℕ) → d ≤ count → (j : ℕ) → j < count → WentForward (returned d).netlist (returned d).wires (part j) (laid_of (returned d).row j) (place j) (element j).sources
  still_forward zero le j lt = went_forward parts flat servers clients lowerable fitting count (omega arith) j lt
  still_forward (suc d) le j lt = forward_turned d le j (still_forward d (omega (arith, le)) j lt)

  pub went_back : (d : ℕ) → d ≤ count → (j : ℕ) → j < count → count ≤ j + d → WentBack (returned d).netlist (returned d).readies (part j) (laid_of (returned d).row j) (element j)
  went_back zero le j lt late = absurd (omega (arith, lt, late))
  went_back (suc d) le j lt late =
      elim (cases_eq j (turned d)) [
        | inl e ↦
            subst (λ m. WentBack (returned (suc d)).netlist (returned (suc d)).readies (part m) (laid_of (row d le) m) (element m)) (sym e)
            (subst (λ (l : Laid). WentBack (returned (suc d)).netlist (returned (suc d)).readies (part (turned d)) l (element (turned d))) (sym (row_own d le)) (own_turn d le))
        | inr ne ↦
            let behind_it : turned d < j = omega (arith, ne, late, le) in
            subst (λ (l : Laid). WentBack (returned (suc d)).netlist (returned (suc d)).readies (part j) l (element j)) (sym (row_other d le j ne))
            (later_turn d le j behind_it lt (went_back d (omega (arith, le)) j lt (omega (arith, behind_it, le))))
      ]

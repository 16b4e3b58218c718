-- What each element has once it has gone forward: its inputs are the wires of its sources, its forward nets stand, and the channels that it makes
-- have its wires.
use Rattle.std.specs.Prelude.{◌≡◌, ℕ, zero, suc, ◌+◌, ◌*◌, ◌<◌, ◌≤◌, ◌++◌, List, [], ◌∷◌, length, get_or, refl}
use Rattle.std.proofs.Common.{sym, ◌∙◌, ap, subst, arith, inl, inr}
use Rattle.std.proofs.lemmas.Bool.{cases_lt}
use Rattle.std.proofs.lemmas.List.{get_or_append_left, get_or-append-add}
use Rattle.netlist.specs.declared.part.Part.{Part}
use Rattle.netlist.specs.Plans.{Plan}
use Rattle.net_lists.specs.Lists.{with_nets, StandFrom}
use Rattle.flat_design.specs.declared.element.Element.{Element}
use Rattle.flat_design.specs.declared.element.Flat.{Flat}
use Rattle.buffer_stage.specs.declared.laid.Wire.{Wire}
use Rattle.buffer_stage.specs.declared.laid.Laid.{Laid}
use Rattle.buffer_stage.specs.Passes.{output_count, no_wire, wire_at, laid_at, forward_nets, first_output, outputs, laid_forward}
use Rattle.channel_lower.specs.declared.lowering.Lowering.{Lowering}
use Rattle.channel_lower.specs.Growth.{Grows, grown_stand}
use Rattle.channel_lower.specs.Lowerable.{IsLowerable}
use Rattle.channel_lower.specs.Lowering.{element_at, part_of, laid_of, channel_at, wires_at}
use Rattle.channel_lower.specs.Numbers.{IsPlaced, numbered_at, place_rises, source_below}
use Rattle.channel_lower.specs.Steps.{wires-at, behind}
use Rattle.lowered_nets.specs.Before.{AreFitting, grows_all}
use Rattle.lowered_nets.specs.States as S

pub record WentForward (plan : Plan) (wires : List Wire) (part : Part) (laid : Laid) (place : ℕ) (sources : List ℕ) : Type 0 where
  pub inputs : laid.inputs ≡ wires_at wires sources
  pub nets : StandFrom plan.nets laid.forward (forward_nets part laid.registers laid.inputs laid.forward)
  pub outs : (j : ℕ) → j < output_count part → wire_at wires (place + j) ≡ record { valid = laid.output.valid + 2 * j; word = laid.output.word }

-- wires that there are stay, with more behind them
wires_kept : (wires more : List Wire) (channels : List ℕ) → ((j : ℕ) → j < length channels → channel_at channels j < length wires) → wires_at (wires ++ more) channels ≡ wires_at wires channels
wires_kept wires more [] below = refl
wires_kept wires more (c ∷ channels) below =
    ap (λ (w : Wire). w ∷ wires_at (wires ++ more) channels) (get_or_append_left wires more no_wire c (below 0 (omega arith)))
    ∙ ap (λ (ws : List Wire). wire_at wires c ∷ ws) (wires_kept wires more channels (λ j lt. below (suc j) (omega (arith, lt))))

module _ (parts : List Part) (flat : Flat) (servers : ℕ) (clients : List ℕ) (lowerable : IsLowerable parts flat servers clients) (fitting : AreFitting (S.returned parts flat servers clients (length flat.elements)).netlist) where
  abbrev element : ℕ → Element
  element k = element_at flat.elements k

  abbrev part : ℕ → Part
  part k = part_of parts (element k)

  abbrev count : ℕ
  count = length flat.elements

  abbrev place : ℕ → ℕ
  place k = S.place parts flat servers clients k

  abbrev forwarded : ℕ → Lowering
  forwarded k = S.forwarded parts flat servers clients k

  pub placed : (k : ℕ) → k < count → IsPlaced servers flat.elements k
  placed k lt = numbered_at servers (length flat.widths) flat.elements k lowerable.design.numbered lt

  -- what each element makes stands below what the next ones do
  made_below : (j k i : ℕ) → j < k → k ≤ count → i < output_count (part j) → place j + i < place k
  made_below j k i lt le inner =
      let here = (placed j (omega arith)).next in
      let makes = (lowerable.fit j (omega arith)).makes in
      omega (arith, inner, here, makes, place_rises servers flat.elements (j + 1) k (omega (arith, lt)))

  taken_below : (j k i : ℕ) → j ≤ k → k < count → i < length (element j).sources → channel_at (element j).sources i < place k
  taken_below j k i le lt inner = omega (arith, source_below servers flat.elements j i (placed j (omega arith)) inner, place_rises servers flat.elements j k le)

  pub went_forward : (k : ℕ) → k ≤ count → (j : ℕ) → j < k → WentForward (forwarded k).netlist (forwarded k).wires (part j) (laid_of (forwarded k).row j) (place j) (element j).sources
  went_forward zero le j lt = absurd (omega (arith, lt))
  went_forward (suc k) le j lt =
      let s : Lowering = forwarded k in
      let p = S.forwarded_so_far parts flat servers clients lowerable fitting k (omega arith) in
      let kept = S.kept_forwarded parts flat servers clients lowerable fitting k (omega arith) in
      let first : ℕ = get_or s.registers k 0 in
      let inputs = wires_at s.wires (element k).sources in
      let at : ℕ = length s.netlist.nets in
      let nets = forward_nets (part k) first inputs at in
      let new : Plan = with_nets s.netlist nets in
      let out : Wire = first_output (part k) first inputs at in
      let more = outputs (part k) first inputs at in
      let laid : Laid = laid_forward (part k) (laid_at first) inputs at in
      let grows : Grows s.netlist new = grows_all s.netlist nets kept.width_count in
      let wired = p.wire_count in
      let rows = p.row_count in
      let same : (i : ℕ) → i ≤ k → wires_at (s.wires ++ more) (element i).sources ≡ wires_at s.wires (element i).sources = λ i low.
      wires_kept s.wires more (element i).sources (λ a inner. omega (arith, wired, taken_below i k a low (omega arith) inner)) in
      elim (cases_lt j k) [
        | inl before ↦
            let old = went_forward k (omega arith) j before in
            let row_at : laid_of (s.row ++ laid ∷ []) j ≡ laid_of s.row j = get_or_append_left s.row (laid ∷ []) (laid_at 0) j (omega (arith, before, rows)) in
            subst (λ (l : Laid). WentForward new (s.wires ++ more) (part j) l (place j) (element j).sources) (sym row_at)
            (record {
              inputs = old.inputs ∙ sym (same j (omega (arith, before)));
              nets = grown_stand s.netlist new grows _ _ old.nets;
              outs = λ i inner. get_or_append_left s.wires more no_wire (place j + i) (omega (arith, wired, made_below j k i before (omega arith) inner)) ∙ old.outs i inner;
            })
        | inr ge ↦
            let e : k ≡ j = omega (arith, lt, ge) in
            let row_new : laid_of (s.row ++ laid ∷ []) k ≡ laid =
            ap (λ i. laid_of (s.row ++ laid ∷ []) i) (let z : k ≡ length s.row + 0 = omega (arith, rows) in z) ∙ get_or-append-add s.row (laid ∷ []) 0 (laid_at 0) in
            subst (λ i. WentForward new (s.wires ++ more) (part i) (laid_of (s.row ++ laid ∷ []) i) (place i) (element i).sources) e
            (subst (λ (l : Laid). WentForward new (s.wires ++ more) (part k) l (place k) (element k).sources) (sym row_new)
            (record {
              inputs = sym (same k (omega arith));
              nets = behind s.netlist nets;
              outs = λ i inner.
                  ap (λ n. wire_at (s.wires ++ more) (n + i)) (sym wired) ∙ get_or-append-add s.wires more i no_wire ∙ wires-at out (output_count (part k)) i inner;
            }))
      ]

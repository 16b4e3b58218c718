-- What each element has in the netlist that its flat list is lowered to: all its nets, between those of its channels.
use Rattle.std.specs.Prelude.{◌≡◌, ℕ, ◌+◌, ◌*◌, ◌<◌, List, Some, length}
use Rattle.std.proofs.Common.{sym, ◌∙◌, ap, subst, arith}
use Rattle.std.proofs.lemmas.List.{get_or-map}
use Rattle.netlist.specs.declared.part.Part.{Part}
use Rattle.netlist.specs.Parts.{IsGoodPart, part_width}
use Rattle.netlist.specs.Plans.{Plan, IsPlan}
use Rattle.net_lists.specs.Lists.{StandFrom}
use Rattle.net_lists.specs.Runs.{ChannelNets}
use Rattle.flat_design.specs.declared.element.Element.{Element}
use Rattle.flat_design.specs.declared.element.Flat.{Flat}
use Rattle.buffer_stage.specs.declared.laid.Wire.{Wire}
use Rattle.buffer_stage.specs.declared.laid.Laid.{Laid}
use Rattle.buffer_stage.specs.GoodParts.{DoFit, DoFitBack}
use Rattle.buffer_stage.specs.Passes.{input_count, output_count, no_wire, wire_at, ready_at, register_nets, forward_nets, first_output, backward_nets, first_ready}
use Rattle.channel_lower.specs.declared.lowering.Lowering.{Lowering}
use Rattle.channel_lower.specs.Growth.{Grows, grown_stand, grown_fit, grown_back}
use Rattle.channel_lower.specs.Lowerable.{IsLowerable, widths_at, place_of}
use Rattle.channel_lower.specs.Lowering.{element_at, part_of, laid_of, channel_at, lowered}
use Rattle.channel_lower.specs.Numbers.{sink_at}
use Rattle.lowered_nets.specs.Backward.{still_forward, went_back}
use Rattle.lowered_nets.specs.Before.{AreFitting, fitting_of}
use Rattle.lowered_nets.specs.Forward.{placed}
use Rattle.lowered_nets.specs.Linked.{IsLinked, all_grow, fitting_before, same_wires, same_readies, all_linked}
use Rattle.lowered_nets.specs.States as S

abbrev pub channel : ℕ → ℕ → ℕ → ChannelNets
channel valid word ready = record { valid = valid; word = word; ready = ready }

-- All that a part has in a netlist, between the nets of these channels.
pub record HasAll (plan : Plan) (part : Part) (laid : Laid) (widths : List ℕ) (inputs outputs : ℕ → ChannelNets) : Type 0 where
  pub kept : IsPlan plan
  pub good : IsGoodPart part
  pub width : ℕ
  pub gives : part_width part widths ≡ Some width
  pub registers : StandFrom plan.nets laid.registers (register_nets part)
  pub forward : StandFrom plan.nets laid.forward (forward_nets part laid.registers laid.inputs laid.forward)
  pub backward : StandFrom plan.nets laid.backward (backward_nets part laid laid.readies laid.backward)
  pub linked : IsLinked plan part laid
  pub fit : DoFit plan part laid.inputs widths
  pub back : DoFitBack plan part laid.readies
  pub output : laid.output ≡ first_output part laid.registers laid.inputs laid.forward
  pub ins : (j : ℕ) → j < input_count part → inputs j ≡ channel (wire_at laid.inputs j).valid (wire_at laid.inputs j).word (first_ready part laid.readies laid.backward + j)
  pub outs : (j : ℕ) → j < output_count part → outputs j ≡ channel (laid.output.valid + 2 * j) laid.output.word (ready_at laid.readies j)

-- the nets of a channel
abbrev pub channel_nets : Lowering → ℕ → ChannelNets
channel_nets s c = record { valid = (wire_at s.wires c).valid; word = (wire_at s.wires c).word; ready = ready_at s.readies c }

-- Where a flat list can be lowered and its netlist keeps the rules of netlists, each of its elements has all its nets there, between those of the
-- channels that it takes and of the next ones, which it makes.
abbrev pub LoweredElementsHaveTheirNets : Type 0
LoweredElementsHaveTheirNets = (parts : List Part) (flat : Flat) (servers : ℕ) (clients : List ℕ) → IsLowerable parts flat servers clients → IsPlan (lowered parts flat servers clients).netlist
    → (k : ℕ) → k < length flat.elements → (laid : Laid)
    × HasAll (lowered parts flat servers clients).netlist (part_of parts (element_at flat.elements k)) laid (widths_at flat.widths (element_at flat.elements k).sources)
    (λ j. channel_nets (lowered parts flat servers clients) (channel_at (element_at flat.elements k).sources j)) (λ j. channel_nets (lowered parts flat servers clients) (place_of servers flat.elements k + j))

-- ---- the law

module _ (parts : List Part) (flat : Flat) (servers : ℕ) (clients : List ℕ) (lowerable : IsLowerable parts flat servers clients) (kept : IsPlan (lowered parts flat servers clients).netlist) where
  abbrev element : ℕ → Element
  element k = element_at flat.elements k

  abbrev part : ℕ → Part
  part k = part_of parts (element k)

  abbrev count : ℕ
  count = length flat.elements

  abbrev place : ℕ → ℕ
  place k = S.place parts flat servers clients k

  abbrev end : Lowering
  end = lowered parts flat servers clients

  abbrev done : Lowering
  done = S.returned parts flat servers clients count

  abbrev nets : ℕ → ChannelNets
  nets c = channel_nets end c

  fitting : AreFitting (S.returned parts flat servers clients (length flat.elements)).netlist
  fitting = fitting_before parts flat servers clients count (fitting_of end.netlist kept)

  grows : Grows done.netlist end.netlist
  grows = all_grow parts flat servers clients count

  module _ (k : ℕ) (lt : k < length flat.elements) where
    abbrev laid : Laid
    laid = laid_of done.row k

    sink_at_place : (j : ℕ) → j < length (element k).sinks → channel_at (element k).sinks j ≡ place k + j
    sink_at_place j inner = sink_at servers flat.elements k j (placed parts flat servers clients lowerable fitting k lt) inner

    input_nets : (j : ℕ) → j < input_count (part k)
        → nets (channel_at (element k).sources j) ≡ channel (wire_at laid.inputs j).valid (wire_at laid.inputs j).word (first_ready (part k) laid.readies laid.backward + j)
    input_nets j inner =
        let c : ℕ = channel_at (element k).sources j in
        let takes = (lowerable.fit k lt).takes in
        let went = still_forward parts flat servers clients lowerable fitting count (omega arith) k lt in
        let back = went_back parts flat servers clients lowerable fitting count (omega arith) k lt (omega arith) in
        let taken : wire_at laid.inputs j ≡ wire_at done.wires c =
        ap (λ (ws : List Wire). wire_at ws j) went.inputs ∙ get_or-map (wire_at done.wires) (element k).sources j 0 no_wire (omega (arith, inner, takes)) in
        let wire : wire_at end.wires c ≡ wire_at laid.inputs j = ap (λ (ws : List Wire). wire_at ws c) (same_wires parts flat servers clients count) ∙ sym taken in
        let ready : ready_at end.readies c ≡ first_ready (part k) laid.readies laid.backward + j = ap (λ (rs : List ℕ). ready_at rs c) (same_readies parts flat servers clients count) ∙ back.ins j inner in
        ap (λ (w : Wire). channel w.valid w.word (ready_at end.readies c)) wire ∙ ap (λ n. channel (wire_at laid.inputs j).valid (wire_at laid.inputs j).word n) ready

    output_nets : (j : ℕ) → j < output_count (part k) → nets (place k + j) ≡ channel (laid.output.valid + 2 * j) laid.output.word (ready_at laid.readies j)
    output_nets j inner =
        let c : ℕ = place k + j in
        let makes = (lowerable.fit k lt).makes in
        let inside : j < length (element k).sinks = omega (arith, inner, makes) in
        let went = still_forward parts flat servers clients lowerable fitting count (omega arith) k lt in
        let back = went_back parts flat servers clients lowerable fitting count (omega arith) k lt (omega arith) in
        let made : Wire = record { valid = laid.output.valid + 2 * j; word = laid.output.word } in
        let wire : wire_at end.wires c ≡ made = ap (λ (ws : List Wire). wire_at ws c) (same_wires parts flat servers clients count) ∙ went.outs j inner in
        let given : ready_at laid.readies j ≡ ready_at done.readies c =
        ap (λ (rs : List ℕ). ready_at rs j) back.given ∙ get_or-map (ready_at done.readies) (element k).sinks j 0 0 inside ∙ ap (λ d. ready_at done.readies d) (sink_at_place j inside) in
        let ready : ready_at end.readies c ≡ ready_at laid.readies j = ap (λ (rs : List ℕ). ready_at rs c) (same_readies parts flat servers clients count) ∙ sym given in
        ap (λ (w : Wire). channel w.valid w.word (ready_at end.readies c)) wire ∙ ap (λ n. channel (laid.output.valid + 2 * j) laid.output.word n) ready

    pub has_all : HasAll end.netlist (part k) laid (widths_at flat.widths (element k).sources) (λ j. nets (channel_at (element k).sources j)) (λ j. nets (place k + j))
    has_all =
        let p = S.returned_so_far parts flat servers clients lowerable fitting count (omega arith) in
        let fit = lowerable.fit k lt in
        let forward = p.gone_forward k lt in
        let backward = p.gone_back k lt (omega arith) in
        let went = still_forward parts flat servers clients lowerable fitting count (omega arith) k lt in
        let back = went_back parts flat servers clients lowerable fitting count (omega arith) k lt (omega arith) in
        record {
          kept = kept;
          good = fit.good;
          width = fit.width;
          gives = fit.gives;
          registers = grown_stand done.netlist end.netlist grows _ _ (subst (λ r. StandFrom done.netlist.nets r (register_nets (part k))) (sym forward.same) (p.registers k lt).stand);
          forward = grown_stand done.netlist end.netlist grows _ _ went.nets;
          backward = grown_stand done.netlist end.netlist grows _ _ back.nets;
          linked = all_linked parts flat servers clients lowerable fitting count (omega arith) k lt;
          fit = grown_fit done.netlist end.netlist grows (part k) laid.inputs (widths_at flat.widths (element k).sources) forward.fit;
          back = grown_back done.netlist end.netlist grows (part k) laid.readies backward.back;
          output = forward.output;
          ins = input_nets;
          outs = output_nets;
        }

pub lowered_elements_have_all : LoweredElementsHaveTheirNets
lowered_elements_have_all parts flat servers clients lowerable kept k lt =
    (laid_of (S.returned parts flat servers clients (length flat.elements)).row k, has_all parts flat servers clients lowerable kept k lt)

-- A flat list stands in the netlist that it is lowered to.
use Rattle.std.specs.Prelude.{◌≡◌, ℕ, suc, ◌+◌, ◌<◌, Bool, List, [], ◌∷◌, Option, Some, length, slice_get, refl}
use Rattle.std.proofs.Common.{sym, ◌∙◌, ap, subst, arith}
use Rattle.std.proofs.lemmas.Option.{slice_get-get_or}
use Rattle.netlist.specs.declared.part.Part.{Part}
use Rattle.netlist.specs.declared.part.Part.TheVariants.{Stage, Fifo, AsFifo, AsVr, Map, Scan, Fork, Join}
use Rattle.netlist.specs.Plans.{Plan, IsPlan}
use Rattle.element_laws.specs.Elements as laws
use Rattle.net_lists.specs.Runs.{ChannelNets}
use Rattle.flat_design.specs.declared.element.Element.{Element}
use Rattle.flat_design.specs.declared.element.Flat.{Flat}
use Rattle.buffer_stage.specs.declared.laid.Laid.{Laid}
use Rattle.buffer_stage.specs.Passes.{input_count, output_count}
use Rattle.channel_lower.specs.declared.lowering.Lowering.{Lowering}
use Rattle.channel_lower.specs.Lowerable.{FitsBetween, IsLowerable, widths_at, place_of}
use Rattle.channel_lower.specs.Lowering.{element_at, part_of, channel_at, lowered}
use Rattle.design_flow.specs.Elements as flow
use Rattle.design_flow.specs.RowLaws.{AreCounted, IsRow, flat_lists_are_rows}
use Rattle.lowered_laws.specs.Standing.{IsStanding}
use Rattle.lowered_laws.specs.Rows.{IsStandingAt, AreStanding, StandsThere}
use Rattle.lowered_laws.specs.RowLemmas.{standing_rows_follow, standing_rows_run, standing_loads_fall}
use Rattle.lowered_nets.specs.Elements.{channel_nets, HasAll, lowered_elements_have_all}
use Rattle.lowered_designs.specs.Designs.{AreSignalledWell, LoweredListsStand, LoweredDesignsFollowFlow, LoweredLoadsFall}
use Rattle.lowered_designs.specs.Loops.{fifo_there, fork_there}
use Rattle.lowered_designs.specs.Parts.{stage_there, as_fifo_there, as_vr_there, map_there, scan_there, join_there}

-- ---- one part

stands : (plan : Plan) (part : Part) (laid : Laid) (widths : List ℕ) (inputs outputs : ℕ → ChannelNets) → HasAll plan part laid widths inputs outputs → IsStanding plan part inputs outputs
stands plan (Stage width) laid widths inputs outputs h = stage_there plan laid widths inputs outputs width h
stands plan (Fifo width depth) laid widths inputs outputs h = fifo_there plan laid widths inputs outputs width depth h
stands plan AsFifo laid widths inputs outputs h = as_fifo_there plan laid widths inputs outputs h
stands plan AsVr laid widths inputs outputs h = as_vr_there plan laid widths inputs outputs h
stands plan (Map body) laid widths inputs outputs h = map_there plan laid widths inputs outputs body h
stands plan (Scan reset body) laid widths inputs outputs h = scan_there plan laid widths inputs outputs reset body h
stands plan (Fork branches) laid widths inputs outputs h = fork_there plan laid widths inputs outputs branches h
stands plan Join laid widths inputs outputs h = join_there plan laid widths inputs outputs h

-- a part has as many channels as the element that it is
same_inputs : (part : Part) → input_count part ≡ laws.input_count (flow.element_of part)
same_inputs (Stage width) = refl
same_inputs (Fifo width depth) = refl
same_inputs AsFifo = refl
same_inputs AsVr = refl
same_inputs (Map body) = refl
same_inputs (Scan reset body) = refl
same_inputs (Fork branches) = refl
same_inputs Join = refl

same_outputs : (part : Part) → output_count part ≡ laws.output_count (flow.element_of part)
same_outputs (Stage width) = refl
same_outputs (Fifo width depth) = refl
same_outputs AsFifo = refl
same_outputs AsVr = refl
same_outputs (Map body) = refl
same_outputs (Scan reset body) = refl
same_outputs (Fork branches) = refl
same_outputs Join = refl

-- ---- all elements

in_table : (parts : List Part) (e : Element) → e.part < length parts → slice_get parts e.part ≡ Some (part_of parts e)
in_table parts e there = slice_get-get_or parts e.part AsFifo there

pub are_counted : (parts : List Part) (widths : List ℕ) (es : List Element) → ((k : ℕ) → k < length es → FitsBetween parts widths (element_at es k)) → AreCounted parts es
are_counted parts widths [] fit = tt
are_counted parts widths (e ∷ es) fit =
    let here : FitsBetween parts widths e = fit 0 (omega arith) in
    let is = in_table parts e here.there in (
      here.takes ∙ same_inputs (part_of parts e) ∙ ap (λ (o : Option Part). laws.input_count (flow.element_at o)) (sym is),
      here.makes ∙ same_outputs (part_of parts e) ∙ ap (λ (o : Option Part). laws.output_count (flow.element_at o)) (sym is),
      are_counted parts widths es (λ k lt. fit (suc k) (omega (arith, lt))),
    )

all_standing : (plan : Plan) (parts : List Part) (nets : ℕ → ChannelNets) (made : ℕ) (es : List Element) → AreCounted parts es
    → ((k : ℕ) → k < length es → IsStandingAt plan (slice_get parts (element_at es k).part) (λ j. nets (channel_at (element_at es k).sources j)) (λ j. nets (place_of made es k + j)))
    → AreStanding plan parts nets made es
all_standing plan parts nets made [] counted each = tt
all_standing plan parts nets made (e ∷ es) counted each = (
  each 0 (omega arith),
  subst (λ n. AreStanding plan parts nets (made + n) es) counted.1 (all_standing plan parts nets (made + length e.sinks) es counted.2 (λ k lt. each (suc k) (omega (arith, lt)))),
)

-- ---- a lowered netlist

module _ (parts : List Part) (flat : Flat) (servers : ℕ) (clients : List ℕ) (lowerable : IsLowerable parts flat servers clients) (kept : IsPlan (lowered parts flat servers clients).netlist) where
  abbrev element : ℕ → Element
  element k = element_at flat.elements k

  abbrev part : ℕ → Part
  part k = part_of parts (element k)

  abbrev end : Lowering
  end = lowered parts flat servers clients

  abbrev nets : ℕ → ChannelNets
  nets c = channel_nets end c

  stands_at : (k : ℕ) → k < length flat.elements
      → IsStandingAt end.netlist (slice_get parts (element k).part) (λ j. nets (channel_at (element k).sources j)) (λ j. nets (place_of servers flat.elements k + j))
  stands_at k lt =
      let inputs : ℕ → ChannelNets = λ j. nets (channel_at (element k).sources j) in
      let outputs : ℕ → ChannelNets = λ j. nets (place_of servers flat.elements k + j) in
      let all = lowered_elements_have_all parts flat servers clients lowerable kept k lt in
      subst (λ (o : Option Part). IsStandingAt end.netlist o inputs outputs) (sym (in_table parts (element k) (lowerable.fit k lt).there))
      (stands end.netlist (part k) all.0 (widths_at flat.widths (element k).sources) inputs outputs all.1)

  counts : AreCounted parts flat.elements
  counts = are_counted parts flat.widths flat.elements lowerable.fit

  pub is_row : IsRow parts servers flat clients
  is_row = flat_lists_are_rows parts servers flat clients lowerable.design counts

  pub stands_there : (is_fifo : ℕ → Bool) → AreSignalledWell parts flat servers clients is_fifo → StandsThere end.netlist parts flat servers clients (channel_nets end) is_fifo
  stands_there is_fifo well = record {
    list = is_row.list;
    elements = all_standing end.netlist parts (channel_nets end) servers flat.elements counts stands_at;
    signals = well.signals;
    ends = well.ends;
  }

-- ---- the laws

pub lowered_lists_do_stand : LoweredListsStand
lowered_lists_do_stand parts flat servers clients is_fifo lowerable well kept = stands_there parts flat servers clients lowerable kept is_fifo well

pub lowered_designs_follow : LoweredDesignsFollowFlow
lowered_designs_follow parts flat servers clients is_fifo offers history lowerable well run keeps channel below =
    let kept = run.complete.plan_kept in
    let there = stands_there parts flat servers clients lowerable kept is_fifo well in
    let all = (is_row parts flat servers clients lowerable kept).channels in
    standing_rows_follow (lowered parts flat servers clients).netlist parts flat servers clients (channel_nets (lowered parts flat servers clients)) is_fifo offers history there run keeps channel (omega (arith, below, all))

pub loads_do_fall : LoweredLoadsFall
loads_do_fall parts flat servers clients is_fifo lowerable well kept =
    let there = stands_there parts flat servers clients lowerable kept is_fifo well in
    let nets = channel_nets (lowered parts flat servers clients) in
    let as_row = standing_rows_run (lowered parts flat servers clients).netlist parts flat servers clients nets is_fifo there in
    record {
      as_row = as_row;
      falls = λ can offers cycle earlier run keeps in_line left line.
          standing_loads_fall (lowered parts flat servers clients).netlist parts flat servers clients nets is_fifo there as_row can offers cycle earlier run keeps in_line left line;
    }

-- The elements of a flat list that stand in a netlist follow its stream function.
use Rattle.std.specs.Prelude.{◌≡◌, ℕ, ◌+◌, ◌<◌, Bool, List, [], ◌∷◌, Option, Some, None, map, get_or, slice_get, refl}
use Rattle.std.proofs.Common.{sym, ap, subst}
use Rattle.netlist.specs.declared.part.Part.{Part}
use Rattle.netlist.specs.Nets.{Bits}
use Rattle.netlist.specs.Plans.{Plan}
use Rattle.element_laws.specs.Elements.{input_count, output_count, Contents}
use Rattle.element_laws.specs.Histories.{Channel}
use Rattle.net_lists.specs.Runs.{ChannelNets, IsNetRun}
use Rattle.element_rows.specs.Flat.{Placed, channel_count, IsFlatList}
use Rattle.element_rows.specs.Rows.{Running, places, AreRunning, Follows}
use Rattle.element_rows.specs.RowLemmas.{rows_follow}
use Rattle.element_rows.specs.Signalling.{gives_fifo, takes_fifo, AreSignalled, IsRunIfRead, AreRunningIfRead}
use Rattle.element_rows.specs.SignallingLemmas.{fifos_are_read_well}
use Rattle.element_load.specs.Load.{AllCanTake, weight}
use Rattle.element_load.specs.LoadLaws.{LoadFalls}
use Rattle.element_load.specs.LineLemmas.{loads_fall}
use Rattle.element_load.specs.WeightLemmas.{are_weights}
use Rattle.flat_design.specs.declared.element.Element as F
use Rattle.flat_design.specs.declared.element.Flat.{Flat}
use Rattle.design_flow.specs.Elements.{element_at, placed_of, row_of}
use Rattle.lowered_laws.specs.Standing.{signalled}
use Rattle.lowered_laws.specs.StandingLemmas.{before_of, after_of, standing_runs}
use Rattle.lowered_laws.specs.Rows.{IsStandingAt, AreStanding, channels_of, StandingRowsFollow, StandingRowsRun, StandingLoadsFall}

abbrev before_at : (plan : Plan) (part : Option Part) (inputs outputs : ℕ → ChannelNets) → IsStandingAt plan part inputs outputs → List Bits → Contents
before_at plan None inputs outputs s = absurd s
before_at plan (Some part) inputs outputs s = before_of plan part inputs outputs s

abbrev after_at : (plan : Plan) (part : Option Part) (inputs outputs : ℕ → ChannelNets) → IsStandingAt plan part inputs outputs → List Bits → Contents
after_at plan None inputs outputs s = absurd s
after_at plan (Some part) inputs outputs s = after_of plan part inputs outputs s

standing_at : (plan : Plan) (offers history : List (List Bits)) → IsNetRun plan offers history → (i o : ℕ → Channel (List Bits)) (part : Option Part) (inputs outputs : ℕ → ChannelNets) (s : IsStandingAt plan part inputs outputs)
    → ((k : ℕ) → k < input_count (element_at part) → i k ≡ signalled (takes_fifo (element_at part)) (inputs k)) → ((k : ℕ) → k < output_count (element_at part) → o k ≡ signalled (gives_fifo (element_at part)) (outputs k))
    → IsRunIfRead (element_at part) (before_at plan part inputs outputs s) (after_at plan part inputs outputs s) i o history
standing_at plan offers history run i o None inputs outputs s e f = absurd s
standing_at plan offers history run i o (Some part) inputs outputs s e f = standing_runs plan offers history run i o part inputs outputs s e f

module _ (plan : Plan) (parts : List Part) (nets : ℕ → ChannelNets) (is_fifo : ℕ → Bool) where
  -- the row with what each element holds
  abbrev pub standing_row : (made : ℕ) (es : List F.Element) → AreStanding plan parts nets made es → List (Running (List Bits))
  standing_row made [] s = []
  standing_row made (e ∷ es) s =
      record {
        placed = placed_of parts e;
        before = before_at plan (slice_get parts e.part) (λ k. nets (get_or e.sources k 0)) (λ k. nets (made + k)) s.0;
        after = after_at plan (slice_get parts e.part) (λ k. nets (get_or e.sources k 0)) (λ k. nets (made + k)) s.0;
      }
      ∷ standing_row (made + output_count (element_at (slice_get parts e.part))) es s.1

  pub standing_places : (made : ℕ) (es : List F.Element) (s : AreStanding plan parts nets made es) → places (standing_row made es s) ≡ map (placed_of parts) es
  standing_places made [] s = refl
  standing_places made (e ∷ es) s = ap (λ (ps : List Placed). placed_of parts e ∷ ps) (standing_places (made + output_count (element_at (slice_get parts e.part))) es s.1)

  pub standing_running : (offers history : List (List Bits)) → IsNetRun plan offers history → (made : ℕ) (es : List F.Element) (s : AreStanding plan parts nets made es) → AreSignalled is_fifo made (map (placed_of parts) es)
      → AreRunningIfRead (channels_of nets is_fifo) made (standing_row made es s) history
  standing_running offers history run made [] s signals = tt
  standing_running offers history run made (e ∷ es) s signals = (
    standing_at plan offers history run (λ k. channels_of nets is_fifo (get_or e.sources k 0)) (λ k. channels_of nets is_fifo (made + k)) (slice_get parts e.part) (λ k. nets (get_or e.sources k 0)) (λ k. nets (made + k)) s.0
        (λ k lt. ap (λ b. signalled b (nets (get_or e.sources k 0))) (signals.0 k lt)) (λ k lt. ap (λ b. signalled b (nets (made + k))) (signals.1 k lt)),
    standing_running offers history run (made + output_count (element_at (slice_get parts e.part))) es s.1 signals.2,
  )

pub standing_rows_follow : StandingRowsFollow
standing_rows_follow plan parts flat servers clients nets is_fifo offers history there run keeps channel below =
    let row = standing_row plan parts nets is_fifo servers flat.elements there.elements in
    let same : places row ≡ row_of parts flat = standing_places plan parts nets is_fifo servers flat.elements there.elements in
    let list : IsFlatList servers (places row) clients = subst (λ (ps : List Placed). IsFlatList servers ps clients) (sym same) there.list in
    let signals : AreSignalled is_fifo servers (places row) = subst (λ (ps : List Placed). AreSignalled is_fifo servers ps) (sym same) there.signals in
    let running : AreRunning (channels_of nets is_fifo) servers row history =
    fifos_are_read_well is_fifo (channels_of nets is_fifo) servers row clients history list signals there.ends (standing_running plan parts nets is_fifo offers history run servers flat.elements there.elements there.signals) in
    subst (λ (ps : List Placed). Follows (channels_of nets is_fifo) servers ps history channel) same
    (rows_follow (channels_of nets is_fifo) servers row history list.earlier running keeps channel (subst (λ (ps : List Placed). channel < channel_count servers ps) (sym same) below))

-- ---- the load

pub standing_rows_run : StandingRowsRun
standing_rows_run plan parts flat servers clients nets is_fifo there =
    let row = standing_row plan parts nets is_fifo servers flat.elements there.elements in
    let same : places row ≡ row_of parts flat = standing_places plan parts nets is_fifo servers flat.elements there.elements in
    let list : IsFlatList servers (places row) clients = subst (λ (ps : List Placed). IsFlatList servers ps clients) (sym same) there.list in
    let signals : AreSignalled is_fifo servers (places row) = subst (λ (ps : List Placed). AreSignalled is_fifo servers ps) (sym same) there.signals in
    record {
      row = row;
      same = same;
      runs = λ offers history run.
          fifos_are_read_well is_fifo (channels_of nets is_fifo) servers row clients history list signals there.ends (standing_running plan parts nets is_fifo offers history run servers flat.elements there.elements there.signals);
    }

pub standing_loads_fall : StandingLoadsFall
standing_loads_fall plan parts flat servers clients nets is_fifo there as_row can_take offers cycle earlier run keeps in_line left line =
    let back = sym as_row.same in
    let list : IsFlatList servers (places as_row.row) clients = subst (λ (ps : List Placed). IsFlatList servers ps clients) back there.list in
    let can : AllCanTake (places as_row.row) = subst AllCanTake back can_take in
    subst (λ (ps : List Placed). LoadFalls (weight servers ps clients) (channels_of nets is_fifo) servers as_row.row clients in_line left cycle) as_row.same
    (loads_fall (weight servers (places as_row.row) clients) (channels_of nets is_fifo) servers as_row.row clients cycle earlier in_line left
    (record {
      flat = list;
      can_take = can;
      weights = are_weights servers (places as_row.row) clients list;
      running = as_row.runs offers (cycle ∷ earlier) run;
      keeps = keeps;
    }) line)

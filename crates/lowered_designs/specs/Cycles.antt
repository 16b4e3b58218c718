-- Lowered designs in cycles of any kind that have the words of all nets, as those of a session have them beside what stands in line.
use Rattle.std.specs.Prelude.{◌≡◌, ℕ, ◌+◌, ◌*◌, ◌<◌, ◌≤◌, Bool, List, [], ◌∷◌, map, refl}
use Rattle.std.proofs.Common.{sym, ◌∙◌, ap, subst}
use Rattle.netlist.specs.declared.part.Part.{Part}
use Rattle.netlist.specs.Nets.{Bits}
use Rattle.netlist.specs.Plans.{IsPlan}
use Rattle.element_laws.specs.Histories.{Channel, KeepsOffers, reached, IsRun}
use Rattle.element_laws.specs.Elements.{output_count, IsCycle, reset}
use Rattle.element_rows.specs.Flat.{Placed, source, IsFlatList}
use Rattle.element_rows.specs.Rows.{Running, places, AreRunning}
use Rattle.element_load.specs.Load.{AllCanTake, AreWeights, weight}
use Rattle.element_load.specs.LoadLaws.{IsLoaded, Drains, first_load, HasArrived, greatest}
use Rattle.element_load.specs.DrainLemmas.{all_arrive}
use Rattle.element_load.specs.WeightLemmas.{are_weights}
use Rattle.session_runs.specs.Runs.{Account, IsSession, all_puts, Quiet, HasSettled}
use Rattle.session_runs.specs.RunLemmas.{sessions_do_settle}
use Rattle.net_lists.specs.Runs.{IsNetRun}
use Rattle.flat_design.specs.declared.element.Flat.{Flat}
use Rattle.channel_lower.specs.declared.lowering.Lowering.{Lowering}
use Rattle.channel_lower.specs.Lowerable.{IsLowerable}
use Rattle.channel_lower.specs.Lowering.{lowered}
use Rattle.design_flow.specs.Elements.{row_of}
use Rattle.lowered_laws.specs.Rows.{channels_of, RunsAsRow}
use Rattle.lowered_laws.specs.RowLemmas.{standing_rows_run}
use Rattle.lowered_nets.specs.Elements.{channel_nets}
use Rattle.lowered_designs.specs.Designs.{AreSignalledWell}
use Rattle.lowered_designs.specs.Whole.{is_row, stands_there}

-- the channels of a lowered netlist in such cycles
abbrev pub cycle_channels : {C : Type 0} → (C → List Bits) → Lowering → (ℕ → Bool) → ℕ → Channel C
cycle_channels words s is_fifo c cycle = channels_of (channel_nets s) is_fifo c (words cycle)

-- A flat list as a row of elements, each with what it holds, that runs in every run of its netlist. Where no element is a join all arrives: after as
-- many cycles with all to-client channels ready and nothing joining the lines as the load was before them, no value stands in line, no channel
-- offers a word, and what was transferred on each channel is the whole stream of what was transferred on the to-server channels. And a session that
-- ends with more quiet cycles than 1 + W for each value that was put misses nothing, W the greatest weight of a to-server channel.
pub record RunsInCycles {C : Type 0} (words : C → List Bits) (parts : List Part) (flat : Flat) (servers : ℕ) (clients : List ℕ) (is_fifo : ℕ → Bool) : Type 0 where
  pub row : List (Running C)
  pub same : places row ≡ row_of parts flat
  pub list : IsFlatList servers (places row) clients
  pub runs : (offers : List (List Bits)) (history : List C) → IsNetRun (lowered parts flat servers clients).netlist offers (map words history)
      → AreRunning (cycle_channels words (lowered parts flat servers clients) is_fifo) servers row history
  pub arrives : AllCanTake (row_of parts flat) → (in_line left : C → ℕ → ℕ) (count : ℕ) (offers : List (List Bits)) (cycle : C) (earlier : List C)
      → IsNetRun (lowered parts flat servers clients).netlist offers (map words (cycle ∷ earlier))
      → ((c : ℕ) → c < servers → KeepsOffers (cycle_channels words (lowered parts flat servers clients) is_fifo c) (cycle ∷ earlier))
      → Drains (cycle_channels words (lowered parts flat servers clients) is_fifo) servers clients in_line left count (cycle ∷ earlier)
      → first_load (weight servers (row_of parts flat) clients) servers row in_line count (cycle ∷ earlier) ≤ count
      → HasArrived (cycle_channels words (lowered parts flat servers clients) is_fifo) servers row (in_line cycle) cycle earlier
  pub settles : AllCanTake (row_of parts flat) → (account : Account C) (count : ℕ) (offers : List (List Bits)) (cycle : C) (earlier : List C)
      → IsNetRun (lowered parts flat servers clients).netlist offers (map words (cycle ∷ earlier))
      → ((c : ℕ) → c < servers → KeepsOffers (cycle_channels words (lowered parts flat servers clients) is_fifo c) (cycle ∷ earlier))
      → IsSession (cycle_channels words (lowered parts flat servers clients) is_fifo) servers clients account (cycle ∷ earlier)
      → Quiet account servers count (cycle ∷ earlier)
      → (1 + greatest (weight servers (row_of parts flat) clients) servers) * all_puts account servers (cycle ∷ earlier) < count
      → HasSettled (cycle_channels words (lowered parts flat servers clients) is_fifo) servers row clients account cycle earlier

abbrev pub LoweredListsRun : Type 0 → Type 0
LoweredListsRun C = (words : C → List Bits) (parts : List Part) (flat : Flat) (servers : ℕ) (clients : List ℕ) (is_fifo : ℕ → Bool)
    → IsLowerable parts flat servers clients → AreSignalledWell parts flat servers clients is_fifo → IsPlan (lowered parts flat servers clients).netlist
    → RunsInCycles words parts flat servers clients is_fifo

-- ---- a run seen in other cycles

same_reached : {C S : Type 0} (words : C → List Bits) (after : List Bits → S) (start : S) (history : List C) → reached after start (map words history) ≡ reached (λ cycle. after (words cycle)) start history
same_reached words after start [] = refl
same_reached words after start (cycle ∷ earlier) = refl

seen_run : {C S : Type 0} (words : C → List Bits) (IsOne : List Bits → Type 0) (before after : List Bits → S) (start : S) (history : List C) → IsRun IsOne before after start (map words history)
    → IsRun (λ cycle. IsOne (words cycle)) (λ cycle. before (words cycle)) (λ cycle. after (words cycle)) start history
seen_run words IsOne before after start [] run = tt
seen_run words IsOne before after start (cycle ∷ earlier) run = (run.0, run.1 ∙ same_reached words after start earlier, seen_run words IsOne before after start earlier run.2)

abbrev seen : {C : Type 0} → (C → List Bits) → List (Running (List Bits)) → List (Running C)
seen words [] = []
seen words (r ∷ row) = record { placed = r.placed; before = λ cycle. r.before (words cycle); after = λ cycle. r.after (words cycle) } ∷ seen words row

seen_places : {C : Type 0} (words : C → List Bits) (row : List (Running (List Bits))) → places (seen words row) ≡ places row
seen_places words [] = refl
seen_places words (r ∷ row) = ap (λ (ps : List Placed). r.placed ∷ ps) (seen_places words row)

seen_running : {C : Type 0} (words : C → List Bits) (channels : ℕ → Channel (List Bits)) (made : ℕ) (row : List (Running (List Bits))) (history : List C) → AreRunning channels made row (map words history)
    → AreRunning (λ k cycle. channels k (words cycle)) made (seen words row) history
seen_running words channels made [] history running = tt
seen_running words channels made (r ∷ row) history running = (
  seen_run words (λ w. IsCycle r.placed.element (r.before w) (r.after w) (λ k. channels (source r.placed k) w) (λ k. channels (made + k) w)) r.before r.after (reset r.placed.element) history running.0,
  seen_running words channels (made + output_count r.placed.element) row history running.1,
)

-- ---- the law

module _ {C : Type 0} (words : C → List Bits) (parts : List Part) (flat : Flat) (servers : ℕ) (clients : List ℕ) (is_fifo : ℕ → Bool) (lowerable : IsLowerable parts flat servers clients)
    (well : AreSignalledWell parts flat servers clients is_fifo) (kept : IsPlan (lowered parts flat servers clients).netlist) where
  abbrev end : Lowering
  end = lowered parts flat servers clients

  as_row : RunsAsRow end.netlist parts flat servers (channel_nets end) is_fifo
  as_row = standing_rows_run end.netlist parts flat servers clients (channel_nets end) is_fifo (stands_there parts flat servers clients lowerable kept is_fifo well)

  abbrev its_row : List (Running C)
  its_row = seen words as_row.row

  same_places : places its_row ≡ row_of parts flat
  same_places = seen_places words as_row.row ∙ as_row.same

  flat_list : IsFlatList servers (row_of parts flat) clients
  flat_list = (is_row parts flat servers clients lowerable kept).list

  its_list : IsFlatList servers (places its_row) clients
  its_list = subst (λ (ps : List Placed). IsFlatList servers ps clients) (sym same_places) flat_list

  its_weights : AreWeights (weight servers (row_of parts flat) clients) servers (places its_row) clients
  its_weights = subst (λ (ps : List Placed). AreWeights (weight servers (row_of parts flat) clients) servers ps clients) (sym same_places) (are_weights servers (row_of parts flat) clients flat_list)

  its_runs : (offers : List (List Bits)) (history : List C) → IsNetRun end.netlist offers (map words history) → AreRunning (cycle_channels words end is_fifo) servers its_row history
  its_runs offers history run = seen_running words (channels_of (channel_nets end) is_fifo) servers as_row.row history (as_row.runs offers (map words history) run)

  is_loaded : AllCanTake (row_of parts flat) → (offers : List (List Bits)) (history : List C) → IsNetRun end.netlist offers (map words history)
      → ((c : ℕ) → c < servers → KeepsOffers (cycle_channels words end is_fifo c) history)
      → IsLoaded (weight servers (row_of parts flat) clients) (cycle_channels words end is_fifo) servers its_row clients history
  is_loaded can offers history run keeps = record {
    flat = its_list;
    can_take = subst (λ (ps : List Placed). AllCanTake ps) (sym same_places) can;
    weights = its_weights;
    running = its_runs offers history run;
    keeps = keeps;
  }

  pub runs_in_cycles : RunsInCycles words parts flat servers clients is_fifo
  runs_in_cycles = record {
    row = its_row;
    same = same_places;
    list = its_list;
    runs = its_runs;
    arrives = λ can in_line left count offers cycle earlier run keeps drains enough.
        all_arrive (weight servers (row_of parts flat) clients) (cycle_channels words end is_fifo) servers its_row clients in_line left count cycle earlier (is_loaded can offers (cycle ∷ earlier) run keeps) drains enough;
    settles = λ can account count offers cycle earlier run keeps session quiet enough.
        sessions_do_settle (weight servers (row_of parts flat) clients) (cycle_channels words end is_fifo) servers its_row clients account count cycle earlier (is_loaded can offers (cycle ∷ earlier) run keeps) session quiet enough;
  }

pub lowered_lists_do_run : {C : Type 0} → LoweredListsRun C
lowered_lists_do_run words parts flat servers clients is_fifo lowerable well kept = runs_in_cycles words parts flat servers clients is_fifo lowerable well kept

-- What a session of a lowered design hands.
use Rattle.std.specs.Prelude.{◌≡◌, ℕ, ◌+◌, ◌*◌, ◌<◌, Bool, true, List, [], ◌∷◌, length, map, refl}
use Rattle.std.proofs.Common.{sym, ◌∙◌, subst, arith}
use Rattle.netlist.specs.declared.part.Part.{Part}
use Rattle.netlist.specs.Nets.{Bits}
use Rattle.element_laws.specs.Streams.{IsPrefix}
use Rattle.element_rows.specs.Flat.{Placed, channel_count, among, at, flow}
use Rattle.element_rows.specs.Rows.{server_lists}
use Rattle.element_load.specs.Load.{AllCanTake, weight}
use Rattle.element_load.specs.LoadLaws.{greatest}
use Rattle.element_load.specs.RingLemmas.{rings_keep}
use Rattle.session_runs.specs.Runs.{Account, IsSession, all_puts, Quiet, HasSettled}
use Rattle.session_runs.specs.Words.{Words, all_of, IsServed, IsHanded}
use Rattle.session_runs.specs.WordLemmas.{served_ring, handed_is_prefix, handed_is_whole}
use Rattle.net_lists.specs.Runs.{IsNetRun}
use Rattle.flat_design.specs.declared.element.Flat.{Flat}
use Rattle.channel_lower.specs.Lowerable.{IsLowerable}
use Rattle.channel_lower.specs.Lowering.{lowered}
use Rattle.design_flow.specs.Elements.{row_of, flow_of}
use Rattle.lowered_designs.specs.Cycles.{cycle_channels, runs_in_cycles}
use Rattle.lowered_designs.specs.Designs.{AreSignalledWell}
use Rattle.lowered_designs.specs.Whole.{is_row}

-- In every session over the netlist of a flat list, at each moment, what was handed of a channel so far is the beginning of the stream function of
-- the list, of the values that were taken: values are taken into rings before the to-server channels, which offer their fronts, and handed out of
-- rings behind the to-client channels.
abbrev pub SessionsHandPrefixes : Type 0 → Type 0
SessionsHandPrefixes C = (words : C → List Bits) (parts : List Part) (flat : Flat) (servers : ℕ) (clients : List ℕ) (is_fifo : ℕ → Bool) (session : Words C) (offers : List (List Bits)) (history : List C)
    → IsLowerable parts flat servers clients → AreSignalledWell parts flat servers clients is_fifo → IsNetRun (lowered parts flat servers clients).netlist offers (map words history)
    → ((c : ℕ) → c < servers → IsServed (cycle_channels words (lowered parts flat servers clients) is_fifo c) (session.taken c) (session.ring c) (session.left c) history)
    → (channel : ℕ) → channel < length flat.widths → IsHanded (cycle_channels words (lowered parts flat servers clients) is_fifo channel) (session.handed channel) (session.out channel) history
    → IsPrefix (all_of (session.handed channel) history) (at (flow_of parts flat (server_lists (λ c. all_of (session.taken c) history) servers)) channel)

pub sessions_do_hand : {C : Type 0} → SessionsHandPrefixes C
sessions_do_hand words parts flat servers clients is_fifo session offers history lowerable well run served channel below handed =
    let kept = run.complete.plan_kept in
    let in_cycles = runs_in_cycles words parts flat servers clients is_fifo lowerable well kept in
    let all = (is_row parts flat servers clients lowerable kept).channels in
    let inside : channel < channel_count servers (row_of parts flat) = omega (arith, below, all) in
    subst (λ (ps : List Placed). IsPrefix (all_of (session.handed channel) history) (at (flow ps (server_lists (λ c. all_of (session.taken c) history) servers)) channel)) in_cycles.same
    (handed_is_prefix (cycle_channels words (lowered parts flat servers clients) is_fifo) servers in_cycles.row session history in_cycles.list.earlier (in_cycles.runs offers history run) served channel
    (subst (λ (ps : List Placed). channel < channel_count servers ps) (sym in_cycles.same) inside) handed)

-- ---- all of it

-- behind a cycle, so many values stand in the rings as are counted there
pub record AreCounted {C : Type 0} (servers : ℕ) (clients : List ℕ) (account : Account C) (session : Words C) (cycle : C) : Type 0 where
  pub to_server : (c : ℕ) → c < servers → (account.new cycle).to_server c ≡ length (session.left c cycle)
  pub to_client : (c : ℕ) → among c clients ≡ true → (account.new cycle).to_client c ≡ length (session.out c cycle)

-- In a session over the netlist of a flat list without joins that ends with more quiet cycles than 1 + W for each value that was put, where W is the
-- greatest weight of a to-server channel, what was handed of each to-client channel is the whole of the stream function of the list, of the values
-- that were taken.
abbrev pub SessionsHandAll : Type 0 → Type 0
SessionsHandAll C = (words : C → List Bits) (parts : List Part) (flat : Flat) (servers : ℕ) (clients : List ℕ) (is_fifo : ℕ → Bool) (session : Words C) (account : Account C) (count : ℕ) (offers : List (List Bits)) (cycle : C)
    (earlier : List C)
    → IsLowerable parts flat servers clients → AreSignalledWell parts flat servers clients is_fifo → AllCanTake (row_of parts flat) → IsNetRun (lowered parts flat servers clients).netlist offers (map words (cycle ∷ earlier))
    → ((c : ℕ) → c < servers → IsServed (cycle_channels words (lowered parts flat servers clients) is_fifo c) (session.taken c) (session.ring c) (session.left c) (cycle ∷ earlier))
    → IsSession (cycle_channels words (lowered parts flat servers clients) is_fifo) servers clients account (cycle ∷ earlier) → AreCounted servers clients account session cycle
    → Quiet account servers count (cycle ∷ earlier) → (1 + greatest (weight servers (row_of parts flat) clients) servers) * all_puts account servers (cycle ∷ earlier) < count
    → (channel : ℕ) → channel < length flat.widths → among channel clients ≡ true
    → IsHanded (cycle_channels words (lowered parts flat servers clients) is_fifo channel) (session.handed channel) (session.out channel) (cycle ∷ earlier)
    → all_of (session.handed channel) (cycle ∷ earlier) ≡ at (flow_of parts flat (server_lists (λ c. all_of (session.taken c) (cycle ∷ earlier)) servers)) channel

empty_of : (words : List Bits) → length words ≡ 0 → words ≡ []
empty_of [] e = refl
empty_of (word ∷ words) e = absurd (omega (arith, e))

pub sessions_do_hand_all : {C : Type 0} → SessionsHandAll C
sessions_do_hand_all words parts flat servers clients is_fifo session account count offers cycle earlier lowerable well can run served is_session counted quiet enough channel below is_client handed =
    let kept = run.complete.plan_kept in
    let in_cycles = runs_in_cycles words parts flat servers clients is_fifo lowerable well kept in
    let all = (is_row parts flat servers clients lowerable kept).channels in
    let inside : channel < channel_count servers (row_of parts flat) = omega (arith, below, all) in
    let channels = cycle_channels words (lowered parts flat servers clients) is_fifo in
    let settled : HasSettled channels servers in_cycles.row clients account cycle earlier =
    in_cycles.settles can account count offers cycle earlier run
    (λ c lt. rings_keep (channels c) (session.ring c) (session.left c) (cycle ∷ earlier) (served_ring (channels c) (session.taken c) (session.ring c) (session.left c) (cycle ∷ earlier) (served c lt)))
    is_session quiet enough in
    subst (λ (ps : List Placed). all_of (session.handed channel) (cycle ∷ earlier) ≡ at (flow ps (server_lists (λ c. all_of (session.taken c) (cycle ∷ earlier)) servers)) channel) in_cycles.same
    (handed_is_whole channels servers in_cycles.row session (cycle ∷ earlier) served (λ c lt. empty_of (session.left c cycle) (sym (counted.to_server c lt) ∙ settled.none_in_line c lt)) channel handed
    (empty_of (session.out channel cycle) (sym (counted.to_client channel is_client) ∙ settled.none_out channel is_client))
    (settled.whole channel (subst (λ (ps : List Placed). channel < channel_count servers ps) (sym in_cycles.same) inside)))

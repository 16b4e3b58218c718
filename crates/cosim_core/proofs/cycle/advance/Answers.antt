use Rattle.std.proofs.Common.{◌-◌, ◌^◌, ◌<◌, ◌≤◌, IsSomeAnd, List, length, map, sym, ap, ◌∙◌, subst}
use Rattle.channel_lower.specs.declared.lowered.Lowered.{Lowered}
use Rattle.channel_lower.specs.declared.lowered.Port.{Port}
use Rattle.cycle_rules.specs.Cycle.{offers, rooms}
use Rattle.cycle_rules.specs.Lists.{zip_with}
use Rattle.cycle_rules.specs.Rings.{after_pop, after_push}
use Rattle.cycle_sim.specs.Simulated.{word_of}
use Rattle.netlist.specs.Nets.{Bits}
use Rattle.netlist.specs.Plans.{Plan}
use Rattle.netlist.specs.Runs.{registers_after}
use Rattle.netlist.specs.Settled.{AreInputs, IsSettled}
use Rattle.session_rules.specs.Ports.{inputs_of, is_ready, word_offered, ArePorts}
use Rattle.cosim_core.specs.Sessions.{lowered_of}
use Rattle.cosim_core.proofs.Cycles.{cycle_done}
use Rattle.cosim_core.proofs.Sessions.{blank_count, gathered_fit, pushed_count}
use Rattle.cosim_core.proofs.cycle.advance.Goals as goal

pub gather-requires-clause-servers : goal.gather-requires-clause-servers
gather-requires-clause-servers c =
    let lowered : Lowered = lowered_of c.args.wiring.now c.args.state.now.sim.plan in
    ap length c.as_slice.ensures
    ∙ blank_count lowered c.args.state.now.hub (registers_after c.args.state.now.sim.plan c.args.state.now.sim.last) c.args.wiring.now.blanks c.args.wiring.now.registers c.requires.keeps c.requires.kept

pub gather-requires-clause-clients : goal.gather-requires-clause-clients
gather-requires-clause-clients c = c.len.ensures ∙ sym c.requires.keeps.rings.to_client

pub gather-requires-clause-few_servers : goal.gather-requires-clause-few_servers
gather-requires-clause-few_servers c = subst (λ n. n ≤ 32) (sym c.requires.keeps.rings.to_server) c.requires.keeps.ports.few_servers

pub gather-requires-clause-few_clients : goal.gather-requires-clause-few_clients
gather-requires-clause-few_clients c = subst (λ n. n ≤ 32) (sym c.requires.keeps.rings.to_client) c.requires.keeps.ports.few_clients

pub settle-requires : goal.settle-requires
settle-requires c =
    let lowered : Lowered = lowered_of c.args.wiring.now c.args.state.now.sim.plan in
    subst (λ (ws : List Bits). AreInputs lowered.net ws) (sym c.as_slice-2.ensures)
    (gathered_fit lowered c.args.state.now.hub (registers_after c.args.state.now.sim.plan c.args.state.now.sim.last) c.args.wiring.now.blanks c.gather.new.inputs c.args.wiring.now.registers c.requires.keeps c.requires.kept
    (c.in_ok-gather.ensures ∙ ap (λ (bs : List Bits). inputs_of bs (offers c.args.state.now.hub.to_server) (rooms c.args.state.now.hub.to_client)) c.as_slice.ensures))

pub leave-requires-clause-rings : goal.leave-requires-clause-rings
leave-requires-clause-rings c = c.requires.keeps.rings.to_server ∙ sym (ap length c.as_slice-3.ensures)

pub leave-requires-clause-few : goal.leave-requires-clause-few
leave-requires-clause-few c = subst (λ (ps : List Port). length ps ≤ 32) (sym c.as_slice-3.ensures) c.requires.keeps.ports.few_servers

pub leave-requires-clause-ports : goal.leave-requires-clause-ports
leave-requires-clause-ports c =
    subst (λ (p : Plan). ArePorts p c.as_slice-3.result.now) (sym c.settle.ensures.plan)
    (subst (λ (ps : List Port). ArePorts c.args.state.now.sim.plan ps) (sym c.as_slice-3.ensures) c.requires.keeps.ports.servers)

pub enter-requires-clause-rings : goal.enter-requires-clause-rings
enter-requires-clause-rings c = ap length c.leave.ensures.to_client ∙ (c.requires.keeps.rings.to_client ∙ sym (ap length c.as_slice-4.ensures))

pub enter-requires-clause-few : goal.enter-requires-clause-few
enter-requires-clause-few c = subst (λ (ps : List Port). length ps ≤ 32) (sym c.as_slice-4.ensures) c.requires.keeps.ports.few_clients

pub enter-requires-clause-ports : goal.enter-requires-clause-ports
enter-requires-clause-ports c =
    subst (λ (p : Plan). ArePorts p c.as_slice-4.result.now) (sym c.settle.ensures.plan)
    (subst (λ (ps : List Port). ArePorts c.args.state.now.sim.plan ps) (sym c.as_slice-4.ensures) c.requires.keeps.ports.clients)

pub hand_all-requires-clause-rings : goal.hand_all-requires-clause-rings
hand_all-requires-clause-rings c =
    pushed_count (word_offered (word_of c.settle.new.sim)) c.leave.new.hub.to_client c.enter.new.hub.to_client c.as_slice-4.result.now c.enter.ensures.to_client
    (ap length c.leave.ensures.to_client ∙ (c.requires.keeps.rings.to_client ∙ sym (ap length c.as_slice-4.ensures)))
    ∙ (ap length c.as_slice-4.ensures ∙ sym c.requires.hands)

pub hand_all-requires-clause-few : goal.hand_all-requires-clause-few
hand_all-requires-clause-few c = subst (λ n. n ≤ 32) (sym c.requires.hands) c.requires.keeps.ports.few_clients

pub next_cycle-requires : goal.next_cycle-requires
next_cycle-requires c =
    subst (λ n. n < 2 ^ 64 - 1) (sym (c.in_ok-hand_all.ensures.cycles ∙ (ap (λ j. j.cycles) c.enter.ensures.journal ∙ ap (λ j. j.cycles) c.leave.ensures.journal))) c.requires.cycles

pub returns-clause-done : goal.returns-clause-done
returns-clause-done c =
    let lowered : Lowered = lowered_of c.args.wiring.now c.args.state.now.sim.plan in
    let held : List Bits = registers_after c.args.state.now.sim.plan c.args.state.now.sim.last in
    cycle_done lowered c.args.state.now.hub c.leave.new.hub c.enter.new.hub c.hand_all.new.hub c.next_cycle.new.self held c.settle.new.sim.plan c.args.hands.now c.hand_all.new.handed c.requires.keeps c.requires.hands
    c.settle.new.sim.last c.gather.new.inputs c.as_slice.result.now (c.as_slice.ensures ∙ c.requires.kept.blank) c.in_ok-gather.ensures
    (subst (λ (ws : List Bits). IsSomeAnd c.settle.new.sim.last (IsSettled lowered.net ws held)) c.as_slice-2.ensures c.settle.ensures.settled)
    (record {
      left_server = c.leave.ensures.to_server ∙ ap (λ (ps : List Port). zip_with after_pop c.args.state.now.hub.to_server (map (is_ready (word_of c.settle.new.sim)) ps)) c.as_slice-3.ensures;
      left_client = c.leave.ensures.to_client;
      left_stream = c.leave.ensures.has_stream;
      left_journal = c.leave.ensures.journal;
      entered_client = c.enter.ensures.to_client ∙ ap (λ (ps : List Port). zip_with after_push c.leave.new.hub.to_client (map (word_offered (word_of c.settle.new.sim)) ps)) c.as_slice-4.ensures;
      entered_server = c.enter.ensures.to_server;
      entered_stream = c.enter.ensures.has_stream;
      entered_journal = c.enter.ensures.journal;
      out_client = c.in_ok-hand_all.ensures.to_client;
      out_server = c.in_ok-hand_all.ensures.to_server;
      out_stream = c.in_ok-hand_all.ensures.has_stream;
      out_noted = c.in_ok-hand_all.ensures.noted;
      out_taken = c.in_ok-hand_all.ensures.taken;
      out_attached = c.in_ok-hand_all.ensures.attached;
      out_cycles = c.in_ok-hand_all.ensures.cycles;
      out_words = c.in_ok-hand_all.ensures.words;
      over = c.next_cycle.ensures;
    })

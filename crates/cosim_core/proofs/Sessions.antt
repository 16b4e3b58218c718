-- What the calls of a session come to, beside their parts.
use Rattle.std.proofs.Common.{◌≡◌, ℕ, Bool, Option, None, option_to_list, IsSomeAnd, Result, Ok, Err, OnOk, List, length, map, refl, sym, ◌∙◌, ap, subst}
use Rattle.std.proofs.lemmas.List.{length-map}
use Rattle.netlist.specs.Nets.{Bits, word_at}
use Rattle.netlist.specs.Plans.{Plan}
use Rattle.netlist.specs.Runs.{registers_after}
use Rattle.netlist.specs.Settled.{AreInputs, IsSettled}
use Rattle.cycle_rules.specs.ChannelsLemmas.{length_zip}
use Rattle.cycle_rules.specs.Cycle.{Machine, offers, rooms, after_transfers}
use Rattle.cycle_rules.specs.Lists.{zip_with}
use Rattle.cycle_rules.specs.Rings.{after_push}
use Rattle.channel_lower.specs.declared.lowered.Lowered.{Lowered}
use Rattle.channel_lower.specs.declared.lowered.Port.{Port}
use Rattle.endpoint_hub.specs.Holdings.{Holdings}
use Rattle.session_rules.specs.Hands.{word_out}
use Rattle.session_rules.specs.Kept.{IsKept}
use Rattle.session_rules.specs.Ports.{inputs_of, blank_word, circuit_of, start_of}
use Rattle.session_rules.specs.Registers.{held_words}
use Rattle.session_rules.specs.Replay.{replayed, leaving}
use Rattle.session_rules.specs.ReplayLemmas.{after_hands}
use Rattle.session_rules.specs.Running.{Running, registers_of, machine_in, inputs_in, IsRunning, Keeps}
use Rattle.session_rules.specs.RunningLemmas.{NotesCycle, inputs_fit}
use Rattle.cosim_core.specs.Cycles.{CycleDone}
use Rattle.cosim_core.specs.Sessions.{lowered_of}
use Rattle.cosim_core.specs.declared.parts.Wiring.{Wiring}

-- what holds on Ok may be put otherwise
pub on_ok : {A E : Type 0} (r : Result A E) (P Q : Type 0) → (P → Q) → OnOk r P → OnOk r Q
on_ok (Ok value) P Q f p = f p
on_ok (Err error) P Q f p = tt

-- what the parts of a cycle ask for
pub blank_count : (lowered : Lowered) (hub : Holdings) (held blanks : List Bits) (registers : List ℕ) → Keeps lowered hub held → IsKept lowered blanks registers → length blanks ≡ length hub.to_server
blank_count lowered hub held blanks registers keeps kept = ap length kept.blank ∙ (length-map lowered.servers (blank_word lowered.net) ∙ sym keeps.rings.to_server)

pub gathered_fit : (lowered : Lowered) (hub : Holdings) (held blanks inputs : List Bits) (registers : List ℕ) → Keeps lowered hub held → IsKept lowered blanks registers
    → inputs ≡ inputs_of blanks (offers hub.to_server) (rooms hub.to_client) → AreInputs lowered.net inputs
gathered_fit lowered hub held blanks inputs registers keeps kept is =
    subst (λ (ws : List Bits). AreInputs lowered.net ws) (sym (is ∙ ap (λ (bs : List Bits). inputs_of bs (offers hub.to_server) (rooms hub.to_client)) kept.blank)) (inputs_fit lowered hub held keeps)

pub pushed_count : (f : Port → Option Bits) (rings new : List (List Bits)) (ports : List Port) → new ≡ zip_with after_push rings (map f ports) → length rings ≡ length ports → length new ≡ length ports
pushed_count f rings new ports is same = ap length is ∙ (length_zip after_push rings (map f ports) (same ∙ sym (length-map ports f)) ∙ same)

-- the registers are those of the journal played again
pub held_is : (lowered : Lowered) (held words : List Bits) (blanks : List Bits) (registers : List ℕ) → IsKept lowered blanks registers → words ≡ map (word_at held) registers → words ≡ held_words lowered.net.nets held
held_is lowered held words blanks registers kept is = is ∙ ap (λ (rs : List ℕ). map (word_at held) rs) kept.places

pub replay_is : (lowered : Lowered) (hub : Holdings) (held words : List Bits) (blanks : List Bits) (registers : List ℕ) → Keeps lowered hub held → IsKept lowered blanks registers → words ≡ map (word_at held) registers
    → words ≡ held_words lowered.net.nets (replayed (circuit_of lowered) (start_of lowered) hub.journal.taken hub.journal.handed hub.journal.cycles).state
replay_is lowered hub held words blanks registers keeps kept is =
    held_is lowered held words blanks registers kept is
    ∙ ap (λ (ws : List Bits). held_words lowered.net.nets ws) (ap (λ (m : Machine (List Bits)). m.state) keeps.stands.machine_is)

-- ---- a new session

pub same_lowered : (wiring : Wiring) (plan : Plan) (lowered : Lowered) → wiring.servers ≡ lowered.servers → wiring.clients ≡ lowered.clients → plan ≡ lowered.net → lowered_of wiring plan ≡ lowered
same_lowered wiring plan lowered e f g =
    ap (λ (p : Plan). lowered_of wiring p) g
    ∙ (ap (λ (ps : List Port). let l : Lowered = record { net = lowered.net; servers = ps; clients = wiring.clients } in l) e
    ∙ ap (λ (ps : List Port). let l : Lowered = record { net = lowered.net; servers = lowered.servers; clients = ps } in l) f)

pub new_running : (lowered other : Lowered) (hub : Holdings) (last : Option (List Bits)) → other ≡ lowered → last ≡ None → Keeps lowered hub (start_of lowered) → Keeps other hub (registers_after other.net last)
new_running lowered other hub last e f keeps =
    subst (λ (l : Lowered). Keeps l hub (registers_after l.net last)) (sym e) (subst (λ (o : Option (List Bits)). Keeps lowered hub (registers_after lowered.net o)) (sym f) keeps)

-- ---- a cycle of a session

pub record SessionCycle (old new : Running) (hands : List Bool) : Type 0 where
  pub settled : IsSomeAnd new.last (IsSettled old.lowered.net (inputs_in old) (registers_of old))
  pub machine : machine_in new ≡ after_hands (circuit_of old.lowered) hands (machine_in old)
  pub noted : NotesCycle old.hub.journal new.hub.journal (after_transfers (circuit_of old.lowered) (machine_in old)).to_client hands
  pub words : new.handed ≡ zip_with word_out (after_transfers (circuit_of old.lowered) (machine_in old)).to_client hands
  pub left : map option_to_list new.handed ≡ leaving (circuit_of old.lowered) (start_of old.lowered) new.hub.journal.taken new.hub.journal.handed old.hub.journal.cycles
  pub streams : new.hub.has_stream ≡ old.hub.has_stream
  pub same : new.lowered ≡ old.lowered
  pub running : IsRunning new

abbrev running_with : Wiring → Plan → Holdings → Option (List Bits) → List (Option Bits) → Running
running_with wiring plan hub last handed = record { lowered = lowered_of wiring plan; hub = hub; last = last; handed = handed }

pub session_cycle : (old : Running) (wiring : Wiring) (plan after : Plan) (hub new : Holdings) (last next : Option (List Bits)) (handed words : List (Option Bits)) (hands : List Bool)
    → running_with wiring plan hub last handed ≡ old → after ≡ plan → CycleDone (lowered_of wiring plan) hub new (registers_after plan last) next hands words
    → SessionCycle old (running_with wiring after new next words) hands
session_cycle old wiring plan after hub new last next handed words hands is same done =
    subst (λ (o : Running). SessionCycle o (running_with wiring after new next words) hands) is
    (subst (λ (p : Plan). SessionCycle (running_with wiring plan hub last handed) (running_with wiring p new next words) hands) (sym same)
    (record { settled = done.settled; machine = done.machine; noted = done.noted; words = done.words; left = done.left; streams = done.streams; same = refl; running = done.keeps }))

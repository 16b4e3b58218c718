-- A whole cycle, of its parts.
use Rattle.std.proofs.Common.{◌≡◌, ◌+◌, Bool, Option, Some, None, IsSomeAnd, List, ◌++◌, length, map, ◌∙◌, ap, subst, true, false, refl, sym, option_to_list, [], ◌∷◌}
use Rattle.netlist.specs.Nets.{Bits, word_at}
use Rattle.netlist.specs.Plans.{Plan}
use Rattle.netlist.specs.Runs.{registers_after}
use Rattle.netlist.specs.Settled.{IsSettled}
use Rattle.cycle_rules.specs.Cycle.{Machine, offers, rooms, after_transfers, word_handed, transfers_from}
use Rattle.cycle_rules.specs.Lists.{zip_with}
use Rattle.cycle_rules.specs.Rings.{after_pop, after_push}
use Rattle.cycle_sim.specs.Simulated.{word_shown}
use Rattle.channel_lower.specs.declared.lowered.Lowered.{Lowered}
use Rattle.endpoint_hub.specs.Entries.{hand_of}
use Rattle.endpoint_hub.specs.Holdings.{Holdings, BeginsCycle}
use Rattle.endpoint_hub.specs.HubCycle.{machine_of}
use Rattle.session_rules.specs.Hands.{word_out}
use Rattle.session_rules.specs.Ports.{inputs_of, blanks_of, is_ready, word_offered, net_words, circuit_of, start_of}
use Rattle.session_rules.specs.ReplayLemmas.{after_hands, cycle_leaves}
use Rattle.session_rules.specs.Running.{hub_inputs, Keeps}
use Rattle.session_rules.specs.RunningLemmas.{NotesCycle, cycle_keeps}
use Rattle.session_rules.specs.SettledWords.{settled_is}
use Rattle.cosim_core.specs.Cycles.{CycleDone}

-- the words that come out, where there are any
one_out : (ring : List Bits) (hand : Bool) → option_to_list (word_out ring hand) ≡ word_handed ring hand
one_out ring true = refl
one_out ring false = refl

out_are : (rings : List (List Bits)) (hands : List Bool) → map option_to_list (zip_with word_out rings hands) ≡ zip_with word_handed rings hands
out_are [] hands = refl
out_are (ring ∷ rings) [] = refl
out_are (ring ∷ rings) (hand ∷ hands) = ap (λ (l : List Bits). l ∷ map option_to_list (zip_with word_out rings hands)) (one_out ring hand) ∙ ap (λ (l : List (List Bits)). word_handed ring hand ∷ l) (out_are rings hands)

-- what its parts do, one after another
pub record CycleParts (lowered : Lowered) (hub left entered out new : Holdings) (held : List Bits) (plan : Plan) (last : Option (List Bits)) (hands : List Bool) (handed : List (Option Bits)) : Type 0 where
  pub left_server : left.to_server ≡ zip_with after_pop hub.to_server (map (is_ready (λ net. word_shown plan last net)) lowered.servers)
  pub left_client : left.to_client ≡ hub.to_client
  pub left_stream : left.has_stream ≡ hub.has_stream
  pub left_journal : left.journal ≡ hub.journal
  pub entered_client : entered.to_client ≡ zip_with after_push left.to_client (map (word_offered (λ net. word_shown plan last net)) lowered.clients)
  pub entered_server : entered.to_server ≡ left.to_server
  pub entered_stream : entered.has_stream ≡ left.has_stream
  pub entered_journal : entered.journal ≡ left.journal
  pub out_client : out.to_client ≡ zip_with after_pop entered.to_client hands
  pub out_server : out.to_server ≡ entered.to_server
  pub out_stream : out.has_stream ≡ entered.has_stream
  pub out_noted : out.journal.handed ≡ entered.journal.handed ++ map hand_of (transfers_from entered.journal.cycles 0 (zip_with word_handed entered.to_client hands))
  pub out_taken : out.journal.taken ≡ entered.journal.taken
  pub out_attached : out.journal.attached ≡ entered.journal.attached
  pub out_cycles : out.journal.cycles ≡ entered.journal.cycles
  pub out_words : handed ≡ zip_with word_out entered.to_client hands
  pub over : BeginsCycle out new

module _ (lowered : Lowered) (hub left entered out new : Holdings) (held : List Bits) (plan : Plan) (hands : List Bool) (handed : List (Option Bits)) (keeps : Keeps lowered hub held) (counted : length hands ≡ length lowered.clients) where
  abbrev settled_to : List Bits
  settled_to = net_words lowered held (offers hub.to_server) (rooms hub.to_client)

  abbrev moved : Machine (List Bits)
  moved = after_transfers (circuit_of lowered) (machine_of hub held)

  done_by : (words : List Bits) → IsSettled lowered.net (hub_inputs lowered hub) held words → CycleParts lowered hub left entered out new held plan (Some words) hands handed → CycleDone lowered hub new held (Some words) hands handed
  done_by words settled p =
      let is : words ≡ settled_to = settled_is lowered.net keeps.complete.plan_kept (hub_inputs lowered hub) held words settled in
      let served : new.to_server ≡ moved.to_server =
      p.over.to_server ∙ (p.out_server ∙ (p.entered_server ∙ (p.left_server ∙ ap (λ (ws : List Bits). zip_with after_pop hub.to_server (map (is_ready (word_at ws)) lowered.servers)) is))) in
      let got : entered.to_client ≡ moved.to_client =
      p.entered_client ∙ (ap (λ (rings : List (List Bits)). zip_with after_push rings (map (word_offered (word_at words)) lowered.clients)) p.left_client
      ∙ ap (λ (ws : List Bits). zip_with after_push hub.to_client (map (word_offered (word_at ws)) lowered.clients)) is) in
      let client : new.to_client ≡ zip_with after_pop moved.to_client hands = p.over.to_client ∙ (p.out_client ∙ ap (λ (rings : List (List Bits)). zip_with after_pop rings hands) got) in
      let state : registers_after lowered.net (Some words) ≡ moved.state = ap (λ (ws : List Bits). registers_after lowered.net (Some ws)) is in
      let machine : machine_of new (registers_after lowered.net (Some words)) ≡ after_hands (circuit_of lowered) hands (machine_of hub held) =
      ap (λ (a : List (List Bits)). let m : Machine (List Bits) = record { to_server = a; state = registers_after lowered.net (Some words); to_client = new.to_client } in m) served
      ∙ (ap (λ (s : List Bits). let m : Machine (List Bits) = record { to_server = moved.to_server; state = s; to_client = new.to_client } in m) state
      ∙ ap (λ (b : List (List Bits)). let m : Machine (List Bits) = record { to_server = moved.to_server; state = moved.state; to_client = b } in m) client) in
      let before : entered.journal ≡ hub.journal = p.entered_journal ∙ p.left_journal in
      let noted : NotesCycle hub.journal new.journal moved.to_client hands = record {
        cycles = ap (λ j. j.cycles) p.over.journal ∙ ap (λ n. n + 1) (p.out_cycles ∙ ap (λ j. j.cycles) before);
        taken = ap (λ j. j.taken) p.over.journal ∙ (p.out_taken ∙ ap (λ j. j.taken) before);
        attached = ap (λ j. j.attached) p.over.journal ∙ (p.out_attached ∙ ap (λ j. j.attached) before);
        handed = ap (λ j. j.handed) p.over.journal
            ∙ (p.out_noted ∙ (ap (λ j. j.handed ++ map hand_of (transfers_from j.cycles 0 (zip_with word_handed entered.to_client hands))) before
            ∙ ap (λ (rings : List (List Bits)). hub.journal.handed ++ map hand_of (transfers_from hub.journal.cycles 0 (zip_with word_handed rings hands))) got));
      } in
      record {
        settled = settled;
        machine = machine;
        noted = noted;
        words = p.out_words ∙ ap (λ (rings : List (List Bits)). zip_with word_out rings hands) got;
        left = ap (λ (l : List (Option Bits)). map option_to_list l) (p.out_words ∙ ap (λ (rings : List (List Bits)). zip_with word_out rings hands) got)
            ∙ (out_are moved.to_client hands ∙ sym (cycle_leaves (circuit_of lowered) (start_of lowered) (machine_of hub held) hub.journal new.journal hands keeps.rings counted keeps.stands noted.taken noted.handed));
        streams = p.over.has_stream ∙ (p.out_stream ∙ (p.entered_stream ∙ p.left_stream));
        keeps = cycle_keeps lowered hub new held (registers_after lowered.net (Some words)) hands keeps counted machine noted;
      }

  -- the words that the inputs have
  pub cycle_done : (last : Option (List Bits)) (inputs blanks : List Bits) → blanks ≡ blanks_of lowered → inputs ≡ inputs_of blanks (offers hub.to_server) (rooms hub.to_client)
      → IsSomeAnd last (IsSettled lowered.net inputs held) → CycleParts lowered hub left entered out new held plan last hands handed → CycleDone lowered hub new held last hands handed
  cycle_done None inputs blanks b i settled p = absurd settled
  cycle_done (Some words) inputs blanks b i settled p =
      done_by words (subst (λ (ws : List Bits). IsSettled lowered.net ws held words) (i ∙ ap (λ (bs : List Bits). inputs_of bs (offers hub.to_server) (rooms hub.to_client)) b) settled) p

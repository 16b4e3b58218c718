-- What the calls of a session keep.
use Rattle.std.proofs.Common.{◌≡◌, ℕ, zero, suc, ◌+◌, ◌<◌, Bool, true, false, List, [], ◌∷◌, ◌++◌, map, length, replicate, refl, ap, sym, ◌∙◌, subst, arith, eqb, eqb-true, cond}
use Rattle.std.specs.List.{AllByRecursion}
use Rattle.std.proofs.lemmas.List.{length-map, length-replicate}
use Rattle.cycle_rules.specs.ChannelsLemmas.{length_zip, rings_after_transfers}
use Rattle.cycle_rules.specs.Circuit.{Bits}
use Rattle.cycle_rules.specs.Cycle.{Machine, HasRings, offers, rooms, after_transfers, word_handed, transfers_from}
use Rattle.cycle_rules.specs.Lists.{zip_with, first}
use Rattle.cycle_rules.specs.OrderLemmas.{map-append'}
use Rattle.cycle_rules.specs.Rings.{after_pop, ring_at, rings_with}
use Rattle.channel_lower.specs.declared.lowered.Lowered.{Lowered}
use Rattle.channel_lower.specs.declared.lowered.Port.{Port}
use Rattle.endpoint_hub.specs.Entries.{hand_of}
use Rattle.endpoint_hub.specs.Holdings.{Holdings, IsNew, Takes, Attaches, Closes, empty_journal}
use Rattle.endpoint_hub.specs.HubCycle.{machine_of}
use Rattle.endpoint_hub.specs.RingLemmas.{ring_at-replicate, ring_at-rings_with, length-rings_with}
use Rattle.endpoint_hub.specs.Runs.{only}
use Rattle.endpoint_hub.specs.declared.journal.Journal.{Journal}
use Rattle.netlist.specs.Nets.{width_at}
use Rattle.netlist.specs.Plans.{Plan, IsComplete}
use Rattle.netlist.specs.PlanLaws.{length_at}
use Rattle.netlist.specs.Settled.{AreInputs, input_place}
use Rattle.session_rules.specs.Ports.{offer_words, room_word, joined, port_at, port_width, blank_word, two_each, port_widths, circuit_of, start_of, HasPorts}
use Rattle.session_rules.specs.Replay.{StandsFor}
use Rattle.session_rules.specs.ReplayLemmas.{after_hands, new_stands, take_stands, attach_stands, cycle_stands}
use Rattle.session_rules.specs.Running.{hub_inputs, AreWide, Keeps}

-- ---- the inputs have their widths

first_wide : (plan : Plan) (port : Port) (ring : List Bits) → AllByRecursion (λ word. length word ≡ port_width plan port) ring
    → map length (offer_words (blank_word plan port) (first ring)) ≡ 1 ∷ port_width plan port ∷ []
first_wide plan port [] wide = ap (λ n. 1 ∷ n ∷ []) (length-replicate (port_width plan port) false)
first_wide plan port (word ∷ ring) wide = ap (λ n. 1 ∷ n ∷ []) wide.0

offers_wide : (plan : Plan) (ports : List Port) (rings : List (List Bits)) → length rings ≡ length ports
    → ((k : ℕ) → AllByRecursion (λ word. length word ≡ port_width plan (port_at ports k)) (ring_at rings k))
    → map length (joined (zip_with offer_words (map (blank_word plan) ports) (offers rings))) ≡ two_each (map (port_width plan) ports)
offers_wide plan [] rings e wide = refl
offers_wide plan (port ∷ ports) [] e wide = absurd (omega (arith, e))
offers_wide plan (port ∷ ports) (ring ∷ rings) e wide =
    let others : List Bits = joined (zip_with offer_words (map (blank_word plan) ports) (offers rings)) in
    map-append' length (offer_words (blank_word plan port) (first ring)) others
    ∙ (ap (λ (l : List ℕ). l ++ map length others) (first_wide plan port ring (wide 0))
    ∙ ap (λ (l : List ℕ). 1 ∷ port_width plan port ∷ l) (offers_wide plan ports rings (omega (arith, e)) (λ k. wide (suc k))))

rooms_wide : (ports : List Port) (rings : List (List Bits)) → length rings ≡ length ports → map length (map room_word (rooms rings)) ≡ map (λ (port : Port). 1) ports
rooms_wide [] [] e = refl
rooms_wide [] (ring ∷ rings) e = absurd (omega (arith, e))
rooms_wide (port ∷ ports) [] e = absurd (omega (arith, e))
rooms_wide (port ∷ ports) (ring ∷ rings) e = ap (λ (l : List ℕ). 1 ∷ l) (rooms_wide ports rings (omega (arith, e)))

module _ (lowered : Lowered) (hub : Holdings) (held : List Bits) (keeps : Keeps lowered hub held) where
  input_widths : map length (hub_inputs lowered hub) ≡ port_widths lowered
  input_widths =
      let offered : List Bits = joined (zip_with offer_words (map (blank_word lowered.net) lowered.servers) (offers hub.to_server)) in
      let roomy : List Bits = map room_word (rooms hub.to_client) in
      map-append' length offered roomy
      ∙ (ap (λ (l : List ℕ). l ++ map length roomy) (offers_wide lowered.net lowered.servers hub.to_server keeps.rings.to_server keeps.wide)
      ∙ ap (λ (l : List ℕ). two_each (map (port_width lowered.net) lowered.servers) ++ l) (rooms_wide lowered.clients hub.to_client keeps.rings.to_client))

  pub inputs_fit : AreInputs lowered.net (hub_inputs lowered hub)
  inputs_fit = record {
    one_each = sym (length-map (hub_inputs lowered hub) length) ∙ (ap length input_widths ∙ sym keeps.ports.input_count);
    wide = λ place width stands.
        length_at (hub_inputs lowered hub) (input_place lowered.net.nets place)
        ∙ (ap (λ ws. width_at ws (input_place lowered.net.nets place)) input_widths ∙ keeps.ports.input_width place width stands);
  }

-- ---- rings that change

module _ (P : ℕ → Bits → Type 0) where
  dropped : (k : ℕ) (ring : List Bits) (goes : Bool) → AllByRecursion (P k) ring → AllByRecursion (P k) (after_pop ring goes)
  dropped k ring false all = all
  dropped k [] true all = tt
  dropped k (word ∷ ring) true all = all.1

pops_wide : (P : ℕ → Bits → Type 0) (rings : List (List Bits)) (gone : List Bool) → ((k : ℕ) → AllByRecursion (P k) (ring_at rings k)) → (k : ℕ) → AllByRecursion (P k) (ring_at (zip_with after_pop rings gone) k)
pops_wide P [] gone all k = tt
pops_wide P (ring ∷ rings) [] all k = tt
pops_wide P (ring ∷ rings) (goes ∷ gone) all zero = dropped P 0 ring goes (all 0)
pops_wide P (ring ∷ rings) (goes ∷ gone) all (suc k) = pops_wide (λ j. P (suc j)) rings gone (λ j. all (suc j)) k

only_wide : (P : Bits → Type 0) (c d : ℕ) (word : Bits) → (d ≡ c → P word) → AllByRecursion P (only c d word)
only_wide P c d word is = by (eqb d c) refl
  where
    by : (b : Bool) → eqb d c ≡ b → AllByRecursion P (cond b (word ∷ []) [])
    by true e = (is (eqb-true d c e), tt)
    by false e = tt

both_wide : (P : Bits → Type 0) (xs ys : List Bits) → AllByRecursion P xs → AllByRecursion P ys → AllByRecursion P (xs ++ ys)
both_wide P [] ys all others = others
both_wide P (x ∷ xs) ys all others = (all.0, both_wide P xs ys all.1 others)

-- ---- the calls

module _ (lowered : Lowered) (held : List Bits) where
  abbrev machine_with : List (List Bits) → List (List Bits) → Machine (List Bits)
  machine_with to_server to_client = record { to_server = to_server; state = held; to_client = to_client }

  -- of what is equal
  same_stands : (a a' b b' : List (List Bits)) (j j' : Journal) → a' ≡ a → b' ≡ b → j' ≡ j → StandsFor (circuit_of lowered) (start_of lowered) (machine_with a b) j → StandsFor (circuit_of lowered) (start_of lowered) (machine_with a' b') j'
  same_stands a a' b b' j j' e f g stands =
      subst (λ (x : List (List Bits)). StandsFor (circuit_of lowered) (start_of lowered) (machine_with x b') j') (sym e)
      (subst (λ (x : List (List Bits)). StandsFor (circuit_of lowered) (start_of lowered) (machine_with a x) j') (sym f)
      (subst (λ (x : Journal). StandsFor (circuit_of lowered) (start_of lowered) (machine_with a b) x) (sym g) stands))

  pub take_keeps : (hub new : Holdings) (channel conn stream : ℕ) (word : Bits) → Keeps lowered hub held → channel < length hub.to_server → length word ≡ port_width lowered.net (port_at lowered.servers channel)
      → Takes hub new channel conn stream word → Keeps lowered new held
  take_keeps hub new channel conn stream word keeps below wide takes = record {
    ports = keeps.ports;
    complete = keeps.complete;
    rings = record { to_server = ap length takes.to_server ∙ (length-rings_with hub.to_server channel word ∙ keeps.rings.to_server); to_client = ap length takes.to_client ∙ keeps.rings.to_client };
    wide = λ k.
        subst (λ (rings : List (List Bits)). AllByRecursion (λ w. length w ≡ port_width lowered.net (port_at lowered.servers k)) (ring_at rings k)) (sym takes.to_server)
        (subst (λ (ring : List Bits). AllByRecursion (λ w. length w ≡ port_width lowered.net (port_at lowered.servers k)) ring) (sym (ring_at-rings_with hub.to_server k channel word below))
        (both_wide (λ w. length w ≡ port_width lowered.net (port_at lowered.servers k)) (ring_at hub.to_server k) (only k channel word) (keeps.wide k)
        (only_wide (λ w. length w ≡ port_width lowered.net (port_at lowered.servers k)) k channel word (λ e. wide ∙ ap (λ c. port_width lowered.net (port_at lowered.servers c)) e))));
    stands = same_stands (rings_with hub.to_server channel word) new.to_server hub.to_client new.to_client _ new.journal takes.to_server takes.to_client takes.journal
        (take_stands (circuit_of lowered) (start_of lowered) (machine_of hub held) hub.journal channel conn stream word (subst (λ n. channel < n) keeps.rings.to_server below) keeps.stands);
  }

  -- rings that stay
  same_keeps : (hub new : Holdings) → Keeps lowered hub held → new.to_server ≡ hub.to_server → new.to_client ≡ hub.to_client → StandsFor (circuit_of lowered) (start_of lowered) (machine_of new held) new.journal → Keeps lowered new held
  same_keeps hub new keeps e f stands = record {
    ports = keeps.ports;
    complete = keeps.complete;
    rings = record { to_server = ap length e ∙ keeps.rings.to_server; to_client = ap length f ∙ keeps.rings.to_client };
    wide = subst (λ (rings : List (List Bits)). AreWide lowered rings) (sym e) keeps.wide;
    stands = stands;
  }

  pub attach_keeps : (hub new : Holdings) (channel conn stream : ℕ) → Keeps lowered hub held → Attaches hub new channel conn stream → Keeps lowered new held
  attach_keeps hub new channel conn stream keeps attaches =
      same_keeps hub new keeps attaches.to_server attaches.to_client
      (same_stands hub.to_server new.to_server hub.to_client new.to_client _ new.journal attaches.to_server attaches.to_client attaches.journal
      (attach_stands (circuit_of lowered) (start_of lowered) (machine_of hub held) hub.journal channel conn stream keeps.stands))

  pub close_keeps : (hub new : Holdings) (channel : ℕ) → Keeps lowered hub held → Closes hub new channel → Keeps lowered new held
  close_keeps hub new channel keeps closes =
      same_keeps hub new keeps closes.to_server closes.to_client
      (same_stands hub.to_server new.to_server hub.to_client new.to_client hub.journal new.journal closes.to_server closes.to_client closes.journal keeps.stands)

no_word : (P : Bits → Type 0) (ring : List Bits) → ring ≡ [] → AllByRecursion P ring
no_word P [] e = tt
no_word P (word ∷ ring) e = absurd (cc e)

-- a new session
pub new_keeps : (lowered : Lowered) (hub : Holdings) → HasPorts lowered → IsComplete lowered.net → IsNew hub (length lowered.servers) (length lowered.clients) → Keeps lowered hub (start_of lowered)
new_keeps lowered hub ports complete fresh = record {
  ports = ports;
  complete = complete;
  rings = record { to_server = ap length fresh.to_server ∙ length-replicate (length lowered.servers) []; to_client = ap length fresh.to_client ∙ length-replicate (length lowered.clients) [] };
  wide = λ k. no_word (λ w. length w ≡ port_width lowered.net (port_at lowered.servers k)) (ring_at hub.to_server k) (ap (λ (rings : List (List Bits)). ring_at rings k) fresh.to_server ∙ ring_at-replicate (length lowered.servers) k);
  stands = same_stands lowered (start_of lowered) (replicate (length lowered.servers) []) hub.to_server (replicate (length lowered.clients) []) hub.to_client empty_journal hub.journal
      fresh.to_server fresh.to_client fresh.journal (new_stands (circuit_of lowered) (start_of lowered));
}

-- what a cycle notes
pub record NotesCycle (old new : Journal) (rings : List (List Bits)) (hands : List Bool) : Type 0 where
  pub cycles : new.cycles ≡ old.cycles + 1
  pub taken : new.taken ≡ old.taken
  pub attached : new.attached ≡ old.attached
  pub handed : new.handed ≡ old.handed ++ map hand_of (transfers_from old.cycles 0 (zip_with word_handed rings hands))

-- a cycle
pub cycle_keeps : (lowered : Lowered) (hub new : Holdings) (held after : List Bits) (hands : List Bool) → Keeps lowered hub held → length hands ≡ length lowered.clients
    → machine_of new after ≡ after_hands (circuit_of lowered) hands (machine_of hub held)
    → NotesCycle hub.journal new.journal (after_transfers (circuit_of lowered) (machine_of hub held)).to_client hands
    → Keeps lowered new after
cycle_keeps lowered hub new held after hands keeps counted is noted =
    let moved : Machine (List Bits) = after_transfers (circuit_of lowered) (machine_of hub held) in
    let has : HasRings (circuit_of lowered) moved = rings_after_transfers (circuit_of lowered) (machine_of hub held) keeps.rings in
    let to_server : new.to_server ≡ moved.to_server = ap (λ (m : Machine (List Bits)). m.to_server) is in
    let to_client : new.to_client ≡ zip_with after_pop moved.to_client hands = ap (λ (m : Machine (List Bits)). m.to_client) is in
    record {
      ports = keeps.ports;
      complete = keeps.complete;
      rings = record { to_server = ap length to_server ∙ has.to_server; to_client = ap length to_client ∙ (length_zip after_pop moved.to_client hands (has.to_client ∙ sym counted) ∙ has.to_client) };
      wide = subst (λ (rings : List (List Bits)). AreWide lowered rings) (sym to_server) (pops_wide (λ k w. length w ≡ port_width lowered.net (port_at lowered.servers k)) hub.to_server _ keeps.wide);
      stands = subst (λ (m : Machine (List Bits)). StandsFor (circuit_of lowered) (start_of lowered) m new.journal) (sym is)
          (cycle_stands (circuit_of lowered) (start_of lowered) (machine_of hub held) hub.journal new.journal hands keeps.rings counted keeps.stands noted.cycles noted.taken noted.handed);
    }

-- The nets of a scan: its state, those of its body, whose variables are the state and the word that comes in, and what the state is next.
use Rattle.std.specs.Prelude.{◌≡◌, ℕ, ◌+◌, length, List, [], ◌∷◌, Some, refl}
use Rattle.std.proofs.Common.{◌∙◌, ap, arith}
use Rattle.netlist.specs.declared.net.Net.{Net}
use Rattle.netlist.specs.declared.net.Net.TheVariants.{Register, And, Choose}
use Rattle.netlist.specs.declared.formula.Formula.{Formula}
use Rattle.netlist.specs.Nets.{Bits, word_at}
use Rattle.netlist.specs.Plans.{Plan, Stands, next_of, with_net, with_next, IsPlan, IsNextOf}
use Rattle.netlist.specs.Formulas.{worth}
use Rattle.element_laws.specs.Histories.{Channel, KeepsOffers, reached}
use Rattle.element_laws.specs.Elements.{Contents}
use Rattle.element_laws.specs.Elements.Element.{scan_by}
use Rattle.element_laws.specs.Laws.{Obeys, IsElementRun}
use Rattle.element_laws.specs.ElementLemmas.{each_obeys}
use Rattle.element_wires.specs.Wires.{IsWired}
use Rattle.element_wires.specs.WireLemmas.{wires_make_runs}
use Rattle.net_lists.specs.Lists.{with_nets, FitAll, StandFrom, Carries}
use Rattle.net_lists.specs.ListLaws.{stand_first, counted_more, place_more, carries_more, carries_pushed, register_carries, register_kept, fit_two, fit_choice, may_link}
use Rattle.net_lists.specs.Runs.{carried, IsNetRun, IsNetCycle}
use Rattle.net_lists.specs.RunLemmas.{register_word, run_cycles, run_of, computed_word, word_in, bit_word, and_bits, choose_bits}
use Rattle.formula_nets.specs.Making.{formula_nets, formula_net, formula_size}
use Rattle.formula_nets.specs.MadeLaws.{formulas_do_compute}
use Rattle.element_nets.specs.declared.scan.ScanNets.{ScanNets}

-- S
abbrev pub scan_register : Bits → List Net
scan_register reset = Register reset ∷ []

-- what the state is next, from a place on: a = And iv or; s = Choose a od S
abbrev pub scan_next : ScanNets → ℕ → List Net
scan_next s at = And s.valid s.ready ∷ Choose at s.out s.register ∷ []

-- the next net of S is s
abbrev pub scan_linked : Plan → ℕ → ℕ → Plan
scan_linked plan register at = with_next plan register (at + 1)

-- what stands before the nets of `scan_next` are pushed
pub record IsScanReady (plan : Plan) (s : ScanNets) (reset : Bits) : Type 0 where
  pub register : Stands plan.nets s.register (Register reset)
  pub valid : Carries plan s.valid 1
  pub ready : Carries plan s.ready 1
  pub out : Carries plan s.out (length reset)

-- A scan stands in a netlist: its register, its body's nets from a place on, of which the last one is its output's word, and what the state is next.
pub record HasScan (plan : Plan) (s : ScanNets) (reset : Bits) (word : ℕ) (body : Formula) (width at next : ℕ) : Type 0 where
  pub register : Stands plan.nets s.register (Register reset)
  pub nets : StandFrom plan.nets at (formula_nets (s.register ∷ word ∷ []) body at)
  pub out : s.out ≡ formula_net (s.register ∷ word ∷ []) body at
  pub good : formula_size plan (s.register ∷ word ∷ []) body ≡ Some width
  pub next_nets : StandFrom plan.nets next (scan_next s next)
  pub next_state : next_of plan s.register ≡ Some (next + 1)
  pub valid : Carries plan s.valid 1
  pub ready : Carries plan s.ready 1

-- the state that a word brings about
abbrev pub step_of : Formula → Bits → Bits → Bits
step_of body state word = worth (state ∷ word ∷ []) body

-- what a scan holds, where its state is the word of this net
abbrev pub with_state : ℕ → List Bits → Contents
with_state net words = record { held = []; state = word_at words net; flags = [] }

abbrev pub scan_input : ScanNets → ℕ → Channel (List Bits)
scan_input s word = carried (record { valid = s.valid; word = word; ready = s.ready })

abbrev pub scan_output : ScanNets → Channel (List Bits)
scan_output s = carried (record { valid = s.valid; word = s.out; ready = s.ready })

-- A scan that stands in a netlist obeys its law in every run: what goes out is the running states, and the state is the last of them.
abbrev pub ScansObey : Type 0
ScansObey = (plan : Plan) (s : ScanNets) (reset : Bits) (word : ℕ) (body : Formula) (width at next : ℕ) (offers history : List (List Bits)) → HasScan plan s reset word body width at next → IsNetRun plan offers history
    → KeepsOffers (scan_input s word) history
    → Obeys (scan_by (step_of body) reset) (reached (with_state (next + 1)) (record { held = []; state = reset; flags = [] }) history) (λ k. scan_input s word) (λ k. scan_output s) history

-- ---- the law

module _ (plan : Plan) (s : ScanNets) (reset : Bits) (word : ℕ) (body : Formula) (width at next : ℕ) (has : HasScan plan s reset word body width at next) where
  abbrev scan : Contents
  scan = record { held = []; state = reset; flags = [] }

  scan_wired : (earlier : List (List Bits)) (words : List Bits) → IsNetCycle plan earlier words → IsWired (scan_by (step_of body) reset) (with_state s.register words) (with_state (next + 1) words) (λ k. scan_input s word words) (λ k. scan_output s words)
  scan_wired earlier words c =
      let iv = bit_word plan earlier words s.valid c has.valid.wide in
      let ready = bit_word plan earlier words s.ready c has.ready.wide in
      let a = computed_word plan earlier words next (And s.valid s.ready) c refl (stand_first plan.nets next _ _ has.next_nets) ∙ and_bits _ _ _ _ iv ready in
      let state = word_in plan earlier words next (scan_next s next) 1 (Choose next s.out s.register) c has.next_nets refl refl ∙ choose_bits _ _ _ _ a in
      record {
        valid = refl;
        word = ap (word_at words) has.out ∙ formulas_do_compute plan (s.register ∷ word ∷ []) body width at c.inputs _ words has.good has.nets c.settled;
        ready = refl;
        next_state = state;
      }

  scan_begins : (earlier : List (List Bits)) (words : List Bits) → IsNetCycle plan earlier words → with_state s.register words ≡ reached (with_state (next + 1)) scan earlier
  scan_begins [] words c = ap (λ w. let now : Contents = record { held = []; state = w; flags = [] } in now) (register_word plan [] words s.register (next + 1) reset c has.register has.next_state)
  scan_begins (old ∷ earlier) words c = ap (λ w. let now : Contents = record { held = []; state = w; flags = [] } in now) (register_word plan (old ∷ earlier) words s.register (next + 1) reset c has.register has.next_state)

-- A scan that stands in a netlist is a scan in each cycle of a run.
pub scans_do_run : (plan : Plan) (s : ScanNets) (reset : Bits) (word : ℕ) (body : Formula) (width at next : ℕ) (offers history : List (List Bits)) → HasScan plan s reset word body width at next → IsNetRun plan offers history
    → IsElementRun (scan_by (step_of body) reset) (with_state s.register) (with_state (next + 1)) (λ k. scan_input s word) (λ k. scan_output s) history
scans_do_run plan s reset word body width at next offers history has run =
    let element = scan_by (step_of body) reset in
    let wires = run_of plan (λ words. IsWired element (with_state s.register words) (with_state (next + 1) words) (λ k. scan_input s word words) (λ k. scan_output s words)) (with_state s.register) (with_state (next + 1)) (record { held = []; state = reset; flags = [] })
    (λ earlier words c. (scan_wired plan s reset word body width at next has earlier words c, scan_begins plan s reset word body width at next has earlier words c)) history (run_cycles plan offers history run) in
    wires_make_runs element (with_state s.register) (with_state (next + 1)) (λ k. scan_input s word) (λ k. scan_output s) history wires

pub scans_do_obey : ScansObey
scans_do_obey plan s reset word body width at next offers history has run keeps =
    each_obeys (scan_by (step_of body) reset) (with_state s.register) (with_state (next + 1)) (λ k. scan_input s word) (λ k. scan_output s) history
    (scans_do_run plan s reset word body width at next offers history has run) (λ k below. keeps)

-- ---- what the pushes ask

module _ (plan : Plan) (s : ScanNets) (reset : Bits) (at : ℕ) (kept : IsPlan plan) (here : at ≡ length plan.nets) (r : IsScanReady plan s reset) where
  abbrev n0 : Net
  n0 = And s.valid s.ready

  abbrev n1 : Net
  n1 = Choose at s.out s.register

  abbrev P1 : Plan
  P1 = with_net plan n0

  abbrev P2 : Plan
  P2 = with_net P1 n1

  state : Carries plan s.register (length reset)
  state = register_carries plan s.register (length reset) reset kept r.register refl

  k1 : length P1.widths ≡ length P1.nets
  k1 = counted_more plan n0 kept.width_count

  old1 : (i w : ℕ) → Carries plan i w → Carries P1 i w
  old1 i w h = carries_more plan i w n0 kept.width_count h

  pub scan_fits : FitAll plan (scan_next s at)
  scan_fits = (
    fit_two plan s.valid s.ready 1 r.valid r.ready,
    (fit_choice P1 at s.out s.register (length reset) (carries_pushed plan n0 at 1 kept.width_count here r.valid.wide) (old1 _ _ r.out) (old1 _ _ state), tt),
  )

  pub scan_can_link : IsNextOf (with_nets plan (scan_next s at)) s.register (at + 1)
  scan_can_link =
      may_link P2 s.register (at + 1) (length reset) (register_kept plan (scan_next s at) s.register reset r.register) (carries_more P1 _ _ n1 k1 (old1 _ _ state))
      (carries_pushed P1 n1 (at + 1) (length reset) k1 (place_more plan n0 at (at + 1) here (omega arith)) (old1 _ _ r.out).wide)

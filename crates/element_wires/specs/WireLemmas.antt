-- The cycles of elements from their wires: stages, and elements that hold no words.
use Rattle.std.specs.Prelude.{◌≡◌, ℕ, ◌&&◌, ◌||◌, Bool, true, false, not, List, [], ◌∷◌, map, if◌then◌else◌, refl}
use Rattle.std.proofs.Common.{sym, ◌∙◌, ap, subst}
use Rattle.element_laws.specs.Signals.{Bits, Signals, is_transfer, offered}
use Rattle.element_laws.specs.Histories.{IsRun, reached}
use Rattle.element_laws.specs.Streams.{pair, pairs}
use Rattle.element_laws.specs.Elements.{flag, StorageCycle, MapCycle, AsVrCycle, ScanCycle, ForkCycle, JoinCycle, reset, IsCycle}
use Rattle.element_laws.specs.Elements.Element.{stage, fifo, as_fifo, as_vr, map_by, scan_by, fork, join}
use Rattle.element_laws.specs.ElementLemmas.{run_of_part}
use Rattle.element_wires.specs.Wires.{StageRegisters, stage_words, InOrder, stays, follows, newest, StageWires, MapWires, AsVrWires, ScanWires, ForkWires, JoinWires, IsWired}
use Rattle.element_wires.specs.WireLaws.{holding, StagesRun, WiresMakeCycles, WiresMakeRuns}

-- ---- runs that keep something of their registers

-- the wires of each cycle keep Kept of the registers, and make the part a run of its own
pub part_runs : {C S T : Type 0} (IsOne IsPart : C → Type 0) (before after : C → S) (start : S) (Kept : S → Type 0) (part : S → T) → Kept start
    → ((cycle : C) → IsOne cycle → Kept (before cycle) → IsPart cycle) → ((cycle : C) → IsOne cycle → Kept (before cycle) → Kept (after cycle))
    → (history : List C) → IsRun IsOne before after start history
    → IsRun IsPart (λ cycle. part (before cycle)) (λ cycle. part (after cycle)) (part start) history × Kept (reached after start history)
part_runs IsOne IsPart before after start Kept part kept gives keeps [] run = (tt, kept)
part_runs IsOne IsPart before after start Kept part kept gives keeps (cycle ∷ []) run =
    let here : Kept (before cycle) = subst Kept (sym run.1) kept in
    ((gives cycle run.0 here, ap part run.1, tt), keeps cycle run.0 here)
part_runs IsOne IsPart before after start Kept part kept gives keeps (cycle ∷ old ∷ earlier) run =
    let rest = part_runs IsOne IsPart before after start Kept part kept gives keeps (old ∷ earlier) run.2 in
    let here : Kept (before cycle) = subst Kept (sym run.1) rest.1 in
    ((gives cycle run.0 here, ap part run.1, rest.0), keeps cycle run.0 here)

-- ---- stage

-- in bits alone
stage_by_cases : (v0 v1 iv or : Bool) (d0 d1 id : Bits) → (v1 ≡ true → v0 ≡ true)
    → StorageCycle 2 (if v0 then d0 ∷ (if v1 then d1 ∷ [] else []) else [])
    (if (v0 && not (v0 && or)) || (v1 || (iv && not v1))
    then (if v0 && not (v0 && or) then d0 else (if v1 then d1 else id))
    ∷ (if (v0 && not (v0 && or)) && (v1 || (iv && not v1)) then (if v1 then d1 else id) ∷ [] else []) else [])
    (record { valid = iv; word = id; ready = not v1 }) (record { valid = v0; word = d0; ready = or })
stage_by_cases true true true true d0 d1 id h = record { offers = refl; ready = refl; next = refl }
stage_by_cases true true true false d0 d1 id h = record { offers = refl; ready = refl; next = refl }
stage_by_cases true true false true d0 d1 id h = record { offers = refl; ready = refl; next = refl }
stage_by_cases true true false false d0 d1 id h = record { offers = refl; ready = refl; next = refl }
stage_by_cases true false true true d0 d1 id h = record { offers = refl; ready = refl; next = refl }
stage_by_cases true false true false d0 d1 id h = record { offers = refl; ready = refl; next = refl }
stage_by_cases true false false true d0 d1 id h = record { offers = refl; ready = refl; next = refl }
stage_by_cases true false false false d0 d1 id h = record { offers = refl; ready = refl; next = refl }
stage_by_cases false true iv or d0 d1 id h = absurd (let e : false ≡ true = h refl in cc)
stage_by_cases false false true true d0 d1 id h = record { offers = refl; ready = refl; next = refl }
stage_by_cases false false true false d0 d1 id h = record { offers = refl; ready = refl; next = refl }
stage_by_cases false false false true d0 d1 id h = record { offers = refl; ready = refl; next = refl }
stage_by_cases false false false false d0 d1 id h = record { offers = refl; ready = refl; next = refl }

-- the signals and the next registers of a stage, as its wires make them
abbrev wired_input : StageRegisters → Signals → Signals
wired_input now input = record { valid = input.valid; word = input.word; ready = not now.v1 }

abbrev wired_output : StageRegisters → Signals → Signals
wired_output now output = record { valid = now.v0; word = now.d0; ready = output.ready }

abbrev wired_next : StageRegisters → Signals → Signals → StageRegisters
wired_next now input output = record {
  v0 = stays now output || follows now input;
  v1 = stays now output && follows now input;
  d0 = if stays now output then now.d0 else newest now input;
  d1 = newest now input;
}

same_registers : (a b : StageRegisters) → a.v0 ≡ b.v0 → a.v1 ≡ b.v1 → a.d0 ≡ b.d0 → a.d1 ≡ b.d1 → stage_words a ≡ stage_words b
same_registers a b e f g h =
    ap (λ v. if v then a.d0 ∷ (if a.v1 then a.d1 ∷ [] else []) else []) e
    ∙ ap (λ v. if b.v0 then a.d0 ∷ (if v then a.d1 ∷ [] else []) else []) f
    ∙ ap (λ d. if b.v0 then d ∷ (if b.v1 then a.d1 ∷ [] else []) else []) g
    ∙ ap (λ d. if b.v0 then b.d0 ∷ (if b.v1 then d ∷ [] else []) else []) h

same_signals : (s : Signals) (valid : Bool) (word : Bits) (ready : Bool) → s.valid ≡ valid → s.word ≡ word → s.ready ≡ ready → s ≡ record { valid = valid; word = word; ready = ready }
same_signals s valid word ready v w r =
    ap (λ b. let t : Signals = record { valid = b; word = s.word; ready = s.ready } in t) v
    ∙ ap (λ b. let t : Signals = record { valid = valid; word = b; ready = s.ready } in t) w
    ∙ ap (λ b. let t : Signals = record { valid = valid; word = word; ready = b } in t) r

pub stage_stores : (now next : StageRegisters) (input output : Signals) → StageWires now next input output → InOrder now → StorageCycle 2 (stage_words now) (stage_words next) input output
stage_stores now next input output wires order =
    subst (λ i. StorageCycle 2 (stage_words now) (stage_words next) i output) (sym (same_signals input input.valid input.word (not now.v1) refl refl wires.ready))
    (subst (λ o. StorageCycle 2 (stage_words now) (stage_words next) (wired_input now input) o) (sym (same_signals output now.v0 now.d0 output.ready wires.valid wires.word refl))
    (subst (λ ws. StorageCycle 2 (stage_words now) ws (wired_input now input) (wired_output now output))
    (sym (same_registers next (wired_next now input output) wires.next_v0 wires.next_v1 wires.next_d0 wires.next_d1))
    (stage_by_cases now.v0 now.v1 input.valid output.ready now.d0 now.d1 input.word order.first)))

pub stage_stays_in_order : (now next : StageRegisters) (input output : Signals) → StageWires now next input output → InOrder next
stage_stays_in_order now next input output wires = record {
  first = λ e. wires.next_v0 ∙ by_cases (stays now output) (follows now input) (sym wires.next_v1 ∙ e);
}
  where
    by_cases : (a b : Bool) → (a && b) ≡ true → (a || b) ≡ true
    by_cases true b e = refl
    by_cases false b e = absurd (cc)

pub stages_run : {C : Type 0} → StagesRun C
stages_run before after start input output history zero_v0 zero_v1 run =
    let order : InOrder start = record { first = λ e. absurd (let no : false ≡ true = sym zero_v1 ∙ e in cc) } in
    let empty : stage_words start ≡ [] = ap (λ v. if v then start.d0 ∷ (if start.v1 then start.d1 ∷ [] else []) else []) zero_v0 in
    let both = part_runs (λ cycle. StageWires (before cycle) (after cycle) (input cycle) (output cycle))
    (λ cycle. StorageCycle 2 (stage_words (before cycle)) (stage_words (after cycle)) (input cycle) (output cycle)) before after start InOrder (λ r. holding (stage_words r)) order
    (λ cycle wires kept. stage_stores (before cycle) (after cycle) (input cycle) (output cycle) wires kept)
    (λ cycle wires kept. stage_stays_in_order (before cycle) (after cycle) (input cycle) (output cycle) wires) history run in
    record {
      runs = subst (λ words. IsRun (λ cycle. StorageCycle 2 (stage_words (before cycle)) (stage_words (after cycle)) (input cycle) (output cycle))
          (λ cycle. holding (stage_words (before cycle))) (λ cycle. holding (stage_words (after cycle))) (holding words) history) empty both.0;
      in_order = both.1;
    }

-- ---- the others

-- an output that carries the function of the input's word
offers_by : (f : Bits → Bits) (input output : Signals) → output.valid ≡ input.valid → output.word ≡ f input.word → offered output ≡ map f (offered input)
offers_by f input output v w =
    ap (λ b. if b then output.word ∷ [] else []) v ∙ ap (λ word. if input.valid then word ∷ [] else []) w ∙ by_cases input.valid
  where
    by_cases : (valid : Bool) → (if valid then f input.word ∷ [] else []) ≡ map f (if valid then input.word ∷ [] else [])
    by_cases true = refl
    by_cases false = refl

map_cycle : (f : Bits → Bits) (input output : Signals) → MapWires f input output → MapCycle f input output
map_cycle f input output wires = record { offers = offers_by f input output wires.valid wires.word; ready = wires.ready }

as_vr_cycle : (input output : Signals) → AsVrWires input output → AsVrCycle input output
as_vr_cycle input output wires = record {
  offers = ap (λ b. if b then output.word ∷ [] else []) wires.valid ∙ ap (λ word. if input.valid then word ∷ [] else []) wires.word;
  ready = wires.ready;
}

scan_cycle : (step : Bits → Bits → Bits) (state next : Bits) (input output : Signals) → ScanWires step state next input output → ScanCycle step state next input output
scan_cycle step state next input output wires = record {
  offers = offers_by (step state) input output wires.valid wires.word;
  ready = wires.ready;
  next = wires.next_state ∙ ap (λ r. if input.valid && r then output.word else state) (sym wires.ready) ∙ ap (λ w. if is_transfer input then w else state) wires.word;
}

fork_cycle : (branches : ℕ) (served next : ℕ → Bool) (input : Signals) (outputs : ℕ → Signals) → ForkWires branches served next input outputs → ForkCycle branches served next input outputs
fork_cycle branches served next input outputs wires = record {
  ready = wires.ready;
  branch = λ k h. record { offers = branch_offers (served k) (outputs k) (wires.valid k h) (wires.word k h); next = wires.next_flag k h };
}
  where
    branch_offers : (had : Bool) (output : Signals) → output.valid ≡ (input.valid && not had) → output.word ≡ input.word → offered output ≡ (if had then [] else offered input)
    branch_offers had output v w =
        ap (λ b. if b then output.word ∷ [] else []) v ∙ ap (λ word. if input.valid && not had then word ∷ [] else []) w ∙ by_cases input.valid had
      where
        by_cases : (valid had : Bool) → (if valid && not had then input.word ∷ [] else []) ≡ (if had then [] else (if valid then input.word ∷ [] else []))
        by_cases true true = refl
        by_cases true false = refl
        by_cases false true = refl
        by_cases false false = refl

join_cycle : (left right output : Signals) → JoinWires left right output → JoinCycle left right output
join_cycle left right output wires = record {
  offers = ap (λ b. if b then output.word ∷ [] else []) wires.valid ∙ ap (λ word. if left.valid && right.valid then word ∷ [] else []) wires.word ∙ by_cases left.valid right.valid;
  left_ready = wires.left_ready;
  right_ready = wires.right_ready;
}
  where
    by_cases : (lv rv : Bool) → (if lv && rv then pair left.word right.word ∷ [] else []) ≡ pairs (if lv then left.word ∷ [] else []) (if rv then right.word ∷ [] else [])
    by_cases true true = refl
    by_cases true false = refl
    by_cases false true = refl
    by_cases false false = refl

pub wires_make_cycles : WiresMakeCycles
wires_make_cycles stage now next inputs outputs wired = absurd wired
wires_make_cycles (fifo depth) now next inputs outputs wired = absurd wired
wires_make_cycles as_fifo now next inputs outputs wired = map_cycle (λ word. word) (inputs 0) (outputs 0) wired
wires_make_cycles as_vr now next inputs outputs wired = as_vr_cycle (inputs 0) (outputs 0) wired
wires_make_cycles (map_by f) now next inputs outputs wired = map_cycle f (inputs 0) (outputs 0) wired
wires_make_cycles (scan_by step start) now next inputs outputs wired = scan_cycle step now.state next.state (inputs 0) (outputs 0) wired
wires_make_cycles (fork branches) now next inputs outputs wired = fork_cycle branches (flag now) (flag next) (inputs 0) outputs wired
wires_make_cycles join now next inputs outputs wired = join_cycle (inputs 0) (inputs 1) (outputs 0) wired

pub wires_make_runs : {C : Type 0} → WiresMakeRuns C
wires_make_runs element before after inputs outputs history run =
    run_of_part (λ cycle. IsWired element (before cycle) (after cycle) (λ k. inputs k cycle) (λ k. outputs k cycle))
    (λ cycle. IsCycle element (before cycle) (after cycle) (λ k. inputs k cycle) (λ k. outputs k cycle)) before after (reset element) (λ now. now)
    (λ cycle wired. wires_make_cycles element (before cycle) (after cycle) (λ k. inputs k cycle) (λ k. outputs k cycle) wired) history run

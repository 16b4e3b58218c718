-- Laws of runs: widths, the words of registers from cycle to cycle, and the words of nets that stand in a list.
use Rattle.std.specs.Prelude.{◌≡◌, ℕ, ◌+◌, ◌<◌, ◌==◌, ◌&&◌, ◌||◌, not, if◌then◌else◌, Bool, true, false, List, [], ◌∷◌, Option, Some, None, length, map, slice_get, IsSome, refl}
use Rattle.std.specs.List.{AllByRecursion}
use Rattle.std.proofs.Common.{sym, ◌∙◌, ap, arith, inl, inr, get_or}
use Rattle.std.proofs.lemmas.Bool.{cases_lt}
use Rattle.std.proofs.lemmas.List.{get_or-map, get_or_past}
use Rattle.esi_base.specs.Bits.{number_of, zip_bits}
use Rattle.netlist.specs.declared.net.Net.{Net}
use Rattle.netlist.specs.declared.net.Net.TheVariants.{Input, Register, Not}
use Rattle.netlist.specs.Nets.{Bits, word_at, width_at, is_computed, is_register, result_of}
use Rattle.netlist.specs.Plans.{Plan, Stands, next_of, IsPlan, IsComplete}
use Rattle.netlist.specs.PlanLaws.{net_at-stands, stands_within}
use Rattle.netlist.specs.Settled.{operands, AreHeld, AreInputs, HaveWidths}
use Rattle.netlist.specs.SettledLaws.{settled_widths, widths_at}
use Rattle.netlist.specs.Runs.{reset_of, taken_from, registers_after, IsHistory}
use Rattle.element_laws.specs.Histories.{reached, IsRun}
use Rattle.net_lists.specs.Lists.{StandFrom}
use Rattle.net_lists.specs.Runs.{bit_of, bit_at, IsNetRun, IsNetCycle, AreNetCycles}

-- ---- words of registers

reset_word : (plan : Plan) (register : ℕ) (reset : Bits) → Stands plan.nets register (Register reset) → word_at (registers_after plan None) register ≡ reset
reset_word plan register reset s =
    get_or-map reset_of plan.nets register (Not 0) [] (stands_within plan.nets register (Register reset) s) ∙ ap reset_of (net_at-stands plan.nets register (Register reset) s)

next_within : (nexts : List (Option ℕ)) (register next : ℕ) → get_or nexts register None ≡ Some next → register < length nexts
next_within nexts register next e =
    elim (cases_lt register (length nexts)) [
      | inl lt ↦ lt
      | inr ge ↦ let no : ◌≡◌ {A = Option ℕ} None (Some next) = sym (get_or_past nexts register None ge) ∙ e in absurd (cc)
    ]

next_word : (plan : Plan) (old : List Bits) (register next : ℕ) → next_of plan register ≡ Some next → word_at (registers_after plan (Some old)) register ≡ word_at old next
next_word plan old register next e =
    get_or-map (taken_from old) plan.nexts register None [] (next_within plan.nexts register next e) ∙ ap (taken_from old) e

-- the word of a register is its reset in the first cycle, and then the word that its next net had in the cycle before
pub register_word : (plan : Plan) (earlier : List (List Bits)) (words : List Bits) (register next : ℕ) (reset : Bits) → IsNetCycle plan earlier words → Stands plan.nets register (Register reset) → next_of plan register ≡ Some next
    → word_at words register ≡ reached (λ old. word_at old next) reset earlier
register_word plan [] words register next reset c s e = c.settled.each register (Register reset) s ∙ reset_word plan register reset s
register_word plan (old ∷ earlier) words register next reset c s e = c.settled.each register (Register reset) s ∙ next_word plan old register next e

-- ---- widths

held_first : (plan : Plan) → AreHeld plan (registers_after plan None)
held_first plan = record { wide = λ place reset s. ap length (reset_word plan place reset s) }

next_width : (plan : Plan) (old : List Bits) (place : ℕ) (reset : Bits) (next : Option ℕ) → next_of plan place ≡ next → IsSome next → IsPlan plan → HaveWidths plan.widths old → Stands plan.nets place (Register reset)
    → length (word_at (registers_after plan (Some old)) place) ≡ length reset
next_width plan old place reset None e has kept wide s = absurd (cc)
next_width plan old place reset (Some next) e has kept wide s =
    let there = kept.set_nexts place next e in
    ap length (next_word plan old place next e) ∙ widths_at plan.widths old next wide ∙ there.same ∙ (kept.fit place (Register reset) s).own

held_later : (plan : Plan) (old : List Bits) → IsComplete plan → HaveWidths plan.widths old → AreHeld plan (registers_after plan (Some old))
held_later plan old complete wide = record {
  wide = λ place reset s.
      next_width plan old place reset (next_of plan place) refl (complete.all.each place (ap is_register (net_at-stands plan.nets place (Register reset) s))) complete.plan_kept wide s;
}

held_wide : (plan : Plan) (earlier : List (List Bits)) → IsComplete plan → AreNetCycles plan earlier → AreHeld plan (registers_after plan (slice_get earlier 0))
held_wide plan [] complete cycles = held_first plan
held_wide plan (old ∷ earlier) complete cycles = held_later plan old complete cycles.0.wide

net_cycles : (plan : Plan) → IsComplete plan → (offers history : List (List Bits)) → AllByRecursion (AreInputs plan) offers → IsHistory plan offers history → AreNetCycles plan history
net_cycles plan complete [] [] wide run = tt
net_cycles plan complete [] (words ∷ earlier) wide run = absurd run
net_cycles plan complete (inputs ∷ offers) [] wide run = absurd run
net_cycles plan complete (inputs ∷ offers) (words ∷ earlier) wide run =
    let before = net_cycles plan complete offers earlier wide.1 run.1 in
    let held = held_wide plan earlier complete before in (
      record { inputs = inputs; settled = run.0; wide = settled_widths plan complete.plan_kept inputs (registers_after plan (slice_get earlier 0)) words wide.0 held run.0 },
      before,
    )

-- each cycle of a run is settled, with words of the nets' widths
pub run_cycles : (plan : Plan) (offers history : List (List Bits)) → IsNetRun plan offers history → AreNetCycles plan history
run_cycles plan offers history run = net_cycles plan run.complete offers history run.wide run.run

-- what each cycle says, and how it begins, is a run of the registers
pub run_of : {S : Type 0} (plan : Plan) (IsOne : List Bits → Type 0) (before after : List Bits → S) (start : S)
    → ((earlier : List (List Bits)) (words : List Bits) → IsNetCycle plan earlier words → IsOne words × (before words ≡ reached after start earlier))
    → (history : List (List Bits)) → AreNetCycles plan history → IsRun IsOne before after start history
run_of plan IsOne before after start one [] cycles = tt
run_of plan IsOne before after start one (words ∷ earlier) cycles =
    let here = one earlier words cycles.0 in
    (here.0, here.1, run_of plan IsOne before after start one earlier cycles.1)

-- ---- words of nets

-- a net that is worked out has the word of its operator
pub computed_word : (plan : Plan) (earlier : List (List Bits)) (words : List Bits) (place : ℕ) (net : Net) → IsNetCycle plan earlier words → is_computed net ≡ true → Stands plan.nets place net → word_at words place ≡ result_of net (operands net words)
computed_word plan earlier words place (Input width) c e s = absurd (grind (arith, e))
computed_word plan earlier words place (Register reset) c e s = absurd (grind (arith, e))
computed_word plan earlier words place net c e s = c.settled.each place net s

-- the same of a net in a list that stands from a place on
pub word_in : (plan : Plan) (earlier : List (List Bits)) (words : List Bits) (at : ℕ) (these : List Net) (place : ℕ) (net : Net) → IsNetCycle plan earlier words → StandFrom plan.nets at these → slice_get these place ≡ Some net → is_computed net ≡ true
    → word_at words (at + place) ≡ result_of net (operands net words)
word_in plan earlier words at these place net c s e is = computed_word plan earlier words (at + place) net c is (s.each place net e)

-- a word of one bit
pub one_bit : (word : Bits) → length word ≡ 1 → word ≡ bit_of word ∷ []
one_bit [] e = absurd (omega (arith, e))
one_bit (b ∷ []) e = refl
one_bit (b ∷ a ∷ bits) e = absurd (omega (arith, e))

-- a net of one bit has a word of one bit
pub bit_word : (plan : Plan) (earlier : List (List Bits)) (words : List Bits) (net : ℕ) → IsNetCycle plan earlier words → width_at plan.widths net ≡ 1 → word_at words net ≡ bit_at net words ∷ []
bit_word plan earlier words net c e = one_bit (word_at words net) (widths_at plan.widths words net c.wide ∙ e)

-- operators on words of one bit
pub and_bits : (v w : Bits) (a b : Bool) → v ≡ a ∷ [] → w ≡ b ∷ [] → zip_bits ◌&&◌ v w ≡ (a && b) ∷ []
and_bits v w a b e f = ap (λ x. zip_bits ◌&&◌ x w) e ∙ ap (λ x. zip_bits ◌&&◌ (a ∷ []) x) f

pub or_bits : (v w : Bits) (a b : Bool) → v ≡ a ∷ [] → w ≡ b ∷ [] → zip_bits ◌||◌ v w ≡ (a || b) ∷ []
or_bits v w a b e f = ap (λ x. zip_bits ◌||◌ x w) e ∙ ap (λ x. zip_bits ◌||◌ (a ∷ []) x) f

pub not_bits : (v : Bits) (a : Bool) → v ≡ a ∷ [] → map not v ≡ not a ∷ []
not_bits v a e = ap (map not) e

is_one : (a : Bool) → (number_of (a ∷ []) == 1) ≡ a
is_one true = refl
is_one false = refl

pub choose_bits : (v one other : Bits) (a : Bool) → v ≡ a ∷ [] → (if number_of v == 1 then one else other) ≡ (if a then one else other)
choose_bits v one other a e = ap (λ t. if t then one else other) (ap (λ x. number_of x == 1) e ∙ is_one a)

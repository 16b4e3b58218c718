-- A good part between nets that fit it may go through its passes.
use Rattle.std.specs.Prelude.{◌≡◌, ℕ, zero, suc, ◌+◌, ◌-◌, ◌*◌, ◌<◌, ◌≤◌, ◌==◌, if◌then◌else◌, nat_le, Bool, true, false, List, [], ◌∷◌, Option, Some, None, length, get_or, replicate, IsSome, refl}
use Rattle.std.specs.List.{slice_index_or}
use Rattle.std.proofs.Common.{sym, ap, subst, arith}
use Rattle.std.proofs.lemmas.Bool.{eqb-true}
use Rattle.std.proofs.lemmas.Bool.Decides.{nat_tests}
use Rattle.std.proofs.lemmas.List.{length-replicate}
use Rattle.netlist.specs.declared.limits.TheConstants.{MAX_WIDTH}
use Rattle.netlist.specs.declared.net.Net.TheVariants.{Register}
use Rattle.netlist.specs.declared.formula.Formula.{Formula}
use Rattle.netlist.specs.declared.part.Part.{Part}
use Rattle.netlist.specs.declared.part.Part.TheVariants.{Stage, Fifo, AsFifo, AsVr, Map, Scan, Fork, Join}
use Rattle.netlist.specs.Formulas.{size}
use Rattle.netlist.specs.Nets.{width_at}
use Rattle.netlist.specs.Parts.{IsGoodPart, part_width, only_width}
use Rattle.netlist.specs.Plans.{Plan, Stands, IsPlan}
use Rattle.netlist.specs.PlanLaws.{stands_within}
use Rattle.net_lists.specs.Lists.{StandFrom, Carries}
use Rattle.net_lists.specs.ListLaws.{stand_first, register_carries}
use Rattle.formula_nets.specs.Making.{IsFormulaReady}
use Rattle.looped_nets.specs.Loops.{turn_stands}
use Rattle.looped_nets.specs.Forks.{fork_registers, fork_of, fork_ready, AreBranches}
use Rattle.looped_nets.specs.Fifos.{fifo_registers, count_bits, IsFifoFrontReady}
use Rattle.buffer_stage.specs.declared.laid.Wire.{Wire}
use Rattle.buffer_stage.specs.declared.laid.Laid.{Laid}
use Rattle.buffer_stage.specs.Passes.{input_count, output_count, wire_at, ready_at, register_nets, first_output, first_ready, fork_in, MayGoForward, MayGoBack, MayGoOn}

-- The inputs of a part fit it: there are as many as it takes, each has a valid net of one bit and a word of its width, and with words of
-- these widths the part gives words of some width.
pub record DoFit (plan : Plan) (part : Part) (inputs : List Wire) (widths : List ℕ) : Type 0 where
  pub count : length widths ≡ input_count part
  pub valid : (k : ℕ) → k < input_count part → Carries plan (wire_at inputs k).valid 1
  pub word : (k : ℕ) → k < input_count part → Carries plan (wire_at inputs k).word (get_or widths k 0)
  pub gives : IsSome (part_width part widths)

-- The ready nets of the outputs of a part fit it: there is one of one bit for each.
pub record DoFitBack (plan : Plan) (part : Part) (readies : List ℕ) : Type 0 where
  pub count : length readies ≡ output_count part
  pub bits : (k : ℕ) → k < output_count part → Carries plan (ready_at readies k) 1

-- A good part whose registers stand and whose inputs fit may go forward, and then, where its first output's valid is a net of one bit
-- and the ready nets of its outputs fit, back.
abbrev pub GoodPartsGoForward : Type 0
GoodPartsGoForward = (plan : Plan) (part : Part) (registers : ℕ) (inputs : List Wire) (widths : List ℕ) → IsPlan plan → IsGoodPart part → StandFrom plan.nets registers (register_nets part) → DoFit plan part inputs widths
    → MayGoForward plan part registers inputs

abbrev pub GoodPartsGoBack : Type 0
GoodPartsGoBack = (plan : Plan) (part : Part) (laid : Laid) (readies widths : List ℕ) → IsPlan plan → IsGoodPart part → StandFrom plan.nets laid.registers (register_nets part) → DoFit plan part laid.inputs widths
    → Carries plan laid.output.valid 1 → DoFitBack plan part readies → MayGoBack plan part laid readies

-- What an element has behind its forward and its backward pass: its output's wires, the valid net of each of one bit, and the ready net
-- of its first input.
pub record IsLaidOut (plan : Plan) (part : Part) (laid : Laid) (widths : List ℕ) : Type 0 where
  pub output : laid.output ≡ first_output part laid.registers laid.inputs laid.forward
  pub valid : (k : ℕ) → k < output_count part → Carries plan (laid.output.valid + 2 * k) 1
  pub word : (width : ℕ) → part_width part widths ≡ Some width → Carries plan laid.output.word width
  pub room : Carries plan (first_ready part laid.readies laid.backward) 1

-- Then it may go on to its next nets.
abbrev pub GoodPartsGoOn : Type 0
GoodPartsGoOn = (plan : Plan) (part : Part) (laid : Laid) (widths : List ℕ) → IsPlan plan → IsGoodPart part → StandFrom plan.nets laid.registers (register_nets part) → DoFit plan part laid.inputs widths
    → DoFitBack plan part laid.readies → IsLaidOut plan part laid widths → MayGoOn plan part laid

-- ---- widths

if_asked : (asked : ℕ) (test : Bool) → IsSome (if test then Some asked else None) → (if test then Some asked else None) ≡ Some asked
if_asked asked true h = refl
if_asked asked false h = absurd (cc)

-- what is given is what is asked
only_is : (asked : ℕ) (width : Option ℕ) → IsSome (only_width asked width) → only_width asked width ≡ Some asked
only_is asked None h = absurd (cc)
only_is asked (Some width) h = if_asked asked (width == asked) h

if_same : (asked width : ℕ) (test : Bool) → (width == asked) ≡ test → IsSome (if test then Some asked else None) → width ≡ asked
if_same asked width true e h = eqb-true width asked e
if_same asked width false e h = absurd (cc)

same_width : (asked width : ℕ) → IsSome (only_width asked (Some width)) → width ≡ asked
same_width asked width h = if_same asked width (width == asked) refl h

pub one_width : (widths : List ℕ) → length widths ≡ 1 → widths ≡ get_or widths 0 0 ∷ []
one_width [] e = absurd (omega (arith, e))
one_width (a ∷ []) e = refl
one_width (a ∷ b ∷ rest) e = absurd (omega (arith, e))

pub two_widths : (widths : List ℕ) → length widths ≡ 2 → widths ≡ get_or widths 0 0 ∷ get_or widths 1 0 ∷ []
two_widths [] e = absurd (omega (arith, e))
two_widths (a ∷ []) e = absurd (omega (arith, e))
two_widths (a ∷ b ∷ []) e = refl
two_widths (a ∷ b ∷ c ∷ rest) e = absurd (omega (arith, e))

only_some : (asked : ℕ) (width : Option ℕ) → IsSome (only_width asked width) → IsSome width
only_some asked None h = h
only_some asked (Some width) h = refl

short_enough : (n : ℕ) (test : Bool) → nat_le n MAX_WIDTH ≡ test → IsSome (if test then Some n else None) → n ≤ MAX_WIDTH
short_enough n true e h = grind (arith, nat_tests)
short_enough n false e h = absurd (cc)

-- ---- formulas

one_stands : (a count i : ℕ) → a < count → i < 1 → slice_index_or (a ∷ []) i 0 < count
one_stands a count zero below lt = below
one_stands a count (suc i) below lt = absurd (omega arith)

two_stand : (a b count i : ℕ) → a < count → b < count → i < 2 → slice_index_or (a ∷ b ∷ []) i 0 < count
two_stand a b count zero first second lt = first
two_stand a b count (suc zero) first second lt = second
two_stand a b count (suc (suc i)) first second lt = absurd (omega arith)

map_ready : (plan : Plan) (body : Formula) (word width : ℕ) → Carries plan word width → IsSome (size (width ∷ []) body) → IsFormulaReady plan (word ∷ []) body
map_ready plan body word width c gives = record {
  standing = λ i lt. one_stands word (length plan.nets) i c.below lt;
  good = subst (λ w. IsSome (size (w ∷ []) body)) (sym c.wide) gives;
}

scan_ready : (plan : Plan) (body : Formula) (state word state_width width : ℕ) → Carries plan state state_width → Carries plan word width → IsSome (size (state_width ∷ width ∷ []) body) → IsFormulaReady plan (state ∷ word ∷ []) body
scan_ready plan body state word state_width width s c gives = record {
  standing = λ i lt. two_stand state word (length plan.nets) i s.below c.below lt;
  good = subst (λ w. IsSome (size (w ∷ width_at plan.widths word ∷ []) body)) (sym s.wide) (subst (λ w. IsSome (size (state_width ∷ w ∷ []) body)) (sym c.wide) gives);
}

-- ---- registers

count_ready : (plan : Plan) (width depth registers : ℕ) → IsPlan plan → IsGoodPart (Fifo width depth) → StandFrom plan.nets registers (fifo_registers width depth) → IsFifoFrontReady plan depth registers
count_ready plan width depth registers kept good stand =
    let wide = length-replicate (count_bits depth) false in
    record {
      good = record { some = good.1; few = good.2 };
      count = register_carries plan registers (count_bits depth) (replicate (count_bits depth) false) kept (stand_first plan.nets registers _ _ stand) wide;
    }

pub flag_carries : (plan : Plan) (branches registers i : ℕ) → IsPlan plan → StandFrom plan.nets registers (fork_registers branches) → i < branches → Carries plan (registers + i) 1
flag_carries plan branches registers i kept stand lt =
    let stands : Stands plan.nets (registers + i) (Register (false ∷ [])) =
    stand_first plan.nets (registers + i) _ _
    (turn_stands plan.nets (λ j. Register (false ∷ []) ∷ []) (λ j. registers + j) (record { next = λ j. omega arith }) branches i lt
    (subst (λ k. StandFrom plan.nets k (fork_registers branches)) (let e : registers ≡ registers + 0 = omega arith in e) stand)) in
    register_carries plan (registers + i) 1 (false ∷ []) kept stands refl

-- ---- the laws

pub good_parts_do_go_forward : GoodPartsGoForward
good_parts_do_go_forward plan (Stage width) registers inputs widths kept good stand fit = tt
good_parts_do_go_forward plan (Fifo width depth) registers inputs widths kept good stand fit = count_ready plan width depth registers kept good stand
good_parts_do_go_forward plan AsFifo registers inputs widths kept good stand fit = (fit.valid 0 (omega arith)).below
good_parts_do_go_forward plan AsVr registers inputs widths kept good stand fit = (fit.valid 0 (omega arith)).below
good_parts_do_go_forward plan (Map body) registers inputs widths kept good stand fit =
    map_ready plan body (wire_at inputs 0).word (get_or widths 0 0) (fit.word 0 (omega arith)) (subst (λ (ws : List ℕ). IsSome (part_width (Map body) ws)) (one_width widths fit.count) fit.gives)
good_parts_do_go_forward plan (Scan reset body) registers inputs widths kept good stand fit =
    scan_ready plan body registers (wire_at inputs 0).word (length reset) (get_or widths 0 0) (register_carries plan registers (length reset) reset kept (stand_first plan.nets registers _ _ stand) refl) (fit.word 0 (omega arith))
    (only_some (length reset) (size (length reset ∷ get_or widths 0 0 ∷ []) body) (subst (λ (ws : List ℕ). IsSome (part_width (Scan reset body) ws)) (one_width widths fit.count) fit.gives))
good_parts_do_go_forward plan (Fork branches) registers inputs widths kept good stand fit = record {
  branches = record { some = good.0; few = good.1 };
  flags = λ i lt. flag_carries plan branches registers i kept stand lt;
  valid_bit = fit.valid 0 (omega arith);
}
good_parts_do_go_forward plan Join registers inputs widths kept good stand fit =
    let left = fit.word 0 (omega arith) in
    let right = fit.word 1 (omega arith) in
    let sum : get_or widths 0 0 + get_or widths 1 0 ≤ MAX_WIDTH = short_enough (get_or widths 0 0 + get_or widths 1 0) _ refl (subst (λ (ws : List ℕ). IsSome (part_width Join ws)) (two_widths widths fit.count) fit.gives) in
    record {
      left = fit.valid 0 (omega arith);
      right = fit.valid 1 (omega arith);
      left_within = omega (arith, left.below);
      right_within = omega (arith, right.below);
      narrow = omega (arith, left.wide, right.wide, sum);
    }

pub good_parts_do_go_back : GoodPartsGoBack
good_parts_do_go_back plan (Stage width) laid readies widths kept good stand fit output back = stands_within plan.nets (laid.registers + 1) _ (stand.each 1 _ refl)
good_parts_do_go_back plan (Fifo width depth) laid readies widths kept good stand fit output back = count_ready plan width depth laid.registers kept good stand
good_parts_do_go_back plan AsFifo laid readies widths kept good stand fit output back = tt
good_parts_do_go_back plan AsVr laid readies widths kept good stand fit output back = (back.bits 0 (omega arith), output)
good_parts_do_go_back plan (Map body) laid readies widths kept good stand fit output back = tt
good_parts_do_go_back plan (Scan reset body) laid readies widths kept good stand fit output back = tt
good_parts_do_go_back plan (Fork branches) laid readies widths kept good stand fit output back =
    let count = back.count in
    record {
      branches = subst (λ n. AreBranches n) (sym count) (record { some = good.0; few = good.1 });
      flags = λ i lt. flag_carries plan branches laid.registers i kept stand (omega (arith, count, lt));
      ready_bits = λ i lt. back.bits i (omega (arith, count, lt));
    }
good_parts_do_go_back plan Join laid readies widths kept good stand fit output back = (back.bits 0 (omega arith), fit.valid 0 (omega arith), fit.valid 1 (omega arith))

pub good_parts_do_go_on : GoodPartsGoOn
good_parts_do_go_on plan (Stage width) laid widths kept good stand fit back out =
    let asked : get_or widths 0 0 ≡ width = same_width width (get_or widths 0 0) (subst (λ (ws : List ℕ). IsSome (part_width (Stage width) ws)) (one_width widths fit.count) fit.gives) in
    record {
      registers = stand;
      within = stands_within plan.nets (laid.registers + 3) _ (stand.each 3 _ refl);
      valid = fit.valid 0 (omega arith);
      word = subst (λ w. Carries plan (wire_at laid.inputs 0).word w) asked (fit.word 0 (omega arith));
      ready = back.bits 0 (omega arith);
      room = out.room;
    }
good_parts_do_go_on plan (Fifo width depth) laid widths kept good stand fit back out =
    let asked : get_or widths 0 0 ≡ width = same_width width (get_or widths 0 0) (subst (λ (ws : List ℕ). IsSome (part_width (Fifo width depth) ws)) (one_width widths fit.count) fit.gives) in
    record {
      good = record { some = good.1; few = good.2 };
      registers = stand;
      valid = fit.valid 0 (omega arith);
      word = subst (λ w. Carries plan (wire_at laid.inputs 0).word w) asked (fit.word 0 (omega arith));
      rden = back.bits 0 (omega arith);
      room = out.room;
    }
good_parts_do_go_on plan AsFifo laid widths kept good stand fit back out = tt
good_parts_do_go_on plan AsVr laid widths kept good stand fit back out = tt
good_parts_do_go_on plan (Map body) laid widths kept good stand fit back out = tt
good_parts_do_go_on plan (Scan reset body) laid widths kept good stand fit back out =
    let one = one_width widths fit.count in
    let some : IsSome (only_width (length reset) (size (length reset ∷ get_or widths 0 0 ∷ []) body)) = subst (λ (ws : List ℕ). IsSome (part_width (Scan reset body) ws)) one fit.gives in
    let gives : part_width (Scan reset body) widths ≡ Some (length reset) =
    subst (λ (ws : List ℕ). part_width (Scan reset body) ws ≡ Some (length reset)) (sym one) (only_is (length reset) (size (length reset ∷ get_or widths 0 0 ∷ []) body) some) in
    record {
      register = stand_first plan.nets laid.registers _ _ stand;
      valid = fit.valid 0 (omega arith);
      ready = back.bits 0 (omega arith);
      out = out.word (length reset) gives;
    }
good_parts_do_go_on plan (Fork branches) laid widths kept good stand fit back out =
    let count = back.count in
    let some = good.0 in
    let first : laid.output.valid ≡ laid.forward + 1 = ap (λ (w : Wire). w.valid) out.output in
    record {
      branches = subst (λ n. AreBranches n) (sym count) (record { some = good.0; few = good.1 });
      registers = subst (λ n. StandFrom plan.nets laid.registers (fork_registers n)) (sym count) stand;
      valid = fit.valid 0 (omega arith);
      offers = λ i lt. subst (λ k. Carries plan k 1) (let e : laid.output.valid + 2 * i ≡ laid.forward + 2 * i + 1 = omega (arith, first) in e) (out.valid i (omega (arith, count, lt)));
      room =
          subst (λ k. Carries plan k 1)
          (let e : laid.backward + branches + (branches - 2) ≡ fork_ready (fork_of (fork_in laid) laid.readies 0) = omega (arith, count, some) in e)
          out.room;
      ready_bits = λ i lt. back.bits i (omega (arith, count, lt));
    }
good_parts_do_go_on plan Join laid widths kept good stand fit back out = tt

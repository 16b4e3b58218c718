-- From the nets of a stage to its wires, and to its law.
use Rattle.std.specs.Prelude.{◌≡◌, ℕ, ◌+◌, ◌&&◌, ◌||◌, not, if◌then◌else◌, false, List, [], ◌∷◌, replicate, refl}
use Rattle.std.proofs.Common.{◌∙◌, ap}
use Rattle.netlist.specs.declared.net.Net.TheVariants.{Register, Not, And, Or, Choose}
use Rattle.netlist.specs.Nets.{Bits, word_at, width_at}
use Rattle.netlist.specs.Plans.{Plan, Stands, IsPlan}
use Rattle.element_laws.specs.Histories.{reached}
use Rattle.element_laws.specs.ElementLemmas.{each_obeys}
use Rattle.element_laws.specs.Elements.Element.{stage}
use Rattle.element_wires.specs.Wires.{StageRegisters, StageWires, stage_words, stays, follows, newest}
use Rattle.element_wires.specs.WireLaws.{IsStageRun, holding}
use Rattle.element_wires.specs.WireLemmas.{stages_run}
use Rattle.net_lists.specs.ListLaws.{stand_first}
use Rattle.net_lists.specs.Runs.{bit_of, bit_at, IsNetCycle, AreNetCycles}
use Rattle.net_lists.specs.RunLemmas.{register_word, run_cycles, run_of, word_in, computed_word, bit_word, and_bits, or_bits, not_bits, choose_bits}
use Rattle.stage_nets.specs.declared.stage.StageNets.{StageNets}
use Rattle.stage_nets.specs.Stage.{stage_next, HasStage, stage_input, stage_output, stage_now, stage_start, stage_after, StageRuns, StagesObey}

same_registers : (a b : StageRegisters) → a.v0 ≡ b.v0 → a.v1 ≡ b.v1 → a.d0 ≡ b.d0 → a.d1 ≡ b.d1 → a ≡ b
same_registers a b e0 e1 e2 e3 =
    ap (λ x. record a { v0 = x }) e0 ∙ ap (λ x. record a { v0 = b.v0; v1 = x }) e1 ∙ ap (λ x. record a { v0 = b.v0; v1 = b.v1; d0 = x }) e2
    ∙ ap (λ (x : Bits). let whole : StageRegisters = record { v0 = b.v0; v1 = b.v1; d0 = b.d0; d1 = x } in whole) e3

module _ (plan : Plan) (kept : IsPlan plan) (s : StageNets) (at : ℕ) (has : HasStage plan s at) where
  first : Stands plan.nets s.registers (Register (false ∷ []))
  first = stand_first plan.nets s.registers _ _ has.registers

  second : Stands plan.nets (s.registers + 1) (Register (false ∷ []))
  second = has.registers.each 1 _ refl

  v0_wide : width_at plan.widths s.registers ≡ 1
  v0_wide = (kept.fit s.registers (Register (false ∷ [])) first).own

  v1_wide : width_at plan.widths (s.registers + 1) ≡ 1
  v1_wide = (kept.fit (s.registers + 1) (Register (false ∷ [])) second).own

  module _ (earlier : List (List Bits)) (words : List Bits) (c : IsNetCycle plan earlier words) where
    v0 : word_at words s.registers ≡ bit_at s.registers words ∷ []
    v0 = bit_word plan earlier words s.registers c v0_wide

    v1 : word_at words (s.registers + 1) ≡ bit_at (s.registers + 1) words ∷ []
    v1 = bit_word plan earlier words (s.registers + 1) c v1_wide

    iv : word_at words s.valid ≡ bit_at s.valid words ∷ []
    iv = bit_word plan earlier words s.valid c has.valid.wide

    ready : word_at words s.ready ≡ bit_at s.ready words ∷ []
    ready = bit_word plan earlier words s.ready c has.ready.wide

    room : word_at words s.room ≡ not (bit_at (s.registers + 1) words) ∷ []
    room = computed_word plan earlier words s.room (Not (s.registers + 1)) c refl (stand_first plan.nets s.room _ _ has.room) ∙ not_bits _ _ v1

    a : word_at words at ≡ (bit_at s.valid words && not (bit_at (s.registers + 1) words)) ∷ []
    a = computed_word plan earlier words at (And s.valid s.room) c refl (stand_first plan.nets at _ _ has.next) ∙ and_bits _ _ _ _ iv room

    b : word_at words (at + 1) ≡ (bit_at s.registers words && bit_at s.ready words) ∷ []
    b = word_in plan earlier words at (stage_next s at) 1 (And s.registers s.ready) c has.next refl refl ∙ and_bits _ _ _ _ v0 ready

    n : word_at words (at + 2) ≡ not (bit_at s.registers words && bit_at s.ready words) ∷ []
    n = word_in plan earlier words at (stage_next s at) 2 (Not (at + 1)) c has.next refl refl ∙ not_bits _ _ b

    k : word_at words (at + 3) ≡ (bit_at s.registers words && not (bit_at s.registers words && bit_at s.ready words)) ∷ []
    k = word_in plan earlier words at (stage_next s at) 3 (And s.registers (at + 2)) c has.next refl refl ∙ and_bits _ _ _ _ v0 n

    f : word_at words (at + 4) ≡ (bit_at (s.registers + 1) words || (bit_at s.valid words && not (bit_at (s.registers + 1) words))) ∷ []
    f = word_in plan earlier words at (stage_next s at) 4 (Or (s.registers + 1) at) c has.next refl refl ∙ or_bits _ _ _ _ v1 a

    p : word_at words (at + 5) ≡ (stays (stage_now s words) (stage_output s words) || follows (stage_now s words) (stage_input s words)) ∷ []
    p = word_in plan earlier words at (stage_next s at) 5 (Or (at + 3) (at + 4)) c has.next refl refl ∙ or_bits _ _ _ _ k f

    q : word_at words (at + 6) ≡ (stays (stage_now s words) (stage_output s words) && follows (stage_now s words) (stage_input s words)) ∷ []
    q = word_in plan earlier words at (stage_next s at) 6 (And (at + 3) (at + 4)) c has.next refl refl ∙ and_bits _ _ _ _ k f

    m : word_at words (at + 7) ≡ newest (stage_now s words) (stage_input s words)
    m = word_in plan earlier words at (stage_next s at) 7 (Choose (s.registers + 1) (s.registers + 3) s.word) c has.next refl refl ∙ choose_bits _ _ _ _ v1

    g : word_at words (at + 8) ≡ (if stays (stage_now s words) (stage_output s words) then word_at words (s.registers + 2) else newest (stage_now s words) (stage_input s words))
    g = word_in plan earlier words at (stage_next s at) 8 (Choose (at + 3) (s.registers + 2) (at + 7)) c has.next refl refl ∙ choose_bits _ _ _ _ k
        ∙ ap (λ w. if stays (stage_now s words) (stage_output s words) then word_at words (s.registers + 2) else w) m

    stage_wires : StageWires (stage_now s words) (stage_after at words) (stage_input s words) (stage_output s words)
    stage_wires = record {
      valid = refl;
      word = refl;
      ready = ap bit_of room;
      next_v0 = ap bit_of p;
      next_v1 = ap bit_of q;
      next_d0 = g;
      next_d1 = m;
    }

  begins : (earlier : List (List Bits)) (words : List Bits) → IsNetCycle plan earlier words → stage_now s words ≡ reached (stage_after at) (stage_start s) earlier
  begins [] words c =
      let w0 = ap bit_of (register_word plan [] words s.registers (at + 5) (false ∷ []) c first has.next_v0) in
      let w1 = ap bit_of (register_word plan [] words (s.registers + 1) (at + 6) (false ∷ []) c second has.next_v1) in
      let w2 = register_word plan [] words (s.registers + 2) (at + 8) (replicate s.width false) c (has.registers.each 2 _ refl) has.next_d0 in
      let w3 = register_word plan [] words (s.registers + 3) (at + 7) (replicate s.width false) c (has.registers.each 3 _ refl) has.next_d1 in
      same_registers _ _ w0 w1 w2 w3
  begins (old ∷ earlier) words c =
      let w0 = ap bit_of (register_word plan (old ∷ earlier) words s.registers (at + 5) (false ∷ []) c first has.next_v0) in
      let w1 = ap bit_of (register_word plan (old ∷ earlier) words (s.registers + 1) (at + 6) (false ∷ []) c second has.next_v1) in
      let w2 = register_word plan (old ∷ earlier) words (s.registers + 2) (at + 8) (replicate s.width false) c (has.registers.each 2 _ refl) has.next_d0 in
      let w3 = register_word plan (old ∷ earlier) words (s.registers + 3) (at + 7) (replicate s.width false) c (has.registers.each 3 _ refl) has.next_d1 in
      same_registers _ _ w0 w1 w2 w3

  stage_runs : (history : List (List Bits)) → AreNetCycles plan history → StageRuns s at history
  stage_runs history cycles =
      let wires = run_of plan (λ words. StageWires (stage_now s words) (stage_after at words) (stage_input s words) (stage_output s words)) (stage_now s) (stage_after at) (stage_start s)
      (λ earlier words c. (stage_wires earlier words c, begins earlier words c)) history cycles in
      let run : IsStageRun (stage_now s) (stage_after at) (stage_start s) (stage_input s) (stage_output s) history =
      stages_run (stage_now s) (stage_after at) (stage_start s) (stage_input s) (stage_output s) history refl refl wires in
      record {
        run = run;
        obeys = λ keeps. each_obeys stage (λ words. holding (stage_words (stage_now s words))) (λ words. holding (stage_words (stage_after at words))) (λ j. stage_input s) (λ j. stage_output s) history run.runs (λ j below. keeps);
      }

pub stages_do_obey : StagesObey
stages_do_obey plan s at offers history has run = stage_runs plan run.complete.plan_kept s at has history (run_cycles plan offers history run)

-- From the nets of a fork to its wires, and to its law.
use Rattle.std.specs.Prelude.{◌≡◌, ℕ, zero, suc, ◌+◌, ◌*◌, ◌<◌, ◌&&◌, ◌||◌, not, Bool, false, List, [], ◌∷◌, replicate, refl}
use Rattle.std.proofs.Common.{sym, ◌∙◌, ap, subst, arith}
use Rattle.netlist.specs.declared.net.Net.TheVariants.{Register, Not, And, Or}
use Rattle.netlist.specs.Nets.{Bits, word_at, width_at}
use Rattle.netlist.specs.Plans.{Plan, Stands, IsPlan}
use Rattle.element_laws.specs.Histories.{reached}
use Rattle.element_laws.specs.Elements.{Contents, every, flag}
use Rattle.element_laws.specs.Elements.Element.{fork}
use Rattle.element_laws.specs.Laws.{IsElementRun}
use Rattle.element_laws.specs.ElementLemmas.{each_obeys}
use Rattle.element_wires.specs.Wires.{IsWired}
use Rattle.element_wires.specs.WireLemmas.{wires_make_runs}
use Rattle.net_lists.specs.Lists.{StandFrom}
use Rattle.net_lists.specs.ListLaws.{stand_first}
use Rattle.net_lists.specs.Runs.{bit_of, bit_at, IsNetRun, IsNetCycle}
use Rattle.net_lists.specs.RunLemmas.{register_word, run_cycles, run_of, computed_word, word_in, bit_word, and_bits, or_bits, not_bits}
use Rattle.looped_nets.specs.Loops.{nets_upto, turn_stands, firsts_same, firsts_at, firsts_one}
use Rattle.looped_nets.specs.Forks.{ForkNets, branches, branch_nets, wait_nets, chain, chain_nets, fork_ready, taken_nets, flag_place, flag_nets, HasFork, with_flags, fork_input, fork_output, ForksObey}

module _ (plan : Plan) (kept : IsPlan plan) (s : ForkNets) (has : HasFork plan s) where
  register_stands : (i : ℕ) → i < branches s → Stands plan.nets (s.registers + i) (Register (false ∷ []))
  register_stands i lt =
      stand_first plan.nets (s.registers + i) _ _
      (turn_stands plan.nets (λ j. Register (false ∷ []) ∷ []) (λ j. s.registers + j) (record { next = λ j. omega arith }) (branches s) i lt
      (subst (λ at. StandFrom plan.nets at (nets_upto (λ j. Register (false ∷ []) ∷ []) (branches s))) (omega arith) has.registers))

  flag_wide : (i : ℕ) → i < branches s → width_at plan.widths (s.registers + i) ≡ 1
  flag_wide i lt = (kept.fit (s.registers + i) (Register (false ∷ [])) (register_stands i lt)).own

  branch_stands : (i : ℕ) → i < branches s → StandFrom plan.nets (s.forward + 2 * i) (branch_nets s i)
  branch_stands i lt =
      turn_stands plan.nets (branch_nets s) (λ j. s.forward + 2 * j) (record { next = λ j. omega arith }) (branches s) i lt
      (subst (λ at. StandFrom plan.nets at (nets_upto (branch_nets s) (branches s))) (omega arith) has.front)

  wait_stands : (i : ℕ) → i < branches s → StandFrom plan.nets (s.backward + i) (wait_nets s i)
  wait_stands i lt =
      turn_stands plan.nets (wait_nets s) (λ j. s.backward + j) (record { next = λ j. omega arith }) (branches s) i lt
      (subst (λ at. StandFrom plan.nets at (nets_upto (wait_nets s) (branches s))) (omega arith) has.waits)

  chain_stands : (i : ℕ) → i < suc s.more → StandFrom plan.nets (s.backward + branches s + i) (chain_nets s i)
  chain_stands i lt =
      turn_stands plan.nets (chain_nets s) (λ j. s.backward + branches s + j) (record { next = λ j. omega arith }) (suc s.more) i lt
      (subst (λ at. StandFrom plan.nets at (nets_upto (chain_nets s) (suc s.more))) (omega arith) has.links)

  flag_stands : (i : ℕ) → i < branches s → StandFrom plan.nets (flag_place s i) (flag_nets s i)
  flag_stands i lt =
      turn_stands plan.nets (flag_nets s) (flag_place s) (record { next = λ j. omega arith }) (branches s) i lt
      (subst (λ at. StandFrom plan.nets at (nets_upto (flag_nets s) (branches s))) (omega arith) has.flags)

  module _ (earlier : List (List Bits)) (words : List Bits) (c : IsNetCycle plan earlier words) where
    abbrev served : ℕ → Bool
    served i = bit_at (s.registers + i) words

    abbrev takes : ℕ → Bool
    takes i = bit_at (s.registers + i) words || bit_at (s.readies i) words

    iv : word_at words s.valid ≡ bit_at s.valid words ∷ []
    iv = bit_word plan earlier words s.valid c has.valid.wide

    flag_word : (i : ℕ) → i < branches s → word_at words (s.registers + i) ≡ served i ∷ []
    flag_word i lt = bit_word plan earlier words (s.registers + i) c (flag_wide i lt)

    ready_word : (i : ℕ) → i < branches s → word_at words (s.readies i) ≡ bit_at (s.readies i) words ∷ []
    ready_word i lt = bit_word plan earlier words (s.readies i) c (has.readies i lt).wide

    offer_word : (i : ℕ) → i < branches s → word_at words (s.forward + 2 * i + 1) ≡ (bit_at s.valid words && not (served i)) ∷ []
    offer_word i lt =
        let at = s.forward + 2 * i in
        let u = computed_word plan earlier words at (Not (s.registers + i)) c refl (stand_first plan.nets at _ _ (branch_stands i lt)) ∙ not_bits _ _ (flag_word i lt) in
        word_in plan earlier words at (branch_nets s i) 1 (And s.valid at) c (branch_stands i lt) refl refl ∙ and_bits _ _ _ _ iv u

    wait_word : (i : ℕ) → i < branches s → word_at words (s.backward + i) ≡ takes i ∷ []
    wait_word i lt = computed_word plan earlier words (s.backward + i) (Or (s.registers + i) (s.readies i)) c refl (stand_first plan.nets (s.backward + i) _ _ (wait_stands i lt)) ∙ or_bits _ _ _ _ (flag_word i lt) (ready_word i lt)

    chain_word : (i : ℕ) → i < branches s → word_at words (chain s i) ≡ every takes (suc i) ∷ []
    chain_word zero lt = subst (λ at. word_at words at ≡ takes 0 ∷ []) (omega arith) (wait_word 0 lt)
    chain_word (suc i) lt =
        let at = s.backward + branches s + i in
        computed_word plan earlier words at (And (chain s i) (s.backward + suc i)) c refl (stand_first plan.nets at _ _ (chain_stands i (omega arith))) ∙ and_bits _ _ _ _ (chain_word i (omega arith)) (wait_word (suc i) lt)

    ready_is : word_at words (fork_ready s) ≡ every takes (branches s) ∷ []
    ready_is = chain_word (suc s.more) (omega arith)

    flag_next : (i : ℕ) → i < branches s → bit_at (flag_place s i + 2) words ≡ (not (bit_at s.valid words && bit_at (fork_ready s) words) && (served i || (bit_at (s.forward + 2 * i + 1) words && bit_at (s.readies i) words)))
    flag_next i lt =
        let at = flag_place s i in
        let ir = ready_is ∙ ap (λ b. b ∷ []) (sym (ap bit_of ready_is)) in
        let a = computed_word plan earlier words s.next (And s.valid (fork_ready s)) c refl (stand_first plan.nets s.next _ _ has.taken) ∙ and_bits _ _ _ _ iv ir in
        let n = word_in plan earlier words s.next (taken_nets s) 1 (Not s.next) c has.taken refl refl ∙ not_bits _ _ a in
        let offer = offer_word i lt ∙ ap (λ b. b ∷ []) (sym (ap bit_of (offer_word i lt))) in
        let x = computed_word plan earlier words at (And (s.forward + 2 * i + 1) (s.readies i)) c refl (stand_first plan.nets at _ _ (flag_stands i lt)) ∙ and_bits _ _ _ _ offer (ready_word i lt) in
        let y = word_in plan earlier words at (flag_nets s i) 1 (Or (s.registers + i) at) c (flag_stands i lt) refl refl ∙ or_bits _ _ _ _ (flag_word i lt) x in
        ap bit_of (word_in plan earlier words at (flag_nets s i) 2 (And (s.next + 1) (at + 1)) c (flag_stands i lt) refl refl ∙ and_bits _ _ _ _ n y)

    now_flag : (i : ℕ) → i < branches s → flag (with_flags s (λ j. s.registers + j) words) i ≡ served i
    now_flag i lt = firsts_at (λ j. bit_at (s.registers + j) words) (branches s) i false lt

    every_same : (f g : ℕ → Bool) (n : ℕ) → ((i : ℕ) → i < n → f i ≡ g i) → every f n ≡ every g n
    every_same f g zero same = refl
    every_same f g (suc n) same = ap (λ b. b && f n) (every_same f g n (λ i lt. same i (omega arith))) ∙ ap (λ b. every g n && b) (same n (omega arith))

    fork_wired : IsWired (fork (branches s)) (with_flags s (λ j. s.registers + j) words) (with_flags s (λ j. flag_place s j + 2) words) (λ k. fork_input s words) (λ k. fork_output s k words)
    fork_wired = record {
      valid = λ i lt. ap bit_of (offer_word i lt) ∙ ap (λ b. bit_at s.valid words && not b) (sym (now_flag i lt));
      word = λ i lt. refl;
      ready = ap bit_of ready_is ∙ every_same takes (λ i. flag (with_flags s (λ j. s.registers + j) words) i || bit_at (s.readies i) words) (branches s) (λ i lt. ap (λ b. b || bit_at (s.readies i) words) (sym (now_flag i lt)));
      next_flag = λ i lt.
          firsts_at (λ j. bit_at (flag_place s j + 2) words) (branches s) i false lt ∙ flag_next i lt
          ∙ ap (λ b. not (bit_at s.valid words && bit_at (fork_ready s) words) && (b || (bit_at (s.forward + 2 * i + 1) words && bit_at (s.readies i) words))) (sym (now_flag i lt));
    }

  begins : (earlier : List (List Bits)) (words : List Bits) → IsNetCycle plan earlier words
      → with_flags s (λ j. s.registers + j) words ≡ reached (with_flags s (λ j. flag_place s j + 2)) (record { held = []; state = []; flags = replicate (branches s) false }) earlier
  begins [] words c =
      ap (λ fs. let now : Contents = record { held = []; state = []; flags = fs } in now)
      (firsts_same (λ j. bit_at (s.registers + j) words) (λ j. false) (branches s) (λ i lt. ap bit_of (register_word plan [] words (s.registers + i) (flag_place s i + 2) (false ∷ []) c (register_stands i lt) (has.next_flag i lt))) ∙ firsts_one false (branches s))
  begins (old ∷ earlier) words c =
      ap (λ fs. let now : Contents = record { held = []; state = []; flags = fs } in now)
      (firsts_same (λ j. bit_at (s.registers + j) words) (λ j. bit_at (flag_place s j + 2) old) (branches s)
      (λ i lt. ap bit_of (register_word plan (old ∷ earlier) words (s.registers + i) (flag_place s i + 2) (false ∷ []) c (register_stands i lt) (has.next_flag i lt))))

-- A fork that stands in a netlist is a fork in each cycle of a run.
pub forks_do_run : (plan : Plan) (s : ForkNets) (offers history : List (List Bits)) → HasFork plan s → IsNetRun plan offers history
    → IsElementRun (fork (branches s)) (with_flags s (λ j. s.registers + j)) (with_flags s (λ j. flag_place s j + 2)) (λ k. fork_input s) (fork_output s) history
forks_do_run plan s offers history has run =
    let kept = run.complete.plan_kept in
    let element = fork (branches s) in
    let before = with_flags s (λ j. s.registers + j) in
    let after = with_flags s (λ j. flag_place s j + 2) in
    let wires = run_of plan (λ words. IsWired element (before words) (after words) (λ k. fork_input s words) (λ k. fork_output s k words)) before after (record { held = []; state = []; flags = replicate (branches s) false })
    (λ earlier words c. (fork_wired plan kept s has earlier words c, begins plan kept s has earlier words c)) history (run_cycles plan offers history run) in
    wires_make_runs element before after (λ k. fork_input s) (fork_output s) history wires

pub forks_do_obey : ForksObey
forks_do_obey plan s offers history has run keeps =
    each_obeys (fork (branches s)) (with_flags s (λ j. s.registers + j)) (with_flags s (λ j. flag_place s j + 2)) (λ k. fork_input s) (fork_output s) history
    (forks_do_run plan s offers history has run) (λ k below. keeps)

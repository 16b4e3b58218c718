-- From the nets of a FIFO to its wires, and to its law.
use Rattle.std.specs.Prelude.{◌≡◌, ℕ, suc, ◌+◌, ◌-◌, ◌%◌, ◌^◌, ◌<◌, ◌==◌, ◌&&◌, not, if◌then◌else◌, Bool, false, List, [], ◌∷◌, ◌++◌, length, replicate, refl}
use Rattle.std.proofs.Common.{sym, ◌∙◌, ap, subst, arith, inl, inr}
use Rattle.std.proofs.lemmas.Bool.{cases_lt}
use Rattle.std.proofs.lemmas.List.{length-replicate}
use Rattle.esi_base.specs.Bits.{number_of, bits_of, same_bits, length-bits_of, number_of-bits_of}
use Rattle.netlist.specs.declared.net.Net.{Net}
use Rattle.netlist.specs.declared.net.Net.TheVariants.{Register, Const, Not, And, Equal, Add, Sub, Choose, Concat}
use Rattle.netlist.specs.Nets.{Bits, word_at}
use Rattle.netlist.specs.Plans.{Plan, Stands, IsPlan}
use Rattle.netlist.specs.SettledLaws.{widths_at}
use Rattle.element_laws.specs.Signals.{is_transfer}
use Rattle.element_laws.specs.Histories.{reached}
use Rattle.element_laws.specs.Elements.Element.{fifo}
use Rattle.element_laws.specs.ElementLemmas.{each_obeys}
use Rattle.element_wires.specs.Wires.{FifoRegisters, FifoWires, FifoFits, fifo_words, slot, one, unread, moved_up}
use Rattle.element_wires.specs.WireLaws.{IsFifoRun, holding}
use Rattle.element_wires.specs.FifoLemmas.{fifos_run}
use Rattle.net_lists.specs.Lists.{StandFrom}
use Rattle.net_lists.specs.ListLaws.{stand_first}
use Rattle.net_lists.specs.Runs.{bit_of, bit_at, IsNetCycle}
use Rattle.net_lists.specs.RunLemmas.{register_word, run_cycles, run_of, computed_word, word_in, bit_word, and_bits, not_bits, choose_bits}
use Rattle.looped_nets.specs.Loops.{nets_upto, turn_stands, firsts_same, firsts_at}
use Rattle.looped_nets.specs.Counts.{is_number, zeros_number, bit_number, below_test, itself_test}
use Rattle.looped_nets.specs.Fifos.{FifoNets, depth, slot_of, slot_register, fifo_forward, fifo_backward, count_nets, slot_place, early_nets, last_nets, slot_next, HasFifo, fifo_input, fifo_output, fifo_now, fifo_after, fifo_start, FifosObey}

same_registers : (a b : FifoRegisters) → a.count ≡ b.count → a.slots ≡ b.slots → a ≡ b
same_registers a b e f = ap (λ n. record a { count = n }) e ∙ ap (λ (ws : List Bits). let whole : FifoRegisters = record { count = b.count; slots = ws } in whole) f

module _ (plan : Plan) (kept : IsPlan plan) (s : FifoNets) (has : HasFifo plan s) where
  count_stands : Stands plan.nets s.registers (Register (replicate s.bits false))
  count_stands = stand_first plan.nets s.registers _ _ has.count

  slot_stands : (i : ℕ) → i < depth s → Stands plan.nets (slot_of s i) (Register (replicate s.width false))
  slot_stands i lt =
      stand_first plan.nets (slot_of s i) _ _
      (turn_stands plan.nets (slot_register s) (slot_of s) (record { next = λ j. omega arith }) (depth s) i lt
      (subst (λ at. StandFrom plan.nets at (nets_upto (slot_register s) (depth s))) (let e : s.registers + 1 ≡ slot_of s 0 = omega arith in e) has.slots))

  early_stands : (i : ℕ) → i < s.more → StandFrom plan.nets (slot_place s i) (early_nets s i)
  early_stands i lt =
      turn_stands plan.nets (early_nets s) (slot_place s) (record { next = λ j. omega arith }) s.more i lt
      (subst (λ at. StandFrom plan.nets at (nets_upto (early_nets s) s.more)) (let e : s.next + 6 ≡ slot_place s 0 = omega arith in e) has.early)

  module _ (earlier : List (List Bits)) (words : List Bits) (c : IsNetCycle plan earlier words) where
    count_wide : length (word_at words s.registers) ≡ s.bits
    count_wide = widths_at plan.widths words s.registers c.wide ∙ (kept.fit s.registers _ count_stands).own ∙ length-replicate s.bits false

    iv : word_at words s.valid ≡ bit_at s.valid words ∷ []
    iv = bit_word plan earlier words s.valid c has.valid.wide

    rden : word_at words s.rden ≡ bit_at s.rden words ∷ []
    rden = bit_word plan earlier words s.rden c has.rden.wide

    -- whether the count is a number, as the nets compare it
    compared : (word : Bits) (net : ℕ) (n : ℕ) → length word ≡ s.bits → n < 2 ^ s.bits → word_at words net ≡ bits_of s.bits n → same_bits word (word_at words net) ≡ (number_of word == n)
    compared word net n wide below is = ap (same_bits word) is ∙ is_number s.bits n word wide below

    empty_bit : bit_at (s.forward + 1) words ≡ (number_of (word_at words s.registers) == 0)
    empty_bit =
        let z = computed_word plan earlier words s.forward (Const (bits_of s.bits 0)) c refl (stand_first plan.nets s.forward _ _ has.front) in
        ap bit_of (word_in plan earlier words s.forward (fifo_forward s) 1 (Equal s.registers s.forward) c has.front refl refl)
        ∙ compared (word_at words s.registers) s.forward 0 count_wide (let h = has.fits in omega (arith, h)) z

    room_word : word_at words (s.backward + 2) ≡ not (number_of (word_at words s.registers) == depth s) ∷ []
    room_word =
        let t = computed_word plan earlier words s.backward (Const (bits_of s.bits (depth s))) c refl (stand_first plan.nets s.backward _ _ has.back) in
        let f = word_in plan earlier words s.backward (fifo_backward s) 1 (Equal s.registers s.backward) c has.back refl refl ∙ ap (λ b. b ∷ []) (compared (word_at words s.registers) s.backward (depth s) count_wide has.fits t) in
        word_in plan earlier words s.backward (fifo_backward s) 2 (Not (s.backward + 1)) c has.back refl refl ∙ not_bits _ _ f

    -- whether a word comes in
    put_word : word_at words s.next ≡ (bit_at s.valid words && bit_at (s.backward + 2) words) ∷ []
    put_word =
        let r = room_word ∙ ap (λ b. b ∷ []) (sym (ap bit_of room_word)) in
        computed_word plan earlier words s.next (And s.valid (s.backward + 2)) c refl (stand_first plan.nets s.next _ _ has.counting) ∙ and_bits _ _ _ _ iv r

    zeros_word : word_at words (s.next + 1) ≡ bits_of (s.bits - 1) 0
    zeros_word = word_in plan earlier words s.next (count_nets s) 1 (Const (bits_of (s.bits - 1) 0)) c has.counting refl refl

    flag_number : (net place : ℕ) (b : Bool) → word_at words place ≡ word_at words net ++ word_at words (s.next + 1) → word_at words net ≡ b ∷ [] → number_of (word_at words place) ≡ one b
    flag_number net place b is bit = ap number_of (is ∙ ap (λ w. w ++ word_at words (s.next + 1)) bit ∙ ap (λ w. (b ∷ []) ++ w) zeros_word) ∙ bit_number b (s.bits - 1)

    put_number : number_of (word_at words (s.next + 2)) ≡ one (bit_at s.valid words && bit_at (s.backward + 2) words)
    put_number = flag_number s.next (s.next + 2) _ (word_in plan earlier words s.next (count_nets s) 2 (Concat (s.next + 1) s.next) c has.counting refl refl) put_word

    read_number : number_of (word_at words (s.next + 3)) ≡ one (bit_at s.rden words)
    read_number = flag_number s.rden (s.next + 3) _ (word_in plan earlier words s.next (count_nets s) 3 (Concat (s.next + 1) s.rden) c has.counting refl refl) rden

    left_is : word_at words (s.next + 4) ≡ bits_of s.bits (number_of (word_at words s.registers) + 2 ^ s.bits - one (bit_at s.rden words))
    left_is =
        word_in plan earlier words s.next (count_nets s) 4 (Sub s.registers (s.next + 3)) c has.counting refl refl
        ∙ ap (λ k. bits_of k (number_of (word_at words s.registers) + 2 ^ k - number_of (word_at words (s.next + 3)))) count_wide
        ∙ ap (λ n. bits_of s.bits (number_of (word_at words s.registers) + 2 ^ s.bits - n)) read_number

    left_wide : length (word_at words (s.next + 4)) ≡ s.bits
    left_wide = ap length left_is ∙ length-bits_of s.bits _

    left_number : number_of (word_at words (s.next + 4)) ≡ unread s.bits (fifo_now s words) (fifo_output s words)
    left_number = ap number_of left_is ∙ number_of-bits_of s.bits _

    count_number : number_of (word_at words (s.next + 5)) ≡ (unread s.bits (fifo_now s words) (fifo_output s words) + one (is_transfer (fifo_input s words))) % 2 ^ s.bits
    count_number =
        ap number_of
        (word_in plan earlier words s.next (count_nets s) 5 (Add (s.next + 4) (s.next + 2)) c has.counting refl refl
        ∙ ap (λ k. bits_of k (number_of (word_at words (s.next + 4)) + number_of (word_at words (s.next + 2)))) left_wide)
        ∙ number_of-bits_of s.bits _
        ∙ ap (λ n. (n + number_of (word_at words (s.next + 2))) % 2 ^ s.bits) left_number
        ∙ ap (λ n. (unread s.bits (fifo_now s words) (fifo_output s words) + n) % 2 ^ s.bits) put_number

    -- whether the count without the word that is read is a place
    here_word : (i : ℕ) (these : List Net) → StandFrom plan.nets (slot_place s i) these → i < depth s → word_at words (slot_place s i) ≡ bits_of s.bits i → word_at words (slot_place s i + 1) ≡ same_bits (word_at words (s.next + 4)) (word_at words (slot_place s i)) ∷ []
        → word_at words (slot_place s i + 1) ≡ (unread s.bits (fifo_now s words) (fifo_output s words) == i) ∷ []
    here_word i these stands lt q h =
        h ∙ ap (λ b. b ∷ []) (compared (word_at words (s.next + 4)) (slot_place s i) i left_wide (let f = has.fits in omega (arith, lt, f)) q ∙ ap (λ n. n == i) left_number)

    early_word : (i : ℕ) → i < s.more → word_at words (slot_place s i + 4)
        ≡ (if is_transfer (fifo_input s words) && (unread s.bits (fifo_now s words) (fifo_output s words) == i) then word_at words s.word else (if bit_at s.rden words then word_at words (slot_of s (suc i)) else word_at words (slot_of s i)))
    early_word i lt =
        let at = slot_place s i in
        let stands = early_stands i lt in
        let q = computed_word plan earlier words at (Const (bits_of s.bits i)) c refl (stand_first plan.nets at _ _ stands) in
        let h = here_word i (early_nets s i) stands (omega arith) q (word_in plan earlier words at (early_nets s i) 1 (Equal (s.next + 4) at) c stands refl refl) in
        let g = word_in plan earlier words at (early_nets s i) 2 (And s.next (at + 1)) c stands refl refl ∙ and_bits _ _ _ _ put_word h in
        let up = word_in plan earlier words at (early_nets s i) 3 (Choose s.rden (slot_of s (suc i)) (slot_of s i)) c stands refl refl ∙ choose_bits _ _ _ _ rden in
        word_in plan earlier words at (early_nets s i) 4 (Choose (at + 2) s.word (at + 3)) c stands refl refl ∙ choose_bits _ _ _ _ g
        ∙ ap (λ w. if is_transfer (fifo_input s words) && (unread s.bits (fifo_now s words) (fifo_output s words) == i) then word_at words s.word else w) up

    last_word : word_at words (slot_place s s.more + 3)
        ≡ (if is_transfer (fifo_input s words) && (unread s.bits (fifo_now s words) (fifo_output s words) == s.more) then word_at words s.word else word_at words (slot_of s s.more))
    last_word =
        let i = s.more in
        let at = slot_place s i in
        let stands = has.last in
        let q = computed_word plan earlier words at (Const (bits_of s.bits i)) c refl (stand_first plan.nets at _ _ stands) in
        let h = here_word i (last_nets s i) stands (omega arith) q (word_in plan earlier words at (last_nets s i) 1 (Equal (s.next + 4) at) c stands refl refl) in
        let g = word_in plan earlier words at (last_nets s i) 2 (And s.next (at + 1)) c stands refl refl ∙ and_bits _ _ _ _ put_word h in
        word_in plan earlier words at (last_nets s i) 3 (Choose (at + 2) s.word (slot_of s i)) c stands refl refl ∙ choose_bits _ _ _ _ g

    now_slot : (i : ℕ) → i < depth s → slot (fifo_now s words) i ≡ word_at words (slot_of s i)
    now_slot i lt = firsts_at (λ j. word_at words (slot_of s j)) (depth s) i [] lt

    moved_early : (i : ℕ) → i < s.more → moved_up (depth s) (fifo_now s words) (fifo_output s words) i ≡ (if bit_at s.rden words then word_at words (slot_of s (suc i)) else word_at words (slot_of s i))
    moved_early i lt =
        ap (λ b. if b && bit_at s.rden words then slot (fifo_now s words) (suc i) else slot (fifo_now s words) i) (below_test (suc i) (depth s) (omega arith))
        ∙ ap (λ w. if bit_at s.rden words then w else slot (fifo_now s words) i) (now_slot (suc i) (omega arith))
        ∙ ap (λ w. if bit_at s.rden words then word_at words (slot_of s (suc i)) else w) (now_slot i (omega arith))

    moved_last : moved_up (depth s) (fifo_now s words) (fifo_output s words) s.more ≡ word_at words (slot_of s s.more)
    moved_last =
        ap (λ b. if b && bit_at s.rden words then slot (fifo_now s words) (depth s) else slot (fifo_now s words) s.more) (itself_test (depth s))
        ∙ now_slot s.more (omega arith)

    next_slot_is : (i : ℕ) → i < depth s → slot (fifo_after s words) i ≡ (if is_transfer (fifo_input s words) && (unread s.bits (fifo_now s words) (fifo_output s words) == i) then word_at words s.word else moved_up (depth s) (fifo_now s words) (fifo_output s words) i)
    next_slot_is i lt =
        let chosen : Bits → Bits = λ w. if is_transfer (fifo_input s words) && (unread s.bits (fifo_now s words) (fifo_output s words) == i) then word_at words s.word else w in
        firsts_at (λ j. word_at words (slot_next s j)) (depth s) i [] lt
        ∙ elim (cases_lt i s.more) [
          | inl below ↦ ap (λ b. word_at words (if b then slot_place s i + 4 else slot_place s i + 3)) (below_test i s.more below) ∙ early_word i below ∙ ap chosen (sym (moved_early i below))
          | inr ge ↦
              let e : s.more ≡ i = omega (arith, lt, ge) in
              subst (λ k. word_at words (slot_next s k) ≡ (if is_transfer (fifo_input s words) && (unread s.bits (fifo_now s words) (fifo_output s words) == k) then word_at words s.word else moved_up (depth s) (fifo_now s words) (fifo_output s words) k)) e
              (ap (λ b. word_at words (if b then slot_place s s.more + 4 else slot_place s s.more + 3)) (itself_test s.more) ∙ last_word
              ∙ ap (λ w. if is_transfer (fifo_input s words) && (unread s.bits (fifo_now s words) (fifo_output s words) == s.more) then word_at words s.word else w) (sym moved_last))
        ]

    fifo_wired : FifoWires (depth s) s.bits (fifo_now s words) (fifo_after s words) (fifo_input s words) (fifo_output s words)
    fifo_wired = record {
      valid = ap not empty_bit;
      word = refl;
      ready = ap bit_of room_word;
      next_count = count_number;
      next_slot = next_slot_is;
    }

  begins : (earlier : List (List Bits)) (words : List Bits) → IsNetCycle plan earlier words → fifo_now s words ≡ reached (fifo_after s) (fifo_start s) earlier
  begins [] words c =
      let count = register_word plan [] words s.registers (s.next + 5) (replicate s.bits false) c count_stands has.next_count in
      let slots = firsts_same (λ j. word_at words (slot_of s j)) (λ j. replicate s.width false) (depth s)
      (λ i lt. register_word plan [] words (slot_of s i) (slot_next s i) (replicate s.width false) c (slot_stands i lt) (has.next_slot i lt)) in
      same_registers _ _ (ap number_of count) slots
  begins (old ∷ earlier) words c =
      let count = register_word plan (old ∷ earlier) words s.registers (s.next + 5) (replicate s.bits false) c count_stands has.next_count in
      let slots = firsts_same (λ j. word_at words (slot_of s j)) (λ j. word_at old (slot_next s j)) (depth s)
      (λ i lt. register_word plan (old ∷ earlier) words (slot_of s i) (slot_next s i) (replicate s.width false) c (slot_stands i lt) (has.next_slot i lt)) in
      same_registers _ _ (ap number_of count) slots

pub fifos_do_obey : FifosObey
fifos_do_obey plan s offers history has run reads =
    let kept = run.complete.plan_kept in
    let wires = run_of plan (λ words. FifoWires (depth s) s.bits (fifo_now s words) (fifo_after s words) (fifo_input s words) (fifo_output s words)) (fifo_now s) (fifo_after s) (fifo_start s)
    (λ earlier words c. (fifo_wired plan kept s has earlier words c, begins plan kept s has earlier words c)) history (run_cycles plan offers history run) in
    let fits : FifoFits (depth s) s.bits = record { fits = has.fits } in
    let run' : IsFifoRun (depth s) (fifo_now s) (fifo_after s) (fifo_start s) (fifo_input s) (fifo_output s) history =
    fifos_run (depth s) s.bits (fifo_now s) (fifo_after s) (fifo_start s) (fifo_input s) (fifo_output s) history fits (zeros_number s.bits) wires reads in
    record {
      run = run';
      obeys = λ keeps. each_obeys (fifo (depth s)) (λ words. holding (fifo_words (fifo_now s words))) (λ words. holding (fifo_words (fifo_after s words))) (λ j. fifo_input s) (λ j. fifo_output s) history run'.runs (λ j below. keeps);
    }

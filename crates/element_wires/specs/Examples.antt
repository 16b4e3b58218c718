-- Worked examples of wires. Each of them holds by computing.
use Rattle.std.specs.Prelude.{◌≡◌, ℕ, zero, suc, ◌+◌, ◌%◌, ◌^◌, ◌<◌, ◌==◌, ◌&&◌, ◌||◌, Bool, true, false, not, List, [], ◌∷◌, map, if◌then◌else◌, refl}
use Rattle.std.specs.List.{range_with_len}
use Rattle.std.proofs.Common.{arith}
use Rattle.esi_base.specs.Bits.{bits_of, number_of}
use Rattle.element_laws.specs.Signals.{Bits, Signals}
use Rattle.element_wires.specs.Wires.{StageRegisters, StageWires, stage_words, FifoRegisters, FifoWires, fifo_words, slot, one, unread, moved_up}

abbrev octet : ℕ → Bits
octet n = bits_of 8 n

abbrev numbers : List Bits → List ℕ
numbers words = map number_of words

-- what stands at the input of an element, and whether its output is read
record Ends : Type 0 where
  valid : Bool
  word : Bits
  ready : Bool

abbrev ends : Bool → ℕ → Bool → Ends
ends valid n ready = record { valid = valid; word = octet n; ready = ready }

-- ---- a stage, net by net as the table of lowering has it

abbrev stage_input : StageRegisters → Ends → Signals
stage_input r e = record { valid = e.valid; word = e.word; ready = not r.v1 }

abbrev stage_output : StageRegisters → Ends → Signals
stage_output r e = record { valid = r.v0; word = r.d0; ready = e.ready }

abbrev stage_next : StageRegisters → Ends → StageRegisters
stage_next r e =
    let a = e.valid && not r.v1 in
    let b = r.v0 && e.ready in
    let c = not b in
    let k = r.v0 && c in
    let f = r.v1 || a in
    let p = k || f in
    let q = k && f in
    let m = if r.v1 then r.d1 else e.word in
    let g = if k then r.d0 else m in
    record { v0 = p; v1 = q; d0 = g; d1 = m }

abbrev stage_start : StageRegisters
stage_start = record { v0 = false; v1 = false; d0 = octet 0; d1 = octet 0 }

-- the registers behind some cycles, the newest first
abbrev stage_behind : List Ends → StageRegisters
stage_behind [] = stage_start
stage_behind (e ∷ earlier) = stage_next (stage_behind earlier) e

-- these nets are the wires of a stage, whatever the registers and the ends are
stage_is_wired : (r : StageRegisters) (e : Ends) → StageWires r (stage_next r e) (stage_input r e) (stage_output r e)
stage_is_wired r e = record { valid = refl; word = refl; ready = refl; next_v0 = refl; next_v1 = refl; next_d0 = refl; next_d1 = refl }

-- 1 and 2 fill it, 3 waits, and 1 goes once it is read
stage_full : numbers (stage_words (stage_behind (ends true 2 false ∷ ends true 1 false ∷ []))) ≡ 1 ∷ 2 ∷ []
stage_full = refl

stage_waits : numbers (stage_words (stage_behind (ends true 3 true ∷ ends true 3 false ∷ ends true 2 false ∷ ends true 1 false ∷ []))) ≡ 2 ∷ []
stage_waits = refl

stage_passes : numbers (stage_words (stage_behind (ends true 3 true ∷ ends true 2 true ∷ ends true 1 true ∷ []))) ≡ 3 ∷ []
stage_passes = refl

-- a stage that loses its second word while it waits has other wires
loses_second : StageWires (record { v0 = true; v1 = true; d0 = octet 1; d1 = octet 2 }) (record { v0 = true; v1 = false; d0 = octet 1; d1 = octet 2 })
    (stage_input (record { v0 = true; v1 = true; d0 = octet 1; d1 = octet 2 }) (ends false 0 false))
    (stage_output (record { v0 = true; v1 = true; d0 = octet 1; d1 = octet 2 }) (ends false 0 false)) → ⊥
loses_second wires = let e : false ≡ true = wires.next_v1 in cc

-- ---- a fifo of 3 words with a count of 2 bits

abbrev fifo_input : FifoRegisters → Ends → Signals
fifo_input r e = record { valid = e.valid; word = e.word; ready = not (r.count == 3) }

abbrev fifo_output : FifoRegisters → Ends → Signals
fifo_output r e = record { valid = not (r.count == 0); word = slot r 0; ready = e.ready }

abbrev fifo_next : FifoRegisters → Ends → FifoRegisters
fifo_next r e =
    let put = e.valid && not (r.count == 3) in
    let left = unread 2 r (fifo_output r e) in
    record {
      count = (left + one put) % 2 ^ 2;
      slots = map (λ place. if put && (left == place) then e.word else moved_up 3 r (fifo_output r e) place) (range_with_len 0 3);
    }

abbrev fifo_start : FifoRegisters
fifo_start = record { count = 0; slots = octet 0 ∷ octet 0 ∷ octet 0 ∷ [] }

abbrev fifo_behind : List Ends → FifoRegisters
fifo_behind [] = fifo_start
fifo_behind (e ∷ earlier) = fifo_next (fifo_behind earlier) e

-- these nets are the wires of a fifo, whatever the registers and the ends are
fifo_is_wired : (r : FifoRegisters) (e : Ends) → FifoWires 3 2 r (fifo_next r e) (fifo_input r e) (fifo_output r e)
fifo_is_wired r e = record { valid = refl; word = refl; ready = refl; next_count = refl; next_slot = each }
  where
    each : (place : ℕ) → place < 3 → slot (fifo_next r e) place ≡ (if (e.valid && not (r.count == 3)) && (unread 2 r (fifo_output r e) == place) then e.word else moved_up 3 r (fifo_output r e) place)
    each zero h = refl
    each (suc zero) h = refl
    each (suc (suc zero)) h = refl
    each (suc (suc (suc place))) h = absurd (omega arith)

-- three words fill it, a fourth waits
fifo_full : numbers (fifo_words (fifo_behind (ends true 4 false ∷ ends true 3 false ∷ ends true 2 false ∷ ends true 1 false ∷ []))) ≡ 1 ∷ 2 ∷ 3 ∷ []
fifo_full = refl

-- a word is read and another one put in one cycle, behind those that are left
fifo_moves : numbers (fifo_words (fifo_behind (ends true 3 true ∷ ends true 2 false ∷ ends true 1 false ∷ []))) ≡ 2 ∷ 3 ∷ []
fifo_moves = refl

-- read while it is empty, it counts three words that never came: the promise asks that nobody does this
fifo_misread : (fifo_behind (ends false 0 true ∷ [])).count ≡ 3
fifo_misread = refl

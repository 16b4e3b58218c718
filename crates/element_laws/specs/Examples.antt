-- Worked examples of channels and elements. Each of them holds by computing.
use Rattle.std.specs.Prelude.{◌≡◌, ℕ, zero, suc, ◌+◌, ◌<◌, ◌==◌, nat_lt, Bool, true, false, List, [], ◌∷◌, ◌++◌, length, map, drop, get_or, if◌then◌else◌, refl}
use Rattle.std.proofs.Common.{ap, arith}
use Rattle.esi_base.specs.Bits.{bits_of, number_of}
use Rattle.element_laws.specs.Signals.{Bits, Signals, transferred, is_transfer, KeepsOffer}
use Rattle.element_laws.specs.Histories.{transfers, offers, KeepsOffers}
use Rattle.element_laws.specs.Streams.{pair, pairs, running}
use Rattle.element_laws.specs.Elements.{Contents, StorageCycle, MapCycle, AsVrCycle, ScanCycle, BranchCycle, ForkCycle, JoinCycle}
use Rattle.element_laws.specs.Elements.Element.{stage}
use Rattle.element_laws.specs.Laws.{IsElementRun}

abbrev octet : ℕ → Bits
octet n = bits_of 8 n

abbrev octets : List ℕ → List Bits
octets numbers = map octet numbers

abbrev numbers : List Bits → List ℕ
numbers words = map number_of words

-- the sum of two words of eight bits
abbrev add : Bits → Bits → Bits
add a b = bits_of 8 (number_of a + number_of b)

-- ---- one channel; a cycle is what its wires carry, and the newest stands first

abbrev wires : Bool → ℕ → Bool → Signals
wires valid n ready = record { valid = valid; word = octet n; ready = ready }

-- 1 is taken, 2 is refused twice and then taken, and nothing is offered in the last cycle but one
abbrev patient : List Signals
patient = wires true 3 false ∷ wires false 0 true ∷ wires true 2 true ∷ wires true 2 false ∷ wires true 2 false ∷ wires true 1 true ∷ []

patient_transfers : numbers (transfers (λ s. s) patient) ≡ 1 ∷ 2 ∷ []
patient_transfers = refl

-- the word that is refused in the newest cycle is among the offers
patient_offers : numbers (offers (λ s. s) patient) ≡ 1 ∷ 2 ∷ 3 ∷ []
patient_offers = refl

-- ways to keep an offer: it was taken, there was none, or it stays
taken : (old new : Signals) → old.ready ≡ true → KeepsOffer old new
taken old new e = record { valid = λ v r. absurd (cc); word = λ v r. absurd (cc) }

none : (old new : Signals) → old.valid ≡ false → KeepsOffer old new
none old new e = record { valid = λ v r. absurd (cc); word = λ v r. absurd (cc) }

same : (old new : Signals) → new.valid ≡ true → new.word ≡ old.word → KeepsOffer old new
same old new v w = record { valid = λ _ _. v; word = λ _ _. w }

patient_keeps : KeepsOffers (λ s. s) patient
patient_keeps = (
  none (wires false 0 true) (wires true 3 false) refl,
  (
    taken (wires true 2 true) (wires false 0 true) refl,
    (
      same (wires true 2 false) (wires true 2 true) refl refl,
      (
        same (wires true 2 false) (wires true 2 false) refl refl,
        (taken (wires true 1 true) (wires true 2 false) refl, tt),
      ),
    ),
  ),
)

-- a word that is refused and then withdrawn, or changed, is not kept
withdrawn : KeepsOffers (λ s. s) (wires false 0 true ∷ wires true 1 false ∷ []) → ⊥
withdrawn keeps = let e : false ≡ true = keeps.0.valid refl refl in cc

changed : KeepsOffers (λ s. s) (wires true 2 true ∷ wires true 1 false ∷ []) → ⊥
changed keeps = let e : ◌≡◌ {A = ℕ} 2 1 = ap number_of (keeps.0.word refl refl) in absurd (cc)

-- ---- one element in a run: a cycle is what it holds and what its two channels carry

record Cycle : Type 0 where
  before : Contents
  after : Contents
  input : Signals
  output : Signals

-- what stands at the input, and whether the output is read
record Ends : Type 0 where
  valid : Bool
  word : Bits
  ready : Bool

abbrev ends : Bool → ℕ → Bool → Ends
ends valid n ready = record { valid = valid; word = octet n; ready = ready }

abbrev holding : List Bits → Contents
holding words = record { held = words; state = []; flags = [] }

-- storage of so many words, as one would program it
abbrev store : ℕ → List Bits → Ends → Cycle
store limit held e =
    let input : Signals = record { valid = e.valid; word = e.word; ready = nat_lt (length held) limit } in
    let output : Signals = record { valid = nat_lt 0 (length held); word = get_or held 0 []; ready = e.ready } in
    record { before = holding held; after = holding ((if is_transfer output then drop 1 held else held) ++ transferred input); input = input; output = output }

abbrev held_behind : List Cycle → List Bits
held_behind [] = []
held_behind (cycle ∷ earlier) = cycle.after.held

abbrev stored : ℕ → List Ends → List Cycle
stored limit [] = []
stored limit (e ∷ earlier) = store limit (held_behind (stored limit earlier)) e ∷ stored limit earlier

abbrev seen_in : List Cycle → List ℕ
seen_in history = numbers (transfers (λ c. c.input) history)

abbrev seen_out : List Cycle → List ℕ
seen_out history = numbers (transfers (λ c. c.output) history)

-- 1, 2 and 3 come at a stage whose reader looks away for three cycles: 3 waits until a place is free
abbrev stalled : List Cycle
stalled = stored 2 (ends true 3 true ∷ ends true 3 true ∷ ends true 3 false ∷ ends true 2 false ∷ ends true 1 false ∷ [])

stalled_in : seen_in stalled ≡ 1 ∷ 2 ∷ 3 ∷ []
stalled_in = refl

stalled_out : seen_out stalled ≡ 1 ∷ 2 ∷ []
stalled_out = refl

stalled_held : numbers (held_behind stalled) ≡ 3 ∷ []
stalled_held = refl

-- this is a run of a stage, so what the law says of it is not empty
stalled_runs : IsElementRun stage (λ c. c.before) (λ c. c.after) (λ k c. c.input) (λ k c. c.output) stalled
stalled_runs = (
  record { offers = refl; ready = refl; next = refl },
  refl,
  (
    record { offers = refl; ready = refl; next = refl },
    refl,
    (
      record { offers = refl; ready = refl; next = refl },
      refl,
      (
        record { offers = refl; ready = refl; next = refl },
        refl,
        (record { offers = refl; ready = refl; next = refl }, refl, tt),
      ),
    ),
  ),
)

-- a fifo of 3 takes three words while nobody reads, and no fourth
abbrev filled : List Cycle
filled = stored 3 (ends true 4 false ∷ ends true 3 false ∷ ends true 2 false ∷ ends true 1 false ∷ [])

filled_held : numbers (held_behind filled) ≡ 1 ∷ 2 ∷ 3 ∷ []
filled_held = refl

-- ---- what is no element

-- a stage that drops its second word while it is stalled
drops_slot : StorageCycle 2 (octets (1 ∷ 2 ∷ [])) (octets (1 ∷ [])) (wires false 0 false) (wires true 1 false) → ⊥
drops_slot cycle = let e : ◌≡◌ {A = ℕ} 2 1 = ap length cycle.next in absurd (cc)

-- a fifo of 2 that is full with one word
full_too_early : StorageCycle 2 (octets (1 ∷ [])) (octets (1 ∷ [])) (wires true 2 false) (wires true 1 false) → ⊥
full_too_early cycle = let e : false ≡ true = cycle.ready in cc

-- a stage that offers its newer word first
newer_first : StorageCycle 2 (octets (1 ∷ 2 ∷ [])) (octets (1 ∷ [])) (wires false 0 false) (wires true 2 true) → ⊥
newer_first cycle = let e : ◌≡◌ {A = List ℕ} (2 ∷ []) (1 ∷ []) = ap numbers cycle.offers in absurd (cc)

-- a fork that repeats a word to a fast branch while a slow one waits
repeats : BranchCycle true true (wires true 1 false) (wires true 1 true) → ⊥
repeats branch = let e : ◌≡◌ {A = ℕ} 1 0 = ap length branch.offers in absurd (cc)

-- a fork that takes its word before each branch has had it
hasty : ForkCycle 2 (λ k. false) (λ k. false) (wires true 1 true) (λ k. wires true 1 (k == 0)) → ⊥
hasty cycle = let e : true ≡ false = cycle.ready in cc

-- a fork that takes its word and leaves a flag
flag_left : BranchCycle false true (wires true 1 true) (wires true 1 true) → ⊥
flag_left branch = let e : true ≡ false = branch.next in cc

-- a scan whose state changes without a transfer
restless : ScanCycle add (octet 1) (octet 3) (wires true 2 false) (wires true 3 false) → ⊥
restless cycle = let e : ◌≡◌ {A = ℕ} 3 1 = ap number_of cycle.next in absurd (cc)

-- a join that takes one side alone
one_side : JoinCycle (wires true 1 true) (wires false 0 false) (wires false 0 true) → ⊥
one_side cycle = let e : true ≡ false = cycle.left_ready in cc

-- a map that offers its word unchanged
unmapped : MapCycle (λ word. add word word) (wires true 3 true) (wires true 3 true) → ⊥
unmapped cycle = let e : ◌≡◌ {A = List ℕ} (3 ∷ []) (6 ∷ []) = ap numbers cycle.offers in absurd (cc)

-- a fifo that is read while it is empty
misread : AsVrCycle (wires false 0 true) (wires false 0 true) → ⊥
misread cycle = let e : true ≡ false = cycle.ready in cc

-- ---- cycles that are those of elements

doubles : MapCycle (λ word. add word word) (wires true 3 true) (wires true 6 true)
doubles = record { offers = refl; ready = refl }

adds_up : ScanCycle add (octet 1) (octet 3) (wires true 2 true) (wires true 3 true)
adds_up = record { offers = refl; ready = refl; next = refl }

-- branch 0 has had the word, branch 1 takes it now, so the fork takes it and no flag stands behind
last_branch : ForkCycle 2 (λ k. k == 0) (λ k. false) (wires true 1 true) (λ k. wires (k == 1) 1 (k == 1))
last_branch = record { ready = refl; branch = each }
  where
    each : (k : ℕ) → k < 2 → BranchCycle (k == 0) false (wires true 1 true) (wires (k == 1) 1 (k == 1))
    each zero h = record { offers = refl; next = refl }
    each (suc zero) h = record { offers = refl; next = refl }
    each (suc (suc k)) h = absurd (omega arith)

both_sides : JoinCycle (wires true 1 true) (wires true 2 true) (record { valid = true; word = pair (octet 1) (octet 2); ready = true })
both_sides = record { offers = refl; left_ready = refl; right_ready = refl }

-- ---- streams

-- the running sums of 1, 2, 3
sums : numbers (running add (octet 0) (octets (1 ∷ 2 ∷ 3 ∷ []))) ≡ 1 ∷ 3 ∷ 6 ∷ []
sums = refl

-- the left part has the more significant bits, and a word without a partner makes no pair: 1 and 2 are 258
paired : numbers (pairs (octets (1 ∷ 3 ∷ [])) (octets (2 ∷ []))) ≡ 258 ∷ []
paired = refl

-- The run of a netlist: a settled assignment for each cycle, one after another.
use Rattle.std.specs.Prelude.{◌≡◌, ℕ, List, [], ◌∷◌, Option, Some, None, map, slice_get, refl}
use Rattle.std.proofs.Common.{◌∙◌, ap, subst}
use Rattle.netlist.specs.declared.net.Net.{Net}
use Rattle.netlist.specs.declared.net.Net.TheVariants.{Register}
use Rattle.netlist.specs.Nets.{Bits, word_at}
use Rattle.netlist.specs.Plans.{Plan, IsPlan}
use Rattle.netlist.specs.Settled.{IsSettled, HasOneSettled}
use Rattle.netlist.specs.SettledLaws.{one_settled}

-- the word of a register at the start
abbrev pub reset_of : Net → Bits
reset_of (Register reset) = reset
reset_of _ = []

-- the word of the net that a register takes it from, where there is one
abbrev pub taken_from : List Bits → Option ℕ → Bits
taken_from words None = []
taken_from words (Some next) = word_at words next

-- The words of the registers, each at its register's place: at the start the resets, and behind a cycle
-- with these words those of the next nets.
abbrev pub registers_after : Plan → Option (List Bits) → List Bits
registers_after plan None = map reset_of plan.nets
registers_after plan (Some words) = map (taken_from words) plan.nexts

-- The assignments `cycles` are those of a run on, behind a cycle with the words `last`, with the inputs
-- `offers`, a list of words for each cycle.
abbrev pub IsRunAfter : Plan → Option (List Bits) → List (List Bits) → List (List Bits) → Type 0
IsRunAfter plan last [] [] = Unit {0}
IsRunAfter plan last [] (words ∷ cycles) = ⊥
IsRunAfter plan last (inputs ∷ offers) [] = ⊥
IsRunAfter plan last (inputs ∷ offers) (words ∷ cycles) = IsSettled plan inputs (registers_after plan last) words × IsRunAfter plan (Some words) offers cycles

-- a run from the resets
abbrev pub IsRun : Plan → List (List Bits) → List (List Bits) → Type 0
IsRun plan offers cycles = IsRunAfter plan None offers cycles

-- The same from its end: the last cycle first. What holds of every history holds at each moment of every
-- run, since what was before a cycle is a history too.
abbrev pub IsHistory : Plan → List (List Bits) → List (List Bits) → Type 0
IsHistory plan [] [] = Unit {0}
IsHistory plan [] (words ∷ earlier) = ⊥
IsHistory plan (inputs ∷ offers) [] = ⊥
IsHistory plan (inputs ∷ offers) (words ∷ earlier) = IsSettled plan inputs (registers_after plan (slice_get earlier 0)) words × IsHistory plan offers earlier

-- there is exactly one run with these inputs, on from these words
pub record HasOneRun (plan : Plan) (last : Option (List Bits)) (offers : List (List Bits)) : Type 0 where
  pub cycles : List (List Bits)
  pub is_run : IsRunAfter plan last offers cycles
  pub only : (others : List (List Bits)) → IsRunAfter plan last offers others → others ≡ cycles

only_empty : (plan : Plan) (last : Option (List Bits)) (others : List (List Bits)) → IsRunAfter plan last [] others → others ≡ []
only_empty plan last [] h = refl
only_empty plan last (words ∷ others) h = absurd h

only_longer : (plan : Plan) (last : Option (List Bits)) (inputs : List Bits) (offers : List (List Bits)) (one : HasOneSettled plan inputs (registers_after plan last)) (more : HasOneRun plan (Some one.words) offers)
    → (others : List (List Bits)) → IsRunAfter plan last (inputs ∷ offers) others → others ≡ one.words ∷ more.cycles
only_longer plan last inputs offers one more [] h = absurd h
only_longer plan last inputs offers one more (words ∷ others) h =
    let same : words ≡ one.words = one.only words h.0 in
    let rest : IsRunAfter plan (Some one.words) offers others = subst (λ ws. IsRunAfter plan (Some ws) offers others) same h.1 in
    ap (λ ws. ws ∷ others) same ∙ ap (λ cs. one.words ∷ cs) (more.only others rest)

pub one_run : (plan : Plan) → IsPlan plan → (last : Option (List Bits)) (offers : List (List Bits)) → HasOneRun plan last offers
one_run plan h last [] = record { cycles = []; is_run = tt; only = only_empty plan last }
one_run plan h last (inputs ∷ offers) =
    let one = one_settled plan h inputs (registers_after plan last) in
    let more = one_run plan h (Some one.words) offers in
    record { cycles = one.words ∷ more.cycles; is_run = (one.is_settled, more.is_run); only = only_longer plan last inputs offers one more }

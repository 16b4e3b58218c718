-- The registers of a netlist, in the order of its nets.
use Rattle.std.specs.Prelude.{◌≡◌, ℕ, suc, ◌+◌, if◌then◌else◌, Bool, true, false, List, [], ◌∷◌, ◌++◌, map, refl}
use Rattle.std.specs.List.{AllByRecursion}
use Rattle.std.proofs.Common.{ap, ◌∙◌, arith}
use Rattle.netlist.specs.declared.net.Net.{Net}
use Rattle.netlist.specs.Nets.{Bits, word_at, is_register}
use Rattle.netlist.specs.Plans.{net_at, is_register_at}

-- the numbers of the registers among nets, the first of which has this number
abbrev pub register_places : ℕ → List Net → List ℕ
register_places at [] = []
register_places at (net ∷ nets) = (if is_register net then at ∷ [] else []) ++ register_places (at + 1) nets

-- of words each at its register's place, those of the registers in order
abbrev pub held_words : List Net → List Bits → List Bits
held_words nets held = map (word_at held) (register_places 0 nets)

place_if : (all : List Net) (at : ℕ) (b : Bool) (rest : List ℕ) → (b ≡ true → is_register_at all at ≡ true) → AllByRecursion (λ place. is_register_at all place ≡ true) rest
    → AllByRecursion (λ place. is_register_at all place ≡ true) ((if b then at ∷ [] else []) ++ rest)
place_if all at true rest is others = (is refl, others)
place_if all at false rest is others = others

places_from : (all nets : List Net) (at : ℕ) → ((k : ℕ) → net_at all (at + k) ≡ net_at nets k) → AllByRecursion (λ place. is_register_at all place ≡ true) (register_places at nets)
places_from all [] at same = tt
places_from all (net ∷ nets) at same =
    place_if all at (is_register net) (register_places (at + 1) nets)
    (λ e. ap (λ k. is_register_at all k) (let z : at ≡ at + 0 = omega arith in z) ∙ (ap is_register (same 0) ∙ e))
    (places_from all nets (at + 1) (λ k. ap (λ j. net_at all j) (let z : at + 1 + k ≡ at + suc k = omega arith in z) ∙ same (suc k)))

-- each of them is one
pub places_are_registers : (nets : List Net) → AllByRecursion (λ place. is_register_at nets place ≡ true) (register_places 0 nets)
places_are_registers nets = places_from nets nets 0 (λ k. ap (λ j. net_at nets j) (let z : 0 + k ≡ k = omega arith in z))

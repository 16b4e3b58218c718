-- What a module means, in the words of Verilog (IEEE 1364-2005), for two-state words: all nets are unsigned vectors (4.3).
use Rattle.std.specs.Prelude.{◌≡◌, ℕ, ◌+◌, ◌-◌, ◌^◌, ◌==◌, ◌&&◌, ◌||◌, if◌then◌else◌, nat_lt, not, map, Bool, true, false, List, [], ◌∷◌, ◌++◌, Some, length, slice_get, slice_range}
use Rattle.std.specs.List.{slice_index_or}
use Rattle.std.specs.Bool.{xor}
use Rattle.esi_base.specs.Bits.{number_of, bits_of, zip_bits, same_bits}
use Rattle.verilog_module.specs.declared.right.Right.{Right}
use Rattle.verilog_module.specs.declared.right.Right.TheVariants.{Port, Constant, Not, And, Or, Xor, Add, Sub, Equal, Less, Choose, Slice, Concat}
use Rattle.verilog_module.specs.Modules.{Bits, Module, declared_at}

-- the word of a net or of a port, among those of all of them
abbrev pub word_of : List Bits → ℕ → Bits
word_of words n = slice_index_or words n []

-- What a right side is worth, for the words of the input ports and of the nets. Each operand has the width of its net, and the
-- right side that of its left side, so no operand is extended and nothing is cut off (5.4).
abbrev pub value : Right → List Bits → List Bits → Bits
-- a port or a constant alone (3.5.1)
value (Port k) ports words = word_of ports k
value (Constant word) ports words = word
-- bit by bit (5.1.10)
value (Not a) ports words = map not (word_of words a)
value (And a b) ports words = zip_bits ◌&&◌ (word_of words a) (word_of words b)
value (Or a b) ports words = zip_bits ◌||◌ (word_of words a) (word_of words b)
value (Xor a b) ports words = zip_bits xor (word_of words a) (word_of words b)
-- sum and difference of unsigned numbers, modulo 2 to the power of the width (5.1.5, 5.1.6)
value (Add a b) ports words = bits_of (length (word_of words a)) (number_of (word_of words a) + number_of (word_of words b))
value (Sub a b) ports words = bits_of (length (word_of words a)) (number_of (word_of words a) + 2 ^ length (word_of words a) - number_of (word_of words b))
-- one bit: logical equality (5.1.8), and the relation of unsigned numbers (5.1.7)
value (Equal a b) ports words = same_bits (word_of words a) (word_of words b) ∷ []
value (Less a b) ports words = nat_lt (number_of (word_of words a)) (number_of (word_of words b)) ∷ []
-- the conditional operator, whose condition has one bit (5.1.13)
value (Choose test one other) ports words = if number_of (word_of words test) == 1 then word_of words one else word_of words other
-- a part select, of the bits from `low` to `high` (5.2.1)
value (Slice of high low) ports words = slice_range (word_of words of) low (high + 1)
-- a concatenation: the rightmost operand has the least significant bits (5.1.14)
value (Concat high low) ports words = word_of words low ++ word_of words high

-- At a settled moment every continuous assignment holds (6.1), for the words of the input ports, and each register has what it
-- contains (6.2). `words` are those of the nets; `contents` has what each register contains at the register's place.
pub record IsAssigned (m : Module) (ports contents words : List Bits) : Type 0 where
  pub count : length words ≡ length m.nets
  pub wires : (n : ℕ) (right : Right) → slice_get m.rights n ≡ Some (Some right) → word_of words n ≡ value right ports words
  pub registers : (n : ℕ) → (declared_at m.nets n).is_register ≡ true → word_of words n ≡ word_of contents n

-- At a positive edge of `clk` (9.7.2, 9.9.2) the branch that `rst` chooses (9.4) is carried out. Its assignments are non-blocking
-- (9.2.2): all right sides are evaluated first, at the settled moment before the edge, and then all registers change at once.
pub record IsClocked (m : Module) (rst : Bool) (words after : List Bits) : Type 0 where
  pub reset : rst ≡ true → (n : ℕ) (word : Bits) → slice_get m.resets n ≡ Some (Some word) → word_of after n ≡ word
  pub next : rst ≡ false → (n a : ℕ) → slice_get m.nexts n ≡ Some (Some a) → word_of after n ≡ word_of words a

-- The register contents between two cycles, behind a settled moment with these words.
pub record IsEdge (P : List Bits → Type 0) (m : Module) (rst : Bool) (words : List Bits) : Type 0 where
  pub after : List Bits
  pub clocked : IsClocked m rst words after
  pub then_on : P after

-- The words of the nets, cycle by cycle, for these register contents before the first of the cycles, where `rst` is 0: `offers`
-- has the words of the input ports in each cycle.
abbrev pub IsMeant : Module → List Bits → List (List Bits) → List (List Bits) → Type 0
IsMeant m contents [] [] = Unit {0}
IsMeant m contents [] (words ∷ cycles) = ⊥
IsMeant m contents (ports ∷ offers) [] = ⊥
IsMeant m contents (ports ∷ offers) (words ∷ cycles) = IsAssigned m ports contents words × IsEdge (λ after. IsMeant m after offers cycles) m false words

-- A run from any register contents: one cycle with `rst` 1 and these words of the input ports comes first. The list of cycles has
-- those after it.
pub record Means (m : Module) (start ports : List Bits) (offers cycles : List (List Bits)) : Type 0 where
  pub words : List Bits
  pub assigned : IsAssigned m ports start words
  pub edge : IsEdge (λ after. IsMeant m after offers cycles) m true words

-- Nets of at most 64 bits: the number of a net's word, given the numbers of its sources' words.
use Rattle.std.specs.Prelude.{◌≡◌, ℕ, ◌+◌, ◌-◌, ◌*◌, ◌/◌, ◌%◌, ◌^◌, ◌≤◌, ◌==◌, if◌then◌else◌, nat_lt, List, bit_and, bit_or, bit_xor}
use Rattle.std.specs.List.{AllByRecursion}
use Rattle.esi_base.specs.Bits.{number_of, bit_value}
use Rattle.netlist.specs.declared.limits.TheConstants.{MAX_NUMBER_WIDTH}
use Rattle.netlist.specs.declared.net.Net.{Net}
use Rattle.netlist.specs.declared.net.Net.TheVariants.{Input, Register, Const, Not, And, Or, Xor, Add, Sub, Equal, Less, Choose, Slice, Concat}
use Rattle.netlist.specs.Nets.{Bits, word_at, width_at, width_in, sources}
use Rattle.netlist.specs.Plans.{Plan, net_at}

-- a net and those that it reads are at most 64 bits wide
pub record IsNarrowNet (net : Net) (widths : List ℕ) : Type 0 where
  pub own : width_in net widths ≤ MAX_NUMBER_WIDTH
  pub read : AllByRecursion (λ source. width_at widths source ≤ MAX_NUMBER_WIDTH) (sources net)

-- the same of the net at a place
pub record IsNarrow (plan : Plan) (id : ℕ) : Type 0 where
  pub own : width_at plan.widths id ≤ MAX_NUMBER_WIDTH
  pub read : AllByRecursion (λ source. width_at plan.widths source ≤ MAX_NUMBER_WIDTH) (sources (net_at plan.nets id))

-- three numbers are those of words, as far as there are so many
pub record AreNumbers (words : List Bits) (first second third : ℕ) : Type 0 where
  pub first_is : number_of (word_at words 0) ≡ first
  pub second_is : number_of (word_at words 1) ≡ second
  pub third_is : number_of (word_at words 2) ≡ third

-- the number of a net's word, given those of its sources' words, by operations on 64 bits
abbrev pub number_in : Net → List ℕ → ℕ → ℕ → ℕ → ℕ
number_in (Input width) widths a b c = 0
number_in (Register reset) widths a b c = 0
number_in (Const word) widths a b c = number_of word
number_in (Not x) widths a b c = bit_xor a (2 ^ width_at widths x - 1)
number_in (And x y) widths a b c = bit_and a b
number_in (Or x y) widths a b c = bit_or a b
number_in (Xor x y) widths a b c = bit_xor a b
number_in (Add x y) widths a b c = (a + b) % 2 ^ 64 % 2 ^ width_at widths x
number_in (Sub x y) widths a b c = (a + 2 ^ 64 - b) % 2 ^ 64 % 2 ^ width_at widths x
number_in (Equal x y) widths a b c = bit_value (a == b)
number_in (Less x y) widths a b c = bit_value (nat_lt a b)
number_in (Choose test one other) widths a b c = if a == 1 then b else c
number_in (Slice x high low) widths a b c = a / 2 ^ low % 2 ^ (high - low + 1)
number_in (Concat high low) widths a b c = (a * 2 ^ width_at widths low % 2 ^ 64 + b) % 2 ^ 64

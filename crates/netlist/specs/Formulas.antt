-- What a formula is worth for given words of its variables, and for which widths of them it is good.
use Rattle.std.specs.Prelude.{ℕ, ◌+◌, ◌-◌, ◌^◌, ◌==◌, ◌&&◌, ◌||◌, if◌then◌else◌, nat_lt, nat_le, not, map, List, [], ◌∷◌, ◌++◌, Option, Some, None, length, slice_get, slice_range}
use Rattle.std.specs.Bool.{xor}
use Rattle.esi_base.specs.Bits.{number_of, bits_of, zip_bits, same_bits}
use Rattle.netlist.specs.declared.limits.TheConstants.{MAX_WIDTH, MAX_NUMBER_WIDTH}
use Rattle.netlist.specs.declared.formula.Half.{Half}
use Rattle.netlist.specs.declared.formula.Half.TheVariants.{High, Low}
use Rattle.netlist.specs.declared.formula.Formula.{Formula}
use Rattle.netlist.specs.declared.formula.Formula.TheOpen.{Formula-F}
use Rattle.netlist.specs.declared.formula.Formula.TheFolds.{fold-Formula}
use Rattle.netlist.specs.Nets.{Bits, word_at}

-- words joined, the first one highest, and the first one lowest
abbrev pub first_highest : List Bits → Bits
first_highest [] = []
first_highest (part ∷ parts) = first_highest parts ++ part

abbrev pub first_lowest : List Bits → Bits
first_lowest [] = []
first_lowest (part ∷ parts) = part ++ first_lowest parts

-- words joined one after the other, what is joined so far above the next one, or below it
abbrev pub joined : Half → List Bits → Bits
joined High parts = first_highest parts
joined Low parts = first_lowest parts

-- What a formula is worth, given what its operands are and the words of its variables: its operator is that of a net.
abbrev pub worth_step : List Bits → Formula-F Bits → Bits
worth_step words (Formula-F.Var i) = word_at words i
worth_step words (Formula-F.Const word) = word
worth_step words (Formula-F.Not a) = map not a
worth_step words (Formula-F.And a b) = zip_bits ◌&&◌ a b
worth_step words (Formula-F.Or a b) = zip_bits ◌||◌ a b
worth_step words (Formula-F.Xor a b) = zip_bits xor a b
worth_step words (Formula-F.Add a b) = bits_of (length a) (number_of a + number_of b)
worth_step words (Formula-F.Sub a b) = bits_of (length a) (number_of a + 2 ^ length a - number_of b)
worth_step words (Formula-F.Equal a b) = same_bits a b ∷ []
worth_step words (Formula-F.Less a b) = nat_lt (number_of a) (number_of b) ∷ []
worth_step words (Formula-F.Choose test one other) = if number_of test == 1 then one else other
worth_step words (Formula-F.Slice of high low) = slice_range of low (high + 1)
worth_step words (Formula-F.Concat high low first) = low ++ high
worth_step words (Formula-F.Join parts so_far) = joined so_far parts

abbrev pub worth : List Bits → Formula → Bits
worth words = fold-Formula Bits (worth_step words)

-- ---- widths

-- the width that both operands have
abbrev pub size_both : Option ℕ → Option ℕ → Option ℕ
size_both (Some a) (Some b) = if a == b then Some a else None
size_both (Some a) None = None
size_both None b = None

-- the width, where it is one of numbers that are added or compared
abbrev pub size_number : Option ℕ → Option ℕ
size_number None = None
size_number (Some width) = if nat_le width MAX_NUMBER_WIDTH then Some width else None

-- one bit, of operands that fit
abbrev pub size_bit : Option ℕ → Option ℕ
size_bit None = None
size_bit (Some width) = Some 1

abbrev pub size_choose : Option ℕ → Option ℕ → Option ℕ
size_choose None width = None
size_choose (Some test) width = if test == 1 then width else None

abbrev pub size_slice : Option ℕ → ℕ → ℕ → Option ℕ
size_slice None high low = None
size_slice (Some width) high low = if nat_le low high && nat_lt high width then Some (high - low + 1) else None

abbrev pub size_concat : Option ℕ → Option ℕ → Option ℕ
size_concat (Some high) (Some low) = if nat_le (high + low) MAX_WIDTH then Some (high + low) else None
size_concat (Some high) None = None
size_concat None low = None

abbrev pub size_join : List (Option ℕ) → Option ℕ
size_join [] = None
size_join (part ∷ []) = part
size_join (part ∷ other ∷ parts) = size_concat part (size_join (other ∷ parts))

abbrev pub size_step : List ℕ → Formula-F (Option ℕ) → Option ℕ
size_step widths (Formula-F.Var i) = slice_get widths i
size_step widths (Formula-F.Const word) = Some (length word)
size_step widths (Formula-F.Not a) = a
size_step widths (Formula-F.And a b) = size_both a b
size_step widths (Formula-F.Or a b) = size_both a b
size_step widths (Formula-F.Xor a b) = size_both a b
size_step widths (Formula-F.Add a b) = size_number (size_both a b)
size_step widths (Formula-F.Sub a b) = size_number (size_both a b)
size_step widths (Formula-F.Equal a b) = size_bit (size_both a b)
size_step widths (Formula-F.Less a b) = size_bit (size_number (size_both a b))
size_step widths (Formula-F.Choose test one other) = size_choose test (size_both one other)
size_step widths (Formula-F.Slice of high low) = size_slice of high low
size_step widths (Formula-F.Concat high low first) = size_concat high low
size_step widths (Formula-F.Join parts so_far) = size_join parts

-- A formula is good for variables of these widths where it has no other variable and each operator's operands are as wide
-- as it asks; then this is its width.
abbrev pub size : List ℕ → Formula → Option ℕ
size widths = fold-Formula (Option ℕ) (size_step widths)

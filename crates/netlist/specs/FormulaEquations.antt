-- What a formula is worth and how wide it is, at each kind of it.
use Rattle.std.proofs.Common.{◌≡◌, ℕ, ◌+◌, ◌-◌, ◌^◌, ◌==◌, List, [], ◌∷◌, ◌++◌, Option, Some, length, map, ap, sym, ◌∙◌}
use Rattle.std.specs.Prelude.{slice_get, slice_range, if◌then◌else◌, nat_lt, ◌&&◌, ◌||◌, not}
use Rattle.std.specs.Bool.{xor}
use Rattle.esi_base.specs.Bits.{number_of, bits_of, zip_bits, same_bits}
use Rattle.netlist.specs.declared.formula.Half.{Half}
use Rattle.netlist.specs.declared.formula.Formula.{Formula}
use Rattle.netlist.specs.declared.formula.Formula.TheVariants as F
use Rattle.netlist.specs.declared.formula.Formula.TheVariants.{rolls-Var, rolls-Const, rolls-Not, rolls-And, rolls-Or, rolls-Xor, rolls-Add, rolls-Sub, rolls-Equal, rolls-Less, rolls-Choose, rolls-Slice, rolls-Concat, rolls-Join}
use Rattle.netlist.specs.declared.formula.Formula.TheOpen.{Formula-F}
use Rattle.netlist.specs.declared.formula.Formula.TheFolds.{fold-roll-Formula}
use Rattle.netlist.specs.Nets.{Bits, word_at}
use Rattle.netlist.specs.Formulas.{joined, worth_step, worth, size_both, size_number, size_bit, size_choose, size_slice, size_concat, size_join, size_step, size}

module _ (words : List Bits) where
  pub worth-Var : (i : ℕ) → worth words (F.Var i) ≡ word_at words i
  worth-Var i = ap (worth words) (sym (rolls-Var i)) ∙ fold-roll-Formula Bits (worth_step words) (Formula-F.Var i)

  pub worth-Const : (word : Bits) → worth words (F.Const word) ≡ word
  worth-Const word = ap (worth words) (sym (rolls-Const word)) ∙ fold-roll-Formula Bits (worth_step words) (Formula-F.Const word)

  pub worth-Not : (a : Formula) → worth words (F.Not a) ≡ map not (worth words a)
  worth-Not a = ap (worth words) (sym (rolls-Not a)) ∙ fold-roll-Formula Bits (worth_step words) (Formula-F.Not a)

  pub worth-And : (a b : Formula) → worth words (F.And a b) ≡ zip_bits ◌&&◌ (worth words a) (worth words b)
  worth-And a b = ap (worth words) (sym (rolls-And a b)) ∙ fold-roll-Formula Bits (worth_step words) (Formula-F.And a b)

  pub worth-Or : (a b : Formula) → worth words (F.Or a b) ≡ zip_bits ◌||◌ (worth words a) (worth words b)
  worth-Or a b = ap (worth words) (sym (rolls-Or a b)) ∙ fold-roll-Formula Bits (worth_step words) (Formula-F.Or a b)

  pub worth-Xor : (a b : Formula) → worth words (F.Xor a b) ≡ zip_bits xor (worth words a) (worth words b)
  worth-Xor a b = ap (worth words) (sym (rolls-Xor a b)) ∙ fold-roll-Formula Bits (worth_step words) (Formula-F.Xor a b)

  pub worth-Add : (a b : Formula) → worth words (F.Add a b) ≡ bits_of (length (worth words a)) (number_of (worth words a) + number_of (worth words b))
  worth-Add a b = ap (worth words) (sym (rolls-Add a b)) ∙ fold-roll-Formula Bits (worth_step words) (Formula-F.Add a b)

  pub worth-Sub : (a b : Formula) → worth words (F.Sub a b) ≡ bits_of (length (worth words a)) (number_of (worth words a) + 2 ^ length (worth words a) - number_of (worth words b))
  worth-Sub a b = ap (worth words) (sym (rolls-Sub a b)) ∙ fold-roll-Formula Bits (worth_step words) (Formula-F.Sub a b)

  pub worth-Equal : (a b : Formula) → worth words (F.Equal a b) ≡ same_bits (worth words a) (worth words b) ∷ []
  worth-Equal a b = ap (worth words) (sym (rolls-Equal a b)) ∙ fold-roll-Formula Bits (worth_step words) (Formula-F.Equal a b)

  pub worth-Less : (a b : Formula) → worth words (F.Less a b) ≡ nat_lt (number_of (worth words a)) (number_of (worth words b)) ∷ []
  worth-Less a b = ap (worth words) (sym (rolls-Less a b)) ∙ fold-roll-Formula Bits (worth_step words) (Formula-F.Less a b)

  pub worth-Choose : (test one other : Formula) → worth words (F.Choose test one other) ≡ (if number_of (worth words test) == 1 then worth words one else worth words other)
  worth-Choose test one other = ap (worth words) (sym (rolls-Choose test one other)) ∙ fold-roll-Formula Bits (worth_step words) (Formula-F.Choose test one other)

  pub worth-Slice : (of : Formula) (high low : ℕ) → worth words (F.Slice of high low) ≡ slice_range (worth words of) low (high + 1)
  worth-Slice of high low = ap (worth words) (sym (rolls-Slice of high low)) ∙ fold-roll-Formula Bits (worth_step words) (Formula-F.Slice of high low)

  pub worth-Concat : (high low : Formula) (first : Half) → worth words (F.Concat high low first) ≡ worth words low ++ worth words high
  worth-Concat high low first = ap (worth words) (sym (rolls-Concat high low first)) ∙ fold-roll-Formula Bits (worth_step words) (Formula-F.Concat high low first)

  pub worth-Join : (parts : List Formula) (so_far : Half) → worth words (F.Join parts so_far) ≡ joined so_far (map (worth words) parts)
  worth-Join parts so_far = ap (worth words) (sym (rolls-Join parts so_far)) ∙ fold-roll-Formula Bits (worth_step words) (Formula-F.Join parts so_far)

module _ (widths : List ℕ) where
  pub size-Var : (i : ℕ) → size widths (F.Var i) ≡ slice_get widths i
  size-Var i = ap (size widths) (sym (rolls-Var i)) ∙ fold-roll-Formula (Option ℕ) (size_step widths) (Formula-F.Var i)

  pub size-Const : (word : Bits) → size widths (F.Const word) ≡ Some (length word)
  size-Const word = ap (size widths) (sym (rolls-Const word)) ∙ fold-roll-Formula (Option ℕ) (size_step widths) (Formula-F.Const word)

  pub size-Not : (a : Formula) → size widths (F.Not a) ≡ size widths a
  size-Not a = ap (size widths) (sym (rolls-Not a)) ∙ fold-roll-Formula (Option ℕ) (size_step widths) (Formula-F.Not a)

  pub size-And : (a b : Formula) → size widths (F.And a b) ≡ size_both (size widths a) (size widths b)
  size-And a b = ap (size widths) (sym (rolls-And a b)) ∙ fold-roll-Formula (Option ℕ) (size_step widths) (Formula-F.And a b)

  pub size-Or : (a b : Formula) → size widths (F.Or a b) ≡ size_both (size widths a) (size widths b)
  size-Or a b = ap (size widths) (sym (rolls-Or a b)) ∙ fold-roll-Formula (Option ℕ) (size_step widths) (Formula-F.Or a b)

  pub size-Xor : (a b : Formula) → size widths (F.Xor a b) ≡ size_both (size widths a) (size widths b)
  size-Xor a b = ap (size widths) (sym (rolls-Xor a b)) ∙ fold-roll-Formula (Option ℕ) (size_step widths) (Formula-F.Xor a b)

  pub size-Add : (a b : Formula) → size widths (F.Add a b) ≡ size_number (size_both (size widths a) (size widths b))
  size-Add a b = ap (size widths) (sym (rolls-Add a b)) ∙ fold-roll-Formula (Option ℕ) (size_step widths) (Formula-F.Add a b)

  pub size-Sub : (a b : Formula) → size widths (F.Sub a b) ≡ size_number (size_both (size widths a) (size widths b))
  size-Sub a b = ap (size widths) (sym (rolls-Sub a b)) ∙ fold-roll-Formula (Option ℕ) (size_step widths) (Formula-F.Sub a b)

  pub size-Equal : (a b : Formula) → size widths (F.Equal a b) ≡ size_bit (size_both (size widths a) (size widths b))
  size-Equal a b = ap (size widths) (sym (rolls-Equal a b)) ∙ fold-roll-Formula (Option ℕ) (size_step widths) (Formula-F.Equal a b)

  pub size-Less : (a b : Formula) → size widths (F.Less a b) ≡ size_bit (size_number (size_both (size widths a) (size widths b)))
  size-Less a b = ap (size widths) (sym (rolls-Less a b)) ∙ fold-roll-Formula (Option ℕ) (size_step widths) (Formula-F.Less a b)

  pub size-Choose : (test one other : Formula) → size widths (F.Choose test one other) ≡ size_choose (size widths test) (size_both (size widths one) (size widths other))
  size-Choose test one other = ap (size widths) (sym (rolls-Choose test one other)) ∙ fold-roll-Formula (Option ℕ) (size_step widths) (Formula-F.Choose test one other)

  pub size-Slice : (of : Formula) (high low : ℕ) → size widths (F.Slice of high low) ≡ size_slice (size widths of) high low
  size-Slice of high low = ap (size widths) (sym (rolls-Slice of high low)) ∙ fold-roll-Formula (Option ℕ) (size_step widths) (Formula-F.Slice of high low)

  pub size-Concat : (high low : Formula) (first : Half) → size widths (F.Concat high low first) ≡ size_concat (size widths high) (size widths low)
  size-Concat high low first = ap (size widths) (sym (rolls-Concat high low first)) ∙ fold-roll-Formula (Option ℕ) (size_step widths) (Formula-F.Concat high low first)

  pub size-Join : (parts : List Formula) (so_far : Half) → size widths (F.Join parts so_far) ≡ size_join (map (size widths) parts)
  size-Join parts so_far = ap (size widths) (sym (rolls-Join parts so_far)) ∙ fold-roll-Formula (Option ℕ) (size_step widths) (Formula-F.Join parts so_far)

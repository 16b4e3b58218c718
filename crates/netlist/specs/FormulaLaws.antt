-- What a good formula is worth is as wide as the formula.
use Rattle.std.proofs.Common.{◌≡◌, ℕ, zero, suc, ◌+◌, ◌-◌, ◌<◌, ◌≤◌, ◌==◌, Bool, true, false, List, [], ◌∷◌, Option, Some, None, length, length-append, map, refl, ap, sym, ◌∙◌, subst, arith}
use Rattle.std.specs.Prelude.{slice_get, slice_range, if◌then◌else◌, nat_le, nat_lt, ◌&&◌, not}
use Rattle.std.proofs.lemmas.Bool.{eqb-true, leb-true, and_parts}
use Rattle.std.proofs.lemmas.Option.{same_Some}
use Rattle.std.proofs.lemmas.List.{length-map, length-take, length-drop}
use Rattle.esi_base.specs.Bits.{length-bits_of}
use Rattle.esi_base.specs.BitLists.{length-zip_bits}
use Rattle.netlist.specs.declared.limits.TheConstants.{MAX_WIDTH, MAX_NUMBER_WIDTH}
use Rattle.netlist.specs.declared.formula.Half.TheVariants.{High, Low}
use Rattle.netlist.specs.declared.formula.Formula.{Formula}
use Rattle.netlist.specs.declared.formula.Formula.TheOpen.{Formula-F}
use Rattle.netlist.specs.declared.formula.Formula.TheViews.{roll-Formula}
use Rattle.netlist.specs.declared.formula.Formula.TheFolds as folds
use Rattle.netlist.specs.Nets.{Bits, word_at}
use Rattle.netlist.specs.Formulas.{worth_step, worth, size_both, size_number, size_bit, size_choose, size_slice, size_concat, size_join, size_step, size, first_highest, first_lowest}

-- For words of the widths for which a formula is good, it is worth a word of its width.
abbrev pub HasItsWidth : Formula → Type 0
HasItsWidth formula = (words : List Bits) (width : ℕ) → size (map length words) formula ≡ Some width → length (worth words formula) ≡ width

-- ---- what a width says of those of the operands

-- something stands there only where the test is true
pub chosen : {A : Type 0} → (t : Bool) (x : Option A) (a : A) → (if t then x else None) ≡ Some a → (t ≡ true) × (x ≡ Some a)
chosen true x a e = (refl, e)
chosen false x a e = absurd (cc)

pub both_sizes : (a b : Option ℕ) (width : ℕ) → size_both a b ≡ Some width → (a ≡ Some width) × (b ≡ Some width)
both_sizes None b width e = absurd (cc)
both_sizes (Some a) None width e = absurd (cc)
both_sizes (Some a) (Some b) width e =
    let c = chosen (a == b) (Some a) width e in
    let same = eqb-true a b c.0 in
    (c.1, ap Some (sym same) ∙ c.1)

pub number_size : (a : Option ℕ) (width : ℕ) → size_number a ≡ Some width → (a ≡ Some width) × (width ≤ MAX_NUMBER_WIDTH)
number_size None width e = absurd (cc)
number_size (Some a) width e =
    let c = chosen (nat_le a MAX_NUMBER_WIDTH) (Some a) width e in
    (c.1, subst (λ n. n ≤ MAX_NUMBER_WIDTH) (same_Some a width c.1) (leb-true a MAX_NUMBER_WIDTH c.0))

pub bit_size : (a : Option ℕ) (width : ℕ) → size_bit a ≡ Some width → 1 ≡ width
bit_size None width e = absurd (cc)
bit_size (Some a) width e = same_Some 1 width e

pub choose_size : (test a : Option ℕ) (width : ℕ) → size_choose test a ≡ Some width → (test ≡ Some 1) × (a ≡ Some width)
choose_size None a width e = absurd (cc)
choose_size (Some test) a width e = let c = chosen (test == 1) a width e in (ap Some (eqb-true test 1 c.0), c.1)

pub slice_size : (of : Option ℕ) (high low width : ℕ) → size_slice of high low ≡ Some width → (n : ℕ) × (of ≡ Some n) × (low ≤ high) × (high < n) × (high - low + 1 ≡ width)
slice_size None high low width e = absurd (cc)
slice_size (Some n) high low width e =
    let c = chosen (nat_le low high && nat_lt high n) (Some (high - low + 1)) width e in
    let p = and_parts (nat_le low high) (nat_lt high n) c.0 in
    (n, refl, leb-true low high p.0, leb-true (suc high) n p.1, same_Some (high - low + 1) width c.1)

pub concat_size : (high low : Option ℕ) (width : ℕ) → size_concat high low ≡ Some width → (a b : ℕ) × (high ≡ Some a) × (low ≡ Some b) × (a + b ≤ MAX_WIDTH) × (a + b ≡ width)
concat_size None low width e = absurd (cc)
concat_size (Some a) None width e = absurd (cc)
concat_size (Some a) (Some b) width e =
    let c = chosen (nat_le (a + b) MAX_WIDTH) (Some (a + b)) width e in
    (a, b, refl, refl, leb-true (a + b) MAX_WIDTH c.0, same_Some (a + b) width c.1)

-- ---- formulas

variable_width : (words : List Bits) (i width : ℕ) → slice_get (map length words) i ≡ Some width → length (word_at words i) ≡ width
variable_width [] i width e = absurd (cc)
variable_width (w ∷ words) zero width e = same_Some (length w) width e
variable_width (w ∷ words) (suc i) width e = variable_width words i width e

chosen_width : (test : Bool) (one other : Bits) (width : ℕ) → length one ≡ width → length other ≡ width → length (if test then one else other) ≡ width
chosen_width true one other width h l = h
chosen_width false one other width h l = l

cut_width : (word : Bits) (high low n : ℕ) → length word ≡ n → low ≤ high → high < n → length (slice_range word low (high + 1)) ≡ high - low + 1
cut_width word high low n h l k = simp (length-take, length-drop) (omega arith)

abbrev Wide : Type 0
Wide = (formula : Formula) × HasItsWidth formula

abbrev bare : Formula-F Wide → Formula-F Formula
bare = folds.map-Formula Wide Formula (λ e. e.0)

module _ (words : List Bits) where
  same_widths : (a b : Wide) (width : ℕ) → size_both (size (map length words) a.0) (size (map length words) b.0) ≡ Some width
      → (length (worth words a.0) ≡ width) × (length (worth words b.0) ≡ width)
  same_widths a b width e = let s = both_sizes _ _ width e in (a.1 words width s.0, b.1 words width s.1)

  parts_width : (parts : List Wide) (width : ℕ) → size_join (map (size (map length words)) (map (λ (e : Wide). e.0) parts)) ≡ Some width
      → (length (first_highest (map (worth words) (map (λ (e : Wide). e.0) parts))) ≡ width) × (length (first_lowest (map (worth words) (map (λ (e : Wide). e.0) parts))) ≡ width)
  parts_width [] width e = absurd (cc)
  parts_width (p ∷ []) width e =
      let own = p.1 words width e in
      (own, length-append (worth words p.0) [] ∙ omega (arith, own))
  parts_width (p ∷ q ∷ ps) width e =
      let s = concat_size _ _ width e in
      let own = p.1 words s.0 s.2 in
      let rest = parts_width (q ∷ ps) s.1 s.3 in (
        length-append (first_highest (map (worth words) (map (λ (e : Wide). e.0) (q ∷ ps)))) (worth words p.0) ∙ omega (arith, own, rest.0, s.5),
        length-append (worth words p.0) (first_lowest (map (worth words) (map (λ (e : Wide). e.0) (q ∷ ps)))) ∙ omega (arith, own, rest.1, s.5),
      )

  level_width : (y : Formula-F Wide) (width : ℕ)
      → size_step (map length words) (folds.map-Formula Formula (Option ℕ) (size (map length words)) (bare y)) ≡ Some width
      → length (worth_step words (folds.map-Formula Formula Bits (worth words) (bare y))) ≡ width
  level_width (Formula-F.Var i) width e = variable_width words i width e
  level_width (Formula-F.Const word) width e = same_Some (length word) width e
  level_width (Formula-F.Not a) width e = length-map (worth words a.0) not ∙ a.1 words width e
  level_width (Formula-F.And a b) width e = let s = same_widths a b width e in length-zip_bits _ (worth words a.0) (worth words b.0) (s.0 ∙ sym s.1) ∙ s.0
  level_width (Formula-F.Or a b) width e = let s = same_widths a b width e in length-zip_bits _ (worth words a.0) (worth words b.0) (s.0 ∙ sym s.1) ∙ s.0
  level_width (Formula-F.Xor a b) width e = let s = same_widths a b width e in length-zip_bits _ (worth words a.0) (worth words b.0) (s.0 ∙ sym s.1) ∙ s.0
  level_width (Formula-F.Add a b) width e = length-bits_of _ _ ∙ (same_widths a b width (number_size _ width e).0).0
  level_width (Formula-F.Sub a b) width e = length-bits_of _ _ ∙ (same_widths a b width (number_size _ width e).0).0
  level_width (Formula-F.Equal a b) width e = bit_size _ width e
  level_width (Formula-F.Less a b) width e = bit_size _ width e
  level_width (Formula-F.Choose test one other) width e =
      let s = same_widths one other width (choose_size (size (map length words) test.0) _ width e).1 in
      chosen_width _ (worth words one.0) (worth words other.0) width s.0 s.1
  level_width (Formula-F.Slice of high low) width e =
      let s = slice_size _ high low width e in
      cut_width (worth words of.0) high low s.0 (of.1 words s.0 s.1) s.2 s.3 ∙ s.4
  level_width (Formula-F.Concat high low first) width e =
      let s = concat_size _ _ width e in
      let above = high.1 words s.0 s.2 in
      let below = low.1 words s.1 s.3 in
      length-append (worth words low.0) (worth words high.0) ∙ omega (arith, above, below, s.5)
  level_width (Formula-F.Join parts High) width e = (parts_width parts width e).0
  level_width (Formula-F.Join parts Low) width e = (parts_width parts width e).1

rolled : (y : Formula-F Wide) → HasItsWidth (roll-Formula (bare y))
rolled y words width e =
    ap length (folds.fold-roll-Formula Bits (worth_step words) (bare y))
    ∙ level_width words y width (sym (folds.fold-roll-Formula (Option ℕ) (size_step (map length words)) (bare y)) ∙ e)

pub formula_widths : (formula : Formula) → HasItsWidth formula
formula_widths = folds.ind-Formula HasItsWidth (λ x y e. subst (λ x. HasItsWidth (roll-Formula x)) e (rolled y))

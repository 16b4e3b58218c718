-- The nets of a formula carry what it is worth; they fit behind what stands, and the last one is as wide as the formula.
use Rattle.std.specs.Prelude.{◌≡◌, ℕ, ◌+◌, ◌-◌, ◌<◌, ◌==◌, ◌^◌, ◌&&◌, ◌||◌, if◌then◌else◌, nat_lt, not, true, List, [], ◌∷◌, ◌++◌, Option, Some, None, length, map, slice_get, slice_range, refl}
use Rattle.std.specs.Bool.{xor}
use Rattle.std.specs.List.{slice_index_or}
use Rattle.std.proofs.Common.{sym, ◌∙◌, ap, subst, arith, length-append, append_assoc}
use Rattle.std.proofs.lemmas.List.{get_or-map, length-map}
use Rattle.std.proofs.lemmas.Option.{slice_get_within}
use Rattle.esi_base.specs.Bits.{number_of, bits_of, zip_bits, same_bits}
use Rattle.netlist.specs.declared.net.Net.{Net}
use Rattle.netlist.specs.declared.net.Net.TheVariants.{Input, Register, Const, Not, And, Or, Xor, Add, Sub, Equal, Less, Choose, Slice, Concat}
use Rattle.netlist.specs.declared.formula.Half.{Half}
use Rattle.netlist.specs.declared.formula.Half.TheVariants.{High, Low}
use Rattle.netlist.specs.declared.formula.Formula.{Formula}
use Rattle.netlist.specs.declared.formula.Formula.TheOpen.{Formula-F}
use Rattle.netlist.specs.declared.formula.Formula.TheViews.{roll-Formula}
use Rattle.netlist.specs.declared.formula.Formula.TheFolds as folds
use Rattle.netlist.specs.Nets.{Bits, word_at, width_at, is_computed, result_of}
use Rattle.netlist.specs.Plans.{Plan, Stands}
use Rattle.netlist.specs.Settled.{IsSettled, operands}
use Rattle.netlist.specs.Formulas.{worth_step, worth, size_bit, size_join, size_step, size, first_highest, first_lowest, joined}
use Rattle.netlist.specs.FormulaLaws.{both_sizes, number_size, choose_size, slice_size, concat_size}
use Rattle.net_lists.specs.Lists.{StandFrom}
use Rattle.net_lists.specs.ListLaws.{stand_first, stand_front, stand_behind}
use Rattle.formula_nets.specs.Making.{Making, standing, lone, of_one, of_two, of_three, joined_to, of_parts, making_step, making, FormulasCompute}

append_none : {A : Type 0} (xs : List A) → xs ≡ xs ++ []
append_none [] = refl
append_none (x ∷ xs) = ap (λ ys. x ∷ ys) (append_none xs)

-- one bit, of something that has a width
pub some_bit : (a : Option ℕ) (width : ℕ) → size_bit a ≡ Some width → (w : ℕ) × (a ≡ Some w)
some_bit None width e = absurd (cc)
some_bit (Some w) width e = (w, refl)

-- each net that is worked out carries the word of its operator
pub record AreWorkedOut (nets : List Net) (words : List Bits) : Type 0 where
  pub each : (place : ℕ) (net : Net) → Stands nets place net → is_computed net ≡ true → word_at words place ≡ result_of net (operands net words)

module _ (nets : List Net) (words : List Bits) (out : AreWorkedOut nets words) where
  -- wherever the nets stand, the last one carries this word
  record Gives (m : Making) (value : Bits) : Type 0 where
    pub at_place : (at : ℕ) → StandFrom nets at (m at).nets → word_at words (m at).net ≡ value

  own_word : (at : ℕ) (front : List Net) (own : Net) (place : ℕ) → at + length front ≡ place → StandFrom nets at (front ++ own ∷ []) → is_computed own ≡ true → word_at words place ≡ result_of own (operands own words)
  own_word at front own place e s is = out.each place own (subst (λ k. Stands nets k own) e (stand_first nets (at + length front) own [] (stand_behind nets at front (own ∷ []) s))) is

  one_gives : (own : ℕ → Net) (f : Bits → Bits) (a : Making) (v : Bits) → ((x : ℕ) → is_computed (own x) ≡ true) → ((x : ℕ) → result_of (own x) (operands (own x) words) ≡ f (word_at words x)) → Gives a v → Gives (of_one own a) (f v)
  one_gives own f a v is does g = record {
    at_place = λ at s.
        let x = a at in
        own_word at x.nets (own x.net) (at + length x.nets) refl s (is x.net) ∙ does x.net ∙ ap f (g.at_place at (stand_front nets at x.nets (own x.net ∷ []) s));
  }

  two_gives : (own : ℕ → ℕ → Net) (f : Bits → Bits → Bits) (a b : Making) (v w : Bits) → ((x y : ℕ) → is_computed (own x y) ≡ true) → ((x y : ℕ) → result_of (own x y) (operands (own x y) words) ≡ f (word_at words x) (word_at words y))
      → Gives a v → Gives b w → Gives (of_two own a b) (f v w)
  two_gives own f a b v w is does g h = record {
    at_place = λ at s.
        let x = a at in
        let y = b (at + length x.nets) in
        let front = stand_front nets at (x.nets ++ y.nets) (own x.net y.net ∷ []) s in
        own_word at (x.nets ++ y.nets) (own x.net y.net) (at + length x.nets + length y.nets) (omega (arith, length-append x.nets y.nets)) s (is x.net y.net) ∙ does x.net y.net
        ∙ ap (λ u. f u (word_at words y.net)) (g.at_place at (stand_front nets at x.nets y.nets front))
        ∙ ap (f v) (h.at_place (at + length x.nets) (stand_behind nets at x.nets y.nets front));
  }

  three_gives : (own : ℕ → ℕ → ℕ → Net) (f : Bits → Bits → Bits → Bits) (a b c : Making) (v w u : Bits) → ((x y z : ℕ) → is_computed (own x y z) ≡ true)
      → ((x y z : ℕ) → result_of (own x y z) (operands (own x y z) words) ≡ f (word_at words x) (word_at words y) (word_at words z)) → Gives a v → Gives b w → Gives c u → Gives (of_three own a b c) (f v w u)
  three_gives own f a b c v w u is does g h i = record {
    at_place = λ at s.
        let x = a at in
        let y = b (at + length x.nets) in
        let z = c (at + length x.nets + length y.nets) in
        let whole = stand_front nets at (x.nets ++ y.nets ++ z.nets) (own x.net y.net z.net ∷ []) s in
        let front = stand_front nets at (x.nets ++ y.nets) z.nets whole in
        own_word at (x.nets ++ y.nets ++ z.nets) (own x.net y.net z.net) (at + length x.nets + length y.nets + length z.nets) (omega (arith, length-append (x.nets ++ y.nets) z.nets, length-append x.nets y.nets)) s (is x.net y.net z.net)
        ∙ does x.net y.net z.net
        ∙ ap (λ k. f k (word_at words y.net) (word_at words z.net)) (g.at_place at (stand_front nets at x.nets y.nets front))
        ∙ ap (λ k. f v k (word_at words z.net)) (h.at_place (at + length x.nets) (stand_behind nets at x.nets y.nets front))
        ∙ ap (f v w)
        (i.at_place (at + length x.nets + length y.nets)
        (subst (λ k. StandFrom nets k z.nets) (omega (arith, length-append x.nets y.nets)) (stand_behind nets at (x.nets ++ y.nets) z.nets whole)));
  }

  lone_gives : (word : Bits) → Gives (lone (Const word)) word
  lone_gives word = record { at_place = λ at s. out.each at (Const word) (stand_first nets at (Const word) [] s) refl }

  module _ (variables : List ℕ) (widths : List ℕ) (same_count : length widths ≡ length variables) where
    abbrev env : List Bits
    env = map (word_at words) variables

    abbrev Known : Type 0
    Known = (formula : Formula) × ((width : ℕ) → size widths formula ≡ Some width → Gives (making variables formula) (worth env formula))

    abbrev bare : Formula-F Known → Formula-F Formula
    bare = folds.map-Formula Known Formula (λ e. e.0)

    abbrev formulas : List Known → List Formula
    formulas = map (λ (e : Known). e.0)

    abbrev AllSized : List Known → Type 0
    AllSized [] = Unit {0}
    AllSized (part ∷ parts) = ((width : ℕ) × (size widths part.0 ≡ Some width)) × AllSized parts

    all_sized : (parts : List Known) (width : ℕ) → size_join (map (size widths) (formulas parts)) ≡ Some width → AllSized parts
    all_sized [] width e = tt
    all_sized (p ∷ []) width e = ((width, e), tt)
    all_sized (p ∷ q ∷ ps) width e = let s = concat_size _ _ width e in ((s.0, s.2), all_sized (q ∷ ps) s.1 s.3)

    high_gives : (so_far : Making) (v : Bits) (parts : List Known) → Gives so_far v → AllSized parts → Gives (joined_to High so_far (map (making variables) (formulas parts))) (first_highest (map (worth env) (formulas parts)) ++ v)
    high_gives so_far v [] g sized = g
    high_gives so_far v (p ∷ ps) g sized =
        let next = two_gives Concat (λ high low. low ++ high) so_far (making variables p.0) v (worth env p.0) (λ x y. refl) (λ x y. refl) g (p.1 sized.0.0 sized.0.1) in
        subst (λ w. Gives (joined_to High so_far (map (making variables) (formulas (p ∷ ps)))) w) (sym (append_assoc (first_highest (map (worth env) (formulas ps))) (worth env p.0) v))
        (high_gives (of_two Concat so_far (making variables p.0)) (worth env p.0 ++ v) ps next sized.1)

    low_gives : (so_far : Making) (v : Bits) (parts : List Known) → Gives so_far v → AllSized parts → Gives (joined_to Low so_far (map (making variables) (formulas parts))) (v ++ first_lowest (map (worth env) (formulas parts)))
    low_gives so_far v [] g sized = subst (λ w. Gives so_far w) (append_none v) g
    low_gives so_far v (p ∷ ps) g sized =
        let next = two_gives (λ so next. Concat next so) (λ so next. so ++ next) so_far (making variables p.0) v (worth env p.0) (λ x y. refl) (λ x y. refl) g (p.1 sized.0.0 sized.0.1) in
        subst (λ w. Gives (joined_to Low so_far (map (making variables) (formulas (p ∷ ps)))) w) (append_assoc v (worth env p.0) (first_lowest (map (worth env) (formulas ps))))
        (low_gives (of_two (λ so next. Concat next so) so_far (making variables p.0)) (v ++ worth env p.0) ps next sized.1)

    parts_give : (half : Half) (parts : List Known) (width : ℕ) → size_join (map (size widths) (formulas parts)) ≡ Some width → Gives (of_parts half (map (making variables) (formulas parts))) (joined half (map (worth env) (formulas parts)))
    parts_give half [] width e = absurd (cc)
    parts_give High (p ∷ ps) width e = let sized = all_sized (p ∷ ps) width e in high_gives (making variables p.0) (worth env p.0) ps (p.1 sized.0.0 sized.0.1) sized.1
    parts_give Low (p ∷ ps) width e = let sized = all_sized (p ∷ ps) width e in low_gives (making variables p.0) (worth env p.0) ps (p.1 sized.0.0 sized.0.1) sized.1

    variable_gives : (i width : ℕ) → slice_get widths i ≡ Some width → Gives (standing (slice_index_or variables i 0)) (word_at env i)
    variable_gives i width e = record { at_place = λ at s. sym (get_or-map (word_at words) variables i 0 [] (subst (λ k. i < k) same_count (slice_get_within widths i width e))) }

    level_gives : (y : Formula-F Known) (width : ℕ) → size_step widths (folds.map-Formula Formula (Option ℕ) (size widths) (bare y)) ≡ Some width
        → Gives (making_step variables (folds.map-Formula Formula Making (making variables) (bare y))) (worth_step env (folds.map-Formula Formula Bits (worth env) (bare y)))
    level_gives (Formula-F.Var i) width e = variable_gives i width e
    level_gives (Formula-F.Const word) width e = lone_gives word
    level_gives (Formula-F.Not a) width e = one_gives Not (map not) _ _ (λ x. refl) (λ x. refl) (a.1 width e)
    level_gives (Formula-F.And a b) width e = let s = both_sizes _ _ width e in two_gives And (zip_bits ◌&&◌) _ _ _ _ (λ x y. refl) (λ x y. refl) (a.1 width s.0) (b.1 width s.1)
    level_gives (Formula-F.Or a b) width e = let s = both_sizes _ _ width e in two_gives Or (zip_bits ◌||◌) _ _ _ _ (λ x y. refl) (λ x y. refl) (a.1 width s.0) (b.1 width s.1)
    level_gives (Formula-F.Xor a b) width e = let s = both_sizes _ _ width e in two_gives Xor (zip_bits xor) _ _ _ _ (λ x y. refl) (λ x y. refl) (a.1 width s.0) (b.1 width s.1)
    level_gives (Formula-F.Add a b) width e =
        let s = both_sizes _ _ width (number_size _ width e).0 in
        two_gives Add (λ v w. bits_of (length v) (number_of v + number_of w)) _ _ _ _ (λ x y. refl) (λ x y. refl) (a.1 width s.0) (b.1 width s.1)
    level_gives (Formula-F.Sub a b) width e =
        let s = both_sizes _ _ width (number_size _ width e).0 in
        two_gives Sub (λ v w. bits_of (length v) (number_of v + 2 ^ length v - number_of w)) _ _ _ _ (λ x y. refl) (λ x y. refl) (a.1 width s.0) (b.1 width s.1)
    level_gives (Formula-F.Equal a b) width e =
        let t = some_bit _ width e in
        let s = both_sizes _ _ t.0 t.1 in
        two_gives Equal (λ v w. same_bits v w ∷ []) _ _ _ _ (λ x y. refl) (λ x y. refl) (a.1 t.0 s.0) (b.1 t.0 s.1)
    level_gives (Formula-F.Less a b) width e =
        let t = some_bit _ width e in
        let s = both_sizes _ _ t.0 (number_size _ t.0 t.1).0 in
        two_gives Less (λ v w. nat_lt (number_of v) (number_of w) ∷ []) _ _ _ _ (λ x y. refl) (λ x y. refl) (a.1 t.0 s.0) (b.1 t.0 s.1)
    level_gives (Formula-F.Choose test one other) width e =
        let t = choose_size _ _ width e in
        let s = both_sizes _ _ width t.1 in
        three_gives Choose (λ v w u. if number_of v == 1 then w else u) _ _ _ _ _ _ (λ x y z. refl) (λ x y z. refl) (test.1 1 t.0) (one.1 width s.0) (other.1 width s.1)
    level_gives (Formula-F.Slice of high low) width e =
        let s = slice_size _ high low width e in
        one_gives (λ net. Slice net high low) (λ v. slice_range v low (high + 1)) _ _ (λ x. refl) (λ x. refl) (of.1 s.0 s.1)
    level_gives (Formula-F.Concat high low High) width e =
        let s = concat_size _ _ width e in
        two_gives Concat (λ v w. w ++ v) _ _ _ _ (λ x y. refl) (λ x y. refl) (high.1 s.0 s.2) (low.1 s.1 s.3)
    level_gives (Formula-F.Concat high low Low) width e =
        let s = concat_size _ _ width e in
        two_gives (λ l h. Concat h l) (λ v w. v ++ w) _ _ _ _ (λ x y. refl) (λ x y. refl) (low.1 s.1 s.3) (high.1 s.0 s.2)
    level_gives (Formula-F.Join parts so_far) width e = parts_give so_far parts width e

    rolled : (y : Formula-F Known) (width : ℕ) → size widths (roll-Formula (bare y)) ≡ Some width → Gives (making variables (roll-Formula (bare y))) (worth env (roll-Formula (bare y)))
    rolled y width e =
        subst (λ m. Gives m (worth env (roll-Formula (bare y)))) (sym (folds.fold-roll-Formula Making (making_step variables) (bare y)))
        (subst (λ v. Gives (making_step variables (folds.map-Formula Formula Making (making variables) (bare y))) v) (sym (folds.fold-roll-Formula Bits (worth_step env) (bare y)))
        (level_gives y width (sym (folds.fold-roll-Formula (Option ℕ) (size_step widths) (bare y)) ∙ e)))

    formula_gives : (formula : Formula) (width : ℕ) → size widths formula ≡ Some width → Gives (making variables formula) (worth env formula)
    formula_gives =
        folds.ind-Formula (λ formula. (width : ℕ) → size widths formula ≡ Some width → Gives (making variables formula) (worth env formula))
        (λ x y e. subst (λ x. (width : ℕ) → size widths (roll-Formula x) ≡ Some width → Gives (making variables (roll-Formula x)) (worth env (roll-Formula x))) e (rolled y))

worked_out : (plan : Plan) (inputs held words : List Bits) → IsSettled plan inputs held words → (place : ℕ) (net : Net) → Stands plan.nets place net → is_computed net ≡ true → word_at words place ≡ result_of net (operands net words)
worked_out plan inputs held words settled place (Input width) s e = absurd (grind (arith, e))
worked_out plan inputs held words settled place (Register reset) s e = absurd (grind (arith, e))
worked_out plan inputs held words settled place net s e = settled.each place net s

pub formulas_do_compute : FormulasCompute
formulas_do_compute plan variables formula width at inputs held words good stands settled =
    let out : AreWorkedOut plan.nets words = record { each = worked_out plan inputs held words settled } in
    (formula_gives plan.nets words out variables (map (width_at plan.widths) variables) (length-map variables (width_at plan.widths)) formula width good).at_place at stands

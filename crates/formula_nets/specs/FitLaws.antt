-- The nets of a formula fit behind what stands, and the last one is as wide as the formula.
use Rattle.std.specs.Prelude.{◌≡◌, ℕ, ◌+◌, ◌-◌, ◌<◌, ◌≤◌, List, [], ◌∷◌, ◌++◌, Option, Some, None, length, map, slice_get, IsSome, refl}
use Rattle.std.specs.List.{slice_index_or}
use Rattle.std.proofs.Common.{sym, ◌∙◌, ap, subst, arith, length-append}
use Rattle.std.proofs.lemmas.Option.{same_Some, slice_get_within, get_or_from_slice_get}
use Rattle.std.proofs.lemmas.List.{length-map, get_or-map}
use Rattle.netlist.specs.declared.limits.TheConstants.{MAX_WIDTH, MAX_NUMBER_WIDTH}
use Rattle.netlist.specs.declared.net.Net.{Net}
use Rattle.netlist.specs.declared.net.Net.TheVariants.{Const, Not, And, Or, Xor, Add, Sub, Equal, Less, Choose, Slice, Concat}
use Rattle.netlist.specs.declared.formula.Half.{Half}
use Rattle.netlist.specs.declared.formula.Half.TheVariants.{High, Low}
use Rattle.netlist.specs.declared.formula.Formula.{Formula}
use Rattle.netlist.specs.declared.formula.Formula.TheOpen.{Formula-F}
use Rattle.netlist.specs.declared.formula.Formula.TheViews.{roll-Formula}
use Rattle.netlist.specs.declared.formula.Formula.TheFolds as folds
use Rattle.netlist.specs.Nets.{Bits, width_at, width_in, Fits}
use Rattle.netlist.specs.Plans.{Plan, IsPlan}
use Rattle.netlist.specs.Formulas.{size_join, size_step, size}
use Rattle.netlist.specs.FormulaLaws.{both_sizes, number_size, bit_size, choose_size, slice_size, concat_size}
use Rattle.net_lists.specs.Lists.{with_nets, FitAll, Carries}
use Rattle.net_lists.specs.ListLaws.{with_nets-append, length-with_nets, carries_all, carries_pushed, fit_append, counted_all, fit_two, fit_choice}
use Rattle.formula_nets.specs.MadeLaws.{some_bit}
use Rattle.formula_nets.specs.Making.{Made, Making, standing, lone, of_one, of_two, of_three, join_net, joined_to, of_parts, making_step, making, formula_nets, formula_net, formula_size, IsFormulaReady}

module _ (variables : List ℕ) (widths : List ℕ) where
  -- the variables are carried by nets of these widths
  pub record AreCarried (plan : Plan) : Type 0 where
    pub count : length plan.widths ≡ length plan.nets
    pub each : (i w : ℕ) → slice_get widths i ≡ Some w → Carries plan (slice_index_or variables i 0) w

  still_carried : (plan : Plan) (nets : List Net) → AreCarried plan → AreCarried (with_nets plan nets)
  still_carried plan nets c = record { count = counted_all plan nets c.count; each = λ i w e. carries_all plan (slice_index_or variables i 0) w nets c.count (c.each i w e) }

  record FitsBehind (plan : Plan) (made : Made) (width : ℕ) : Type 0 where
    pub fit : FitAll plan made.nets
    pub carries : Carries (with_nets plan made.nets) made.net width

  record FitsAs (m : Making) (width : ℕ) : Type 0 where
    pub at_end : (plan : Plan) (at : ℕ) → at ≡ length plan.nets → AreCarried plan → FitsBehind plan (m at) width

  -- an operator's net behind those of its operands
  own_fits : (plan : Plan) (front : List Net) (own : Net) (place width : ℕ) → place ≡ length plan.nets + length front → AreCarried plan → FitAll plan front
      → Fits own (length (with_nets plan front).nets) (with_nets plan front).widths → width_in own (with_nets plan front).widths ≡ width
      → FitsBehind plan (record { nets = front ++ own ∷ []; net = place }) width
  own_fits plan front own place width here c f fits wide = record {
    fit = fit_append plan front (own ∷ []) f (fits, tt);
    carries = subst (λ (p : Plan). Carries p place width) (with_nets-append plan front (own ∷ []))
        (carries_pushed (with_nets plan front) own place width (counted_all plan front c.count) (here ∙ sym (length-with_nets plan front)) wide);
  }

  one_fits : (own : ℕ → Net) (a : Making) (v w : ℕ) → ((p : Plan) (x : ℕ) → Carries p x v → Fits (own x) (length p.nets) p.widths × (width_in (own x) p.widths ≡ w)) → FitsAs a v → FitsAs (of_one own a) w
  one_fits own a v w does f = record {
    at_end = λ plan at here c.
        let x = a at in
        let g = f.at_end plan at here c in
        let d = does (with_nets plan x.nets) x.net g.carries in
        own_fits plan x.nets (own x.net) (at + length x.nets) w (ap (λ k. k + length x.nets) here) c g.fit d.0 d.1;
  }

  two_fits : (own : ℕ → ℕ → Net) (a b : Making) (v w u : ℕ) → ((p : Plan) (x y : ℕ) → Carries p x v → Carries p y w → Fits (own x y) (length p.nets) p.widths × (width_in (own x y) p.widths ≡ u))
      → FitsAs a v → FitsAs b w → FitsAs (of_two own a b) u
  two_fits own a b v w u does f g = record {
    at_end = λ plan at here c.
        let x = a at in
        let y = b (at + length x.nets) in
        let p1 = with_nets plan x.nets in
        let one = f.at_end plan at here c in
        let two = g.at_end p1 (at + length x.nets) (ap (λ k. k + length x.nets) here ∙ sym (length-with_nets plan x.nets)) (still_carried plan x.nets c) in
        let both : FitAll plan (x.nets ++ y.nets) = fit_append plan x.nets y.nets one.fit two.fit in
        let same : with_nets p1 y.nets ≡ with_nets plan (x.nets ++ y.nets) = with_nets-append plan x.nets y.nets in
        let cx = subst (λ (p : Plan). Carries p x.net v) same (carries_all p1 x.net v y.nets (counted_all plan x.nets c.count) one.carries) in
        let cy = subst (λ (p : Plan). Carries p y.net w) same two.carries in
        let d = does (with_nets plan (x.nets ++ y.nets)) x.net y.net cx cy in
        own_fits plan (x.nets ++ y.nets) (own x.net y.net) (at + length x.nets + length y.nets) u (omega (arith, here, length-append x.nets y.nets)) c both d.0 d.1;
  }

  three_fits : (own : ℕ → ℕ → ℕ → Net) (a b e : Making) (v w u t : ℕ) → ((p : Plan) (x y z : ℕ) → Carries p x v → Carries p y w → Carries p z u → Fits (own x y z) (length p.nets) p.widths × (width_in (own x y z) p.widths ≡ t))
      → FitsAs a v → FitsAs b w → FitsAs e u → FitsAs (of_three own a b e) t
  three_fits own a b e v w u t does f g h = record {
    at_end = λ plan at here c.
        let x = a at in
        let y = b (at + length x.nets) in
        let z = e (at + length x.nets + length y.nets) in
        let p1 = with_nets plan x.nets in
        let p2 = with_nets plan (x.nets ++ y.nets) in
        let p3 = with_nets plan (x.nets ++ y.nets ++ z.nets) in
        let k1 = counted_all plan x.nets c.count in
        let k2 = counted_all plan (x.nets ++ y.nets) c.count in
        let one = f.at_end plan at here c in
        let two = g.at_end p1 (at + length x.nets) (ap (λ k. k + length x.nets) here ∙ sym (length-with_nets plan x.nets)) (still_carried plan x.nets c) in
        let both : FitAll plan (x.nets ++ y.nets) = fit_append plan x.nets y.nets one.fit two.fit in
        let three = h.at_end p2 (at + length x.nets + length y.nets) (omega (arith, here, length-append x.nets y.nets, length-with_nets plan (x.nets ++ y.nets))) (still_carried plan (x.nets ++ y.nets) c) in
        let all : FitAll plan (x.nets ++ y.nets ++ z.nets) = fit_append plan (x.nets ++ y.nets) z.nets both three.fit in
        let same2 : with_nets p1 y.nets ≡ p2 = with_nets-append plan x.nets y.nets in
        let same3 : with_nets p2 z.nets ≡ p3 = with_nets-append plan (x.nets ++ y.nets) z.nets in
        let cx2 : Carries p2 x.net v = subst (λ (p : Plan). Carries p x.net v) same2 (carries_all p1 x.net v y.nets k1 one.carries) in
        let cy2 : Carries p2 y.net w = subst (λ (p : Plan). Carries p y.net w) same2 two.carries in
        let cx = subst (λ (p : Plan). Carries p x.net v) same3 (carries_all p2 x.net v z.nets k2 cx2) in
        let cy = subst (λ (p : Plan). Carries p y.net w) same3 (carries_all p2 y.net w z.nets k2 cy2) in
        let cz = subst (λ (p : Plan). Carries p z.net u) same3 three.carries in
        let d = does p3 x.net y.net z.net cx cy cz in
        own_fits plan (x.nets ++ y.nets ++ z.nets) (own x.net y.net z.net) (at + length x.nets + length y.nets + length z.nets) t (omega (arith, here, length-append (x.nets ++ y.nets) z.nets, length-append x.nets y.nets)) c all d.0 d.1;
  }

  same_fits : (own : ℕ → ℕ → Net) (a b : Making) (v : ℕ) → ((p : Plan) (x y : ℕ) → Carries p x v → Carries p y v → Fits (own x y) (length p.nets) p.widths × (width_in (own x y) p.widths ≡ v)) → FitsAs a v → FitsAs b v → FitsAs (of_two own a b) v
  same_fits own a b v does f g = two_fits own a b v v v does f g

  concat_wide : (p : Plan) (x y v w u : ℕ) → v + w ≤ MAX_WIDTH → v + w ≡ u → Carries p x v → Carries p y w → Fits (Concat x y) (length p.nets) p.widths × (width_in (Concat x y) p.widths ≡ u)
  concat_wide p x y v w u le e cx cy =
      let sum : width_at p.widths x + width_at p.widths y ≡ v + w = ap (λ k. k + width_at p.widths y) cx.wide ∙ ap (λ k. v + k) cy.wide in
      ((cx.below, cy.below, omega (arith, sum, le)), sum ∙ e)

  number_fits : (p : Plan) (x y v : ℕ) → v ≤ MAX_NUMBER_WIDTH → Carries p x v → Carries p y v → (x < length p.nets) × (y < length p.nets) × (width_at p.widths x ≡ width_at p.widths y) × (width_at p.widths x ≤ MAX_NUMBER_WIDTH)
  number_fits p x y v le cx cy = (cx.below, cy.below, cx.wide ∙ sym cy.wide, subst (λ k. k ≤ MAX_NUMBER_WIDTH) (sym cx.wide) le)

  abbrev Known : Type 0
  Known = (formula : Formula) × ((width : ℕ) → size widths formula ≡ Some width → FitsAs (making variables formula) width)

  abbrev bare : Formula-F Known → Formula-F Formula
  bare = folds.map-Formula Known Formula (λ e. e.0)

  abbrev formulas : List Known → List Formula
  formulas = map (λ (e : Known). e.0)

  join_wide : (half : Half) (v w : ℕ) → v + w ≤ MAX_WIDTH → (p : Plan) (x y : ℕ) → Carries p x v → Carries p y w → Fits (join_net half x y) (length p.nets) p.widths × (width_in (join_net half x y) p.widths ≡ v + w)
  join_wide High v w le p x y cx cy = concat_wide p x y v w (v + w) le refl cx cy
  join_wide Low v w le p x y cx cy = concat_wide p y x w v (v + w) (omega arith) (omega arith) cy cx

  join_fits : (half : Half) (so_far next : Making) (v w : ℕ) → v + w ≤ MAX_WIDTH → FitsAs so_far v → FitsAs next w → FitsAs (of_two (join_net half) so_far next) (v + w)
  join_fits half so_far next v w le f g = two_fits (join_net half) so_far next v w (v + w) (join_wide half v w le) f g

  rest_fits : (half : Half) (so_far : Making) (v : ℕ) (parts : List Known) (w : ℕ) → FitsAs so_far v → size_join (map (size widths) (formulas parts)) ≡ Some w → v + w ≤ MAX_WIDTH
      → FitsAs (joined_to half so_far (map (making variables) (formulas parts))) (v + w)
  rest_fits half so_far v [] w f e le = absurd (cc)
  rest_fits half so_far v (p ∷ []) w f e le = join_fits half so_far (making variables p.0) v w le f (p.1 w e)
  rest_fits half so_far v (p ∷ q ∷ ps) w f e le =
      let s = concat_size _ _ w e in
      let next = join_fits half so_far (making variables p.0) v s.0 (omega (arith, le, s.5)) f (p.1 s.0 s.2) in
      subst (λ k. FitsAs (joined_to half so_far (map (making variables) (formulas (p ∷ q ∷ ps)))) k) (omega (arith, s.5))
      (rest_fits half (of_two (join_net half) so_far (making variables p.0)) (v + s.0) (q ∷ ps) s.1 next s.3 (omega (arith, le, s.5)))

  parts_fit : (half : Half) (parts : List Known) (width : ℕ) → size_join (map (size widths) (formulas parts)) ≡ Some width → FitsAs (of_parts half (map (making variables) (formulas parts))) width
  parts_fit half [] width e = absurd (cc)
  parts_fit half (p ∷ []) width e = p.1 width e
  parts_fit half (p ∷ q ∷ ps) width e =
      let s = concat_size _ _ width e in
      subst (λ k. FitsAs (of_parts half (map (making variables) (formulas (p ∷ q ∷ ps)))) k) s.5
      (rest_fits half (making variables p.0) s.0 (q ∷ ps) s.1 (p.1 s.0 s.2) s.3 s.4)

  variable_fits : (i width : ℕ) → slice_get widths i ≡ Some width → FitsAs (standing (slice_index_or variables i 0)) width
  variable_fits i width e = record { at_end = λ plan at here c. record { fit = tt; carries = c.each i width e } }

  const_fits : (word : Bits) (width : ℕ) → length word ≡ width → FitsAs (lone (Const word)) width
  const_fits word width e = record { at_end = λ plan at here c. record { fit = (tt, tt); carries = carries_pushed plan (Const word) at width c.count here e } }

  slice_wide : (high low n width : ℕ) → low ≤ high → high < n → high - low + 1 ≡ width → (p : Plan) (x : ℕ) → Carries p x n → Fits (Slice x high low) (length p.nets) p.widths × (width_in (Slice x high low) p.widths ≡ width)
  slice_wide high low n width le lt e p x c = ((c.below, le, subst (λ k. high < k) (sym c.wide) lt), e)

  level_fits : (y : Formula-F Known) (width : ℕ) → size_step widths (folds.map-Formula Formula (Option ℕ) (size widths) (bare y)) ≡ Some width → FitsAs (making_step variables (folds.map-Formula Formula Making (making variables) (bare y))) width
  level_fits (Formula-F.Var i) width e = variable_fits i width e
  level_fits (Formula-F.Const word) width e = const_fits word width (same_Some (length word) width e)
  level_fits (Formula-F.Not a) width e = one_fits Not _ width width (λ p x c. (c.below, c.wide)) (a.1 width e)
  level_fits (Formula-F.And a b) width e = let s = both_sizes _ _ width e in same_fits And _ _ width (λ p x y cx cy. (fit_two p x y width cx cy, cx.wide)) (a.1 width s.0) (b.1 width s.1)
  level_fits (Formula-F.Or a b) width e = let s = both_sizes _ _ width e in same_fits Or _ _ width (λ p x y cx cy. (fit_two p x y width cx cy, cx.wide)) (a.1 width s.0) (b.1 width s.1)
  level_fits (Formula-F.Xor a b) width e = let s = both_sizes _ _ width e in same_fits Xor _ _ width (λ p x y cx cy. (fit_two p x y width cx cy, cx.wide)) (a.1 width s.0) (b.1 width s.1)
  level_fits (Formula-F.Add a b) width e =
      let n = number_size _ width e in
      let s = both_sizes _ _ width n.0 in
      same_fits Add _ _ width (λ p x y cx cy. (number_fits p x y width n.1 cx cy, cx.wide)) (a.1 width s.0) (b.1 width s.1)
  level_fits (Formula-F.Sub a b) width e =
      let n = number_size _ width e in
      let s = both_sizes _ _ width n.0 in
      same_fits Sub _ _ width (λ p x y cx cy. (number_fits p x y width n.1 cx cy, cx.wide)) (a.1 width s.0) (b.1 width s.1)
  level_fits (Formula-F.Equal a b) width e =
      let t = some_bit _ width e in
      let s = both_sizes _ _ t.0 t.1 in
      two_fits Equal _ _ t.0 t.0 width (λ p x y cx cy. (fit_two p x y t.0 cx cy, bit_size _ width e)) (a.1 t.0 s.0) (b.1 t.0 s.1)
  level_fits (Formula-F.Less a b) width e =
      let t = some_bit _ width e in
      let n = number_size _ t.0 t.1 in
      let s = both_sizes _ _ t.0 n.0 in
      two_fits Less _ _ t.0 t.0 width (λ p x y cx cy. (number_fits p x y t.0 n.1 cx cy, bit_size _ width e)) (a.1 t.0 s.0) (b.1 t.0 s.1)
  level_fits (Formula-F.Choose test one other) width e =
      let t = choose_size _ _ width e in
      let s = both_sizes _ _ width t.1 in
      three_fits Choose _ _ _ 1 width width width (λ p x y z cx cy cz. (fit_choice p x y z width cx cy cz, cy.wide)) (test.1 1 t.0) (one.1 width s.0) (other.1 width s.1)
  level_fits (Formula-F.Slice of high low) width e = let s = slice_size _ high low width e in one_fits (λ net. Slice net high low) _ s.0 width (slice_wide high low s.0 width s.2 s.3 s.4) (of.1 s.0 s.1)
  level_fits (Formula-F.Concat high low High) width e =
      let s = concat_size _ _ width e in
      two_fits Concat _ _ s.0 s.1 width (λ p x y cx cy. concat_wide p x y s.0 s.1 width s.4 s.5 cx cy) (high.1 s.0 s.2) (low.1 s.1 s.3)
  level_fits (Formula-F.Concat high low Low) width e =
      let s = concat_size _ _ width e in
      two_fits (λ l h. Concat h l) _ _ s.1 s.0 width (λ p y x cy cx. concat_wide p x y s.0 s.1 width s.4 s.5 cx cy) (low.1 s.1 s.3) (high.1 s.0 s.2)
  level_fits (Formula-F.Join parts so_far) width e = parts_fit so_far parts width e

  rolled : (y : Formula-F Known) (width : ℕ) → size widths (roll-Formula (bare y)) ≡ Some width → FitsAs (making variables (roll-Formula (bare y))) width
  rolled y width e =
      subst (λ m. FitsAs m width) (sym (folds.fold-roll-Formula Making (making_step variables) (bare y))) (level_fits y width (sym (folds.fold-roll-Formula (Option ℕ) (size_step widths) (bare y)) ∙ e))

  formula_fits : (formula : Formula) (width : ℕ) → size widths formula ≡ Some width → FitsAs (making variables formula) width
  formula_fits =
      folds.ind-Formula (λ formula. (width : ℕ) → size widths formula ≡ Some width → FitsAs (making variables formula) width)
      (λ x y e. subst (λ x. (width : ℕ) → size widths (roll-Formula x) ≡ Some width → FitsAs (making variables (roll-Formula x)) width) e (rolled y))

  fits_behind : (plan : Plan) (formula : Formula) (width at : ℕ) → size widths formula ≡ Some width → at ≡ length plan.nets → AreCarried plan → FitsBehind plan (making variables formula at) width
  fits_behind plan formula width at e here c = (formula_fits formula width e).at_end plan at here c

  pub all_fit : (plan : Plan) (formula : Formula) (width at : ℕ) → size widths formula ≡ Some width → at ≡ length plan.nets → AreCarried plan → FitAll plan (formula_nets variables formula at)
  all_fit plan formula width at e here c = (fits_behind plan formula width at e here c).fit

  pub last_carries : (plan : Plan) (formula : Formula) (width at : ℕ) → size widths formula ≡ Some width → at ≡ length plan.nets → AreCarried plan → Carries (with_nets plan (formula_nets variables formula at)) (formula_net variables formula at) width
  last_carries plan formula width at e here c = (fits_behind plan formula width at e here c).carries

-- the same, of a formula that may be pushed
carried_widths : (plan : Plan) (variables : List ℕ) (formula : Formula) → length plan.widths ≡ length plan.nets → IsFormulaReady plan variables formula → AreCarried variables (map (width_at plan.widths) variables) plan
carried_widths plan variables formula count r = record {
  count = count;
  each = λ i w e.
      let all : List ℕ = map (width_at plan.widths) variables in
      let lt : i < length variables = subst (λ k. i < k) (length-map variables (width_at plan.widths)) (slice_get_within all i w e) in
      record { below = r.standing i lt; wide = sym (get_or-map (width_at plan.widths) variables i 0 0 lt) ∙ get_or_from_slice_get all i w 0 e };
}

fits_of : (plan : Plan) (variables : List ℕ) (formula : Formula) (width : Option ℕ) → formula_size plan variables formula ≡ width → IsSome width → length plan.widths ≡ length plan.nets → IsFormulaReady plan variables formula
    → FitAll plan (formula_nets variables formula (length plan.nets))
fits_of plan variables formula None e good count r = absurd (cc)
fits_of plan variables formula (Some width) e good count r = all_fit variables (map (width_at plan.widths) variables) plan formula width (length plan.nets) e refl (carried_widths plan variables formula count r)

pub ready_fits : (plan : Plan) (variables : List ℕ) (formula : Formula) → length plan.widths ≡ length plan.nets → IsFormulaReady plan variables formula → FitAll plan (formula_nets variables formula (length plan.nets))
ready_fits plan variables formula count r = fits_of plan variables formula (formula_size plan variables formula) refl r.good count r

pub ready_carries : (plan : Plan) (variables : List ℕ) (formula : Formula) (width : ℕ) → length plan.widths ≡ length plan.nets → IsFormulaReady plan variables formula → formula_size plan variables formula ≡ Some width
    → Carries (with_nets plan (formula_nets variables formula (length plan.nets))) (formula_net variables formula (length plan.nets)) width
ready_carries plan variables formula width count r e = last_carries variables (map (width_at plan.widths) variables) plan formula width (length plan.nets) e refl (carried_widths plan variables formula count r)

pub listed_fits : (plan : Plan) (variables : List ℕ) (formula : Formula) (base : ℕ) (all : List Net) → IsPlan plan → IsFormulaReady plan variables formula → base ≡ length plan.nets → all ≡ formula_nets variables formula base → FitAll plan all
listed_fits plan variables formula base all kept r here is =
    subst (λ ns. FitAll plan ns) (sym (is ∙ ap (formula_nets variables formula) here)) (ready_fits plan variables formula kept.width_count r)

pub listed_carries : (plan new : Plan) (variables : List ℕ) (formula : Formula) (base net : ℕ) (all : List Net) → IsPlan plan → IsFormulaReady plan variables formula → base ≡ length plan.nets → all ≡ formula_nets variables formula base
    → net ≡ formula_net variables formula base → new ≡ with_nets plan all → (width : ℕ) → formula_size plan variables formula ≡ Some width → Carries new net width
listed_carries plan new variables formula base net all kept r here is net_is pushed width e =
    subst (λ (p : Plan). Carries p net width) (sym (pushed ∙ ap (with_nets plan) (is ∙ ap (formula_nets variables formula) here)))
    (subst (λ n. Carries (with_nets plan (formula_nets variables formula (length plan.nets))) n width) (sym (net_is ∙ ap (formula_net variables formula) here)) (ready_carries plan variables formula width kept.width_count r e))

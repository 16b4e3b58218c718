-- Listed nets are the nets of the formula, where there is room for all of them; else the listing is refused.
use Rattle.std.specs.Prelude.{◌≡◌, ℕ, ◌+◌, ◌<◌, ◌≤◌, List, [], ◌∷◌, ◌++◌, Some, None, Ok, Err, length, map, nat_lt, true, false, refl}
use Rattle.std.specs.List.{slice_index_or}
use Rattle.std.proofs.Common.{sym, ◌∙◌, ap, subst, arith, inl, inr, length-append, append_assoc}
use Rattle.std.proofs.lemmas.Bool.{cases_lt, cond-true, cond-false}
use Rattle.std.proofs.lemmas.Bool.Decides.{nat_tests}
use Rattle.esi_base.specs.Answers.{◌>>=◌}
use Rattle.netlist.specs.declared.limits.TheConstants.{MAX_NETS}
use Rattle.netlist.specs.declared.net.Net.{Net}
use Rattle.netlist.specs.declared.net.Net.TheVariants.{Const, Not, And, Or, Xor, Add, Sub, Equal, Less, Choose, Slice, Concat}
use Rattle.netlist.specs.declared.netlist.NetRefused.TheVariants.{TooMany}
use Rattle.netlist.specs.declared.formula.Half.{Half}
use Rattle.netlist.specs.declared.formula.Half.TheVariants.{High, Low}
use Rattle.netlist.specs.declared.formula.Formula.{Formula}
use Rattle.netlist.specs.declared.formula.Formula.TheOpen.{Formula-F}
use Rattle.netlist.specs.declared.formula.Formula.TheViews.{roll-Formula}
use Rattle.netlist.specs.declared.formula.Formula.TheFolds as folds
use Rattle.formula_nets.specs.Making.{Made, Making, standing, lone, of_one, of_two, of_three, join_net, joined_to, of_parts, making_step, making}
use Rattle.formula_nets.specs.Posting.{Listed, Listing, added, join_all, list_one, list_two, list_three, listing_step, listing}

-- what a list of nets becomes, where there is room for what is made, and where there is not
pub record ListsMade (nets : List Net) (at : ℕ) (made : Made) (result : Listed) : Type 0 where
  pub fits : at + length made.nets ≤ MAX_NETS → result ≡ Ok (made.net, nets ++ made.nets)
  pub full : MAX_NETS < at + length made.nets → result ≡ Err TooMany

append_none : {A : Type 0} (xs : List A) → xs ≡ xs ++ []
append_none [] = refl
append_none (x ∷ xs) = ap (λ ys. x ∷ ys) (append_none xs)

lt_test : (a b : ℕ) → a < b → nat_lt a b ≡ true
lt_test a b h = grind (arith, nat_tests)

ge_test : (a b : ℕ) → b ≤ a → nat_lt a b ≡ false
ge_test a b h = grind (arith, nat_tests)

bind_ok : (m : Listed) → (m >>= λ s. Ok (s.0, s.1)) ≡ m
bind_ok (Ok s) = refl
bind_ok (Err e) = refl

bind_bind : (m : Listed) (f g : ℕ × List Net → Listed) → ((m >>= f) >>= g) ≡ (m >>= λ s. f s >>= g)
bind_bind (Ok s) f g = refl
bind_bind (Err e) f g = refl

bind_two : (m : Listed) (f : Listing) (own : ℕ × List Net → ℕ × List Net → Listed) (g : ℕ × List Net → Listed) → ((m >>= λ s. f s.1 >>= λ r. own s r) >>= g) ≡ (m >>= λ s. f s.1 >>= λ r. own s r >>= g)
bind_two (Ok s) f own g = bind_bind (f s.1) (own s) g
bind_two (Err e) f own g = refl

module _ (base : ℕ) where
  pub record Follows (run : Listing) (m : Making) : Type 0 where
    pub each : (nets : List Net) (at : ℕ) → at ≡ base + length nets → at ≤ MAX_NETS → ListsMade nets at (m at) (run nets)

  added_fits : (net : Net) (nets front all : List Net) (place : ℕ) → all ≡ nets ++ front → place ≡ base + length all → place < MAX_NETS → added base net all ≡ Ok (place, nets ++ (front ++ net ∷ []))
  added_fits net nets front all place is here room =
      let test : nat_lt (base + length all) MAX_NETS ≡ true = ap (λ k. nat_lt k MAX_NETS) (sym here) ∙ lt_test place MAX_NETS room in
      cond-true (nat_lt (base + length all) MAX_NETS) (Ok (base + length all, all ++ net ∷ [])) (Err TooMany) test
      ∙ ap (λ k. Ok (k, all ++ net ∷ [])) (sym here)
      ∙ ap (λ ns. Ok (place, ns)) (ap (λ ns. ns ++ net ∷ []) is ∙ append_assoc nets front (net ∷ []))

  added_full : (net : Net) (all : List Net) (place : ℕ) → place ≡ base + length all → MAX_NETS ≤ place → added base net all ≡ Err TooMany
  added_full net all place here full =
      let test : nat_lt (base + length all) MAX_NETS ≡ false = ap (λ k. nat_lt k MAX_NETS) (sym here) ∙ ge_test place MAX_NETS full in
      cond-false (nat_lt (base + length all) MAX_NETS) (Ok (base + length all, all ++ net ∷ [])) (Err TooMany) test

  lone_follows : (own : Net) → Follows (added base own) (lone own)
  lone_follows own = record {
    each = λ nets at here le. record {
      fits = λ room. added_fits own nets [] nets at (append_none nets) here (omega (arith, room));
      full = λ full. added_full own nets at here (omega (arith, full));
    };
  }

  standing_follows : (net : ℕ) → Follows (λ nets. Ok (net, nets)) (standing net)
  standing_follows net = record {
    each = λ nets at here le. record {
      fits = λ room. ap (λ ns. Ok (net, ns)) (append_none nets);
      full = λ full. absurd (omega (arith, full, le));
    };
  }

  one_follows : (own : ℕ → Net) (f : Listing) (a : Making) → Follows f a → Follows (list_one base own f) (of_one own a)
  one_follows own f a h = record {
    each = λ nets at here le.
        let x = a at in
        let one = h.each nets at here le in
        let k : ℕ × List Net → Listed = λ r. added base (own r.0) r.1 in
        let count : length (x.nets ++ own x.net ∷ []) ≡ length x.nets + 1 = length-append x.nets (own x.net ∷ []) in
        let here1 : at + length x.nets ≡ base + length (nets ++ x.nets) = omega (arith, here, length-append nets x.nets) in
        record {
          fits = λ room. ap (λ r. r >>= k) (one.fits (omega (arith, room, count))) ∙ added_fits (own x.net) nets x.nets (nets ++ x.nets) (at + length x.nets) refl here1 (omega (arith, room, count));
          full = λ full.
              elim (cases_lt MAX_NETS (at + length x.nets)) [
                | inl lt ↦ ap (λ r. r >>= k) (one.full lt)
                | inr ge ↦ ap (λ r. r >>= k) (one.fits ge) ∙ added_full (own x.net) (nets ++ x.nets) (at + length x.nets) here1 (omega (arith, full, count))
              ];
        };
  }

  two_follows : (own : ℕ → ℕ → Net) (f g : Listing) (a b : Making) → Follows f a → Follows g b → Follows (list_two base own f g) (of_two own a b)
  two_follows own f g a b h i = record {
    each = λ nets at here le.
        let x = a at in
        let y = b (at + length x.nets) in
        let one = h.each nets at here le in
        let k2 : ℕ → ℕ × List Net → Listed = λ n s. added base (own n s.0) s.1 in
        let k1 : ℕ × List Net → Listed = λ r. g r.1 >>= k2 r.0 in
        let here1 : at + length x.nets ≡ base + length (nets ++ x.nets) = omega (arith, here, length-append nets x.nets) in
        let here2 : at + length x.nets + length y.nets ≡ base + length ((nets ++ x.nets) ++ y.nets) = omega (arith, here1, length-append (nets ++ x.nets) y.nets) in
        let count : length (x.nets ++ y.nets ++ own x.net y.net ∷ []) ≡ length x.nets + length y.nets + 1 = length-append (x.nets ++ y.nets) (own x.net y.net ∷ []) ∙ ap (λ n. n + 1) (length-append x.nets y.nets) in
        record {
          fits = λ room.
              let two = i.each (nets ++ x.nets) (at + length x.nets) here1 (omega (arith, room, count)) in
              ap (λ r. r >>= k1) (one.fits (omega (arith, room, count)))
              ∙ ap (λ r. r >>= k2 x.net) (two.fits (omega (arith, room, count)))
              ∙ added_fits (own x.net y.net) nets (x.nets ++ y.nets) ((nets ++ x.nets) ++ y.nets) (at + length x.nets + length y.nets) (append_assoc nets x.nets y.nets) here2 (omega (arith, room, count));
          full = λ full.
              elim (cases_lt MAX_NETS (at + length x.nets)) [
                | inl lt ↦ ap (λ r. r >>= k1) (one.full lt)
                | inr ge ↦
                    let two = i.each (nets ++ x.nets) (at + length x.nets) here1 ge in
                    ap (λ r. r >>= k1) (one.fits ge)
                    ∙ elim (cases_lt MAX_NETS (at + length x.nets + length y.nets)) [
                      | inl lt ↦ ap (λ r. r >>= k2 x.net) (two.full lt)
                      | inr ge' ↦ ap (λ r. r >>= k2 x.net) (two.fits ge') ∙ added_full (own x.net y.net) ((nets ++ x.nets) ++ y.nets) (at + length x.nets + length y.nets) here2 (omega (arith, full, count))
                    ]
              ];
        };
  }

  three_follows : (own : ℕ → ℕ → ℕ → Net) (f g l : Listing) (a b c : Making) → Follows f a → Follows g b → Follows l c → Follows (list_three base own f g l) (of_three own a b c)
  three_follows own f g l a b c h i j = record {
    each = λ nets at here le.
        let x = a at in
        let y = b (at + length x.nets) in
        let z = c (at + length x.nets + length y.nets) in
        let one = h.each nets at here le in
        let k3 : ℕ → ℕ → ℕ × List Net → Listed = λ n m t. added base (own n m t.0) t.1 in
        let k2 : ℕ → ℕ × List Net → Listed = λ n s. l s.1 >>= k3 n s.0 in
        let k1 : ℕ × List Net → Listed = λ r. g r.1 >>= k2 r.0 in
        let xs : List Net = nets ++ x.nets in
        let ys : List Net = xs ++ y.nets in
        let zs : List Net = ys ++ z.nets in
        let at1 = at + length x.nets in
        let at2 = at1 + length y.nets in
        let at3 = at2 + length z.nets in
        let here1 : at1 ≡ base + length xs = omega (arith, here, length-append nets x.nets) in
        let here2 : at2 ≡ base + length ys = omega (arith, here1, length-append xs y.nets) in
        let here3 : at3 ≡ base + length zs = omega (arith, here2, length-append ys z.nets) in
        let own' = own x.net y.net z.net in
        let front : List Net = x.nets ++ y.nets ++ z.nets in
        let count : length (front ++ own' ∷ []) ≡ length x.nets + length y.nets + length z.nets + 1 = length-append front (own' ∷ []) ∙ ap (λ n. n + 1) (length-append (x.nets ++ y.nets) z.nets ∙ ap (λ n. n + length z.nets) (length-append x.nets y.nets)) in
        let all : zs ≡ nets ++ front = ap (λ ns. ns ++ z.nets) (append_assoc nets x.nets y.nets) ∙ append_assoc nets (x.nets ++ y.nets) z.nets in
        record {
          fits = λ room.
              let two = i.each xs at1 here1 (omega (arith, room, count)) in
              let three = j.each ys at2 here2 (omega (arith, room, count)) in
              ap (λ r. r >>= k1) (one.fits (omega (arith, room, count)))
              ∙ ap (λ r. r >>= k2 x.net) (two.fits (omega (arith, room, count)))
              ∙ ap (λ r. r >>= k3 x.net y.net) (three.fits (omega (arith, room, count)))
              ∙ added_fits own' nets front zs at3 all here3 (omega (arith, room, count));
          full = λ full.
              elim (cases_lt MAX_NETS at1) [
                | inl lt ↦ ap (λ r. r >>= k1) (one.full lt)
                | inr ge ↦
                    let two = i.each xs at1 here1 ge in
                    ap (λ r. r >>= k1) (one.fits ge)
                    ∙ elim (cases_lt MAX_NETS at2) [
                      | inl lt ↦ ap (λ r. r >>= k2 x.net) (two.full lt)
                      | inr ge' ↦
                          let three = j.each ys at2 here2 ge' in
                          ap (λ r. r >>= k2 x.net) (two.fits ge')
                          ∙ elim (cases_lt MAX_NETS at3) [
                            | inl lt ↦ ap (λ r. r >>= k3 x.net y.net) (three.full lt)
                            | inr ge'' ↦ ap (λ r. r >>= k3 x.net y.net) (three.fits ge'') ∙ added_full own' zs at3 here3 (omega (arith, full, count))
                          ]
                    ]
              ];
        };
  }

  module _ (variables : List ℕ) where
    abbrev Known : Type 0
    Known = (formula : Formula) × Follows (listing variables base formula) (making variables formula)

    abbrev bare : Formula-F Known → Formula-F Formula
    bare = folds.map-Formula Known Formula (λ e. e.0)

    abbrev formulas : List Known → List Formula
    formulas = map (λ (e : Known). e.0)

    rest_follows : (half : Half) (run : Listing) (m : Making) (parts : List Known) → Follows run m → Follows (λ nets. run nets >>= λ s. join_all base half (Some s.0) (map (listing variables base) (formulas parts)) s.1) (joined_to half m (map (making variables) (formulas parts)))
    rest_follows half run m [] f = record {
      each = λ nets at here le.
          let g = f.each nets at here le in
          record { fits = λ room. bind_ok (run nets) ∙ g.fits room; full = λ full. bind_ok (run nets) ∙ g.full full };
    }
    rest_follows half run m (p ∷ ps) f = record {
      each = λ nets at here le.
          let more = two_follows (join_net half) run (listing variables base p.0) m (making variables p.0) f p.1 in
          let g = (rest_follows half (list_two base (join_net half) run (listing variables base p.0)) (of_two (join_net half) m (making variables p.0)) ps more).each nets at here le in
          let same = bind_two (run nets) (listing variables base p.0) (λ s r. added base (join_net half s.0 r.0) r.1) (λ q. join_all base half (Some q.0) (map (listing variables base) (formulas ps)) q.1) in
          record { fits = λ room. sym same ∙ g.fits room; full = λ full. sym same ∙ g.full full };
    }

    parts_follow : (half : Half) (parts : List Known) → Follows (join_all base half None (map (listing variables base) (formulas parts))) (of_parts half (map (making variables) (formulas parts)))
    parts_follow half [] = standing_follows 0
    parts_follow half (p ∷ ps) = rest_follows half (listing variables base p.0) (making variables p.0) ps p.1

    level_follows : (y : Formula-F Known) → Follows (listing_step variables base (folds.map-Formula Formula Listing (listing variables base) (bare y))) (making_step variables (folds.map-Formula Formula Making (making variables) (bare y)))
    level_follows (Formula-F.Var i) = standing_follows (slice_index_or variables i 0)
    level_follows (Formula-F.Const word) = lone_follows (Const word)
    level_follows (Formula-F.Not a) = one_follows Not _ _ a.1
    level_follows (Formula-F.And a b) = two_follows And _ _ _ _ a.1 b.1
    level_follows (Formula-F.Or a b) = two_follows Or _ _ _ _ a.1 b.1
    level_follows (Formula-F.Xor a b) = two_follows Xor _ _ _ _ a.1 b.1
    level_follows (Formula-F.Add a b) = two_follows Add _ _ _ _ a.1 b.1
    level_follows (Formula-F.Sub a b) = two_follows Sub _ _ _ _ a.1 b.1
    level_follows (Formula-F.Equal a b) = two_follows Equal _ _ _ _ a.1 b.1
    level_follows (Formula-F.Less a b) = two_follows Less _ _ _ _ a.1 b.1
    level_follows (Formula-F.Choose test one other) = three_follows Choose _ _ _ _ _ _ test.1 one.1 other.1
    level_follows (Formula-F.Slice of high low) = one_follows (λ net. Slice net high low) _ _ of.1
    level_follows (Formula-F.Concat high low High) = two_follows Concat _ _ _ _ high.1 low.1
    level_follows (Formula-F.Concat high low Low) = two_follows (λ l h. Concat h l) _ _ _ _ low.1 high.1
    level_follows (Formula-F.Join parts so_far) = parts_follow so_far parts

    rolled : (y : Formula-F Known) → Follows (listing variables base (roll-Formula (bare y))) (making variables (roll-Formula (bare y)))
    rolled y =
        subst (λ run. Follows run (making variables (roll-Formula (bare y)))) (sym (folds.fold-roll-Formula Listing (listing_step variables base) (bare y)))
        (subst (λ m. Follows (listing_step variables base (folds.map-Formula Formula Listing (listing variables base) (bare y))) m) (sym (folds.fold-roll-Formula Making (making_step variables) (bare y))) (level_follows y))

    pub formula_follows : (formula : Formula) → Follows (listing variables base formula) (making variables formula)
    formula_follows = folds.ind-Formula (λ formula. Follows (listing variables base formula) (making variables formula)) (λ x y e. subst (λ x. Follows (listing variables base (roll-Formula x)) (making variables (roll-Formula x))) e (rolled y))

-- from an empty list on

pub listed_made : (variables : List ℕ) (formula : Formula) (base : ℕ) → base ≤ MAX_NETS → ListsMade [] base (making variables formula base) (listing variables base formula [])
listed_made variables formula base le = (formula_follows base variables formula).each [] base (omega arith) le

same_listed : (net made : ℕ) (nets all : List Net) → ◌≡◌ {A = Listed} (Ok (net, nets)) (Ok (made, all)) → (net ≡ made) × (nets ≡ all)
same_listed net made nets all e = let p : ◌≡◌ {A = ℕ × List Net} (net, nets) (made, all) = cc in (ap (λ (q : ℕ × List Net). q.0) p, ap (λ (q : ℕ × List Net). q.1) p)

-- what was listed is what is made
pub listed_is : (variables : List ℕ) (formula : Formula) (base net : ℕ) (nets : List Net) → base ≤ MAX_NETS → listing variables base formula [] ≡ Ok (net, nets) → (net ≡ (making variables formula base).net) × (nets ≡ (making variables formula base).nets)
listed_is variables formula base net nets le e =
    let made = making variables formula base in
    let lists = listed_made variables formula base le in
    elim (cases_lt MAX_NETS (base + length made.nets)) [
      | inl lt ↦ let no : ◌≡◌ {A = Listed} (Ok (net, nets)) (Err TooMany) = sym e ∙ lists.full lt in absurd (cc)
      | inr ge ↦ same_listed net made.net nets made.nets (sym e ∙ lists.fits ge)
    ]

-- what was refused has no room
pub refused_is : (variables : List ℕ) (formula : Formula) (base : ℕ) → base ≤ MAX_NETS → listing variables base formula [] ≡ Err TooMany → MAX_NETS < base + length (making variables formula base).nets
refused_is variables formula base le e =
    let made = making variables formula base in
    let lists = listed_made variables formula base le in
    elim (cases_lt MAX_NETS (base + length made.nets)) [
      | inl lt ↦ lt
      | inr ge ↦ let no : ◌≡◌ {A = Listed} (Ok (made.net, made.nets)) (Err TooMany) = sym (lists.fits ge) ∙ e in absurd (cc)
    ]

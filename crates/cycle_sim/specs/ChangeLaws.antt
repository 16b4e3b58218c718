-- Laws of changes and marks.
use Rattle.std.specs.Prelude.{◌≡◌, ℕ, zero, suc, ◌+◌, ◌<◌, ◌≤◌, ◌==◌, ◌||◌, ◌&&◌, Bool, true, false, not, if◌then◌else◌, List, [], ◌∷◌, Option, Some, None, length, map, take, count_by, refl}
use Rattle.std.specs.List.{AllByRecursion}
use Rattle.std.proofs.Common.{sym, ◌∙◌, ap, subst, arith, inl, inr, get_or, set}
use Rattle.std.proofs.lemmas.Bool.{cases_eq, cases_Bool, cases_lt, eq-eqb, ne_eqb, not_from_true, not-false, or_parts}
use Rattle.std.proofs.lemmas.List.{get_or-set_same, get_or-set_other, get_or_past, set_past, length-set}
use Rattle.std.proofs.lemmas.List.Sums.{count_by_more_yes, count_by_more_no}
use Rattle.esi_base.specs.Bits.{same_bits}
use Rattle.esi_base.specs.BitLists.{same_bits-true}
use Rattle.netlist.specs.declared.net.Net.{Net}
use Rattle.netlist.specs.declared.net.Net.TheVariants.{Input, Register, Not}
use Rattle.netlist.specs.Nets.{Bits, word_at, sources, is_computed}
use Rattle.cycle_sim.specs.Changes.{is_changed, some_differs, is_evaluated, is_marked, is_among, with_marks, marks_put}

-- ---- words that are the same

pub unchanged_same : (old new : Bits) → is_changed old new ≡ false → old ≡ new
unchanged_same old new e = (same_bits-true old new).0 (not-false (same_bits old new) e)

pub same_unchanged : (old new : Bits) → old ≡ new → is_changed old new ≡ false
same_unchanged old new e = not_from_true (same_bits old new) ((same_bits-true old new).1 e)

-- ---- a word that is set

module _ (words : List Bits) (p : ℕ) (w : Bits) where
  pub word_at-set_same : p < length words → word_at (set words p w) p ≡ w
  word_at-set_same lt = get_or-set_same words p w [] lt

  pub word_at-set_other : (i : ℕ) → (i ≡ p → ⊥) → word_at (set words p w) i ≡ word_at words i
  word_at-set_other i ne = get_or-set_other words p i w [] ne

first_of_it : (c s a : Bool) → (c || (s || (a && c))) ≡ ((false || s) || (true && c))
first_of_it true true true = refl
first_of_it true true false = refl
first_of_it true false true = refl
first_of_it true false false = refl
first_of_it false true true = refl
first_of_it false true false = refl
first_of_it false false true = refl
first_of_it false false false = refl

another_of_it : (d c s a : Bool) → (d || (s || (a && c))) ≡ ((d || s) || ((false || a) && c))
another_of_it true c s a = refl
another_of_it false c true a = refl
another_of_it false c false a = refl

-- what differs from before, when one word is set that was as before
pub some_differs-set : (before words : List Bits) (p : ℕ) (w : Bits) (js : List ℕ) → p < length words → word_at before p ≡ word_at words p
    → some_differs before (set words p w) js ≡ (some_differs before words js || (is_among js p && is_changed (word_at words p) w))
some_differs-set before words p w [] lt same = refl
some_differs-set before words p w (j ∷ js) lt same =
    let rest = some_differs-set before words p w js lt same in
    let c = is_changed (word_at words p) w in
    let s = some_differs before words js in
    let a = is_among js p in
    elim (cases_eq j p) [
      | inl e ↦
          let here : is_changed (word_at before j) (word_at (set words p w) j) ≡ c =
          ap (λ k. is_changed (word_at before k) (word_at (set words p w) k)) e ∙ ap (λ x. is_changed (word_at before p) x) (word_at-set_same words p w lt) ∙ ap (λ x. is_changed x w) same in
          let was : is_changed (word_at before j) (word_at words j) ≡ false = same_unchanged (word_at before j) (word_at words j) (subst (λ k. word_at before k ≡ word_at words k) (sym e) same) in
          ap (λ d. d || some_differs before (set words p w) js) here ∙ ap (λ r. c || r) rest ∙ first_of_it c s a
          ∙ ap (λ d. (d || s) || (true && c)) (sym was) ∙ ap (λ q. (is_changed (word_at before j) (word_at words j) || s) || (q && c)) (sym (ap (λ q. q || a) (eq-eqb j p e)))
      | inr ne ↦
          let here : is_changed (word_at before j) (word_at (set words p w) j) ≡ is_changed (word_at before j) (word_at words j) = ap (λ x. is_changed (word_at before j) x) (word_at-set_other words p w j ne) in
          ap (λ d. d || some_differs before (set words p w) js) here ∙ ap (λ r. is_changed (word_at before j) (word_at words j) || r) rest
          ∙ another_of_it (is_changed (word_at before j) (word_at words j)) c s a
          ∙ ap (λ q. (is_changed (word_at before j) (word_at words j) || s) || ((q || a) && c)) (sym (ne_eqb j p ne))
    ]

-- ---- marks that are set

or_test : (m b : Bool) → (m || (false && b)) ≡ m
or_test true b = refl
or_test false b = refl

pub is_marked-set : (marks : List Bool) (u i : ℕ) → i < length marks → is_marked (set marks u true) i ≡ (is_marked marks i || (u == i))
is_marked-set marks u i lt =
    elim (cases_eq i u) [
      | inl e ↦
          let within : u < length marks = subst (λ k. k < length marks) e lt in
          ap (λ k. is_marked (set marks u true) k) e ∙ get_or-set_same marks u true false within ∙ sym (or_from_right (is_marked marks i) (u == i) (eq-eqb u i (sym e)))
      | inr ne ↦ get_or-set_other marks u i true false ne ∙ sym (or_from_none (is_marked marks i) (u == i) (ne_eqb u i (λ e. ne (sym e))))
    ]
  where
    or_from_right : (x y : Bool) → y ≡ true → (x || y) ≡ true
    or_from_right true y e = refl
    or_from_right false y e = e

    or_from_none : (x y : Bool) → y ≡ false → (x || y) ≡ x
    or_from_none true y e = refl
    or_from_none false y e = e

pub is_marked-cleared : (marks : List Bool) (u i : ℕ) → (i ≡ u → ⊥) → is_marked (set marks u false) i ≡ is_marked marks i
is_marked-cleared marks u i ne = get_or-set_other marks u i false false ne

pub is_marked-cleared_same : (marks : List Bool) (u : ℕ) → is_marked (set marks u false) u ≡ false
is_marked-cleared_same marks u =
    elim (cases_lt u (length marks)) [
      | inl lt ↦ get_or-set_same marks u false false lt
      | inr ge ↦ ap (λ ms. is_marked ms u) (set_past marks u false ge) ∙ get_or_past marks u false ge
    ]

chosen_mark : (chosen : ℕ → Bool) (u i : ℕ) (m a : Bool) → chosen u ≡ true → ((m || (u == i)) || (chosen i && a)) ≡ (m || (chosen i && ((u == i) || a)))
chosen_mark chosen u i m a c =
    elim (cases_eq u i) [
      | inl e ↦
          let t : (u == i) ≡ true = eq-eqb u i e in
          let ci : chosen i ≡ true = ap chosen (sym e) ∙ c in
          ap (λ q. (m || q) || (chosen i && a)) t ∙ ap (λ q. (m || true) || (q && a)) ci ∙ both m a ∙ ap (λ q. m || (q && (true || a))) (sym ci) ∙ ap (λ q. m || (chosen i && (q || a))) (sym t)
      | inr ne ↦
          let t : (u == i) ≡ false = ne_eqb u i ne in
          ap (λ q. (m || q) || (chosen i && a)) t ∙ neither m (chosen i && a) ∙ ap (λ q. m || (chosen i && (q || a))) (sym t)
    ]
  where
    both : (m a : Bool) → ((m || true) || (true && a)) ≡ (m || (true && (true || a)))
    both true a = refl
    both false a = refl

    neither : (m b : Bool) → ((m || false) || b) ≡ (m || b)
    neither true b = refl
    neither false b = refl

passed_mark : (chosen : ℕ → Bool) (u i : ℕ) (m a : Bool) → chosen u ≡ false → (m || (chosen i && a)) ≡ (m || (chosen i && ((u == i) || a)))
passed_mark chosen u i m a c =
    elim (cases_eq u i) [
      | inl e ↦
          let ci : chosen i ≡ false = ap chosen (sym e) ∙ c in
          ap (λ q. m || (q && a)) ci ∙ ap (λ q. m || (q && ((u == i) || a))) (sym ci)
      | inr ne ↦ ap (λ q. m || (chosen i && (q || a))) (sym (ne_eqb u i ne))
    ]

none_chosen : (m c : Bool) → m ≡ (m || (c && false))
none_chosen true c = refl
none_chosen false true = refl
none_chosen false false = refl

pub length-with_marks : (chosen : ℕ → Bool) (us : List ℕ) (marks : List Bool) → length (with_marks chosen us marks) ≡ length marks
length-with_marks chosen [] marks = refl
length-with_marks chosen (u ∷ us) marks = length-with_marks chosen us (if chosen u then set marks u true else marks) ∙ kept (chosen u)
  where
    kept : (b : Bool) → length (if b then set marks u true else marks) ≡ length marks
    kept true = length-set marks u true
    kept false = refl

pub is_marked-with_marks : (chosen : ℕ → Bool) (us : List ℕ) (marks : List Bool) (i : ℕ) → i < length marks → is_marked (with_marks chosen us marks) i ≡ (is_marked marks i || (chosen i && is_among us i))
is_marked-with_marks chosen [] marks i lt = none_chosen (is_marked marks i) (chosen i)
is_marked-with_marks chosen (u ∷ us) marks i lt =
    elim (cases_Bool (chosen u)) [
      | inl c ↦
          ap (λ b. is_marked (with_marks chosen us (if b then set marks u true else marks)) i) c
          ∙ is_marked-with_marks chosen us (set marks u true) i (subst (λ k. i < k) (sym (length-set marks u true)) lt)
          ∙ ap (λ m. m || (chosen i && is_among us i)) (is_marked-set marks u i lt)
          ∙ chosen_mark chosen u i (is_marked marks i) (is_among us i) c
      | inr c ↦
          ap (λ b. is_marked (with_marks chosen us (if b then set marks u true else marks)) i) c
          ∙ is_marked-with_marks chosen us marks i lt
          ∙ passed_mark chosen u i (is_marked marks i) (is_among us i) c
    ]

pub length-marks_put : (chosen : ℕ → Bool) (us : List ℕ) (old new : Bits) (marks : List Bool) → length (marks_put chosen us old new marks) ≡ length marks
length-marks_put chosen us old new marks = kept (is_changed old new)
  where
    kept : (b : Bool) → length (if b then with_marks chosen us marks else marks) ≡ length marks
    kept true = length-with_marks chosen us marks
    kept false = refl

pub is_marked-put : (chosen : ℕ → Bool) (us : List ℕ) (old new : Bits) (marks : List Bool) (i : ℕ) → i < length marks
    → is_marked (marks_put chosen us old new marks) i ≡ (is_marked marks i || ((chosen i && is_among us i) && is_changed old new))
is_marked-put chosen us old new marks i lt = by_test (is_changed old new)
  where
    all : (b : Bool) → b ≡ (b && true)
    all true = refl
    all false = refl

    none' : (m b : Bool) → m ≡ (m || (b && false))
    none' = none_chosen

    by_test : (t : Bool) → is_marked (if t then with_marks chosen us marks else marks) i ≡ (is_marked marks i || ((chosen i && is_among us i) && t))
    by_test true = is_marked-with_marks chosen us marks i lt ∙ ap (λ b. is_marked marks i || b) (all (chosen i && is_among us i))
    by_test false = none' (is_marked marks i) (chosen i && is_among us i)

-- ---- nets

-- a net that reads another one is neither an input nor a register
pub reader_computed : (net : Net) (p : ℕ) → is_among (sources net) p ≡ true → is_computed net ≡ true
reader_computed (Input width) p e = absurd (grind (arith, e))
reader_computed (Register reset) p e = absurd (grind (arith, e))
reader_computed net p e = refl

pub differing_computed : (before words : List Bits) (net : Net) → some_differs before words (sources net) ≡ true → is_computed net ≡ true
differing_computed before words (Input width) e = absurd (grind (arith, e))
differing_computed before words (Register reset) e = absurd (grind (arith, e))
differing_computed before words net e = refl

pub evaluated_computed : (last : Option (List Bits)) (words : List Bits) (net : Net) → is_evaluated last words net ≡ true → is_computed net ≡ true
evaluated_computed None words net e = e
evaluated_computed (Some before) words net e = differing_computed before words net e

-- where no source differs, the operands are the same
pub same_operands : (before words : List Bits) (js : List ℕ) → some_differs before words js ≡ false → map (word_at before) js ≡ map (word_at words) js
same_operands before words [] e = refl
same_operands before words (j ∷ js) e =
    let parts = or_parts (is_changed (word_at before j) (word_at words j)) (some_differs before words js) e in
    ap (λ w. w ∷ map (word_at before) js) (unchanged_same (word_at before j) (word_at words j) parts.0) ∙ ap (λ ws. word_at words j ∷ ws) (same_operands before words js parts.1)

-- what differs among places below another one is not touched by it
pub some_differs-set_above : (before words : List Bits) (n p : ℕ) (w : Bits) (js : List ℕ) → AllByRecursion (λ j. j < n) js → n ≤ p → some_differs before (set words p w) js ≡ some_differs before words js
some_differs-set_above before words n p w [] h le = refl
some_differs-set_above before words n p w (j ∷ js) h le =
    let low : j < n = h.0 in
    let ne : j ≡ p → ⊥ = λ e. omega (arith, low, le, e) in
    ap (λ x. is_changed (word_at before j) x || some_differs before (set words p w) js) (word_at-set_other words p w j ne)
    ∙ ap (λ r. is_changed (word_at before j) (word_at words j) || r) (some_differs-set_above before words n p w js h.1 le)

pub not_among_above : (n p : ℕ) (js : List ℕ) → AllByRecursion (λ j. j < n) js → n ≤ p → is_among js p ≡ false
not_among_above n p [] h le = refl
not_among_above n p (j ∷ js) h le =
    let low : j < n = h.0 in
    ap (λ q. q || is_among js p) (ne_eqb j p (λ e. omega (arith, low, le, e))) ∙ not_among_above n p js h.1 le

-- two tests that agree below a place count the same
pub count_agree : (f g : Net → Bool) (nets : List Net) (n : ℕ) → n ≤ length nets → ((j : ℕ) → j < n → f (get_or nets j (Not 0)) ≡ g (get_or nets j (Not 0))) → count_by f (take n nets) ≡ count_by g (take n nets)
count_agree f g nets zero le same = refl
count_agree f g nets (suc n) le same =
    let lt : n < length nets = omega arith in
    let before = count_agree f g nets n (omega arith) (λ j l. same j (omega arith)) in
    let here = same n (omega arith) in
    subst (λ k. count_by f (take k nets) ≡ count_by g (take k nets)) (let e : n + 1 ≡ suc n = omega arith in e)
    (elim (cases_Bool (f (get_or nets n (Not 0)))) [
      | inl yes' ↦ count_by_more_yes f nets n (Not 0) lt yes' ∙ ap (λ k. k + 1) before ∙ sym (count_by_more_yes g nets n (Not 0) lt (sym here ∙ yes'))
      | inr no' ↦ count_by_more_no f nets n (Not 0) lt no' ∙ before ∙ sym (count_by_more_no g nets n (Not 0) lt (sym here ∙ no'))
    ])

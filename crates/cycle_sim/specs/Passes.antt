-- The pass over the marked nets, turn by turn, from its begin to its end.
use Rattle.std.specs.Prelude.{◌≡◌, ℕ, zero, suc, ◌+◌, ◌-◌, ◌<◌, ◌≤◌, ◌||◌, ◌&&◌, Bool, true, false, not, List, [], Option, Some, None, length, count_by, refl}
use Rattle.std.specs.List.{AllByRecursion}
use Rattle.std.proofs.Common.{sym, ◌∙◌, ap, subst, arith, inl, inr, set}
use Rattle.std.proofs.lemmas.Bool.{cases_eq, cases_Bool}
use Rattle.std.proofs.lemmas.List.{take_all, length-set}
use Rattle.std.proofs.lemmas.List.Sums.{count_by_more_yes, count_by_more_no}
use Rattle.netlist.specs.declared.net.Net.{Net}
use Rattle.netlist.specs.declared.net.Net.TheVariants.{Input, Register, Not}
use Rattle.netlist.specs.Nets.{Bits, word_at, sources, is_computed, result_of}
use Rattle.netlist.specs.Plans.{Plan, net_at, is_register_at, IsPlan}
use Rattle.netlist.specs.PlanLaws.{stands_at, stands_within, net_at-stands, sources_before}
use Rattle.netlist.specs.Settled.{operands, equation, input_place, IsSettled}
use Rattle.netlist.specs.SettledLaws.{operands-same}
use Rattle.cycle_sim.specs.Changes.{is_changed, is_evaluated, steps_of, is_marked, marks_put}
use Rattle.cycle_sim.specs.ChangeLaws.{word_at-set_same, word_at-set_other, is_marked-put, is_marked-cleared, is_marked-cleared_same, evaluated_computed, same_operands, some_differs-set_above, not_among_above, count_agree}
use Rattle.cycle_sim.specs.Marks.{IsFirstMark, NoneFrom}
use Rattle.cycle_sim.specs.Wired.{users_at, is_other_at, AreUsers}
use Rattle.cycle_sim.specs.Turns.{IsKept, HeldBefore, HasState, Begun, Turning, marked-put, waits-put, user_of_source}

-- what a net reads stands before it
earlier : (plan : Plan) → IsPlan plan → (i : ℕ) → i < length plan.nets → AllByRecursion (λ j. j < i) (sources (net_at plan.nets i))
earlier plan h i lt = sources_before (net_at plan.nets i) i plan.widths (h.fit i (net_at plan.nets i) (stands_at plan.nets i lt)).fits

-- operands are not touched by a word that is set at the net's place or behind it
operands-set : (plan : Plan) → IsPlan plan → (words : List Bits) (p : ℕ) (w : Bits) (i : ℕ) → i < length plan.nets → i ≤ p → operands (net_at plan.nets i) words ≡ operands (net_at plan.nets i) (set words p w)
operands-set plan h words p w i lt le =
    let net = net_at plan.nets i in
    operands-same net i plan.widths words (set words p w) (h.fit i net (stands_at plan.nets i lt)).fits
    (λ j l. sym (word_at-set_other words p w j (λ e. omega (arith, l, le, e))))

evaluated-set_above : (plan : Plan) → IsPlan plan → (last : Option (List Bits)) (words : List Bits) (p : ℕ) (w : Bits) (i : ℕ) → i < length plan.nets → i ≤ p
    → is_evaluated last (set words p w) (net_at plan.nets i) ≡ is_evaluated last words (net_at plan.nets i)
evaluated-set_above plan h None words p w i lt le = refl
evaluated-set_above plan h (Some before) words p w i lt le = some_differs-set_above before words i p w (sources (net_at plan.nets i)) (earlier plan h i lt) le

-- the word of a net that need not be evaluated is that of its equation
calm_word : (plan : Plan) (last : Option (List Bits)) (words : List Bits) (i : ℕ) → is_computed (net_at plan.nets i) ≡ true → HeldBefore plan last i → IsKept last words i → is_evaluated last words (net_at plan.nets i) ≡ false
    → word_at words i ≡ result_of (net_at plan.nets i) (operands (net_at plan.nets i) words)
calm_word plan None words i c was kept none = let no : true ≡ false = sym c ∙ none in absurd (grind (arith, no))
calm_word plan (Some before) words i c was kept none =
    sym kept ∙ was ∙ ap (result_of (net_at plan.nets i)) (same_operands before words (sources (net_at plan.nets i)) none)

module _ (plan : Plan) (users : List (List ℕ)) (h : IsPlan plan) (u : AreUsers plan users) (inputs held : List Bits) (last : Option (List Bits)) (start : ℕ) where
  -- a turn at a net that has no mark
  pub turn_calm : (words : List Bits) (marks waiting : List Bool) (at steps : ℕ) → at < length plan.nets → is_marked marks at ≡ false
      → Turning plan inputs held last start words marks waiting at steps → Turning plan inputs held last start words marks waiting (at + 1) steps
  turn_calm words marks waiting at steps lt free t =
      let net = net_at plan.nets at in
      let none : is_evaluated last words net ≡ false = sym (t.marked at (omega arith) lt) ∙ free in
      record {
        was = t.was;
        outer = t.outer;
        settled = λ i l within c.
            elim (cases_eq i at) [
              | inl e ↦ subst (λ k. word_at words k ≡ result_of (net_at plan.nets k) (operands (net_at plan.nets k) words)) (sym e)
                  (let c' : is_computed net ≡ true = subst (λ k. is_computed (net_at plan.nets k) ≡ true) e c in calm_word plan last words at c' (t.was at lt c') (t.kept at (omega arith) lt c') none)
              | inr ne ↦ t.settled i (omega (arith, ne)) within c
            ];
        kept = λ i l within c. t.kept i (omega arith) within c;
        marked = λ i l within. t.marked i (omega arith) within;
        clear = λ i l.
            elim (cases_eq i at) [
              | inl e ↦ ap (is_marked marks) e ∙ free
              | inr ne ↦ t.clear i (omega (arith, ne))
            ];
        waits = t.waits;
        counted = t.counted ∙ ap (λ k. start + k) (sym (count_by_more_no (is_evaluated last words) plan.nets at (Not 0) lt none));
      }

  -- turns at nets that have no marks
  pub leap : (k : ℕ) (words : List Bits) (marks waiting : List Bool) (at steps : ℕ) → at + k ≤ length plan.nets → ((i : ℕ) → at ≤ i → i < at + k → is_marked marks i ≡ false)
      → Turning plan inputs held last start words marks waiting at steps → Turning plan inputs held last start words marks waiting (at + k) steps
  leap zero words marks waiting at steps le none t = subst (λ n. Turning plan inputs held last start words marks waiting n steps) (let e : at ≡ at + 0 = omega arith in e) t
  leap (suc k) words marks waiting at steps le none t =
      subst (λ n. Turning plan inputs held last start words marks waiting n steps) (let e : at + k + 1 ≡ at + suc k = omega arith in e)
      (turn_calm words marks waiting (at + k) steps (omega arith) (none (at + k) (omega arith) (omega arith))
      (leap k words marks waiting at steps (omega arith) (λ i l m. none i l (omega arith)) t))

  -- a turn at a net that is marked: it is evaluated, and its word put
  pub turn_fresh : (words : List Bits) (marks waiting : List Bool) (at steps : ℕ) (w : Bits) → HasState plan words marks waiting → at < length plan.nets → at < length words → is_marked marks at ≡ true
      → w ≡ result_of (net_at plan.nets at) (operands (net_at plan.nets at) words)
      → Turning plan inputs held last start words marks waiting at steps
      → Turning plan inputs held last start (set words at w) (marks_put (is_other_at plan.nets) (users_at users at) (word_at words at) w (set marks at false))
      (marks_put (is_register_at plan.nets) (users_at users at) (word_at words at) w waiting) (at + 1) (steps + 1)
  turn_fresh words marks waiting at steps w s lt within m is t =
      let net = net_at plan.nets at in
      let due : is_evaluated last words net ≡ true = sym (t.marked at (omega arith) lt) ∙ m in
      let computed : is_computed net ≡ true = evaluated_computed last words net due in
      let same : IsKept last words at = t.kept at (omega arith) lt computed in
      let count : length (set marks at false) ≡ length plan.nets = length-set marks at false ∙ s.mark_count in
      record {
        was = t.was;
        outer = λ i l c. word_at-set_other words at w i (λ e. let no : false ≡ true = sym c ∙ ap (λ k. is_computed (net_at plan.nets k)) e ∙ computed in absurd (grind (arith, no))) ∙ t.outer i l c;
        settled = λ i l l' c.
            elim (cases_eq i at) [
              | inl e ↦ subst (λ k. word_at (set words at w) k ≡ result_of (net_at plan.nets k) (operands (net_at plan.nets k) (set words at w))) (sym e)
                  (word_at-set_same words at w within ∙ is ∙ ap (result_of net) (operands-set plan h words at w at lt (omega arith)))
              | inr ne ↦ word_at-set_other words at w i ne ∙ t.settled i (omega (arith, ne)) l' c ∙ ap (result_of (net_at plan.nets i)) (operands-set plan h words at w i l' (omega arith))
            ];
        kept = λ i l l' c. kept_above last words at i w (λ e. omega (arith, e, l)) (t.kept i (omega arith) l' c);
        marked = λ i l l'.
            marked-put plan users h u last words at w within same (set marks at false) i l' count
            (is_marked-cleared marks at i (λ e. omega (arith, e, l)) ∙ t.marked i (omega arith) l');
        clear = λ i l.
            let l' : i < length plan.nets = omega arith in
            let c = is_changed (word_at words at) w in
            is_marked-put (is_other_at plan.nets) (users_at users at) (word_at words at) w (set marks at false) i (subst (λ k. i < k) (sym count) l')
            ∙ ap (λ b. is_marked (set marks at false) i || (b && c)) (user_of_source plan users h u at i l' ∙ not_among_above i at (sources (net_at plan.nets i)) (earlier plan h i l') (omega arith))
            ∙ or_nothing (is_marked (set marks at false) i) c
            ∙ elim (cases_eq i at) [
              | inl e ↦ ap (is_marked (set marks at false)) e ∙ is_marked-cleared_same marks at
              | inr ne ↦ is_marked-cleared marks at i ne ∙ t.clear i (omega (arith, ne))
            ];
        waits = waits-put plan users h u last words at w waiting within s.wait_count t.waits;
        counted =
            ap (λ k. k + 1) (t.counted ∙ ap (λ k. start + k) (count_agree (is_evaluated last words) (is_evaluated last (set words at w)) plan.nets at (omega arith)
            (λ j l. sym (evaluated-set_above plan h last words at w j (omega arith) (omega arith)))))
            ∙ let more = count_by_more_yes (is_evaluated last (set words at w)) plan.nets at (Not 0) lt (evaluated-set_above plan h last words at w at lt (omega arith) ∙ due) in omega (arith, more);
      }
    where
      or_nothing : (m c : Bool) → (m || (false && c)) ≡ m
      or_nothing true c = refl
      or_nothing false c = refl

      kept_above : (last : Option (List Bits)) (words : List Bits) (at i : ℕ) (w : Bits) → (i ≡ at → ⊥) → IsKept last words i → IsKept last (set words at w) i
      kept_above None words at i w ne k = tt
      kept_above (Some before) words at i w ne k = k ∙ sym (word_at-set_other words at w i ne)

  -- from one mark to the next
  pub turn_taken : (words words' : List Bits) (marks taken marks' waiting waiting' : List Bool) (from steps steps' at : ℕ) (w : Bits) → HasState plan words marks waiting → IsFirstMark marks from at
      → w ≡ result_of (net_at plan.nets at) (operands (net_at plan.nets at) words)
      → taken ≡ set marks at false → words' ≡ set words at w → marks' ≡ marks_put (is_other_at plan.nets) (users_at users at) (word_at words at) w taken
      → waiting' ≡ marks_put (is_register_at plan.nets) (users_at users at) (word_at words at) w waiting → steps' ≡ steps + 1
      → Turning plan inputs held last start words marks waiting from steps → Turning plan inputs held last start words' marks' waiting' (at + 1) steps'
  turn_taken words words' marks taken marks' waiting waiting' from steps steps' at w s f is e0 e1 e2 e3 e4 t =
      let there = f.from_there in
      let lt : at < length plan.nets = subst (λ k. at < k) s.mark_count f.within in
      let reach : from + (at - from) ≡ at = omega arith in
      let here : Turning plan inputs held last start words marks waiting at steps =
      subst (λ n. Turning plan inputs held last start words marks waiting n steps) reach
      (leap (at - from) words marks waiting from steps (omega arith) (λ i l m. f.none_between i l (omega arith)) t) in
      let made = turn_fresh words marks waiting at steps w s lt (subst (λ k. at < k) (sym s.count) lt) f.marked is here in
      let e2' : marks' ≡ marks_put (is_other_at plan.nets) (users_at users at) (word_at words at) w (set marks at false) = e2 ∙ ap (marks_put (is_other_at plan.nets) (users_at users at) (word_at words at) w) e0 in
      subst (λ x. Turning plan inputs held last start x marks' waiting' (at + 1) steps') (sym e1)
      (subst (λ y. Turning plan inputs held last start (set words at w) y waiting' (at + 1) steps') (sym e2')
      (subst (λ z. Turning plan inputs held last start (set words at w) (marks_put (is_other_at plan.nets) (users_at users at) (word_at words at) w (set marks at false)) z (at + 1) steps') (sym e3)
      (subst (λ n. Turning plan inputs held last start (set words at w) (marks_put (is_other_at plan.nets) (users_at users at) (word_at words at) w (set marks at false))
      (marks_put (is_register_at plan.nets) (users_at users at) (word_at words at) w waiting) (at + 1) n) (sym e4) made)))

  -- where no mark is left, to the end
  pub turn_last : (words : List Bits) (marks waiting : List Bool) (from steps : ℕ) → from ≤ length plan.nets → NoneFrom marks from
      → Turning plan inputs held last start words marks waiting from steps → Turning plan inputs held last start words marks waiting (length plan.nets) steps
  turn_last words marks waiting from steps le none t =
      let reach : from + (length plan.nets - from) ≡ length plan.nets = omega arith in
      subst (λ n. Turning plan inputs held last start words marks waiting n steps) reach
      (leap (length plan.nets - from) words marks waiting from steps (omega arith) (λ i l m. none.none i l) t)

  -- the pass begins
  pub turning_none : (words : List Bits) (marks waiting : List Bool) → Begun plan last words marks waiting
      → ((i : ℕ) → i < length plan.nets → is_computed (net_at plan.nets i) ≡ true → HeldBefore plan last i)
      → ((i : ℕ) → i < length plan.nets → is_computed (net_at plan.nets i) ≡ false → word_at words i ≡ equation (net_at plan.nets i) (word_at inputs (input_place plan.nets i)) (word_at held i) [])
      → Turning plan inputs held last start words marks waiting 0 start
  turning_none words marks waiting b was outer = record {
    was = was;
    outer = outer;
    settled = λ i l l' c. absurd (omega arith);
    kept = λ i l l' c. b.kept i l' c;
    marked = λ i l l'. b.marked i l';
    clear = λ i l. absurd (omega arith);
    waits = b.waits;
    counted = omega arith;
  }

  -- the pass ends
  pub turning_settled : (words : List Bits) (marks waiting : List Bool) (steps : ℕ) → length words ≡ length plan.nets → Turning plan inputs held last start words marks waiting (length plan.nets) steps → IsSettled plan inputs held words
  turning_settled words marks waiting steps count t = record {
    count = count;
    each = λ place net s.
        let l = stands_within plan.nets place net s in
        let is : net_at plan.nets place ≡ net = net_at-stands plan.nets place net s in
        let given = word_at inputs (input_place plan.nets place) in
        subst (λ n. word_at words place ≡ equation n given (word_at held place) words) is
        (elim (cases_Bool (is_computed (net_at plan.nets place))) [
          | inl c ↦ t.settled place l l c ∙ sym (equation-computed (net_at plan.nets place) given (word_at held place) words c)
          | inr c ↦ t.outer place l c ∙ equation-outer (net_at plan.nets place) given (word_at held place) words c
        ]);
  }
    where
      equation-computed : (net : Net) (given held : Bits) (words : List Bits) → is_computed net ≡ true → equation net given held words ≡ result_of net (operands net words)
      equation-computed (Input width) given held words c = absurd (grind (arith, c))
      equation-computed (Register reset) given held words c = absurd (grind (arith, c))
      equation-computed net given held words c = refl

      equation-outer : (net : Net) (given held : Bits) (words : List Bits) → is_computed net ≡ false → equation net given held [] ≡ equation net given held words
      equation-outer (Input width) given held words c = refl
      equation-outer (Register reset) given held words c = refl
      equation-outer net given held words c = absurd (grind (arith, c))

  pub turning_counted : (words : List Bits) (marks waiting : List Bool) (steps : ℕ) → Turning plan inputs held last start words marks waiting (length plan.nets) steps → steps ≡ start + steps_of plan.nets last words
  turning_counted words marks waiting steps t = t.counted ∙ ap (λ ns. start + count_by (is_evaluated last words) ns) (take_all (length plan.nets) plan.nets (omega arith))

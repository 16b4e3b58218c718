-- The clock: each register takes the word that its next net had, all at once.
use Rattle.std.specs.Prelude.{◌≡◌, ℕ, ◌+◌, ◌-◌, ◌<◌, ◌≤◌, ◌||◌, Bool, true, false, List, [], ◌∷◌, Option, Some, length, refl}
use Rattle.std.proofs.Common.{sym, ◌∙◌, ap, subst, arith, inl, inr, set}
use Rattle.std.proofs.lemmas.Bool.{cases_eq, cases_lt}
use Rattle.std.proofs.lemmas.Option.{same_Some}
use Rattle.std.proofs.lemmas.List.{get_or_past, length-set}
use Rattle.netlist.specs.declared.net.Net.{Net}
use Rattle.netlist.specs.declared.net.Net.TheVariants.{Input, Register, Not}
use Rattle.netlist.specs.Nets.{Bits, word_at, width_at, sources, is_register, is_computed}
use Rattle.netlist.specs.Plans.{Plan, net_at, is_register_at, next_of, IsPlan}
use Rattle.netlist.specs.Settled.{HaveWidths}
use Rattle.cycle_sim.specs.Changes.{some_differs, is_marked, marks_put}
use Rattle.cycle_sim.specs.ChangeLaws.{same_unchanged, word_at-set_same, word_at-set_other, is_marked-cleared, is_marked-cleared_same}
use Rattle.cycle_sim.specs.Marks.{IsFirstMark, NoneFrom}
use Rattle.cycle_sim.specs.Wired.{users_at, is_other_at, AreUsers}
use Rattle.cycle_sim.specs.Turns.{HasState, Begun, begun-put, widths-put}

-- a word for each net, of its width
pub record AreWords (plan : Plan) (words : List Bits) : Type 0 where
  pub count : length words ≡ length plan.nets
  pub wide : HaveWidths plan.widths words

-- marks of registers alone, one for each net
pub record MarksRegisters (plan : Plan) (marks : List Bool) : Type 0 where
  pub count : length marks ≡ length plan.nets
  pub only : (i : ℕ) → is_marked marks i ≡ true → is_register_at plan.nets i ≡ true

-- a register that does not wait has the word of its next net already
pub record IsCalm (plan : Plan) (words : List Bits) (waiting : List Bool) : Type 0 where
  pub each : (register next : ℕ) → next_of plan register ≡ Some next → is_marked waiting register ≡ false → word_at words next ≡ word_at words register

-- the words of the next nets of the marked registers before a place are collected, each at its register's place
pub record IsCollected (plan : Plan) (words : List Bits) (due : List Bool) (held : List Bits) (from : ℕ) : Type 0 where
  pub each : (register next : ℕ) → register < from → is_marked due register ≡ true → next_of plan register ≡ Some next → word_at held register ≡ word_at words next

-- registers before a place have taken the words of their next nets in the cycle before, and nothing else changed
pub record IsReleased (plan : Plan) (before words : List Bits) (marks waiting : List Bool) (from : ℕ) : Type 0 where
  pub begun : Begun plan (Some before) words marks waiting
  pub later : (i : ℕ) → from ≤ i → word_at words i ≡ word_at before i
  pub others : (i : ℕ) → is_register_at plan.nets i ≡ false → word_at words i ≡ word_at before i
  pub taken : (register next : ℕ) → next_of plan register ≡ Some next → register < from → word_at words register ≡ word_at before next

-- ---- collecting

pub collected_none : (plan : Plan) (words : List Bits) (due : List Bool) (held : List Bits) → IsCollected plan words due held 0
collected_none plan words due held = record { each = λ r n l m e. absurd (omega arith) }

pub collected_more : (plan : Plan) (words : List Bits) (due : List Bool) (held held' : List Bits) (from at next : ℕ) (w : Bits) → IsCollected plan words due held from → IsFirstMark due from at → length held ≡ length due
    → next_of plan at ≡ Some next → w ≡ word_at words next → held' ≡ set held at w → IsCollected plan words due held' (at + 1)
collected_more plan words due held held' from at next w c f count e is made = record {
  each = λ r n l m e'.
      subst (λ hs. word_at hs r ≡ word_at words n) (sym made)
      (elim (cases_eq r at) [
        | inl same ↦
            let one : next ≡ n = same_Some next n (sym e ∙ ap (next_of plan) (sym same) ∙ e') in
            ap (word_at (set held at w)) same ∙ word_at-set_same held at w (subst (λ k. at < k) (sym count) f.within) ∙ is ∙ ap (word_at words) one
        | inr ne ↦
            word_at-set_other held at w r ne
            ∙ elim (cases_lt r from) [
              | inl lt ↦ c.each r n lt m e'
              | inr ge ↦ let no : true ≡ false = sym m ∙ f.none_between r ge (omega (arith, ne)) in absurd (grind (arith, no))
            ]
      ]);
}

pub collected_last : (plan : Plan) (words : List Bits) (due : List Bool) (held : List Bits) (from end : ℕ) → IsCollected plan words due held from → NoneFrom due from → IsCollected plan words due held end
collected_last plan words due held from end c none = record {
  each = λ r n l m e.
      elim (cases_lt r from) [
        | inl lt ↦ c.each r n lt m e
        | inr ge ↦ let no : true ≡ false = sym m ∙ none.none r ge in absurd (grind (arith, no))
      ];
}

-- ---- releasing

differs_itself : (words : List Bits) (js : List ℕ) → some_differs words words js ≡ false
differs_itself words [] = refl
differs_itself words (j ∷ js) = ap (λ b. b || some_differs words words js) (same_unchanged (word_at words j) (word_at words j) refl) ∙ differs_itself words js

-- where nothing has changed yet, nothing is marked
pub released_none : (plan : Plan) (words : List Bits) (marks waiting : List Bool) → NoneFrom marks 0 → IsReleased plan words words marks waiting 0
released_none plan words marks waiting none = record {
  begun = record {
    kept = λ i l c. refl;
    marked = λ i l. none.none i (omega arith) ∙ sym (differs_itself words (sources (net_at plan.nets i)));
    waits = λ r n e. λ free. refl;
  };
  later = λ i l. refl;
  others = λ i o. refl;
  taken = λ r n e l. absurd (omega arith);
}

register_outer : (net : Net) → is_register net ≡ true → is_computed net ≡ false
register_outer (Register reset) e = refl
register_outer (Input width) e = refl
register_outer net e = absurd (grind (arith, e))

module _ (plan : Plan) (users : List (List ℕ)) (h : IsPlan plan) (u : AreUsers plan users) (before held : List Bits) (due0 : List Bool) (calm : IsCalm plan before due0) (collected : IsCollected plan before due0 held (length plan.nets)) where
  pub released_more : (words words' : List Bits) (marks marks' waiting waiting' due : List Bool) (from at : ℕ) (w : Bits) → HasState plan words marks waiting → MarksRegisters plan due0 → length due ≡ length plan.nets
      → ((k : ℕ) → from ≤ k → is_marked due k ≡ is_marked due0 k) → IsFirstMark due from at → w ≡ word_at held at
      → words' ≡ set words at w → marks' ≡ marks_put (is_other_at plan.nets) (users_at users at) (word_at words at) w marks
      → waiting' ≡ marks_put (is_register_at plan.nets) (users_at users at) (word_at words at) w waiting
      → IsReleased plan before words marks waiting from → IsReleased plan before words' marks' waiting' (at + 1)
  released_more words words' marks marks' waiting waiting' due from at w s registers count rest f is e1 e2 e3 r =
      let there = f.from_there in
      let marked : is_marked due0 at ≡ true = sym (rest at there) ∙ f.marked in
      let one : is_register_at plan.nets at ≡ true = registers.only at marked in
      let lt : at < length plan.nets = subst (λ k. at < k) count f.within in
      let within : at < length words = subst (λ k. at < k) (sym s.count) lt in
      let begun : Begun plan (Some before) (set words at w) (marks_put (is_other_at plan.nets) (users_at users at) (word_at words at) w marks) (marks_put (is_register_at plan.nets) (users_at users at) (word_at words at) w waiting) =
      begun-put plan users h u (Some before) words marks waiting at w s r.begun within (register_outer (net_at plan.nets at) one) (sym (r.later at there)) in
      record {
        begun =
            subst (λ x. Begun plan (Some before) x marks' waiting') (sym e1)
            (subst (λ y. Begun plan (Some before) (set words at w) y waiting') (sym e2)
            (subst (λ z. Begun plan (Some before) (set words at w) (marks_put (is_other_at plan.nets) (users_at users at) (word_at words at) w marks) z) (sym e3) begun));
        later = λ i l. ap (λ ws. word_at ws i) e1 ∙ word_at-set_other words at w i (λ e. omega (arith, e, l)) ∙ r.later i (omega arith);
        others = λ i o. ap (λ ws. word_at ws i) e1 ∙ word_at-set_other words at w i (λ e. let no : true ≡ false = sym one ∙ ap (is_register_at plan.nets) (sym e) ∙ o in absurd (grind (arith, no))) ∙ r.others i o;
        taken = λ q n e l.
            ap (λ ws. word_at ws q) e1
            ∙ elim (cases_eq q at) [
              | inl same ↦
                  ap (word_at (set words at w)) same ∙ word_at-set_same words at w within ∙ is ∙ ap (word_at held) (sym same)
                  ∙ collected.each q n (subst (λ k. k < length plan.nets) (sym same) lt) (ap (is_marked due0) same ∙ marked) e
              | inr ne ↦
                  word_at-set_other words at w q ne
                  ∙ elim (cases_lt q from) [
                    | inl lt' ↦ r.taken q n e lt'
                    | inr ge ↦ r.later q ge ∙ sym (calm.each q n e (sym (rest q ge) ∙ f.none_between q ge (omega (arith, ne))))
                  ]
            ];
      }

  pub released_last : (words : List Bits) (marks waiting due : List Bool) (from : ℕ) → ((k : ℕ) → from ≤ k → is_marked due k ≡ is_marked due0 k) → NoneFrom due from
      → IsReleased plan before words marks waiting from → IsReleased plan before words marks waiting (length plan.nets)
  released_last words marks waiting due from rest none r = record {
    begun = r.begun;
    later = λ i l.
        elim (cases_lt i from) [
          | inl lt ↦ past i l r
          | inr ge ↦ r.later i ge
        ];
    others = r.others;
    taken = λ q n e l.
        elim (cases_lt q from) [
          | inl lt ↦ r.taken q n e lt
          | inr ge ↦ r.later q ge ∙ sym (calm.each q n e (sym (rest q ge) ∙ none.none q ge))
        ];
  }
    where
      past : (i : ℕ) → length plan.nets ≤ i → IsReleased plan before words marks waiting from → word_at words i ≡ word_at before i
      past i l r = r.others i (not_register i l)
        where
          not_register : (i : ℕ) → length plan.nets ≤ i → is_register_at plan.nets i ≡ false
          not_register i l = ap is_register (get_or_past plan.nets i (Not 0) l)

-- ---- words and marks on the way

pub words_put : (plan : Plan) (users : List (List ℕ)) → IsPlan plan → AreUsers plan users → (words words' : List Bits) (at : ℕ) (w : Bits) → AreWords plan words → length w ≡ width_at plan.widths at → words' ≡ set words at w → AreWords plan words'
words_put plan users h u words words' at w a e made =
    subst (AreWords plan) (sym made) (record { count = length-set words at w ∙ a.count; wide = widths-put plan users h u words at w a.wide e })

pub registers_cleared : (plan : Plan) (due due' : List Bool) (at : ℕ) → MarksRegisters plan due → due' ≡ set due at false → MarksRegisters plan due'
registers_cleared plan due due' at r made =
    subst (MarksRegisters plan) (sym made) (record {
      count = length-set due at false ∙ r.count;
      only = λ i m.
          elim (cases_eq i at) [
            | inl same ↦ let no : false ≡ true = sym (ap (is_marked (set due at false)) same ∙ is_marked-cleared_same due at) ∙ m in absurd (grind (arith, no))
            | inr ne ↦ r.only i (sym (is_marked-cleared due at i ne) ∙ m)
          ];
    })

pub cleared_more : (due due' : List Bool) (from at : ℕ) → due' ≡ set due at false → IsFirstMark due from at → ((k : ℕ) → k < from → is_marked due k ≡ false) → (k : ℕ) → k < at + 1 → is_marked due' k ≡ false
cleared_more due due' from at made f before k l =
    ap (λ ms. is_marked ms k) made
    ∙ elim (cases_eq k at) [
      | inl same ↦ ap (is_marked (set due at false)) same ∙ is_marked-cleared_same due at
      | inr ne ↦ is_marked-cleared due at k ne ∙ elim (cases_lt k from) [ inl lt ↦ before k lt | inr ge ↦ f.none_between k ge (omega (arith, ne)) ]
    ]

pub rest_more : (due due' due0 : List Bool) (from at : ℕ) → due' ≡ set due at false → IsFirstMark due from at → ((k : ℕ) → from ≤ k → is_marked due k ≡ is_marked due0 k) → (k : ℕ) → at + 1 ≤ k → is_marked due' k ≡ is_marked due0 k
rest_more due due' due0 from at made f rest k l =
    let there = f.from_there in
    ap (λ ms. is_marked ms k) made ∙ is_marked-cleared due at k (λ e. omega (arith, e, l)) ∙ rest k (omega arith)

pub none_left : (due : List Bool) (from : ℕ) → ((k : ℕ) → k < from → is_marked due k ≡ false) → NoneFrom due from → NoneFrom due 0
none_left due from before none = record { none = λ k l. elim (cases_lt k from) [ inl lt ↦ before k lt | inr ge ↦ none.none k ge ] }

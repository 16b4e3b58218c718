-- A cycle as it goes: what holds of words, marks and registers that wait, before the pass over the marked
-- nets and at each of its turns.
use Rattle.std.specs.Prelude.{◌≡◌, ℕ, ◌+◌, ◌<◌, ◌≤◌, ◌||◌, ◌&&◌, Bool, true, false, not, if◌then◌else◌, List, [], Option, Some, None, length, take, count_by, refl}
use Rattle.std.specs.Option.{option_to_list}
use Rattle.std.proofs.Common.{sym, ◌∙◌, ap, subst, arith, inl, inr, set}
use Rattle.std.proofs.lemmas.Bool.{cases_eq, cases_lt, or_parts, or_cases, and_parts, eq-eqb}
use Rattle.std.proofs.lemmas.List.{map-set, set-get_or, length-set, get_or_past}
use Rattle.netlist.specs.declared.net.Net.{Net}
use Rattle.netlist.specs.declared.net.Net.TheVariants.{Input, Register}
use Rattle.netlist.specs.Nets.{Bits, word_at, width_at, sources, is_register, is_computed, result_of}
use Rattle.netlist.specs.Plans.{Plan, net_at, is_register_at, next_of, IsPlan}
use Rattle.netlist.specs.PlanLaws.{register_within}
use Rattle.netlist.specs.Settled.{operands, equation, input_place, HaveWidths}
use Rattle.cycle_sim.specs.Changes.{is_changed, is_evaluated, is_marked, is_among, marks_put}
use Rattle.cycle_sim.specs.ChangeLaws.{unchanged_same, some_differs-set, word_at-set_same, word_at-set_other, is_marked-put, length-marks_put, reader_computed}
use Rattle.cycle_sim.specs.Wired.{users_at, is_other_at, AreUsers}

-- a word is as in the cycle before, where there was one
abbrev pub IsKept : Option (List Bits) → List Bits → ℕ → Type 0
IsKept None words i = Unit {0}
IsKept (Some before) words i = word_at before i ≡ word_at words i

-- the equation of a net that is neither an input nor a register held in the cycle before
abbrev pub HeldBefore : Plan → Option (List Bits) → ℕ → Type 0
HeldBefore plan None i = Unit {0}
HeldBefore plan (Some before) i = word_at before i ≡ result_of (net_at plan.nets i) (operands (net_at plan.nets i) before)

-- a register waits, or its next net has the word that it had in the cycle before; behind no cycle it waits
abbrev pub WaitsFor : Option (List Bits) → List Bits → ℕ → Bool → Type 0
WaitsFor None words next waits = waits ≡ true
WaitsFor (Some before) words next waits = waits ≡ false → word_at before next ≡ word_at words next

-- what always holds of words and marks
pub record HasState (plan : Plan) (words : List Bits) (marks waiting : List Bool) : Type 0 where
  pub count : length words ≡ length plan.nets
  pub wide : HaveWidths plan.widths words
  pub mark_count : length marks ≡ length plan.nets
  pub wait_count : length waiting ≡ length plan.nets
  pub only_computed : (i : ℕ) → is_marked marks i ≡ true → is_computed (net_at plan.nets i) ≡ true
  pub only_registers : (i : ℕ) → is_marked waiting i ≡ true → is_register_at plan.nets i ≡ true

-- Before the pass: nets that are neither inputs nor registers are as in the cycle before, those are marked
-- that have to be evaluated, and registers wait whose next nets changed.
pub record Begun (plan : Plan) (last : Option (List Bits)) (words : List Bits) (marks waiting : List Bool) : Type 0 where
  pub kept : (i : ℕ) → i < length plan.nets → is_computed (net_at plan.nets i) ≡ true → IsKept last words i
  pub marked : (i : ℕ) → i < length plan.nets → is_marked marks i ≡ is_evaluated last words (net_at plan.nets i)
  pub waits : (register next : ℕ) → next_of plan register ≡ Some next → WaitsFor last words next (is_marked waiting register)

-- At a turn of the pass: nets before its place have their equations, and have no marks; from its place on
-- those are marked that have to be evaluated, by the words as they are now. As many steps were taken as
-- nets before the place had to be evaluated.
pub record Turning (plan : Plan) (inputs held : List Bits) (last : Option (List Bits)) (start : ℕ) (words : List Bits) (marks waiting : List Bool) (at steps : ℕ) : Type 0 where
  pub was : (i : ℕ) → i < length plan.nets → is_computed (net_at plan.nets i) ≡ true → HeldBefore plan last i
  pub outer : (i : ℕ) → i < length plan.nets → is_computed (net_at plan.nets i) ≡ false → word_at words i ≡ equation (net_at plan.nets i) (word_at inputs (input_place plan.nets i)) (word_at held i) []
  pub settled : (i : ℕ) → i < at → i < length plan.nets → is_computed (net_at plan.nets i) ≡ true → word_at words i ≡ result_of (net_at plan.nets i) (operands (net_at plan.nets i) words)
  pub kept : (i : ℕ) → at ≤ i → i < length plan.nets → is_computed (net_at plan.nets i) ≡ true → IsKept last words i
  pub marked : (i : ℕ) → at ≤ i → i < length plan.nets → is_marked marks i ≡ is_evaluated last words (net_at plan.nets i)
  pub clear : (i : ℕ) → i < at → is_marked marks i ≡ false
  pub waits : (register next : ℕ) → next_of plan register ≡ Some next → WaitsFor last words next (is_marked waiting register)
  pub counted : steps ≡ start + count_by (is_evaluated last words) (take at plan.nets)

-- ---- a word is put

-- one word is set: which nets have to be evaluated now
reads_none : (net : Net) (p : ℕ) (c : Bool) → (is_computed net || (is_among (sources net) p && c)) ≡ is_computed net
reads_none (Input width) p c = refl
reads_none (Register reset) p c = refl
reads_none net p c = refl

pub is_evaluated-put : (last : Option (List Bits)) (words : List Bits) (p : ℕ) (w : Bits) (net : Net) → p < length words → IsKept last words p
    → (is_evaluated last words net || (is_among (sources net) p && is_changed (word_at words p) w)) ≡ is_evaluated last (set words p w) net
is_evaluated-put None words p w net lt same = reads_none net p (is_changed (word_at words p) w)
is_evaluated-put (Some before) words p w net lt same = sym (some_differs-set before words p w (sources net) lt same)

module _ (plan : Plan) (users : List (List ℕ)) (h : IsPlan plan) (u : AreUsers plan users) where
  -- of the users of a net those that are no registers are the nets that read it
  chosen_source : (b : Bool) (nexts srcs : List ℕ) (p : ℕ) (a : Bool) → a ≡ is_among (if b then nexts else srcs) p → (b ≡ true → is_among srcs p ≡ false) → (not b && a) ≡ is_among srcs p
  chosen_source true nexts srcs p a e none = sym (none refl)
  chosen_source false nexts srcs p a e none = e

  register_reads : (net : Net) (p : ℕ) → is_register net ≡ true → is_among (sources net) p ≡ false
  register_reads (Register reset) p e = refl
  register_reads (Input width) p e = refl
  register_reads net p e = absurd (grind (arith, e))

  pub user_of_source : (p i : ℕ) → i < length plan.nets → (is_other_at plan.nets i && is_among (users_at users p) i) ≡ is_among (sources (net_at plan.nets i)) p
  user_of_source p i lt =
      chosen_source (is_register_at plan.nets i) (option_to_list (next_of plan i)) (sources (net_at plan.nets i)) p (is_among (users_at users p) i) (u.exact p i lt) (register_reads (net_at plan.nets i) p)

  only_next : (p : ℕ) → is_among (option_to_list (Some p)) p ≡ true
  only_next p = ap (λ b. b || false) (eq-eqb p p refl)

  -- a register is among the users of its next net
  pub user_of_next : (register next : ℕ) → next_of plan register ≡ Some next → (is_register_at plan.nets register && is_among (users_at users next) register) ≡ true
  user_of_next register next e =
      let one = (h.set_nexts register next e).is_one in
      let lt = register_within plan.nets register one in
      let listed : is_among (users_at users next) register ≡ true =
      u.exact next register lt ∙ ap (λ b. is_among (if b then option_to_list (next_of plan register) else sources (net_at plan.nets register)) next) one
      ∙ ap (λ o. is_among (option_to_list o) next) e ∙ only_next next in
      ap (λ b. b && is_among (users_at users next) register) one ∙ listed

  module _ (last : Option (List Bits)) (words : List Bits) (at : ℕ) (w : Bits) (lt : at < length words) (same : IsKept last words at) where
    -- the marks after a put are those of the words after it
    pub marked-put : (marks : List Bool) (i : ℕ) → i < length plan.nets → length marks ≡ length plan.nets → is_marked marks i ≡ is_evaluated last words (net_at plan.nets i)
        → is_marked (marks_put (is_other_at plan.nets) (users_at users at) (word_at words at) w marks) i ≡ is_evaluated last (set words at w) (net_at plan.nets i)
    marked-put marks i l count m =
        let net = net_at plan.nets i in
        let c = is_changed (word_at words at) w in
        is_marked-put (is_other_at plan.nets) (users_at users at) (word_at words at) w marks i (subst (λ k. i < k) (sym count) l)
        ∙ ap (λ b. b || ((is_other_at plan.nets i && is_among (users_at users at) i) && c)) m
        ∙ ap (λ b. is_evaluated last words net || (b && c)) (user_of_source at i l)
        ∙ is_evaluated-put last words at w net lt same

  -- registers that do not wait after a put have next nets that are as before
  waits_one : (last : Option (List Bits)) (words : List Bits) (at : ℕ) (w : Bits) (waiting : List Bool) (register next : ℕ) → at < length words → length waiting ≡ length plan.nets
      → next_of plan register ≡ Some next → WaitsFor last words next (is_marked waiting register)
      → WaitsFor last (set words at w) next (is_marked (marks_put (is_register_at plan.nets) (users_at users at) (word_at words at) w waiting) register)
  waits_one None words at w waiting register next lt count e was =
      let within = register_within plan.nets register (h.set_nexts register next e).is_one in
      is_marked-put (is_register_at plan.nets) (users_at users at) (word_at words at) w waiting register (subst (λ k. register < k) (sym count) within)
      ∙ ap (λ b. b || ((is_register_at plan.nets register && is_among (users_at users at) register) && is_changed (word_at words at) w)) was
  waits_one (Some before) words at w waiting register next lt count e was = λ free.
      let within = register_within plan.nets register (h.set_nexts register next e).is_one in
      let c = is_changed (word_at words at) w in
      let split : (is_marked waiting register || ((is_register_at plan.nets register && is_among (users_at users at) register) && c)) ≡ false =
      sym (is_marked-put (is_register_at plan.nets) (users_at users at) (word_at words at) w waiting register (subst (λ k. register < k) (sym count) within)) ∙ free in
      let parts = or_parts (is_marked waiting register) ((is_register_at plan.nets register && is_among (users_at users at) register) && c) split in
      let old : word_at before next ≡ word_at words next = was parts.0 in
      elim (cases_eq next at) [
        | inl is ↦
            let listed : (is_register_at plan.nets register && is_among (users_at users at) register) ≡ true = subst (λ k. (is_register_at plan.nets register && is_among (users_at users k) register) ≡ true) is (user_of_next register next e) in
            let calm : c ≡ false = sym (ap (λ b. b && c) listed) ∙ parts.1 in
            old ∙ ap (word_at words) is ∙ unchanged_same (word_at words at) w calm ∙ sym (word_at-set_same words at w lt) ∙ ap (word_at (set words at w)) (sym is)
        | inr ne ↦ old ∙ sym (word_at-set_other words at w next ne)
      ]

  pub waits-put : (last : Option (List Bits)) (words : List Bits) (at : ℕ) (w : Bits) (waiting : List Bool) → at < length words → length waiting ≡ length plan.nets
      → ((register next : ℕ) → next_of plan register ≡ Some next → WaitsFor last words next (is_marked waiting register))
      → (register next : ℕ) → next_of plan register ≡ Some next
      → WaitsFor last (set words at w) next (is_marked (marks_put (is_register_at plan.nets) (users_at users at) (word_at words at) w waiting) register)
  waits-put last words at w waiting lt count was register next e = waits_one last words at w waiting register next lt count e (was register next e)

  marked_within : (marks : List Bool) (i : ℕ) → is_marked marks i ≡ true → i < length marks
  marked_within marks i e =
      elim (cases_lt i (length marks)) [
        | inl lt ↦ lt
        | inr ge ↦ let no : false ≡ true = sym (get_or_past marks i false ge) ∙ e in absurd (grind (arith, no))
      ]

  pub widths-put : (words : List Bits) (at : ℕ) (w : Bits) → HaveWidths plan.widths words → length w ≡ width_at plan.widths at → HaveWidths plan.widths (set words at w)
  widths-put words at w wide e = map-set length words at w ∙ ap (λ ws. set ws at (length w)) wide ∙ ap (λ k. set plan.widths at k) e ∙ set-get_or plan.widths at 0

  computed_put : (at i : ℕ) (old new : Bits) (marks : List Bool) → length marks ≡ length plan.nets → ((i : ℕ) → is_marked marks i ≡ true → is_computed (net_at plan.nets i) ≡ true)
      → is_marked (marks_put (is_other_at plan.nets) (users_at users at) old new marks) i ≡ true → is_computed (net_at plan.nets i) ≡ true
  computed_put at i old new marks count only e =
      let within : i < length marks = subst (λ k. i < k) (length-marks_put (is_other_at plan.nets) (users_at users at) old new marks) (marked_within (marks_put (is_other_at plan.nets) (users_at users at) old new marks) i e) in
      let l : i < length plan.nets = subst (λ k. i < k) count within in
      let c = is_changed old new in
      let split = or_cases (is_marked marks i) ((is_other_at plan.nets i && is_among (users_at users at) i) && c) (sym (is_marked-put (is_other_at plan.nets) (users_at users at) old new marks i within) ∙ e) in
      elim split [
        | inl m ↦ only i m
        | inr b ↦ reader_computed (net_at plan.nets i) at (sym (user_of_source at i l) ∙ (and_parts (is_other_at plan.nets i && is_among (users_at users at) i) c b).0)
      ]

  registers_put : (at i : ℕ) (old new : Bits) (waiting : List Bool) → length waiting ≡ length plan.nets → ((i : ℕ) → is_marked waiting i ≡ true → is_register_at plan.nets i ≡ true)
      → is_marked (marks_put (is_register_at plan.nets) (users_at users at) old new waiting) i ≡ true → is_register_at plan.nets i ≡ true
  registers_put at i old new waiting count only e =
      let within : i < length waiting = subst (λ k. i < k) (length-marks_put (is_register_at plan.nets) (users_at users at) old new waiting) (marked_within (marks_put (is_register_at plan.nets) (users_at users at) old new waiting) i e) in
      let c = is_changed old new in
      let split = or_cases (is_marked waiting i) ((is_register_at plan.nets i && is_among (users_at users at) i) && c) (sym (is_marked-put (is_register_at plan.nets) (users_at users at) old new waiting i within) ∙ e) in
      elim split [
        | inl m ↦ only i m
        | inr b ↦ (and_parts (is_register_at plan.nets i) (is_among (users_at users at) i) (and_parts (is_register_at plan.nets i && is_among (users_at users at) i) c b).0).0
      ]

  pub state-put : (words : List Bits) (marks waiting : List Bool) (at : ℕ) (w : Bits) → HasState plan words marks waiting → length w ≡ width_at plan.widths at
      → HasState plan (set words at w) (marks_put (is_other_at plan.nets) (users_at users at) (word_at words at) w marks) (marks_put (is_register_at plan.nets) (users_at users at) (word_at words at) w waiting)
  state-put words marks waiting at w s e = record {
    count = length-set words at w ∙ s.count;
    wide = widths-put words at w s.wide e;
    mark_count = length-marks_put (is_other_at plan.nets) (users_at users at) (word_at words at) w marks ∙ s.mark_count;
    wait_count = length-marks_put (is_register_at plan.nets) (users_at users at) (word_at words at) w waiting ∙ s.wait_count;
    only_computed = λ i m. computed_put at i (word_at words at) w marks s.mark_count s.only_computed m;
    only_registers = λ i m. registers_put at i (word_at words at) w waiting s.wait_count s.only_registers m;
  }

  -- the same, for words and marks that are known to be equal to those
  pub state_from : (words : List Bits) (marks waiting : List Bool) (at : ℕ) (w : Bits) (words' : List Bits) (marks' waiting' : List Bool) → HasState plan words marks waiting → length w ≡ width_at plan.widths at
      → words' ≡ set words at w → marks' ≡ marks_put (is_other_at plan.nets) (users_at users at) (word_at words at) w marks
      → waiting' ≡ marks_put (is_register_at plan.nets) (users_at users at) (word_at words at) w waiting → HasState plan words' marks' waiting'
  state_from words marks waiting at w words' marks' waiting' s e e1 e2 e3 =
      subst (λ x. HasState plan x marks' waiting') (sym e1)
      (subst (λ y. HasState plan (set words at w) y waiting') (sym e2)
      (subst (λ z. HasState plan (set words at w) (marks_put (is_other_at plan.nets) (users_at users at) (word_at words at) w marks) z) (sym e3)
      (state-put words marks waiting at w s e)))

  kept_put : (last : Option (List Bits)) (words : List Bits) (at i : ℕ) (w : Bits) → (i ≡ at → ⊥) → IsKept last words i → IsKept last (set words at w) i
  kept_put None words at i w ne k = tt
  kept_put (Some before) words at i w ne k = k ∙ sym (word_at-set_other words at w i ne)

  -- a word of an input or a register is put
  pub begun-put : (last : Option (List Bits)) (words : List Bits) (marks waiting : List Bool) (at : ℕ) (w : Bits) → HasState plan words marks waiting → Begun plan last words marks waiting
      → at < length words → is_computed (net_at plan.nets at) ≡ false → IsKept last words at
      → Begun plan last (set words at w) (marks_put (is_other_at plan.nets) (users_at users at) (word_at words at) w marks) (marks_put (is_register_at plan.nets) (users_at users at) (word_at words at) w waiting)
  begun-put last words marks waiting at w s b lt outer same = record {
    kept = λ i l c. kept_put last words at i w (λ e. let no : false ≡ true = sym outer ∙ ap (λ k. is_computed (net_at plan.nets k)) (sym e) ∙ c in absurd (grind (arith, no))) (b.kept i l c);
    marked = λ i l. marked-put last words at w lt same marks i l s.mark_count (b.marked i l);
    waits = waits-put last words at w waiting lt s.wait_count b.waits;
  }

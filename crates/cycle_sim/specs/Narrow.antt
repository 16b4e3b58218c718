-- A net whose word is worked out anew, as a word or as a number.
use Rattle.std.specs.Prelude.{◌≡◌, ℕ, ◌^◌, ◌<◌, ◌≤◌, if◌then◌else◌, Bool, true, false, List, [], ◌∷◌, length, map, refl}
use Rattle.std.specs.List.{AllByRecursion}
use Rattle.std.proofs.Common.{sym, ◌∙◌, ap, subst}
use Rattle.esi_base.specs.Bits.{number_of, bits_of, number_of-bits_of}
use Rattle.esi_base.specs.BitLists.{bits_of-number_of, number_of-below}
use Rattle.std.proofs.Math.Nat.{mod-eq_of_lt}
use Rattle.netlist.specs.declared.net.Net.{Net}
use Rattle.netlist.specs.Nets.{Bits, word_at, width_at, is_computed, sources, result_of}
use Rattle.netlist.specs.Narrow.{IsNarrow, AreNumbers}
use Rattle.netlist.specs.Plans.{Plan, net_at, IsPlan}
use Rattle.netlist.specs.PlanLaws.{stands_at, length-result_at}
use Rattle.netlist.specs.Settled.{operands, HaveWidths}
use Rattle.netlist.specs.SettledLaws.{widths_at, operand_widths}
use Rattle.cycle_sim.specs.Changes.{is_changed, with_marks, marks_put}
use Rattle.cycle_sim.specs.ChangeLaws.{same_unchanged, unchanged_same}

-- the word that the operator of the net at a place makes of its sources' words
abbrev pub fresh_word : Plan → List Bits → ℕ → Bits
fresh_word plan words net = result_of (net_at plan.nets net) (operands (net_at plan.nets net) words)

-- ---- the numbers of the operands

pub none_numbers : (net : Net) (words : List Bits) → [] ≡ sources net → AreNumbers (operands net words) 0 0 0
none_numbers net words e = subst (λ (js : List ℕ). AreNumbers (map (word_at words) js) 0 0 0) e (record { first_is = refl; second_is = refl; third_is = refl })

pub one_number : (net : Net) (words : List Bits) (a n : ℕ) → a ∷ [] ≡ sources net → n ≡ number_of (word_at words a) → AreNumbers (operands net words) n 0 0
one_number net words a n e en = subst (λ (js : List ℕ). AreNumbers (map (word_at words) js) n 0 0) e (record { first_is = sym en; second_is = refl; third_is = refl })

pub two_numbers : (net : Net) (words : List Bits) (a b n m : ℕ) → a ∷ b ∷ [] ≡ sources net → n ≡ number_of (word_at words a) → m ≡ number_of (word_at words b) → AreNumbers (operands net words) n m 0
two_numbers net words a b n m e en em = subst (λ (js : List ℕ). AreNumbers (map (word_at words) js) n m 0) e (record { first_is = sym en; second_is = sym em; third_is = refl })

pub three_numbers : (net : Net) (words : List Bits) (a b d n m k : ℕ) → a ∷ b ∷ d ∷ [] ≡ sources net → n ≡ number_of (word_at words a) → m ≡ number_of (word_at words b) → k ≡ number_of (word_at words d)
    → AreNumbers (operands net words) n m k
three_numbers net words a b d n m k e en em ek = subst (λ (js : List ℕ). AreNumbers (map (word_at words) js) n m k) e (record { first_is = sym en; second_is = sym em; third_is = sym ek })

module _ (plan : Plan) (words : List Bits) (id : ℕ) (h : IsPlan plan) (lt : id < length plan.nets) (computed : is_computed (net_at plan.nets id) ≡ true) (wide : HaveWidths plan.widths words) where
  -- a source of a narrow net has a word of at most 64 bits
  pub source_narrow : (js : List ℕ) → js ≡ sources (net_at plan.nets id) → IsNarrow plan id → AllByRecursion (λ j. length (word_at words j) ≤ 64) js
  source_narrow js e n = narrowed js (subst (λ (ks : List ℕ). AllByRecursion (λ j. width_at plan.widths j ≤ 64) ks) (sym e) n.read)
    where
      narrowed : (ks : List ℕ) → AllByRecursion (λ j. width_at plan.widths j ≤ 64) ks → AllByRecursion (λ j. length (word_at words j) ≤ 64) ks
      narrowed [] all = tt
      narrowed (k ∷ ks) all = (subst (λ m. m ≤ 64) (sym (widths_at plan.widths words k wide)) all.0, narrowed ks all.1)

  pub fresh_widths : map length (operands (net_at plan.nets id) words) ≡ map (width_at plan.widths) (sources (net_at plan.nets id))
  fresh_widths = operand_widths (net_at plan.nets id) id plan.widths words (h.fit id (net_at plan.nets id) (stands_at plan.nets id lt)).fits (λ j l. widths_at plan.widths words j wide)

  pub length-fresh : length (fresh_word plan words id) ≡ width_at plan.widths id
  length-fresh = length-result_at plan h id (operands (net_at plan.nets id) words) lt computed fresh_widths

  -- the number fits, and is that of the word
  pub fresh_fits : (n : ℕ) → n ≡ number_of (fresh_word plan words id) → n < 2 ^ width_at plan.widths id
  fresh_fits n e = subst (λ m. m < 2 ^ width_at plan.widths id) (sym e) (subst (λ k. number_of (fresh_word plan words id) < 2 ^ k) length-fresh (number_of-below (fresh_word plan words id)))

  pub fresh_is : (n : ℕ) → n ≡ number_of (fresh_word plan words id) → bits_of (width_at plan.widths id) n ≡ fresh_word plan words id
  fresh_is n e = ap (λ k. bits_of k n) (sym length-fresh) ∙ ap (bits_of (length (fresh_word plan words id))) e ∙ bits_of-number_of (fresh_word plan words id)

-- ---- a number that is another one than before

pub number_changes : (old : Bits) (width n : ℕ) → n < 2 ^ width → (number_of old ≡ n → ⊥) → is_changed old (bits_of width n) ≡ true
number_changes old width n lt ne = changed (is_changed old (bits_of width n)) refl
  where
    changed : (b : Bool) → is_changed old (bits_of width n) ≡ b → is_changed old (bits_of width n) ≡ true
    changed true e = e
    changed false e = absurd (ne (ap number_of (unchanged_same old (bits_of width n) e) ∙ number_of-bits_of width n ∙ mod-eq_of_lt lt))

pub number_stays : (old : Bits) (width n : ℕ) → length old ≡ width → number_of old ≡ n → old ≡ bits_of width n
number_stays old width n e en = sym (ap (λ k. bits_of k n) (sym e) ∙ ap (bits_of (length old)) (sym en) ∙ bits_of-number_of old)

module _ (chosen : ℕ → Bool) (users : List ℕ) (old new : Bits) (marks : List Bool) where
  pub marks_changed : is_changed old new ≡ true → with_marks chosen users marks ≡ marks_put chosen users old new marks
  marks_changed e = sym (ap (λ (b : Bool). if b then with_marks chosen users marks else marks) e)

  pub marks_same : old ≡ new → marks ≡ marks_put chosen users old new marks
  marks_same e = sym (ap (λ (b : Bool). if b then with_marks chosen users marks else marks) (same_unchanged old new e))

-- Laws of settled assignments: there is exactly one, and its words are as wide as their nets.
use Rattle.std.specs.Prelude.{◌≡◌, ℕ, zero, suc, ◌+◌, ◌<◌, ◌≤◌, ◌++◌, ◌∷◌, [], true, List, length, map, refl}
use Rattle.std.specs.List.{AllByRecursion}
use Rattle.std.proofs.Common.{sym, ◌∙◌, ap, subst, arith, inl, inr}
use Rattle.std.proofs.lemmas.Bool.{cases_lt, cases_eq}
use Rattle.std.proofs.lemmas.List.{length-map, get_or_append_left, get_or_push, get_or_past, length_push, ext_get_or}
use Rattle.netlist.specs.declared.net.Net.{Net}
use Rattle.netlist.specs.declared.net.Net.TheVariants.{Input, Register}
use Rattle.netlist.specs.Nets.{Bits, word_at, width_at, is_computed, sources, result_of, Fits, width_in}
use Rattle.netlist.specs.Plans.{Plan, Stands, net_at, IsPlan}
use Rattle.netlist.specs.PlanLaws.{net_at-stands, stands_at, stands_within, sources_before, length_at, length-result_of}
use Rattle.netlist.specs.Settled.{operands, equation, input_place, IsSettled, HasOneSettled, AreInputs, AreHeld, HaveWidths}

same_reads : (n : ℕ) (js : List ℕ) (u v : List Bits) → AllByRecursion (λ j. j < n) js → ((j : ℕ) → j < n → word_at u j ≡ word_at v j) → map (word_at u) js ≡ map (word_at v) js
same_reads n [] u v h same = refl
same_reads n (j ∷ js) u v h same = ap (λ w. w ∷ map (word_at u) js) (same j h.0) ∙ ap (λ ws. word_at v j ∷ ws) (same_reads n js u v h.1 same)

-- operands are words of nets before the place alone
pub operands-same : (net : Net) (place : ℕ) (widths : List ℕ) (u v : List Bits) → Fits net place widths → ((j : ℕ) → j < place → word_at u j ≡ word_at v j) → operands net u ≡ operands net v
operands-same net place widths u v f same = same_reads place (sources net) u v (sources_before net place widths f) same

-- and so is an equation
pub equation-same : (net : Net) (place : ℕ) (widths : List ℕ) (given held : Bits) (u v : List Bits) → Fits net place widths → ((j : ℕ) → j < place → word_at u j ≡ word_at v j)
    → equation net given held u ≡ equation net given held v
equation-same (Input width) place widths given held u v f same = refl
equation-same (Register reset) place widths given held u v f same = refl
equation-same net place widths given held u v f same = ap (result_of net) (operands-same net place widths u v f same)

-- ---- at most one

module _ (plan : Plan) (h : IsPlan plan) (inputs held u v : List Bits) (su : IsSettled plan inputs held u) (sv : IsSettled plan inputs held v) where
  same_here : (place : ℕ) → ((j : ℕ) → j < place → word_at u j ≡ word_at v j) → word_at u place ≡ word_at v place
  same_here place below =
      elim (cases_lt place (length plan.nets)) [
        | inl lt ↦
            let net = net_at plan.nets place in
            let s = stands_at plan.nets place lt in
            su.each place net s
            ∙ equation-same net place plan.widths (word_at inputs (input_place plan.nets place)) (word_at held place) u v (h.fit place net s).fits below
            ∙ sym (sv.each place net s)
        | inr ge ↦ get_or_past u place [] (subst (λ k. k ≤ place) (sym su.count) ge) ∙ sym (get_or_past v place [] (subst (λ k. k ≤ place) (sym sv.count) ge))
      ]

  same_below : (n j : ℕ) → j < n → word_at u j ≡ word_at v j
  same_below zero j lt = absurd (omega arith)
  same_below (suc n) j lt =
      elim (cases_eq j n) [
        | inl e ↦ subst (λ k. word_at u k ≡ word_at v k) (sym e) (same_here n (same_below n))
        | inr ne ↦ same_below n j (omega (arith, ne))
      ]

  pub only_settled : u ≡ v
  only_settled = ext_get_or [] u v (su.count ∙ sym sv.count) (λ j l. same_below (length u) j l)

-- ---- at least one

-- the equations of the nets below a place hold, and there are no more words
pub record SettledBelow (plan : Plan) (inputs held : List Bits) (n : ℕ) (words : List Bits) : Type 0 where
  pub count : length words ≡ n
  pub each : (place : ℕ) (net : Net) → place < n → Stands plan.nets place net → word_at words place ≡ equation net (word_at inputs (input_place plan.nets place)) (word_at held place) words

pub below_none : (plan : Plan) (inputs held : List Bits) → SettledBelow plan inputs held 0 []
below_none plan inputs held = record { count = refl; each = λ place net l s. absurd (omega arith) }

word_kept : (words : List Bits) (word : Bits) (j : ℕ) → j < length words → word_at words j ≡ word_at (words ++ word ∷ []) j
word_kept words word j l = sym (get_or_append_left words (word ∷ []) [] j l)

pub below_more : (plan : Plan) (inputs held : List Bits) (n : ℕ) (words : List Bits) (net : Net) (word : Bits) → IsPlan plan → SettledBelow plan inputs held n words → Stands plan.nets n net
    → word ≡ equation net (word_at inputs (input_place plan.nets n)) (word_at held n) words → SettledBelow plan inputs held (n + 1) (words ++ word ∷ [])
below_more plan inputs held n words net word h below stands is = record {
  count = length_push words word ∙ ap (λ k. k + 1) below.count;
  each = λ place other l s.
      elim (cases_eq place n) [
        | inl e ↦
            let s' : Stands plan.nets n other = subst (λ k. Stands plan.nets k other) e s in
            let one : net ≡ other = sym (net_at-stands plan.nets n net stands) ∙ net_at-stands plan.nets n other s' in
            let here : word_at (words ++ word ∷ []) n ≡ equation net (word_at inputs (input_place plan.nets n)) (word_at held n) (words ++ word ∷ []) =
            get_or_push words word [] n below.count ∙ is ∙
            equation-same net n plan.widths (word_at inputs (input_place plan.nets n)) (word_at held n) words (words ++ word ∷ []) (h.fit n net stands).fits
            (λ j lt. word_kept words word j (subst (λ k. j < k) (sym below.count) lt)) in
            subst (λ k. word_at (words ++ word ∷ []) k ≡ equation other (word_at inputs (input_place plan.nets k)) (word_at held k) (words ++ word ∷ [])) (sym e)
            (subst (λ m. word_at (words ++ word ∷ []) n ≡ equation m (word_at inputs (input_place plan.nets n)) (word_at held n) (words ++ word ∷ [])) one here)
        | inr ne ↦
            let lt : place < n = omega (arith, ne) in
            sym (word_kept words word place (subst (λ k. place < k) (sym below.count) lt))
            ∙ below.each place other lt s
            ∙ equation-same other place plan.widths (word_at inputs (input_place plan.nets place)) (word_at held place) words (words ++ word ∷ []) (h.fit place other s).fits
            (λ j l'. word_kept words word j (let m : j < n = omega arith in subst (λ k. j < k) (sym below.count) m))
      ];
}

pub all_settled : (plan : Plan) (inputs held words : List Bits) → SettledBelow plan inputs held (length plan.nets) words → IsSettled plan inputs held words
all_settled plan inputs held words below = record { count = below.count; each = λ place net s. below.each place net (stands_within plan.nets place net s) s }

module _ (plan : Plan) (h : IsPlan plan) (inputs held : List Bits) where
  some_below : (n : ℕ) → n ≤ length plan.nets → (words : List Bits) × SettledBelow plan inputs held n words
  some_below zero le = ([], below_none plan inputs held)
  some_below (suc n) le =
      let before = some_below n (omega arith) in
      let lt : n < length plan.nets = omega arith in
      let net = net_at plan.nets n in
      let word = equation net (word_at inputs (input_place plan.nets n)) (word_at held n) before.0 in
      let more = below_more plan inputs held n before.0 net word h before.1 (stands_at plan.nets n lt) refl in
      (before.0 ++ word ∷ [], subst (λ k. SettledBelow plan inputs held k (before.0 ++ word ∷ [])) (let e : n + 1 ≡ suc n = omega arith in e) more)

  pub one_settled : HasOneSettled plan inputs held
  one_settled =
      let made = some_below (length plan.nets) (omega arith) in
      let settled = all_settled plan inputs held made.0 made.1 in
      record { words = made.0; is_settled = settled; only = λ others s. only_settled plan h inputs held others made.0 s settled }

-- ---- widths

pub widths_at : (widths : List ℕ) (words : List Bits) (j : ℕ) → HaveWidths widths words → length (word_at words j) ≡ width_at widths j
widths_at widths words j h = length_at words j ∙ ap (λ ws. width_at ws j) h

-- the words given to a net from outside are of its width
abbrev pub IsGiven : Net → Bits → Bits → Type 0
IsGiven (Input width) given held = length given ≡ width
IsGiven (Register reset) given held = length held ≡ length reset
IsGiven net given held = Unit {0}

read_widths : (n : ℕ) (js : List ℕ) (widths : List ℕ) (words : List Bits) → AllByRecursion (λ j. j < n) js → ((j : ℕ) → j < n → length (word_at words j) ≡ width_at widths j) → map length (map (word_at words) js) ≡ map (width_at widths) js
read_widths n [] widths words h same = refl
read_widths n (j ∷ js) widths words h same = ap (λ w. w ∷ map length (map (word_at words) js)) (same j h.0) ∙ ap (λ ws. width_at widths j ∷ ws) (read_widths n js widths words h.1 same)

-- operands are as wide as the nets that they are read from
pub operand_widths : (net : Net) (place : ℕ) (widths : List ℕ) (words : List Bits) → Fits net place widths → ((j : ℕ) → j < place → length (word_at words j) ≡ width_at widths j)
    → map length (operands net words) ≡ map (width_at widths) (sources net)
operand_widths net place widths words f same = read_widths place (sources net) widths words (sources_before net place widths f) same

computed_width : (net : Net) (place : ℕ) (widths : List ℕ) (words : List Bits) → is_computed net ≡ true → Fits net place widths → ((j : ℕ) → j < place → length (word_at words j) ≡ width_at widths j)
    → length (result_of net (operands net words)) ≡ width_in net widths
computed_width net place widths words c f same = length-result_of net place widths (operands net words) c f (operand_widths net place widths words f same)

-- the word that a net's equation gives is as wide as the net
pub length-equation : (net : Net) (place : ℕ) (widths : List ℕ) (given held : Bits) (words : List Bits) → Fits net place widths → IsGiven net given held → ((j : ℕ) → j < place → length (word_at words j) ≡ width_at widths j)
    → length (equation net given held words) ≡ width_in net widths
length-equation (Input width) place widths given held words f g same = g
length-equation (Register reset) place widths given held words f g same = g
length-equation net place widths given held words f g same = computed_width net place widths words refl f same

pub given_at : (plan : Plan) (inputs held : List Bits) → AreInputs plan inputs → AreHeld plan held → (place : ℕ) (net : Net) → Stands plan.nets place net → IsGiven net (word_at inputs (input_place plan.nets place)) (word_at held place)
given_at plan inputs held i r place (Input width) s = i.wide place width s
given_at plan inputs held i r place (Register reset) s = r.wide place reset s
given_at plan inputs held i r place net s = tt

module _ (plan : Plan) (h : IsPlan plan) (inputs held words : List Bits) (i : AreInputs plan inputs) (r : AreHeld plan held) (settled : IsSettled plan inputs held words) where
  wide_here : (place : ℕ) → ((j : ℕ) → j < place → length (word_at words j) ≡ width_at plan.widths j) → place < length plan.nets → length (word_at words place) ≡ width_at plan.widths place
  wide_here place below lt =
      let net = net_at plan.nets place in
      let s = stands_at plan.nets place lt in
      let f = h.fit place net s in
      ap length (settled.each place net s)
      ∙ length-equation net place plan.widths (word_at inputs (input_place plan.nets place)) (word_at held place) words f.fits (given_at plan inputs held i r place net s) below
      ∙ sym f.own

  wide_below : (n : ℕ) → n ≤ length plan.nets → (j : ℕ) → j < n → length (word_at words j) ≡ width_at plan.widths j
  wide_below zero le j lt = absurd (omega arith)
  wide_below (suc n) le j lt =
      elim (cases_eq j n) [
        | inl e ↦ subst (λ k. length (word_at words k) ≡ width_at plan.widths k) (sym e) (wide_here n (wide_below n (omega arith)) (omega arith))
        | inr ne ↦ wide_below n (omega arith) j (omega (arith, ne))
      ]

  -- where inputs and registers have their widths, every net has its own
  pub settled_widths : HaveWidths plan.widths words
  settled_widths =
      ext_get_or 0 (map length words) plan.widths (length-map words length ∙ settled.count ∙ sym h.width_count)
      (λ j l. sym (length_at words j) ∙ wide_below (length plan.nets) (omega arith) j (subst (λ k. j < k) (length-map words length ∙ settled.count) l))

-- What is made of a netlist before its first cycle.
use Rattle.std.specs.Prelude.{◌≡◌, ℕ, zero, suc, ◌+◌, ◌<◌, ◌≤◌, ◌++◌, Bool, true, false, if◌then◌else◌, List, [], ◌∷◌, Some, None, length, map, count_by}
use Rattle.std.proofs.Common.{sym, ◌∙◌, ap, subst, arith, inl, inr, get_or}
use Rattle.std.proofs.lemmas.Bool.{cases_eq, cases_Bool, cases_lt}
use Rattle.std.proofs.lemmas.List.{get_or_past, get_or-map, length-map, length-replicate, get_or_append_left, get_or_push, length_push, ext_get_or, take_all}
use Rattle.netlist.specs.declared.net.Net.{Net}
use Rattle.netlist.specs.declared.net.Net.TheVariants.{Input, Register, Not}
use Rattle.netlist.specs.Nets.{Bits, word_at, width_at, is_input, is_register, is_computed}
use Rattle.netlist.specs.Plans.{Plan, FitsAt, net_at, next_of, IsPlan}
use Rattle.netlist.specs.PlanLaws.{stands_at, length_at, register_within}
use Rattle.netlist.specs.Settled.{input_place}
use Rattle.netlist.specs.InputPlaces.{input_place_next}
use Rattle.cycle_sim.specs.Changes.{is_evaluated, is_marked}
use Rattle.cycle_sim.specs.Wired.{IsInputPlace, AreInputPlaces}
use Rattle.cycle_sim.specs.Turns.{HasState}
use Rattle.cycle_sim.specs.Clocks.{AreWords}
use Rattle.cycle_sim.specs.Simulated.{rest_word, AreAtRest, IsReady, HasRoom}

-- ---- marks by kind

marked-map : (f : Net → Bool) (nets : List Net) (i : ℕ) → i < length nets → is_marked (map f nets) i ≡ f (net_at nets i)
marked-map f nets i lt = get_or-map f nets i (Not 0) false lt

marked_kind : (f : Net → Bool) (nets : List Net) (i : ℕ) → is_marked (map f nets) i ≡ true → f (net_at nets i) ≡ true
marked_kind f nets i e =
    elim (cases_lt i (length nets)) [
      | inl lt ↦ sym (marked-map f nets i lt) ∙ e
      | inr ge ↦ let no : false ≡ true = sym (get_or_past (map f nets) i false (subst (λ k. k ≤ i) (sym (length-map nets f)) ge)) ∙ e in absurd (grind (arith, no))
    ]

-- ---- words at rest

rest_length : (net : Net) (widths : List ℕ) (place : ℕ) → FitsAt widths place net → length (rest_word net (width_at widths place)) ≡ width_at widths place
rest_length (Register reset) widths place f = sym f.own
rest_length (Input width) widths place f = length-replicate (width_at widths place) false
rest_length net widths place f = length-replicate (width_at widths place) false

pub rest_words : (plan : Plan) (words : List Bits) → IsPlan plan → AreAtRest plan words → AreWords plan words
rest_words plan words h r = record {
  count = r.count;
  wide =
      ext_get_or 0 (map length words) plan.widths (length-map words length ∙ r.count ∙ sym h.width_count)
      (λ j l.
      let lt : j < length plan.nets = subst (λ k. j < k) (length-map words length ∙ r.count) l in
      sym (length_at words j) ∙ ap length (r.each j lt) ∙ rest_length (net_at plan.nets j) plan.widths j (h.fit j (net_at plan.nets j) (stands_at plan.nets j lt)));
}

-- the words of the nets before a place are there
pub record RestBelow (plan : Plan) (words : List Bits) (n : ℕ) : Type 0 where
  pub count : length words ≡ n
  pub each : (net : ℕ) → net < n → word_at words net ≡ rest_word (net_at plan.nets net) (width_at plan.widths net)

pub rest_more : (plan : Plan) (words words' : List Bits) (n : ℕ) (w : Bits) → words' ≡ words ++ w ∷ [] → w ≡ rest_word (net_at plan.nets n) (width_at plan.widths n) → RestBelow plan words n → RestBelow plan words' (n + 1)
rest_more plan words words' n w made is r =
    subst (λ ws. RestBelow plan ws (n + 1)) (sym made) (record {
      count = length_push words w ∙ ap (λ k. k + 1) r.count;
      each = λ j l.
          elim (cases_eq j n) [
            | inl e ↦ subst (λ k. word_at (words ++ w ∷ []) k ≡ rest_word (net_at plan.nets k) (width_at plan.widths k)) (sym e) (get_or_push words w [] n r.count ∙ is)
            | inr ne ↦ get_or_append_left words (w ∷ []) [] j (subst (λ k. j < k) (sym r.count) (omega (arith, ne))) ∙ r.each j (omega (arith, ne))
          ];
    })

-- ---- places of inputs

-- the places of the inputs before a net are there
pub record PlacesBelow (nets : List Net) (places : List ℕ) (n : ℕ) : Type 0 where
  pub count : length places ≡ input_place nets n
  pub each : (number : ℕ) → number < length places → IsInputPlace nets number (get_or places number 0)
  pub all : (place : ℕ) → place < n → is_input (net_at nets place) ≡ true → get_or places (input_place nets place) 0 ≡ place

-- places of inputs rise
place_rises : (nets : List Net) (n : ℕ) → n ≤ length nets → (i : ℕ) → i < n → is_input (net_at nets i) ≡ true → input_place nets i < input_place nets n
place_rises nets zero le i l e = absurd (omega arith)
place_rises nets (suc n) le i l e =
    let lt : n < length nets = omega arith in
    let step = input_place_next nets n lt in
    subst (λ k. input_place nets i < input_place nets k) (let q : n + 1 ≡ suc n = omega arith in q)
    (subst (λ k. input_place nets i < k) (sym step)
    (elim (cases_eq i n) [
      | inl same ↦ subst (λ b. input_place nets i < (if b then input_place nets n + 1 else input_place nets n)) (sym (ap (λ k. is_input (net_at nets k)) (sym same) ∙ e)) (let q : input_place nets i ≡ input_place nets n = ap (input_place nets) same in omega arith)
      | inr ne ↦ further (is_input (net_at nets n)) (place_rises nets n (omega arith) i (omega (arith, ne)) e)
    ]))
  where
    further : (b : Bool) → input_place nets i < input_place nets n → input_place nets i < (if b then input_place nets n + 1 else input_place nets n)
    further true h = omega arith
    further false h = h

pub places_more : (nets : List Net) (places places' : List ℕ) (n : ℕ) → n < length nets → places' ≡ (if is_input (net_at nets n) then places ++ n ∷ [] else places) → PlacesBelow nets places n → PlacesBelow nets places' (n + 1)
places_more nets places places' n lt made p =
    elim (cases_Bool (is_input (net_at nets n))) [
      | inl yes' ↦ subst (λ ps. PlacesBelow nets ps (n + 1)) (sym (made ∙ ap (λ b. if b then places ++ n ∷ [] else places) yes')) (record {
        count = length_push places n ∙ ap (λ k. k + 1) p.count ∙ sym (input_place_next nets n lt ∙ ap (λ b. if b then input_place nets n + 1 else input_place nets n) yes');
        each = λ k l.
            elim (cases_eq k (length places)) [
              | inl e ↦
                  let here : get_or (places ++ n ∷ []) k 0 ≡ n = get_or_push places n 0 k (sym e) in
                  subst (λ q. IsInputPlace nets k q) (sym here) (record { within = lt; is_one = yes'; numbered = sym p.count ∙ sym e })
              | inr ne ↦
                  let l' : k < length places = let m = length_push places n in omega (arith, ne) in
                  subst (λ q. IsInputPlace nets k q) (sym (get_or_append_left places (n ∷ []) 0 k l')) (p.each k l')
            ];
        all = λ place l e.
            elim (cases_eq place n) [
              | inl same ↦ ap (λ k. get_or (places ++ n ∷ []) (input_place nets k) 0) same ∙ get_or_push places n 0 (input_place nets n) p.count ∙ sym same
              | inr ne ↦
                  let low : place < n = omega (arith, ne) in
                  get_or_append_left places (n ∷ []) 0 (input_place nets place) (subst (λ k. input_place nets place < k) (sym p.count) (place_rises nets n (omega arith) place low e)) ∙ p.all place low e
            ];
      })
      | inr no' ↦ subst (λ ps. PlacesBelow nets ps (n + 1)) (sym (made ∙ ap (λ b. if b then places ++ n ∷ [] else places) no')) (record {
        count = p.count ∙ sym (input_place_next nets n lt ∙ ap (λ b. if b then input_place nets n + 1 else input_place nets n) no');
        each = p.each;
        all = λ place l e.
            elim (cases_eq place n) [
              | inl same ↦ let no : true ≡ false = sym e ∙ ap (λ k. is_input (net_at nets k)) same ∙ no' in absurd (grind (arith, no))
              | inr ne ↦ p.all place (omega (arith, ne)) e
            ];
      })
    ]

pub places_all : (nets : List Net) (places : List ℕ) → PlacesBelow nets places (length nets) → AreInputPlaces nets places
places_all nets places p = record { count = p.count ∙ ap (count_by is_input) (take_all (length nets) nets (omega arith)); each = p.each; all = p.all }

-- ---- the start

computed_evaluated : (words : List Bits) (nets : List Net) (i : ℕ) → i < length nets → is_marked (map is_computed nets) i ≡ is_evaluated None words (net_at nets i)
computed_evaluated words nets i lt = marked-map is_computed nets i lt

pub start_state : (plan : Plan) (words : List Bits) (marks waiting : List Bool) → IsPlan plan → AreAtRest plan words → marks ≡ map is_computed plan.nets → waiting ≡ map is_register plan.nets → HasState plan words marks waiting
start_state plan words marks waiting h r e1 e2 =
    let a = rest_words plan words h r in
    record {
      count = a.count;
      wide = a.wide;
      mark_count = ap length e1 ∙ length-map plan.nets is_computed;
      wait_count = ap length e2 ∙ length-map plan.nets is_register;
      only_computed = λ i m. marked_kind is_computed plan.nets i (ap (λ ms. is_marked ms i) (sym e1) ∙ m);
      only_registers = λ i m. marked_kind is_register plan.nets i (ap (λ ms. is_marked ms i) (sym e2) ∙ m);
    }

registers_wait : (plan : Plan) (waiting : List Bool) → IsPlan plan → waiting ≡ map is_register plan.nets → (register next : ℕ) → next_of plan register ≡ Some next → is_marked waiting register ≡ true
registers_wait plan waiting h e register next n =
    let one = (h.set_nexts register next n).is_one in
    ap (λ ms. is_marked ms register) e ∙ marked-map is_register plan.nets register (register_within plan.nets register one) ∙ one

pub start_ready : (plan : Plan) (words : List Bits) (marks waiting : List Bool) → IsPlan plan → AreAtRest plan words → marks ≡ map is_computed plan.nets → waiting ≡ map is_register plan.nets → IsReady plan words marks waiting false
start_ready plan words marks waiting h r e1 e2 = record {
  calm = record { each = λ register next n free. let no : true ≡ false = sym (registers_wait plan waiting h e2 register next n) ∙ free in absurd (grind (arith, no)) };
  first = λ e. record {
    rest = r;
    begun = record {
      kept = λ i l c. tt;
      marked = λ i l. ap (λ ms. is_marked ms i) e1 ∙ computed_evaluated words plan.nets i l;
      waits = λ register next n. registers_wait plan waiting h e2 register next n;
    };
  };
  behind = λ e. absurd (grind (arith, e));
}

pub start_room : (plan : Plan) (held : List Bits) (due : List Bool) → IsPlan plan → AreAtRest plan held → due ≡ map (λ net. false) plan.nets → HasRoom plan held due
start_room plan held due h r e = record {
  words = rest_words plan held h r;
  registers = record { count = ap length e ∙ length-map plan.nets (λ net. false); only = λ i m. let no : false ≡ true = sym (unmarked i) ∙ m in absurd (grind (arith, no)) };
  none = record { none = λ i l. unmarked i };
}
  where
    unmarked : (i : ℕ) → is_marked due i ≡ false
    unmarked i =
        ap (λ ms. is_marked ms i) e
        ∙ elim (cases_lt i (length plan.nets)) [
          | inl lt ↦ marked-map (λ net. false) plan.nets i lt
          | inr ge ↦ get_or_past (map (λ net. false) plan.nets) i false (subst (λ k. k ≤ i) (sym (length-map plan.nets (λ net. false))) ge)
        ]

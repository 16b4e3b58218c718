-- The module of a complete netlist with an interface of it is good.
use Rattle.std.specs.Prelude.{◌≡◌, ℕ, zero, suc, ◌+◌, ◌-◌, ◌<◌, ◌≤◌, ◌==◌, ◌||◌, nat_lt, nat_le, Bool, true, false, List, [], ◌∷◌, Option, Some, None, length, map, slice_get, All, IsSome, refl}
use Rattle.std.specs.List.{slice_index_or}
use Rattle.std.specs.Option.{option_map}
use Rattle.std.proofs.Common.{sym, ◌∙◌, ap, subst, arith, inl, inr}
use Rattle.std.proofs.lemmas.Bool.{true≢false, cases_lt, cases_Bool, and_from, or_right, lt-ltb, le-leb, eq-eqb}
use Rattle.std.proofs.lemmas.List.{length-map}
use Rattle.std.proofs.lemmas.Option.{same_Some, none-some, slice_get-map, slice_get-get_or, get_or_from_slice_get}
use Rattle.channel_types.specs.Types.{width_of}
use Rattle.netlist.specs.declared.limits.TheConstants.{MAX_NETS, MAX_WIDTH, MAX_NUMBER_WIDTH}
use Rattle.netlist.specs.declared.net.Net.{Net}
use Rattle.netlist.specs.declared.net.Net.TheVariants as N
use Rattle.netlist.specs.declared.net.Net.TheVariants.{Input, Register}
use Rattle.netlist.specs.Nets.{is_input, is_register, width_at, width_in}
use Rattle.netlist.specs.Plans.{Plan, Stands, net_at, next_of, IsComplete, IsWidth}
use Rattle.netlist.specs.PlanLaws.{net_at-stands, stands_within}
use Rattle.verilog_module.specs.declared.module.Declared.{Declared}
use Rattle.verilog_module.specs.declared.right.Right.{Right}
use Rattle.verilog_module.specs.declared.right.Right.TheVariants.{Port, Constant, Not, And, Or, Xor, Add, Sub, Equal, Less, Choose, Slice, Concat}
use Rattle.verilog_module.specs.Modules.{Bits, Module, declared_at, net_width, input_widths, input_count}
use Rattle.verilog_module.specs.OfNetlist.{Interface, declarations, right_of, reset_from, module_of}
use Rattle.verilog_module.specs.Places.{length_declarations, declared_is, place_from, place_of_input, right_stands, length_rights}
use Rattle.verilog_module.specs.Good.{any_width, as_wide, as_number, one_bit, joins, May, IsGoodRight, Fitting, Where, RightOf, ResetOf, Drives, NextOf, ReadyOf, OfferOf, IsGoodModule}
use Rattle.verilog_module.specs.Statements.{ReadyNet, OfferNets, IsInterfaceOf, ModulesAreGood}

-- ---- lists with an item for each of another list

pub fitting_from : {A B : Type 0} (good : ℕ → A → B → Type 0) (n : ℕ) (ds : List A) (xs : List B) → length ds ≡ length xs
    → ((k : ℕ) (d : A) (x : B) → slice_get ds k ≡ Some d → slice_get xs k ≡ Some x → good (n + k) d x) → Fitting good n ds xs
fitting_from good n [] [] e each = tt
fitting_from good n [] (x ∷ xs) e each = absurd (omega (arith, e))
fitting_from good n (d ∷ ds) [] e each = absurd (omega (arith, e))
fitting_from good n (d ∷ ds) (x ∷ xs) e each =
    let here : n + 0 ≡ n = omega arith in (
      subst (λ m. good m d x) here (each 0 d x refl refl),
      fitting_from good (n + 1) ds xs (omega (arith, e)) (λ k d' x' p q. let there : n + suc k ≡ n + 1 + k = omega arith in subst (λ m. good m d' x') there (each (suc k) d' x' p q)),
    )

pub fitting_same : {A B : Type 0} (good other : ℕ → A → B → Type 0) (n : ℕ) (ds : List A) (xs : List B) → ((k : ℕ) (d : A) (x : B) → good k d x → other k d x) → Fitting good n ds xs → Fitting other n ds xs
fitting_same good other n [] [] to f = tt
fitting_same good other n [] (x ∷ xs) to f = absurd f
fitting_same good other n (d ∷ ds) [] to f = absurd f
fitting_same good other n (d ∷ ds) (x ∷ xs) to f = (to n d x f.0, fitting_same good other (n + 1) ds xs to f.1)

-- ---- nets

where_there : {A : Type 0} (b : Bool) (good : A → Type 0) (a : A) → b ≡ true → good a → Where b good (Some a)
where_there true good a e g = g
where_there false good a e g = absurd (true≢false (sym e))

where_not : {A : Type 0} (b : Bool) (good : A → Type 0) → b ≡ false → Where b good None
where_not true good e = absurd (true≢false e)
where_not false good e = tt

-- the declaration at a place is that of a net
stands_declared : (nets : List Net) (widths : List ℕ) (n : ℕ) (d : Declared) → slice_get (declarations nets widths) n ≡ Some d → (net : Net) × Stands nets n net × (d ≡ record { width = width_at widths n; is_register = is_register net })
stands_declared [] widths n d e = absurd (none-some d e)
stands_declared (net ∷ nets) [] n d e = absurd (none-some d e)
stands_declared (net ∷ nets) (width ∷ widths) zero d e = (net, refl, sym (same_Some (record { width = width; is_register = is_register net }) d e))
stands_declared (net ∷ nets) (width ∷ widths) (suc n) d e = stands_declared nets widths n d e

module _ (plan : Plan) (interface : Interface) (h : IsComplete plan) (i : IsInterfaceOf plan interface) where
  abbrev made : Module
  made = module_of plan interface

  count_is : length made.nets ≡ length plan.nets
  count_is = length_declarations plan.nets plan.widths h.plan_kept.width_count

  width_is : (a : ℕ) → net_width made.nets a ≡ width_at plan.widths a
  width_is a = ap (λ d. d.width) (declared_is plan.nets plan.widths a h.plan_kept.width_count)

  drives : (width a : ℕ) → a < length plan.nets → width_at plan.widths a ≡ width → Drives made width a
  drives width a lt e = record { there = subst (λ k. a < k) (sym count_is) lt; wide = width_is a ∙ e }

  -- ---- operands

  may : (n a : ℕ) (test : ℕ → Bool) → n < length plan.nets → a < n → test a ≡ true → May made.nets n test a
  may n a test lt below passes =
      let there : a < length made.nets = subst (λ k. a < k) (sym count_is) (let l : a < length plan.nets = omega arith in l) in
      and_from _ (test a)
      (and_from (nat_lt a (length made.nets)) ((declared_at made.nets a).is_register || nat_lt a n) (lt-ltb a (length made.nets) there) (or_right (declared_at made.nets a).is_register (nat_lt a n) (lt-ltb a n below)))
      passes

  as_wide_as : (a b : ℕ) → width_at plan.widths a ≡ width_at plan.widths b → (net_width made.nets b == net_width made.nets a) ≡ true
  as_wide_as a b e = eq-eqb (net_width made.nets b) (net_width made.nets a) (width_is b ∙ sym e ∙ sym (width_is a))

  number_wide : (a : ℕ) → width_at plan.widths a ≤ MAX_NUMBER_WIDTH → nat_le (net_width made.nets a) MAX_NUMBER_WIDTH ≡ true
  number_wide a le = le-leb (net_width made.nets a) MAX_NUMBER_WIDTH (subst (λ k. k ≤ MAX_NUMBER_WIDTH) (sym (width_is a)) le)

  -- ---- right sides

  -- a net that is no input stands behind the input ports
  behind_inputs : (n : ℕ) (net : Net) → Stands plan.nets n net → is_input net ≡ false → input_count interface.to_server interface.to_client ≤ n
  behind_inputs n net s e =
      elim (cases_lt n (input_count interface.to_server interface.to_client)) [
        | inl lt ↦ absurd (true≢false (ap is_input (same_Some (Input (slice_index_or (input_widths interface.to_server interface.to_client) n 0)) net (sym (i.inputs n lt) ∙ s)) ∙ e))
        | inr ge ↦ ge
      ]

  -- and an input among them
  input_within : (n width : ℕ) → Stands plan.nets n (Input width) → n < input_count interface.to_server interface.to_client
  input_within n width s =
      elim (cases_lt n (input_count interface.to_server interface.to_client)) [
        | inl lt ↦ lt
        | inr ge ↦ absurd (true≢false (i.others n (Input width) ge s))
      ]

  own_width : (n : ℕ) (net : Net) → Stands plan.nets n net → width_in net plan.widths ≡ net_width made.nets n
  own_width n net s = sym (width_is n ∙ (h.plan_kept.fit n net s).own)

  right_good : (n : ℕ) (net : Net) (right : Right) → Stands plan.nets n net → right_of n net ≡ Some right → IsGoodRight made n right
  right_good n (Input width) right s e =
      let lt = input_within n width s in
      let is : Input (slice_index_or (input_widths interface.to_server interface.to_client) n 0) ≡ Input width =
      same_Some (Input (slice_index_or (input_widths interface.to_server interface.to_client) n 0)) (Input width) (sym (i.inputs n lt) ∙ s) in
      subst (IsGoodRight made n) (same_Some (Port n) right e)
      (record { place = (refl, lt); operands = tt; width = ap (λ net. width_in net plan.widths) is ∙ own_width n (Input width) s })
  right_good n (Register reset) right s e = absurd (none-some right e)
  right_good n (N.Const word) right s e =
      subst (IsGoodRight made n) (same_Some (Constant word) right e)
      (record { place = behind_inputs n (N.Const word) s refl; operands = tt; width = own_width n (N.Const word) s })
  right_good n (N.Not a) right s e =
      let lt = stands_within plan.nets n (N.Not a) s in
      let f = (h.plan_kept.fit n (N.Not a) s).fits in
      subst (IsGoodRight made n) (same_Some (Not a) right e)
      (record { place = behind_inputs n (N.Not a) s refl; operands = may n a any_width lt f refl; width = width_is a ∙ own_width n (N.Not a) s })
  right_good n (N.And a b) right s e =
      let lt = stands_within plan.nets n (N.And a b) s in
      let f = (h.plan_kept.fit n (N.And a b) s).fits in
      subst (IsGoodRight made n) (same_Some (And a b) right e)
      (record { place = behind_inputs n (N.And a b) s refl; operands = (may n a any_width lt f.0 refl, may n b (as_wide made.nets a) lt f.1 (as_wide_as a b f.2)); width = width_is a ∙ own_width n (N.And a b) s })
  right_good n (N.Or a b) right s e =
      let lt = stands_within plan.nets n (N.Or a b) s in
      let f = (h.plan_kept.fit n (N.Or a b) s).fits in
      subst (IsGoodRight made n) (same_Some (Or a b) right e)
      (record { place = behind_inputs n (N.Or a b) s refl; operands = (may n a any_width lt f.0 refl, may n b (as_wide made.nets a) lt f.1 (as_wide_as a b f.2)); width = width_is a ∙ own_width n (N.Or a b) s })
  right_good n (N.Xor a b) right s e =
      let lt = stands_within plan.nets n (N.Xor a b) s in
      let f = (h.plan_kept.fit n (N.Xor a b) s).fits in
      subst (IsGoodRight made n) (same_Some (Xor a b) right e)
      (record { place = behind_inputs n (N.Xor a b) s refl; operands = (may n a any_width lt f.0 refl, may n b (as_wide made.nets a) lt f.1 (as_wide_as a b f.2)); width = width_is a ∙ own_width n (N.Xor a b) s })
  right_good n (N.Add a b) right s e =
      let lt = stands_within plan.nets n (N.Add a b) s in
      let f = (h.plan_kept.fit n (N.Add a b) s).fits in
      subst (IsGoodRight made n) (same_Some (Add a b) right e)
      (record { place = behind_inputs n (N.Add a b) s refl; operands = (may n a (as_number made.nets) lt f.0 (number_wide a f.3), may n b (as_wide made.nets a) lt f.1 (as_wide_as a b f.2)); width = width_is a ∙ own_width n (N.Add a b) s })
  right_good n (N.Sub a b) right s e =
      let lt = stands_within plan.nets n (N.Sub a b) s in
      let f = (h.plan_kept.fit n (N.Sub a b) s).fits in
      subst (IsGoodRight made n) (same_Some (Sub a b) right e)
      (record { place = behind_inputs n (N.Sub a b) s refl; operands = (may n a (as_number made.nets) lt f.0 (number_wide a f.3), may n b (as_wide made.nets a) lt f.1 (as_wide_as a b f.2)); width = width_is a ∙ own_width n (N.Sub a b) s })
  right_good n (N.Equal a b) right s e =
      let lt = stands_within plan.nets n (N.Equal a b) s in
      let f = (h.plan_kept.fit n (N.Equal a b) s).fits in
      subst (IsGoodRight made n) (same_Some (Equal a b) right e)
      (record { place = behind_inputs n (N.Equal a b) s refl; operands = (may n a any_width lt f.0 refl, may n b (as_wide made.nets a) lt f.1 (as_wide_as a b f.2)); width = own_width n (N.Equal a b) s })
  right_good n (N.Less a b) right s e =
      let lt = stands_within plan.nets n (N.Less a b) s in
      let f = (h.plan_kept.fit n (N.Less a b) s).fits in
      subst (IsGoodRight made n) (same_Some (Less a b) right e)
      (record { place = behind_inputs n (N.Less a b) s refl; operands = (may n a (as_number made.nets) lt f.0 (number_wide a f.3), may n b (as_wide made.nets a) lt f.1 (as_wide_as a b f.2)); width = own_width n (N.Less a b) s })
  right_good n (N.Choose test one other) right s e =
      let lt = stands_within plan.nets n (N.Choose test one other) s in
      let f = (h.plan_kept.fit n (N.Choose test one other) s).fits in
      subst (IsGoodRight made n) (same_Some (Choose test one other) right e)
      (record {
        place = behind_inputs n (N.Choose test one other) s refl;
        operands = (may n test (one_bit made.nets) lt f.0 (eq-eqb (net_width made.nets test) 1 (width_is test ∙ f.3)), may n one any_width lt f.1 refl, may n other (as_wide made.nets one) lt f.2 (as_wide_as one other f.4));
        width = width_is one ∙ own_width n (N.Choose test one other) s;
      })
  right_good n (N.Slice of high low) right s e =
      let lt = stands_within plan.nets n (N.Slice of high low) s in
      let f = (h.plan_kept.fit n (N.Slice of high low) s).fits in
      subst (IsGoodRight made n) (same_Some (Slice of high low) right e)
      (record {
        place = behind_inputs n (N.Slice of high low) s refl;
        operands = (may n of any_width lt f.0 refl, lt-ltb high (net_width made.nets of) (subst (λ k. high < k) (sym (width_is of)) f.2), le-leb low high f.1);
        width = own_width n (N.Slice of high low) s;
      })
  right_good n (N.Concat high low) right s e =
      let lt = stands_within plan.nets n (N.Concat high low) s in
      let f = (h.plan_kept.fit n (N.Concat high low) s).fits in
      let sum : net_width made.nets high + net_width made.nets low ≡ width_at plan.widths high + width_at plan.widths low =
      ap (λ k. k + net_width made.nets low) (width_is high) ∙ ap (λ k. width_at plan.widths high + k) (width_is low) in
      subst (IsGoodRight made n) (same_Some (Concat high low) right e)
      (record {
        place = behind_inputs n (N.Concat high low) s refl;
        operands = (may n high any_width lt f.0 refl, may n low (joins made.nets high) lt f.1 (le-leb (net_width made.nets high + net_width made.nets low) MAX_WIDTH (subst (λ k. k ≤ MAX_WIDTH) (sym sum) f.2)));
        width = sum ∙ own_width n (N.Concat high low) s;
      })

  -- an input has as many inputs before it as its place says
  first_nets : (a : ℕ) → a < input_count interface.to_server interface.to_client → is_input (net_at plan.nets a) ≡ true
  first_nets a lt = ap is_input (net_at-stands plan.nets a (Input (slice_index_or (input_widths interface.to_server interface.to_client) a 0)) (i.inputs a lt))

  right_there : (n : ℕ) (net : Net) (d : Declared) (x : Option Right) → Stands plan.nets n net → d ≡ record { width = width_at plan.widths n; is_register = is_register net } → right_of (place_from 0 plan.nets n) net ≡ x → RightOf made n d x
  right_there n (Register reset) d x s e r = subst (λ d. RightOf made n d x) (sym e) (subst (λ x. RightOf made n (record { width = width_at plan.widths n; is_register = true }) x) r tt)
  right_there n (Input width) d x s e r =
      let at = place_of_input plan.nets (input_count interface.to_server interface.to_client) n (let lt = input_within n width s in omega (arith, lt)) i.enough first_nets in
      subst (λ d. RightOf made n d x) (sym e) (subst (λ x. RightOf made n (record { width = width_at plan.widths n; is_register = false }) x) r
      (subst (λ p. IsGoodRight made n (Port p)) (sym at) (right_good n (Input width) (Port n) s refl)))
  right_there n (N.Const word) d x s e r = subst (λ d. RightOf made n d x) (sym e) (subst (λ x. RightOf made n (record { width = width_at plan.widths n; is_register = false }) x) r (right_good n (N.Const word) (Constant word) s refl))
  right_there n (N.Not a) d x s e r = subst (λ d. RightOf made n d x) (sym e) (subst (λ x. RightOf made n (record { width = width_at plan.widths n; is_register = false }) x) r (right_good n (N.Not a) (Not a) s refl))
  right_there n (N.And a b) d x s e r = subst (λ d. RightOf made n d x) (sym e) (subst (λ x. RightOf made n (record { width = width_at plan.widths n; is_register = false }) x) r (right_good n (N.And a b) (And a b) s refl))
  right_there n (N.Or a b) d x s e r = subst (λ d. RightOf made n d x) (sym e) (subst (λ x. RightOf made n (record { width = width_at plan.widths n; is_register = false }) x) r (right_good n (N.Or a b) (Or a b) s refl))
  right_there n (N.Xor a b) d x s e r = subst (λ d. RightOf made n d x) (sym e) (subst (λ x. RightOf made n (record { width = width_at plan.widths n; is_register = false }) x) r (right_good n (N.Xor a b) (Xor a b) s refl))
  right_there n (N.Add a b) d x s e r = subst (λ d. RightOf made n d x) (sym e) (subst (λ x. RightOf made n (record { width = width_at plan.widths n; is_register = false }) x) r (right_good n (N.Add a b) (Add a b) s refl))
  right_there n (N.Sub a b) d x s e r = subst (λ d. RightOf made n d x) (sym e) (subst (λ x. RightOf made n (record { width = width_at plan.widths n; is_register = false }) x) r (right_good n (N.Sub a b) (Sub a b) s refl))
  right_there n (N.Equal a b) d x s e r = subst (λ d. RightOf made n d x) (sym e) (subst (λ x. RightOf made n (record { width = width_at plan.widths n; is_register = false }) x) r (right_good n (N.Equal a b) (Equal a b) s refl))
  right_there n (N.Less a b) d x s e r = subst (λ d. RightOf made n d x) (sym e) (subst (λ x. RightOf made n (record { width = width_at plan.widths n; is_register = false }) x) r (right_good n (N.Less a b) (Less a b) s refl))
  right_there n (N.Choose test one other) d x s e r = subst (λ d. RightOf made n d x) (sym e) (subst (λ x. RightOf made n (record { width = width_at plan.widths n; is_register = false }) x) r (right_good n (N.Choose test one other) (Choose test one other) s refl))
  right_there n (N.Slice of high low) d x s e r = subst (λ d. RightOf made n d x) (sym e) (subst (λ x. RightOf made n (record { width = width_at plan.widths n; is_register = false }) x) r (right_good n (N.Slice of high low) (Slice of high low) s refl))
  right_there n (N.Concat high low) d x s e r = subst (λ d. RightOf made n d x) (sym e) (subst (λ x. RightOf made n (record { width = width_at plan.widths n; is_register = false }) x) r (right_good n (N.Concat high low) (Concat high low) s refl))

  rights_good : Fitting (RightOf made) 0 made.nets made.rights
  rights_good = fitting_from (RightOf made) 0 made.nets made.rights (count_is ∙ sym (length_rights 0 plan.nets)) (λ k d x p q.
      let d' = stands_declared plan.nets plan.widths k d p in
      let here : 0 + k ≡ k = omega arith in
      subst (λ n. RightOf made n d x) (sym here) (right_there k d'.0 d x d'.1 d'.2 (same_Some (right_of (place_from 0 plan.nets k) d'.0) x (sym (right_stands 0 plan.nets k d'.0 d'.1) ∙ q))))

  -- ---- registers

  reset_there : (n : ℕ) (net : Net) (d : Declared) (x : Option Bits) → Stands plan.nets n net → d ≡ record { width = width_at plan.widths n; is_register = is_register net } → reset_from net ≡ x → ResetOf n d x
  reset_there n (Register reset) d x s e r = subst (λ d. ResetOf n d x) (sym e) (subst (λ x. ResetOf n (record { width = width_at plan.widths n; is_register = true }) x) r (sym (h.plan_kept.fit n (Register reset) s).own))
  reset_there n net d x s e r = subst (λ d. ResetOf n d x) (sym e) (subst (λ x. ResetOf n (record { width = width_at plan.widths n; is_register = false }) x) r tt)

  resets_good : Fitting ResetOf 0 made.nets made.resets
  resets_good = fitting_from ResetOf 0 made.nets made.resets (count_is ∙ sym (length-map plan.nets reset_from)) (λ k d x p q.
      let d' = stands_declared plan.nets plan.widths k d p in
      let here : 0 + k ≡ k = omega arith in
      let r : Some (reset_from d'.0) ≡ Some x = sym (slice_get-map reset_from plan.nets k ∙ ap (λ o. option_map reset_from o) d'.1) ∙ q in
      subst (λ n. ResetOf n d x) (sym here) (reset_there k d'.0 d x d'.1 d'.2 (same_Some (reset_from d'.0) x r)))

  next_there : (n : ℕ) (net : Net) (d : Declared) (x : Option ℕ) → Stands plan.nets n net → d ≡ record { width = width_at plan.widths n; is_register = is_register net } → next_of plan n ≡ x → NextOf made n d x
  next_there n net d None s e x =
      elim (cases_Bool (is_register net)) [
        | inl yes' ↦ absurd (no_next (next_of plan n) (h.all.each n (ap is_register (net_at-stands plan.nets n net s) ∙ yes')) x)
        | inr no' ↦ subst (λ d. NextOf made n d None) (sym e) (where_not (is_register net) (Drives made (width_at plan.widths n)) no')
      ]
    where
      no_next : (o : Option ℕ) → IsSome o → o ≡ None → ⊥
      no_next (Some a) h e = none-some a (sym e)
      no_next None h e = grind (arith, h)
  next_there n net d (Some a) s e x =
      let k = h.plan_kept.set_nexts n a x in
      subst (λ d. NextOf made n d (Some a)) (sym e)
      (where_there (is_register net) (Drives made (width_at plan.widths n)) a (sym (ap is_register (net_at-stands plan.nets n net s)) ∙ k.is_one) (drives (width_at plan.widths n) a k.within k.same))

  nexts_good : Fitting (NextOf made) 0 made.nets made.nexts
  nexts_good = fitting_from (NextOf made) 0 made.nets made.nexts (count_is ∙ sym h.plan_kept.next_count) (λ k d x p q.
      let d' = stands_declared plan.nets plan.widths k d p in
      let here : 0 + k ≡ k = omega arith in
      subst (λ n. NextOf made n d x) (sym here) (next_there k d'.0 d x d'.1 d'.2 (get_or_from_slice_get plan.nexts k x None q)))

  -- ---- the rest

  widths_good : (k : ℕ) (d : Declared) → slice_get made.nets k ≡ Some d → IsWidth d.width
  widths_good k d p =
      let d' = stands_declared plan.nets plan.widths k d p in
      subst (λ (d : Declared). IsWidth d.width) (sym d'.2) (h.plan_kept.fit k d'.0 d'.1).wide

  module_good : IsGoodModule made
  module_good = record {
    title = i.title;
    server_count = i.server_count;
    client_count = i.client_count;
    server_ends = i.server_ends;
    client_ends = i.client_ends;
    net_count = subst (λ k. k ≤ MAX_NETS) (sym count_is) h.plan_kept.limit;
    inputs = subst (λ k. input_count interface.to_server interface.to_client ≤ k) (sym count_is) i.enough;
    wide = nets_wide;
    rights = rights_good;
    readies = fitting_same (ReadyNet plan) (ReadyOf made) 0 interface.to_server interface.readies (λ k end ready r. drives 1 ready r.there r.wide) i.readies;
    offers = fitting_same (OfferNets plan) (OfferOf made) 0 interface.to_client interface.offers
        (λ k end offer o. (drives 1 offer.valid o.0.there o.0.wide, drives (width_of end.ty) offer.word o.1.there o.1.wide)) i.offers;
    resets = resets_good;
    nexts = nexts_good;
  }
    where
      nets_wide : All (λ (net : Declared). IsWidth net.width) made.nets
      nets_wide k d l = widths_good k (slice_index_or made.nets k d) (slice_get-get_or made.nets k d l)

pub modules_are_good : ModulesAreGood
modules_are_good plan interface h i = module_good plan interface h i

-- Which registers of a netlist have their next net: all but those of the elements whose next nets are still to come.
use Rattle.std.specs.Prelude.{◌≡◌, ℕ, zero, suc, ◌+◌, ◌-◌, ◌<◌, ◌≤◌, ◌++◌, ◌∷◌, [], true, false, List, Option, Some, None, length, get_or, IsSome, replicate, refl}
use Rattle.std.proofs.Common.{sym, ◌∙◌, ap, subst, arith, inl, inr, ◌⊎◌, length-append}
use Rattle.std.proofs.lemmas.Bool.{cases_lt, cases_eq, false≢true}
use Rattle.std.proofs.lemmas.List.{get_or_append_left, get_or-append-add, get_or_past, length-set, get_or-set_same, get_or-set_other}
use Rattle.netlist.specs.declared.net.Net.{Net}
use Rattle.netlist.specs.declared.net.Net.TheVariants.{Not, Register}
use Rattle.netlist.specs.declared.part.Part.{Part}
use Rattle.netlist.specs.declared.part.Part.TheVariants.{Stage, Fifo, AsFifo, AsVr, Map, Scan, Fork, Join}
use Rattle.netlist.specs.Nets.{is_register}
use Rattle.netlist.specs.Parts.{IsGoodPart}
use Rattle.netlist.specs.Plans.{Plan, net_at, is_register_at, next_of, with_net, with_next, HasAllNexts}
use Rattle.netlist.specs.PlanLaws.{register_within}
use Rattle.net_lists.specs.Lists.{with_nets}
use Rattle.net_lists.specs.ListLaws.{with_nets-nets}
use Rattle.looped_nets.specs.Loops.{nets_upto, linked}
use Rattle.looped_nets.specs.Forks.{flag_register, flag_next}
use Rattle.looped_nets.specs.Fifos.{place_register, early_next, last_next}
use Rattle.buffer_stage.specs.declared.laid.Laid.{Laid}
use Rattle.buffer_stage.specs.Passes.{output_count, register_nets, linked_up, fifo_in}
use Rattle.channel_lower.specs.Growth.{linked_up_nets}
use Rattle.channel_lower.specs.Plain.{ArePlain, plain_at}

-- a register is one of those of an element, which stand from a place on
pub record IsOf (part : Part) (registers r : ℕ) : Type 0 where
  pub low : registers ≤ r
  pub high : r < registers + length (register_nets part)

-- one of so many elements, but not of the first ones
pub record IsLater (part : ℕ → Part) (registers : ℕ → ℕ) (done count r : ℕ) : Type 0 where
  pub element : ℕ
  pub late : done ≤ element
  pub there : element < count
  pub one : IsOf (part element) (registers element) r

pub record Owes (plan : Plan) (part : ℕ → Part) (registers : ℕ → ℕ) (done count : ℕ) : Type 0 where
  pub each : (r : ℕ) → is_register_at plan.nets r ≡ true → IsSome (next_of plan r) ⊎ IsLater part registers done count r

-- ---- nets that are added

pub push_default : {X : Type 0} (xs : List X) (d : X) (i : ℕ) → get_or (xs ++ d ∷ []) i d ≡ get_or xs i d
push_default [] d zero = refl
push_default [] d (suc i) = refl
push_default (x ∷ xs) d zero = refl
push_default (x ∷ xs) d (suc i) = push_default xs d i

pub next_kept : (plan : Plan) (nets : List Net) (r : ℕ) → next_of (with_nets plan nets) r ≡ next_of plan r
next_kept plan [] r = refl
next_kept plan (net ∷ nets) r = next_kept (with_net plan net) nets r ∙ push_default plan.nexts None r

-- a register is an old one, or among what is added
added_register : (plan : Plan) (nets : List Net) (r : ℕ) → is_register_at (with_nets plan nets).nets r ≡ true → (is_register_at plan.nets r ≡ true) ⊎ ((k : ℕ) × (length plan.nets + k ≡ r) × (k < length nets) × (is_register (net_at nets k) ≡ true))
added_register plan nets r is =
    let now : is_register (net_at (plan.nets ++ nets) r) ≡ true = ap (λ ns. is_register (net_at ns r)) (sym (with_nets-nets plan nets)) ∙ is in
    elim (cases_lt r (length plan.nets)) [
      | inl lt ↦ inl (ap is_register (sym (get_or_append_left plan.nets nets (Not 0) r lt)) ∙ now)
      | inr ge ↦
          let k : ℕ = r - length plan.nets in
          let e : length plan.nets + k ≡ r = omega arith in
          let here : is_register (net_at nets k) ≡ true = ap is_register (sym (get_or-append-add plan.nets nets k (Not 0))) ∙ ap (λ p. is_register (net_at (plan.nets ++ nets) p)) e ∙ now in
          inr (k, e, within nets k here, here)
    ]
  where
    within : (ns : List Net) (k : ℕ) → is_register (net_at ns k) ≡ true → k < length ns
    within ns k here =
        elim (cases_lt k (length ns)) [
          | inl lt ↦ lt
          | inr ge ↦ absurd (false≢true (ap is_register (sym (get_or_past ns k (Not 0) ge)) ∙ here))
        ]

pub owes_plain : (plan : Plan) (nets : List Net) (part : ℕ → Part) (registers : ℕ → ℕ) (done count : ℕ) → ArePlain nets → Owes plan part registers done count → Owes (with_nets plan nets) part registers done count
owes_plain plan nets part registers done count plain o = record {
  each = λ r is.
      elim (added_register plan nets r is) [
        | inl old ↦ elim (o.each r old) [ inl some ↦ inl (subst (λ n. IsSome n) (sym (next_kept plan nets r)) some) | inr later ↦ inr later ]
        | inr new ↦ absurd (false≢true (sym (plain_at nets new.0 plain) ∙ new.3))
      ];
}

-- the registers of one more element
pub owes_registers : (plan : Plan) (part : ℕ → Part) (old new : ℕ → ℕ) (done count : ℕ) → done ≤ count → ((k : ℕ) → k < count → old k ≡ new k) → length plan.nets ≡ new count
    → Owes plan part old done count → Owes (with_nets plan (register_nets (part count))) part new done (count + 1)
owes_registers plan part old new done count le same here o = record {
  each = λ r is.
      let nets = register_nets (part count) in
      elim (added_register plan nets r is) [
        | inl was ↦ elim (o.each r was) [
          | inl some ↦ inl (subst (λ n. IsSome n) (sym (next_kept plan nets r)) some)
          | inr later ↦ inr (record {
            element = later.element;
            late = later.late;
            there = let t = later.there in omega arith;
            one = subst (λ place. IsOf (part later.element) place r) (same later.element later.there) later.one;
          })
        ]
        | inr new_one ↦ inr (record {
          element = count;
          late = le;
          there = omega arith;
          one = let e = new_one.1 in let lt = new_one.2 in record { low = omega (arith, here, e); high = omega (arith, here, e, lt) };
        })
      ];
}

-- ---- next nets that are set

some_within : (nexts : List (Option ℕ)) (r : ℕ) → IsSome (get_or nexts r None) → r < length nexts
some_within nexts r some =
    elim (cases_lt r (length nexts)) [
      | inl lt ↦ lt
      | inr ge ↦ absurd (none_some (get_or nexts r None) (get_or_past nexts r None ge) some)
    ]
  where
    none_some : (n : Option ℕ) → n ≡ None → IsSome n → ⊥
    none_some None e h = cc
    none_some (Some next) e h = cc

set_is : (plan : Plan) (register next : ℕ) → register < length plan.nexts → IsSome (next_of (with_next plan register next) register)
set_is plan register next lt = subst (λ n. IsSome n) (sym (get_or-set_same plan.nexts register (Some next) None lt)) refl

set_keeps : (plan : Plan) (register next r : ℕ) → IsSome (next_of plan r) → IsSome (next_of (with_next plan register next) r)
set_keeps plan register next r some =
    elim (cases_eq r register) [
      | inl e ↦ subst (λ k. IsSome (next_of (with_next plan register next) k)) (sym e) (set_is plan register next (subst (λ k. k < length plan.nexts) e (some_within plan.nexts r some)))
      | inr ne ↦ subst (λ n. IsSome n) (sym (get_or-set_other plan.nexts register r (Some next) None ne)) some
    ]

length_set : (plan : Plan) (register next : ℕ) → length (with_next plan register next).nexts ≡ length plan.nexts
length_set plan register next = length-set plan.nexts register (Some next)

pub length_linked : (plan : Plan) (register next : ℕ → ℕ) (n : ℕ) → length (linked plan register next n).nexts ≡ length plan.nexts
length_linked plan register next zero = refl
length_linked plan register next (suc n) = length_set (linked plan register next n) (register n) (next n) ∙ length_linked plan register next n

linked_keeps : (plan : Plan) (register next : ℕ → ℕ) (n r : ℕ) → IsSome (next_of plan r) → IsSome (next_of (linked plan register next n) r)
linked_keeps plan register next zero r some = some
linked_keeps plan register next (suc n) r some = set_keeps (linked plan register next n) (register n) (next n) r (linked_keeps plan register next n r some)

linked_is : (plan : Plan) (register next : ℕ → ℕ) (n i : ℕ) → i < n → register i < length plan.nexts → IsSome (next_of (linked plan register next n) (register i))
linked_is plan register next zero i lt within = absurd (omega arith)
linked_is plan register next (suc n) i lt within =
    let now = linked plan register next n in
    elim (cases_eq i n) [
      | inl e ↦ subst (λ k. IsSome (next_of (with_next now (register n) (next n)) (register k))) (sym e) (set_is now (register n) (next n) (subst (λ k. register k < length now.nexts) e (omega (arith, within, length_linked plan register next n))))
      | inr ne ↦ set_keeps now (register n) (next n) (register i) (linked_is plan register next n i (omega (arith, ne, lt)) within)
    ]

pub linked_up_keeps : (part : Part) (laid : Laid) (at : ℕ) (plan : Plan) (r : ℕ) → IsSome (next_of plan r) → IsSome (next_of (linked_up part laid at plan) r)
linked_up_keeps (Stage width) laid at plan r some =
    let f = laid.registers in
    let p1 = with_next plan f (at + 5) in
    let p2 = with_next p1 (f + 1) (at + 6) in
    let p3 = with_next p2 (f + 2) (at + 8) in
    set_keeps p3 (f + 3) (at + 7) r (set_keeps p2 (f + 2) (at + 8) r (set_keeps p1 (f + 1) (at + 6) r (set_keeps plan f (at + 5) r some)))
linked_up_keeps (Fifo width depth) laid at plan r some =
    let p = fifo_in width depth laid in
    let p1 = linked plan (place_register p) (early_next at) (depth - 1) in
    let p2 = with_next p1 (place_register p (depth - 1)) (last_next p at) in
    set_keeps p2 laid.registers (at + 5) r (set_keeps p1 (place_register p (depth - 1)) (last_next p at) r (linked_keeps plan (place_register p) (early_next at) (depth - 1) r some))
linked_up_keeps AsFifo laid at plan r some = some
linked_up_keeps AsVr laid at plan r some = some
linked_up_keeps (Map body) laid at plan r some = some
linked_up_keeps (Scan reset body) laid at plan r some = set_keeps plan laid.registers (at + 1) r some
linked_up_keeps (Fork branches) laid at plan r some = linked_keeps plan (flag_register laid.registers) (flag_next at) (length laid.readies) r some
linked_up_keeps Join laid at plan r some = some

pub length_upto_one : (turn : ℕ → Net) (n : ℕ) → length (nets_upto (λ k. turn k ∷ []) n) ≡ n
length_upto_one turn zero = refl
length_upto_one turn (suc n) = omega (arith, length-append (nets_upto (λ k. turn k ∷ []) n) (turn n ∷ []), length_upto_one turn n)

stage_is : (plan : Plan) (f at i : ℕ) → i < 4 → f + i < length plan.nexts → IsSome (next_of (with_next (with_next (with_next (with_next plan f (at + 5)) (f + 1) (at + 6)) (f + 2) (at + 8)) (f + 3) (at + 7)) (f + i))
stage_is plan f at zero lt within =
    let p1 = with_next plan f (at + 5) in
    let p2 = with_next p1 (f + 1) (at + 6) in
    let p3 = with_next p2 (f + 2) (at + 8) in
    let e : f ≡ f + zero = omega arith in
    subst (λ k. IsSome (next_of (with_next p3 (f + 3) (at + 7)) k)) e
    (set_keeps p3 (f + 3) (at + 7) f (set_keeps p2 (f + 2) (at + 8) f (set_keeps p1 (f + 1) (at + 6) f (set_is plan f (at + 5) (omega (arith, within))))))
stage_is plan f at (suc zero) lt within =
    let p1 = with_next plan f (at + 5) in
    let p2 = with_next p1 (f + 1) (at + 6) in
    let p3 = with_next p2 (f + 2) (at + 8) in
    set_keeps p3 (f + 3) (at + 7) (f + 1) (set_keeps p2 (f + 2) (at + 8) (f + 1) (set_is p1 (f + 1) (at + 6) (omega (arith, within, length_set plan f (at + 5)))))
stage_is plan f at (suc (suc zero)) lt within =
    let p1 = with_next plan f (at + 5) in
    let p2 = with_next p1 (f + 1) (at + 6) in
    let p3 = with_next p2 (f + 2) (at + 8) in
    set_keeps p3 (f + 3) (at + 7) (f + 2) (set_is p2 (f + 2) (at + 8) (omega (arith, within, length_set plan f (at + 5), length_set p1 (f + 1) (at + 6))))
stage_is plan f at (suc (suc (suc zero))) lt within =
    let p1 = with_next plan f (at + 5) in
    let p2 = with_next p1 (f + 1) (at + 6) in
    let p3 = with_next p2 (f + 2) (at + 8) in
    set_is p3 (f + 3) (at + 7) (omega (arith, within, length_set plan f (at + 5), length_set p1 (f + 1) (at + 6), length_set p2 (f + 2) (at + 8)))
stage_is plan f at (suc (suc (suc (suc i)))) lt within = absurd (omega arith)

pub linked_up_is : (part : Part) (laid : Laid) (at : ℕ) (plan : Plan) (r : ℕ) → IsGoodPart part → length laid.readies ≡ output_count part → r < length plan.nexts → IsOf part laid.registers r → IsSome (next_of (linked_up part laid at plan) r)
linked_up_is (Stage width) laid at plan r good count within one =
    let i : ℕ = r - laid.registers in
    let e : laid.registers + i ≡ r = let l = one.low in omega (arith, l) in
    let lt : i < 4 = let h = one.high in omega (arith, h, e) in
    subst (λ k. IsSome (next_of (linked_up (Stage width) laid at plan) k)) e (stage_is plan laid.registers at i lt (omega (arith, e, within)))
linked_up_is (Fifo width depth) laid at plan r good count within one =
    let p = fifo_in width depth laid in
    let p1 = linked plan (place_register p) (early_next at) (depth - 1) in
    let p2 = with_next p1 (place_register p (depth - 1)) (last_next p at) in
    let some = good.1 in
    let low = one.low in
    let high : r < laid.registers + 1 + depth =
    let h = one.high in omega (arith, h, length_upto_one (λ k. Register (replicate width false)) depth) in
    elim (cases_eq r laid.registers) [
      | inl e ↦ subst (λ k. IsSome (next_of (with_next p2 laid.registers (at + 5)) k)) (sym e)
          (set_is p2 laid.registers (at + 5) (omega (arith, e, within, length_set p1 (place_register p (depth - 1)) (last_next p at), length_linked plan (place_register p) (early_next at) (depth - 1))))
      | inr ne ↦
          let i : ℕ = r - laid.registers - 1 in
          let e : place_register p i ≡ r = omega (arith, low, ne) in
          subst (λ k. IsSome (next_of (with_next p2 laid.registers (at + 5)) k)) e
          (set_keeps p2 laid.registers (at + 5) (place_register p i)
          (elim (cases_lt i (depth - 1)) [
            | inl lt ↦ set_keeps p1 (place_register p (depth - 1)) (last_next p at) (place_register p i) (linked_is plan (place_register p) (early_next at) (depth - 1) i lt (omega (arith, e, within)))
            | inr ge ↦
                let same : depth - 1 ≡ i = omega (arith, e, high, ge, some) in
                subst (λ k. IsSome (next_of p2 (place_register p k))) same
                (set_is p1 (place_register p (depth - 1)) (last_next p at) (omega (arith, e, same, within, length_linked plan (place_register p) (early_next at) (depth - 1))))
          ]))
    ]
linked_up_is AsFifo laid at plan r good count within one = absurd (let l = one.low in let h = one.high in omega (arith, l, h))
linked_up_is AsVr laid at plan r good count within one = absurd (let l = one.low in let h = one.high in omega (arith, l, h))
linked_up_is (Map body) laid at plan r good count within one = absurd (let l = one.low in let h = one.high in omega (arith, l, h))
linked_up_is (Scan reset body) laid at plan r good count within one =
    let l = one.low in let h = one.high in
    let e : laid.registers ≡ r = omega (arith, l, h) in
    subst (λ k. IsSome (next_of (with_next plan laid.registers (at + 1)) k)) e (set_is plan laid.registers (at + 1) (omega (arith, e, within)))
linked_up_is (Fork branches) laid at plan r good count within one =
    let i : ℕ = r - laid.registers in
    let l = one.low in
    let h = one.high in
    let e : flag_register laid.registers i ≡ r = omega (arith, l) in
    let lt : i < length laid.readies = omega (arith, h, e, count, length_upto_one (λ k. Register (false ∷ [])) branches) in
    subst (λ k. IsSome (next_of (linked plan (flag_register laid.registers) (flag_next at) (length laid.readies)) k)) e
    (linked_is plan (flag_register laid.registers) (flag_next at) (length laid.readies) i lt (omega (arith, e, within)))
linked_up_is Join laid at plan r good count within one = absurd (let l = one.low in let h = one.high in omega (arith, l, h))

-- one more element has its next nets
later_on : (part : ℕ → Part) (registers : ℕ → ℕ) (done count r : ℕ) → IsLater part registers done count r → IsOf (part done) (registers done) r ⊎ IsLater part registers (done + 1) count r
later_on part registers done count r later =
    elim (cases_eq later.element done) [
      | inl e ↦ inl (subst (λ k. IsOf (part k) (registers k) r) e later.one)
      | inr ne ↦ inr (record { element = later.element; late = let l = later.late in omega (arith, l, ne); there = later.there; one = later.one })
    ]

pub owes_linked : (plan : Plan) (part : ℕ → Part) (registers : ℕ → ℕ) (done count : ℕ) (laid : Laid) (at : ℕ) (nets : List Net) → ArePlain nets → IsGoodPart (part done) → laid.registers ≡ registers done → length laid.readies ≡ output_count (part done)
    → length (with_nets plan nets).nexts ≡ length (with_nets plan nets).nets → Owes plan part registers done count
    → Owes (linked_up (part done) laid at (with_nets plan nets)) part registers (done + 1) count
owes_linked plan part registers done count laid at nets plain good same readies counted o =
    let now = with_nets plan nets in
    let before = owes_plain plan nets part registers done count plain o in
    record {
      each = λ r is.
          let was : is_register_at now.nets r ≡ true = ap (λ ns. is_register_at ns r) (sym (linked_up_nets (part done) laid at now)) ∙ is in
          elim (before.each r was) [
            | inl some ↦ inl (linked_up_keeps (part done) laid at now r some)
            | inr later ↦ elim (later_on part registers done count r later) [
              | inl one ↦ inl (linked_up_is (part done) laid at now r good readies (subst (λ n. r < n) (sym counted) (register_within now.nets r was)) (subst (λ f. IsOf (part done) f r) (sym same) one))
              | inr behind ↦ inr behind
            ]
          ];
    }

pub owes_none : (plan : Plan) (part : ℕ → Part) (registers : ℕ → ℕ) (count : ℕ) → Owes plan part registers count count → HasAllNexts plan
owes_none plan part registers count o = record {
  each = λ r is. elim (o.each r is) [ inl some ↦ some | inr later ↦ absurd (let a = later.late in let b = later.there in omega (arith, a, b)) ];
}

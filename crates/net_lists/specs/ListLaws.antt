-- Laws of lists of nets.
use Rattle.std.specs.Prelude.{◌≡◌, ℕ, ◌+◌, ◌<◌, ◌≤◌, ◌++◌, ◌∷◌, [], Bool, true, List, Some, length, take, drop, slice_get, Result, Ok, Err, IsErrOf, OnOk, refl}
use Rattle.std.proofs.Common.{sym, ◌∙◌, ap, subst, arith, length-append, append_assoc, get_or}
use Rattle.std.proofs.lemmas.List.{length_push, take_more, drop_more, get_or_append_left, get_or-append-add, get_or_push, length-take}
use Rattle.std.proofs.lemmas.Option.{slice_get-get_or, slice_get_within, get_or_from_slice_get}
use Rattle.netlist.specs.declared.limits.TheConstants.{MAX_NETS}
use Rattle.netlist.specs.declared.net.Net.{Net}
use Rattle.netlist.specs.declared.netlist.NetRefused.{NetRefused}
use Rattle.netlist.specs.declared.net.Net.TheVariants.{Not, Register}
use Rattle.netlist.specs.Nets.{Fits, width_at, width_in, is_register}
use Rattle.netlist.specs.Plans.{Plan, Stands, with_net, net_at, is_register_at, IsPlan, IsNextOf}
use Rattle.netlist.specs.PlanLaws.{stands_within, net_at-stands}
use Rattle.net_lists.specs.Lists.{with_nets, FitAll, HasSome, HasFront, StandFrom, Carries}

append_none : {A : Type 0} (xs : List A) → xs ≡ xs ++ []
append_none [] = refl
append_none (x ∷ xs) = ap (λ ys. x ∷ ys) (append_none xs)

pub with_nets-nets : (plan : Plan) (nets : List Net) → (with_nets plan nets).nets ≡ plan.nets ++ nets
with_nets-nets plan [] = append_none plan.nets
with_nets-nets plan (net ∷ nets) = with_nets-nets (with_net plan net) nets ∙ append_assoc plan.nets (net ∷ []) nets

pub with_nets-append : (plan : Plan) (front back : List Net) → with_nets (with_nets plan front) back ≡ with_nets plan (front ++ back)
with_nets-append plan [] back = refl
with_nets-append plan (net ∷ front) back = with_nets-append (with_net plan net) front back

pub length-with_nets : (plan : Plan) (nets : List Net) → length (with_nets plan nets).nets ≡ length plan.nets + length nets
length-with_nets plan nets = ap length (with_nets-nets plan nets) ∙ length-append plan.nets nets

-- ---- a loop that adds one net after the other

pub some_more : (old now new : Plan) (nets : List Net) (at : ℕ) (net : Net) → at < length nets → net ≡ get_or nets at net → now ≡ with_nets old (take at nets) → new ≡ with_net now net → new ≡ with_nets old (take (at + 1) nets)
some_more old now new nets at net lt read so_far one =
    let more : take (at + 1) nets ≡ take at nets ++ net ∷ [] = take_more nets at net lt ∙ ap (λ n. take at nets ++ n ∷ []) (sym read) in
    one ∙ ap (λ p. with_net p net) so_far ∙ with_nets-append old (take at nets) (net ∷ []) ∙ ap (with_nets old) (sym more)

pub fits_here : (plan : Plan) (nets : List Net) (at : ℕ) (net : Net) → at < length nets → net ≡ get_or nets at net → FitAll plan (drop at nets) → Fits net (length plan.nets) plan.widths × FitAll (with_net plan net) (drop (at + 1) nets)
fits_here plan nets at net lt read fit =
    let split : drop at nets ≡ net ∷ drop (at + 1) nets = drop_more nets at net lt ∙ ap (λ n. n ∷ drop (at + 1) nets) (sym read) in
    subst (λ ns. FitAll plan ns) split fit

pub turn : (old now new : Plan) (nets : List Net) (at : ℕ) (net : Net) → at < length nets → net ≡ get_or nets at net → FitAll now (drop at nets) → now ≡ with_nets old (take at nets) → new ≡ with_net now net
    → FitAll new (drop (at + 1) nets) × (new ≡ with_nets old (take (at + 1) nets))
turn old now new nets at net lt read fit so_far one =
    (subst (λ (p : Plan). FitAll p (drop (at + 1) nets)) (sym one) (fits_here now nets at net lt read fit).1, some_more old now new nets at net lt read so_far one)

pub too_many_here : (old now : Plan) (nets : List Net) (at : ℕ) → at < length nets → now ≡ with_nets old (take at nets) → length now.nets ≡ MAX_NETS → MAX_NETS < length old.nets + length nets
too_many_here old now nets at lt so_far full =
    let e : length now.nets ≡ length old.nets + length (take at nets) = ap (λ (p : Plan). length p.nets) so_far ∙ length-with_nets old (take at nets) in
    let count : length (take at nets) ≡ at = simp length-take (omega arith) in
    omega (arith, e, full, count)

-- the same refusal, of another call
pub same_refusal : {A B : Type 0} (refused wanted : NetRefused) → IsErrOf {T = A} (Err refused) wanted → IsErrOf {T = B} (Err refused) wanted
same_refusal refused wanted e = let is : refused ≡ wanted = cc in ap Err is

pub room_there : (old now : Plan) (nets : List Net) (at : ℕ) → length nets ≤ at → now ≡ with_nets old (take at nets) → IsPlan now → length old.nets + length nets ≤ MAX_NETS
room_there old now nets at le so_far kept =
    let e : length now.nets ≡ length old.nets + length (take at nets) = ap (λ (p : Plan). length p.nets) so_far ∙ length-with_nets old (take at nets) in
    let count : length (take at nets) ≡ length nets = simp length-take (omega arith) in
    omega (arith, e, kept.limit, count)

-- ---- standing

-- what is added stands from the old end on, in this netlist and with more behind it
pub pushed_stand : (plan : Plan) (front these more : List Net) → StandFrom (plan.nets ++ front ++ these ++ more) (length plan.nets + length front) these
pushed_stand plan front these more = record {
  each = λ place net s.
      let lt = slice_get_within these place net s in
      let d : Net = Not 0 in
      let base : List Net = plan.nets ++ front in
      let whole : List Net = base ++ these ++ more in
      let count : length base ≡ length plan.nets + length front = length-append plan.nets front in
      let here : get_or whole (length base + place) d ≡ net =
      ap (λ ns. get_or ns (length base + place) d) (append_assoc base these more)
      ∙ get_or-append-add base (these ++ more) place d
      ∙ get_or_append_left these more d place lt
      ∙ get_or_from_slice_get these place net d s in
      let within : length base + place < length whole = omega (arith, length-append (base ++ these) more, length-append base these) in
      subst (λ k. slice_get whole (k + place) ≡ Some net) count (slice_get-get_or whole (length base + place) d within ∙ ap (λ n. Some n) here);
}

pub stand_first : (nets : List Net) (at : ℕ) (net : Net) (rest : List Net) → StandFrom nets at (net ∷ rest) → Stands nets at net
stand_first nets at net rest s = subst (λ k. Stands nets k net) (let e : at + 0 ≡ at = omega arith in e) (s.each 0 net refl)

pub stand_front : (nets : List Net) (at : ℕ) (front rest : List Net) → StandFrom nets at (front ++ rest) → StandFrom nets at front
stand_front nets at front rest s = record {
  each = λ place net e.
      let lt = slice_get_within front place net e in
      let d : Net = Not 0 in
      let within : place < length (front ++ rest) = omega (arith, length-append front rest) in
      s.each place net (slice_get-get_or (front ++ rest) place d within ∙ ap (λ n. Some n) (get_or_append_left front rest d place lt ∙ get_or_from_slice_get front place net d e));
}

pub stand_behind : (nets : List Net) (at : ℕ) (front rest : List Net) → StandFrom nets at (front ++ rest) → StandFrom nets (at + length front) rest
stand_behind nets at front rest s = record {
  each = λ place net e.
      let lt = slice_get_within rest place net e in
      let d : Net = Not 0 in
      let within : length front + place < length (front ++ rest) = omega (arith, length-append front rest) in
      subst (λ k. Stands nets k net) (let a : at + (length front + place) ≡ at + length front + place = omega arith in a)
      (s.each (length front + place) net (slice_get-get_or (front ++ rest) (length front + place) d within ∙ ap (λ n. Some n) (get_or-append-add front rest place d ∙ get_or_from_slice_get rest place net d e)));
}

-- ---- widths

-- a net is as wide with more nets behind it
pub carries_more : (plan : Plan) (net width : ℕ) (more : Net) → length plan.widths ≡ length plan.nets → Carries plan net width → Carries (with_net plan more) net width
carries_more plan net width more count c = record {
  below = omega (arith, c.below, length_push plan.nets more);
  wide = get_or_append_left plan.widths (width_in more plan.widths ∷ []) 0 net (omega (arith, c.below, count)) ∙ c.wide;
}

pub counted_more : (plan : Plan) (more : Net) → length plan.widths ≡ length plan.nets → length (with_net plan more).widths ≡ length (with_net plan more).nets
counted_more plan more count = length_push plan.widths (width_in more plan.widths) ∙ ap (λ k. k + 1) count ∙ sym (length_push plan.nets more)

pub carries_all : (plan : Plan) (net width : ℕ) (nets : List Net) → length plan.widths ≡ length plan.nets → Carries plan net width → Carries (with_nets plan nets) net width
carries_all plan net width [] count c = c
carries_all plan net width (more ∷ nets) count c = carries_all (with_net plan more) net width nets (counted_more plan more count) (carries_more plan net width more count c)

-- a net that is added carries its own width
pub carries_pushed : (plan : Plan) (net : Net) (place width : ℕ) → length plan.widths ≡ length plan.nets → place ≡ length plan.nets → width_in net plan.widths ≡ width → Carries (with_net plan net) place width
carries_pushed plan net place width count here wide = record {
  below = omega (arith, here, length_push plan.nets net);
  wide = get_or_push plan.widths (width_in net plan.widths) 0 place (count ∙ sym here) ∙ wide;
}

pub place_more : (plan : Plan) (net : Net) (place next : ℕ) → place ≡ length plan.nets → next ≡ place + 1 → next ≡ length (with_net plan net).nets
place_more plan net place next here e = omega (arith, here, e, length_push plan.nets net)

-- a register carries its reset's width
pub register_carries : (plan : Plan) (register width : ℕ) (reset : List Bool) → IsPlan plan → Stands plan.nets register (Register reset) → length reset ≡ width → Carries plan register width
register_carries plan register width reset kept s e = record { below = stands_within plan.nets register (Register reset) s; wide = (kept.fit register (Register reset) s).own ∙ e }

-- nets that carry one width fit an operator on such
pub fit_two : (plan : Plan) (a b width : ℕ) → Carries plan a width → Carries plan b width → (a < length plan.nets) × (b < length plan.nets) × (width_at plan.widths a ≡ width_at plan.widths b)
fit_two plan a b width ca cb = (ca.below, cb.below, ca.wide ∙ sym cb.wide)

pub fit_choice : (plan : Plan) (test one other width : ℕ) → Carries plan test 1 → Carries plan one width → Carries plan other width
    → (test < length plan.nets) × (one < length plan.nets) × (other < length plan.nets) × (width_at plan.widths test ≡ 1) × (width_at plan.widths one ≡ width_at plan.widths other)
fit_choice plan test one other width ct c1 c2 = (ct.below, c1.below, c2.below, ct.wide, c1.wide ∙ sym c2.wide)

-- ---- next nets

pub may_link : (plan : Plan) (register next width : ℕ) → is_register_at plan.nets register ≡ true → Carries plan register width → Carries plan next width → IsNextOf plan register next
may_link plan register next width is cr cn = record { is_one = is; within = cn.below; same = cn.wide ∙ sym cr.wide }

pub register_kept : (plan : Plan) (nets : List Net) (register : ℕ) (reset : List Bool) → Stands plan.nets register (Register reset) → is_register_at (with_nets plan nets).nets register ≡ true
register_kept plan nets register reset s =
    let lt = stands_within plan.nets register (Register reset) s in
    ap is_register (ap (λ ns. net_at ns register) (with_nets-nets plan nets) ∙ get_or_append_left plan.nets nets (Not 0) register lt ∙ net_at-stands plan.nets register (Register reset) s)

-- what holds on Ok may be put otherwise
pub on_ok : {A E : Type 0} (result : Result A E) (P Q : Type 0) → (P → Q) → OnOk result P → OnOk result Q
on_ok (Ok value) P Q f h = f h
on_ok (Err error) P Q f h = h

-- ---- lists that fit, one behind the other

pub fit_append : (plan : Plan) (front back : List Net) → FitAll plan front → FitAll (with_nets plan front) back → FitAll plan (front ++ back)
fit_append plan [] back f g = g
fit_append plan (net ∷ front) back f g = (f.0, fit_append (with_net plan net) front back f.1 g)

pub counted_all : (plan : Plan) (nets : List Net) → length plan.widths ≡ length plan.nets → length (with_nets plan nets).widths ≡ length (with_nets plan nets).nets
counted_all plan [] count = count
counted_all plan (net ∷ nets) count = counted_all (with_net plan net) nets (counted_more plan net count)

-- ---- what a netlist has got

pub has_none : (plan : Plan) (nets : List Net) → HasFront plan plan nets
has_none plan nets = record { count = 0; within = omega arith; is = refl }

pub has_front : (old new : Plan) (nets : List Net) → HasSome old new nets → HasFront old new nets
has_front old new nets h = record { count = h.count; within = omega (arith, h.fewer); is = h.is }

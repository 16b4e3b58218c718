-- A netlist that has grown by nets at its end: what its beginning keeps, so long as no next net is set.
use Rattle.std.specs.Prelude.{◌≡◌, ℕ, zero, suc, ◌+◌, ◌<◌, ◌≤◌, ◌++◌, ◌∷◌, [], List, Option, Some, None, length, refl}
use Rattle.std.proofs.Common.{sym, ◌∙◌, ap, subst, arith, inl, inr}
use Rattle.std.proofs.lemmas.Bool.{cases_lt}
use Rattle.std.proofs.lemmas.List.{length_push, get_or_append_left}
use Rattle.netlist.specs.declared.limits.TheConstants.{MAX_NETS}
use Rattle.netlist.specs.declared.net.Net.{Net}
use Rattle.netlist.specs.Nets.{width_at, width_in}
use Rattle.netlist.specs.Plans.{Plan, empty_plan, Stands, next_of, with_net, IsWidth, FitsAt, IsPlan}
use Rattle.netlist.specs.PlanLaws.{stands_within, Fits-same, width_in-same}
use Rattle.net_lists.specs.Lists.{with_nets}
use Rattle.net_lists.specs.ListLaws.{with_nets-nets, with_nets-append, length-with_nets, carries_all, counted_more}
use Rattle.channel_lower.specs.declared.lowering.Lowering.{Lowering}
use Rattle.channel_lower.specs.Growth.{Grows, stands_more}
use Rattle.channel_lower.specs.Lowering.{turns}
use Rattle.channel_lower.specs.Owed.{push_default}

-- the netlist with some nets more
pub record Before (old new : Plan) : Type 0 where
  pub more : List Net
  pub is : new ≡ with_nets old more

pub before_same : (plan : Plan) → Before plan plan
before_same plan = record { more = []; is = refl }

pub before_on : (old now new : Plan) → Before old now → Before now new → Before old new
before_on old now new a b = record { more = a.more ++ b.more; is = b.is ∙ ap (λ (p : Plan). with_nets p b.more) a.is ∙ with_nets-append old a.more b.more }

-- the turns of a pass, each of which adds nets
pub turns_before : (turn : ℕ → Lowering → Lowering) → ((k : ℕ) (s : Lowering) → Before s.netlist (turn k s).netlist) → (s : Lowering) (n m : ℕ) → m ≤ n → Before (turns turn m s).netlist (turns turn n s).netlist
turns_before turn each s zero m le = subst (λ k. Before (turns turn k s).netlist s.netlist) (let e : zero ≡ m = omega (arith, le) in e) (before_same s.netlist)
turns_before turn each s (suc n) m le =
    elim (cases_lt n m) [
      | inl lt ↦ let e : suc n ≡ m = omega (arith, lt, le) in subst (λ k. Before (turns turn k s).netlist (turns turn (suc n) s).netlist) e (before_same (turns turn (suc n) s).netlist)
      | inr ge ↦ before_on (turns turn m s).netlist (turns turn n s).netlist (turn n (turns turn n s)).netlist (turns_before turn each s n m ge) (each n (turns turn n s))
    ]

-- ---- what is kept, without next nets

pub record AreFitting (plan : Plan) : Type 0 where
  pub limit : length plan.nets ≤ MAX_NETS
  pub fit : (place : ℕ) (net : Net) → Stands plan.nets place net → FitsAt plan.widths place net

pub record IsUnlinked (plan : Plan) : Type 0 where
  pub width_count : length plan.widths ≡ length plan.nets
  pub next_count : length plan.nexts ≡ length plan.nets
  pub none : (r : ℕ) → next_of plan r ≡ None

width_before : (plan : Plan) (net : Net) (j : ℕ) → length plan.widths ≡ length plan.nets → j < length plan.nets → width_at (with_net plan net).widths j ≡ width_at plan.widths j
width_before plan net j count lt = get_or_append_left plan.widths (width_in net plan.widths ∷ []) 0 j (omega (arith, lt, count))

fitting_less : (plan : Plan) (net : Net) → length plan.widths ≡ length plan.nets → AreFitting (with_net plan net) → AreFitting plan
fitting_less plan net count f = record {
  limit = omega (arith, f.limit, length_push plan.nets net);
  fit = λ place one s.
      let lt = stands_within plan.nets place one s in
      let there : FitsAt (with_net plan net).widths place one = f.fit place one (stands_more plan.nets (net ∷ []) place one s) in
      let same : (j : ℕ) → j < place → width_at (with_net plan net).widths j ≡ width_at plan.widths j = λ j less. width_before plan net j count (omega (arith, less, lt)) in
      let here : width_at (with_net plan net).widths place ≡ width_at plan.widths place = width_before plan net place count lt in
      record {
        fits = Fits-same one place (with_net plan net).widths plan.widths same there.fits;
        own = sym here ∙ there.own ∙ width_in-same one place (with_net plan net).widths plan.widths same there.fits;
        wide = subst (λ w. IsWidth w) here there.wide;
      };
}

pub fitting_front : (plan : Plan) (nets : List Net) → length plan.widths ≡ length plan.nets → AreFitting (with_nets plan nets) → AreFitting plan
fitting_front plan [] count f = f
fitting_front plan (net ∷ nets) count f = fitting_less plan net count (fitting_front (with_net plan net) nets (counted_more plan net count) f)

pub fitting_of : (plan : Plan) → IsPlan plan → AreFitting plan
fitting_of plan kept = record { limit = kept.limit; fit = kept.fit }

unlinked_more : (plan : Plan) (net : Net) → IsUnlinked plan → IsUnlinked (with_net plan net)
unlinked_more plan net u = record {
  width_count = counted_more plan net u.width_count;
  next_count = length_push plan.nexts None ∙ ap (λ k. k + 1) u.next_count ∙ sym (length_push plan.nets net);
  none = λ r. push_default plan.nexts None r ∙ u.none r;
}

unlinked_all : (plan : Plan) (nets : List Net) → IsUnlinked plan → IsUnlinked (with_nets plan nets)
unlinked_all plan [] u = u
unlinked_all plan (net ∷ nets) u = unlinked_all (with_net plan net) nets (unlinked_more plan net u)

pub unlinked_behind : (old new : Plan) → Before old new → IsUnlinked old → IsUnlinked new
unlinked_behind old new b u = subst (λ (p : Plan). IsUnlinked p) (sym b.is) (unlinked_all old b.more u)

pub nothing_unlinked : IsUnlinked empty_plan
nothing_unlinked = record { width_count = refl; next_count = refl; none = λ r. refl }

not_set : (next : ℕ) → ◌≡◌ {A = Option ℕ} None (Some next) → ⊥
not_set next e = cc

-- the beginning of a netlist whose nets fit
pub plan_before : (old new : Plan) → Before old new → IsUnlinked old → AreFitting new → IsPlan old
plan_before old new b u f =
    let front : AreFitting old = fitting_front old b.more u.width_count (subst (λ (p : Plan). AreFitting p) b.is f) in
    record {
      width_count = u.width_count;
      next_count = u.next_count;
      limit = front.limit;
      fit = front.fit;
      set_nexts = λ register next e. absurd (not_set next (sym (u.none register) ∙ e));
    }

-- ---- growth

pub grows_all : (plan : Plan) (nets : List Net) → length plan.widths ≡ length plan.nets → Grows plan (with_nets plan nets)
grows_all plan nets count = record {
  stands = λ place net s. subst (λ ns. Stands ns place net) (sym (with_nets-nets plan nets)) (stands_more plan.nets nets place net s);
  carries = λ net width c. carries_all plan net width nets count c;
  size = omega (arith, length-with_nets plan nets);
}

pub grows_before : (old new : Plan) → Before old new → length old.widths ≡ length old.nets → Grows old new
grows_before old new b count = subst (λ (p : Plan). Grows old p) (sym b.is) (grows_all old b.more count)

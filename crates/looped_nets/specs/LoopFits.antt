-- Nets that are made turn by turn fit behind what stands before them, and the registers of each turn take their words from nets of that turn.
use Rattle.std.specs.Prelude.{◌≡◌, ℕ, zero, suc, ◌+◌, ◌<◌, ◌++◌, ◌∷◌, [], List, length, Some, None, refl}
use Rattle.std.proofs.Common.{sym, ◌∙◌, ap, subst, arith, inl, inr, append_assoc, add-one, get_or-set_same, get_or-set_other}
use Rattle.std.proofs.lemmas.Bool.{cases_lt}
use Rattle.std.proofs.lemmas.List.{length-set}
use Rattle.netlist.specs.declared.net.Net.{Net}
use Rattle.netlist.specs.Nets.{width_in}
use Rattle.netlist.specs.Plans.{Plan, with_net, with_next, next_of, IsNextOf}
use Rattle.net_lists.specs.Lists.{with_nets, FitAll, Carries}
use Rattle.net_lists.specs.ListLaws.{with_nets-append, length-with_nets, counted_more, counted_all, carries_more, carries_all, carries_pushed, place_more, fit_append}
use Rattle.looped_nets.specs.Loops.{nets_upto, linked, CanLinkAll, ArePlaces, behind_upto}

-- the nets of one turn more
pub upto_more : (turn : ℕ → List Net) (n : ℕ) → nets_upto turn (n + 1) ≡ nets_upto turn n ++ turn n
upto_more turn n = ap (nets_upto turn) (add-one n)

pub upto_behind : (front : List Net) (turn : ℕ → List Net) (n : ℕ) → front ++ nets_upto turn (n + 1) ≡ front ++ nets_upto turn n ++ turn n
upto_behind front turn n = ap (λ ns. front ++ ns) (upto_more turn n) ∙ sym (append_assoc front (nets_upto turn n) (turn n))

-- ---- where a netlist ends

pub record EndsAt (plan : Plan) (at : ℕ) : Type 0 where
  pub count : length plan.widths ≡ length plan.nets
  pub here : at ≡ length plan.nets

pub end_more : (plan : Plan) (at : ℕ) (net : Net) → EndsAt plan at → EndsAt (with_net plan net) (at + 1)
end_more plan at net e = record { count = counted_more plan net e.count; here = place_more plan net at (at + 1) e.here refl }

pub end_all : (plan : Plan) (at next : ℕ) (nets : List Net) → at + length nets ≡ next → EndsAt plan at → EndsAt (with_nets plan nets) next
end_all plan at next nets f e = record { count = counted_all plan nets e.count; here = omega (arith, f, e.here, length-with_nets plan nets) }

pub end_next : (plan : Plan) (at next : ℕ) (net : Net) → at + 1 ≡ next → EndsAt plan at → EndsAt (with_net plan net) next
end_next plan at next net f e = end_all plan at next (net ∷ []) f e

pub end_upto : (plan : Plan) (turn : ℕ → List Net) (place : ℕ → ℕ) → ArePlaces turn place → (n : ℕ) → EndsAt plan (place 0) → EndsAt (with_nets plan (nets_upto turn n)) (place n)
end_upto plan turn place p n e = end_all plan (place 0) (place n) (nets_upto turn n) (behind_upto turn place p n) e

-- a net that was there carries what it did, and the new one its own width
pub still : (plan : Plan) (at net width : ℕ) (more : Net) → EndsAt plan at → Carries plan net width → Carries (with_net plan more) net width
still plan at net width more e c = carries_more plan net width more e.count c

pub still_all : (plan : Plan) (at net width : ℕ) (nets : List Net) → EndsAt plan at → Carries plan net width → Carries (with_nets plan nets) net width
still_all plan at net width nets e c = carries_all plan net width nets e.count c

pub fresh : (plan : Plan) (at width : ℕ) (net : Net) → EndsAt plan at → width_in net plan.widths ≡ width → Carries (with_net plan net) at width
fresh plan at width net e w = carries_pushed plan net at width e.count e.here w

-- what a turn's nets carry, they carry with more turns behind it
pub kept_upto : (plan : Plan) (at : ℕ) (turn : ℕ → List Net) (n i net width : ℕ) → i < n → EndsAt plan at → Carries (with_nets (with_nets plan (nets_upto turn i)) (turn i)) net width → Carries (with_nets plan (nets_upto turn n)) net width
kept_upto plan at turn zero i net width lt e c = absurd (omega arith)
kept_upto plan at turn (suc n) i net width lt e c =
    elim (cases_lt i n) [
      | inl below ↦
          subst (λ (p : Plan). Carries p net width) (with_nets-append plan (nets_upto turn n) (turn n))
          (carries_all (with_nets plan (nets_upto turn n)) net width (turn n) (counted_all plan (nets_upto turn n) e.count) (kept_upto plan at turn n i net width below e c))
      | inr ge ↦
          let same : i ≡ n = omega (arith, lt, ge) in
          subst (λ (p : Plan). Carries p net width) (with_nets-append plan (nets_upto turn n) (turn n))
          (subst (λ k. Carries (with_nets (with_nets plan (nets_upto turn k)) (turn k)) net width) same c)
    ]

-- the nets of all turns fit where those of each turn fit behind the ones before it
pub fit_upto : (plan : Plan) (turn : ℕ → List Net) (n : ℕ) → ((i : ℕ) → i < n → FitAll (with_nets plan (nets_upto turn i)) (turn i)) → FitAll plan (nets_upto turn n)
fit_upto plan turn zero each = tt
fit_upto plan turn (suc n) each = fit_append plan (nets_upto turn n) (turn n) (fit_upto plan turn n (λ i lt. each i (omega arith))) (each n (omega arith))

-- ---- the next nets of several registers

pub linked_more : (plan : Plan) (register next : ℕ → ℕ) (n : ℕ) → linked plan register next (n + 1) ≡ with_next (linked plan register next n) (register n) (next n)
linked_more plan register next n = ap (linked plan register next) (add-one n)

pub linked_nets : (plan : Plan) (register next : ℕ → ℕ) (n : ℕ) → (linked plan register next n).nets ≡ plan.nets
linked_nets plan register next zero = refl
linked_nets plan register next (suc n) = linked_nets plan register next n

pub linked_widths : (plan : Plan) (register next : ℕ → ℕ) (n : ℕ) → (linked plan register next n).widths ≡ plan.widths
linked_widths plan register next zero = refl
linked_widths plan register next (suc n) = linked_widths plan register next n

pub same_next : (old new : Plan) (register next : ℕ) → new.nets ≡ old.nets → new.widths ≡ old.widths → IsNextOf old register next → IsNextOf new register next
same_next old new register next e f h = record {
  is_one = rw e h.is_one;
  within = rw e h.within;
  same = rw f h.same;
}

-- also behind other links
pub may_link_more : (plan now : Plan) (register next : ℕ → ℕ) (n i : ℕ) → i < n → CanLinkAll plan register next n → now ≡ linked plan register next i → IsNextOf now (register i) (next i)
may_link_more plan now register next n i lt can is =
    subst (λ (p : Plan). IsNextOf p (register i) (next i)) (sym is)
    (same_next plan (linked plan register next i) (register i) (next i) (linked_nets plan register next i) (linked_widths plan register next i) (can.each i lt))

pub next_behind : (plan now : Plan) (register next : ℕ → ℕ) (k own its_next : ℕ) → IsNextOf plan own its_next → now ≡ linked plan register next k → IsNextOf now own its_next
next_behind plan now register next k own its_next may is =
    subst (λ (p : Plan). IsNextOf p own its_next) (sym is) (same_next plan (linked plan register next k) own its_next (linked_nets plan register next k) (linked_widths plan register next k) may)

length_linked : (plan : Plan) (register next : ℕ → ℕ) (n : ℕ) → length (linked plan register next n).nexts ≡ length plan.nexts
length_linked plan register next zero = refl
length_linked plan register next (suc n) = length-set (linked plan register next n).nexts (register n) (Some (next n)) ∙ length_linked plan register next n

-- then each has its own, where they are apart
pub linked_next : (plan : Plan) (register next : ℕ → ℕ) (n i : ℕ) → i < n → ((j : ℕ) → j < n → register j < length plan.nexts) → ((j k : ℕ) → j < k → register j < register k)
    → next_of (linked plan register next n) (register i) ≡ Some (next i)
linked_next plan register next zero i lt within rising = absurd (omega arith)
linked_next plan register next (suc n) i lt within rising =
    elim (cases_lt i n) [
      | inl below ↦
          get_or-set_other (linked plan register next n).nexts (register n) (register i) (Some (next n)) None (omega (arith, rising i n below))
          ∙ linked_next plan register next n i below (λ j lower. within j (omega arith)) rising
      | inr ge ↦
          let same : n ≡ i = omega (arith, lt, ge) in
          subst (λ k. next_of (linked plan register next (suc n)) (register k) ≡ Some (next k)) same
          (get_or-set_same (linked plan register next n).nexts (register n) (Some (next n)) None (omega (arith, within n (omega arith), length_linked plan register next n)))
    ]

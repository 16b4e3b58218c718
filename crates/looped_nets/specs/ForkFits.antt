-- The nets of a fork fit behind what stands before them, and its registers may take their words from them.
use Rattle.std.specs.Prelude.{◌≡◌, ℕ, zero, suc, ◌+◌, ◌*◌, ◌<◌, ◌++◌, false, [], ◌∷◌, List, length, refl}
use Rattle.std.proofs.Common.{subst, arith}
use Rattle.netlist.specs.declared.net.Net.{Net}
use Rattle.netlist.specs.declared.net.Net.TheVariants.{Register, Not, And, Or}
use Rattle.netlist.specs.Plans.{Plan, Stands, with_net, IsPlan}
use Rattle.netlist.specs.PlanLaws.{stands_within}
use Rattle.net_lists.specs.Lists.{with_nets, FitAll, StandFrom, Carries}
use Rattle.net_lists.specs.ListLaws.{stand_first, with_nets-append, register_carries, register_kept, fit_two, fit_append, may_link}
use Rattle.looped_nets.specs.declared.fork.ForkPlaces.{ForkPlaces}
use Rattle.looped_nets.specs.Loops.{nets_upto, CanLinkAll, ArePlaces, behind_upto, turn_stands}
use Rattle.looped_nets.specs.LoopFits.{EndsAt, end_more, end_all, end_upto, still, still_all, fresh, kept_upto, fit_upto}
use Rattle.looped_nets.specs.Forks.{ForkNets, branches, fork_of, fork_registers, wait_nets, fork_waits, chain, chain_nets, fork_chain, fork_ready, taken_nets, flag_place, flag_nets, fork_flags, fork_front, fork_back, fork_next, flag_register, flag_next, AreBranches, IsForkFrontReady, IsForkBackReady, IsForkReady}

-- ---- registers

pub registers_fit : (plan : Plan) (count : ℕ) → FitAll plan (fork_registers count)
registers_fit plan count = fit_upto plan (λ i. Register (false ∷ []) ∷ []) count (λ i lt. (tt, tt))

-- ---- forward nets

module _ (plan : Plan) (count registers valid at : ℕ) (kept : IsPlan plan) (here : at ≡ length plan.nets) (r : IsForkFrontReady plan count registers valid) where
  abbrev front : ℕ → List Net
  front i = Not (registers + i) ∷ And valid (at + 2 * i) ∷ []

  front_places : ArePlaces front (λ i. at + 2 * i)
  front_places = record { next = λ i. omega arith }

  front_begin : EndsAt plan (at + 2 * 0)
  front_begin = record { count = kept.width_count; here = omega (arith, here) }

  front_turn : (i : ℕ) → i < count → FitAll (with_nets plan (nets_upto front i)) (front i)
  front_turn i lt =
      let p0 : Plan = with_nets plan (nets_upto front i) in
      let e0 : EndsAt p0 (at + 2 * i) = end_upto plan front (λ j. at + 2 * j) front_places i front_begin in
      let flag : Carries p0 (registers + i) 1 = still_all plan (at + 2 * 0) (registers + i) 1 (nets_upto front i) front_begin (r.flags i lt) in
      let iv : Carries p0 valid 1 = still_all plan (at + 2 * 0) valid 1 (nets_upto front i) front_begin r.valid_bit in
      let p1 : Plan = with_net p0 (Not (registers + i)) in
      let u : Carries p1 (at + 2 * i) 1 = fresh p0 (at + 2 * i) 1 (Not (registers + i)) e0 flag.wide in
      let iv1 : Carries p1 valid 1 = still p0 (at + 2 * i) valid 1 (Not (registers + i)) e0 iv in
      (flag.below, (fit_two p1 valid (at + 2 * i) 1 iv1 u, tt))

  pub front_fits : FitAll plan (fork_front count registers valid at)
  front_fits = fit_upto plan front count front_turn

-- ---- backward nets

-- as many branches as there are ready nets
pub branches_are : (p : ForkPlaces) (readies : List ℕ) (at : ℕ) → AreBranches (length readies) → branches (fork_of p readies at) ≡ length readies
branches_are p readies at few = let some = few.some in omega arith

module _ (plan : Plan) (s : ForkNets) (kept : IsPlan plan) (here : s.backward ≡ length plan.nets)
    (flags : (i : ℕ) → i < branches s → Carries plan (s.registers + i) 1) (readies : (i : ℕ) → i < branches s → Carries plan (s.readies i) 1) where
  wait_places : ArePlaces (wait_nets s) (λ i. s.backward + i)
  wait_places = record { next = λ i. omega arith }

  back_begin : EndsAt plan (s.backward + 0)
  back_begin = record { count = kept.width_count; here = omega (arith, here) }

  wait_turn : (i : ℕ) → i < branches s → FitAll (with_nets plan (nets_upto (wait_nets s) i)) (wait_nets s i)
  wait_turn i lt =
      let p0 : Plan = with_nets plan (nets_upto (wait_nets s) i) in (
        fit_two p0 (s.registers + i) (s.readies i) 1 (still_all plan (s.backward + 0) (s.registers + i) 1 (nets_upto (wait_nets s) i) back_begin (flags i lt))
            (still_all plan (s.backward + 0) (s.readies i) 1 (nets_upto (wait_nets s) i) back_begin (readies i lt)),
        tt,
      )

  wait_carries : (i : ℕ) → i < branches s → Carries (with_nets plan (fork_waits s)) (s.backward + i) 1
  wait_carries i lt =
      let p0 : Plan = with_nets plan (nets_upto (wait_nets s) i) in
      let e0 : EndsAt p0 (s.backward + i) = end_upto plan (wait_nets s) (λ j. s.backward + j) wait_places i back_begin in
      kept_upto plan (s.backward + 0) (wait_nets s) (branches s) i (s.backward + i) 1 lt back_begin
      (fresh p0 (s.backward + i) 1 (Or (s.registers + i) (s.readies i)) e0 (still_all plan (s.backward + 0) (s.registers + i) 1 (nets_upto (wait_nets s) i) back_begin (flags i lt)).wide)

  abbrev waited : Plan
  waited = with_nets plan (fork_waits s)

  chain_places : ArePlaces (chain_nets s) (λ i. s.backward + branches s + i)
  chain_places = record { next = λ i. omega arith }

  chain_begin : EndsAt waited (s.backward + branches s + 0)
  chain_begin = end_all plan (s.backward + 0) (s.backward + branches s + 0) (fork_waits s) (omega (arith, behind_upto (wait_nets s) (λ i. s.backward + i) wait_places (branches s))) back_begin

  -- what is joined so far is there when the next one is joined
  chain_carries : (i : ℕ) → i < branches s → Carries (with_nets waited (nets_upto (chain_nets s) i)) (chain s i) 1
  chain_carries zero lt = subst (λ k. Carries waited k 1) (omega arith) (wait_carries 0 lt)
  chain_carries (suc i) lt =
      let p0 : Plan = with_nets waited (nets_upto (chain_nets s) i) in
      let e0 : EndsAt p0 (s.backward + branches s + i) = end_upto waited (chain_nets s) (λ j. s.backward + branches s + j) chain_places i chain_begin in
      subst (λ (p : Plan). Carries p (chain s (suc i)) 1) (with_nets-append waited (nets_upto (chain_nets s) i) (chain_nets s i))
      (fresh p0 (s.backward + branches s + i) 1 (And (chain s i) (s.backward + suc i)) e0 (chain_carries i (omega arith)).wide)

  chain_turn : (i : ℕ) → i < suc s.more → FitAll (with_nets waited (nets_upto (chain_nets s) i)) (chain_nets s i)
  chain_turn i lt =
      let p0 : Plan = with_nets waited (nets_upto (chain_nets s) i) in (
        fit_two p0 (chain s i) (s.backward + suc i) 1 (chain_carries i (omega arith))
            (still_all waited (s.backward + branches s + 0) (s.backward + suc i) 1 (nets_upto (chain_nets s) i) chain_begin (wait_carries (suc i) (omega arith))),
        tt,
      )

  pub waits_and_chain_fit : FitAll plan (fork_waits s ++ fork_chain s)
  waits_and_chain_fit = fit_append plan (fork_waits s) (fork_chain s) (fit_upto plan (wait_nets s) (branches s) wait_turn) (fit_upto waited (chain_nets s) (suc s.more) chain_turn)

pub back_fits : (plan : Plan) (registers : ℕ) (readies : List ℕ) (at : ℕ) → IsPlan plan → at ≡ length plan.nets → IsForkBackReady plan registers readies → FitAll plan (fork_back registers readies at)
back_fits plan registers readies at kept here r =
    let p : ForkPlaces = record { valid = 0; word = 0; registers = registers; forward = 0; backward = at } in
    let s : ForkNets = fork_of p readies 0 in
    let e : branches s ≡ length readies = branches_are p readies 0 r.branches in
    waits_and_chain_fit plan s kept here (λ i lt. r.flags i (omega (arith, e, lt))) (λ i lt. r.ready_bits i (omega (arith, e, lt)))

-- ---- next nets

module _ (plan : Plan) (p : ForkPlaces) (readies : List ℕ) (at : ℕ) (kept : IsPlan plan) (here : at ≡ length plan.nets) (r : IsForkReady plan p readies) where
  abbrev s : ForkNets
  s = fork_of p readies at

  count : branches s ≡ length readies
  count = branches_are p readies at r.branches

  next_begin : EndsAt plan at
  next_begin = record { count = kept.width_count; here = here }

  flag_stands : (i : ℕ) → i < length readies → Stands plan.nets (p.registers + i) (Register (false ∷ []))
  flag_stands i lt =
      stand_first plan.nets (p.registers + i) _ _
      (turn_stands plan.nets (λ j. Register (false ∷ []) ∷ []) (λ j. p.registers + j) (record { next = λ j. omega arith }) (length readies) i lt
      (subst (λ k. StandFrom plan.nets k (fork_registers (length readies))) (omega arith) r.registers))

  pub registers_below : p.registers < length plan.nets
  registers_below =
      let some = r.branches.some in
      let first = stands_within plan.nets (p.registers + 0) (Register (false ∷ [])) (flag_stands 0 (omega arith)) in
      omega arith

  flag_carries : (i : ℕ) → i < length readies → Carries plan (p.registers + i) 1
  flag_carries i lt = register_carries plan (p.registers + i) 1 (false ∷ []) kept (flag_stands i lt) refl

  abbrev taken0 : Plan
  taken0 = with_net plan (And p.valid (fork_ready s))

  abbrev taken1 : Plan
  taken1 = with_net taken0 (Not at)

  taken_end : EndsAt taken0 (at + 1)
  taken_end = end_more plan at (And p.valid (fork_ready s)) next_begin

  flags_begin : EndsAt taken1 (at + 2 + 3 * 0)
  flags_begin = end_all plan at (at + 2 + 3 * 0) (taken_nets s) (omega arith) next_begin

  taken_bit : Carries taken0 at 1
  taken_bit = fresh plan at 1 (And p.valid (fork_ready s)) next_begin r.valid.wide

  not_taken : Carries taken1 (at + 1) 1
  not_taken = fresh taken0 (at + 1) 1 (Not at) taken_end taken_bit.wide

  -- what was there before these nets
  before : (net : ℕ) → Carries plan net 1 → Carries taken1 net 1
  before net c = still taken0 (at + 1) net 1 (Not at) taken_end (still plan at net 1 (And p.valid (fork_ready s)) next_begin c)

  flag_places : ArePlaces (flag_nets s) (flag_place s)
  flag_places = record { next = λ i. omega arith }

  module _ (i : ℕ) (lt : i < length readies) where
    abbrev q0 : Plan
    q0 = with_nets taken1 (nets_upto (flag_nets s) i)

    abbrev x : Net
    x = And (p.forward + 2 * i + 1) (s.readies i)

    abbrev y : Net
    y = Or (p.registers + i) (flag_place s i)

    abbrev f : Net
    f = And (at + 1) (flag_place s i + 1)

    there : (net : ℕ) → Carries taken1 net 1 → Carries q0 net 1
    there net c = still_all taken1 (at + 2 + 3 * 0) net 1 (nets_upto (flag_nets s) i) flags_begin c

    e0 : EndsAt q0 (flag_place s i)
    e0 = end_upto taken1 (flag_nets s) (flag_place s) flag_places i flags_begin

    e1 : EndsAt (with_net q0 x) (flag_place s i + 1)
    e1 = end_more q0 (flag_place s i) x e0

    e2 : EndsAt (with_net (with_net q0 x) y) (flag_place s i + 1 + 1)
    e2 = end_more (with_net q0 x) (flag_place s i + 1) y e1

    offer : Carries q0 (p.forward + 2 * i + 1) 1
    offer = there (p.forward + 2 * i + 1) (before (p.forward + 2 * i + 1) (r.offers i lt))

    served : Carries (with_net q0 x) (p.registers + i) 1
    served = still q0 (flag_place s i) (p.registers + i) 1 x e0 (there (p.registers + i) (before (p.registers + i) (flag_carries i lt)))

    serves : Carries (with_net q0 x) (flag_place s i) 1
    serves = fresh q0 (flag_place s i) 1 x e0 offer.wide

    has_had : Carries (with_net (with_net q0 x) y) (flag_place s i + 1) 1
    has_had = fresh (with_net q0 x) (flag_place s i + 1) 1 y e1 served.wide

    clear : Carries (with_net (with_net q0 x) y) (at + 1) 1
    clear = still (with_net q0 x) (flag_place s i + 1) (at + 1) 1 y e1 (still q0 (flag_place s i) (at + 1) 1 x e0 (there (at + 1) not_taken))

    flag_turn : FitAll q0 (flag_nets s i)
    flag_turn = (
      fit_two q0 (p.forward + 2 * i + 1) (s.readies i) 1 offer (there (s.readies i) (before (s.readies i) (r.ready_bits i lt))),
      (fit_two (with_net q0 x) (p.registers + i) (flag_place s i) 1 served serves, (fit_two (with_net (with_net q0 x) y) (at + 1) (flag_place s i + 1) 1 clear has_had, tt)),
    )

    next_carries : Carries (with_nets taken1 (fork_flags s)) (flag_next at i) 1
    next_carries =
        kept_upto taken1 (at + 2 + 3 * 0) (flag_nets s) (branches s) i (flag_next at i) 1 (omega (arith, lt, count)) flags_begin
        (let e : flag_place s i + 1 + 1 ≡ flag_next at i = omega arith in
        fresh (with_net (with_net q0 x) y) (flag_next at i) 1 f (record { count = e2.count; here = omega (arith, e, e2.here) }) clear.wide)

  pub next_fits : FitAll plan (fork_next p readies at)
  next_fits =
      fit_append plan (taken_nets s) (fork_flags s)
      (fit_two plan p.valid (fork_ready s) 1 r.valid r.room, (taken_bit.below, tt))
      (fit_upto taken1 (flag_nets s) (branches s) (λ i lt. flag_turn i (omega (arith, lt, count))))

  pub next_can_link : CanLinkAll (with_nets plan (fork_next p readies at)) (flag_register p.registers) (flag_next at) (length readies)
  next_can_link = record {
    each = λ i lt.
        let whole : Plan = with_nets plan (fork_next p readies at) in
        let flag : Carries whole (p.registers + i) 1 = still_all plan at (p.registers + i) 1 (fork_next p readies at) next_begin (flag_carries i lt) in
        may_link whole (p.registers + i) (flag_next at i) 1 (register_kept plan (fork_next p readies at) (p.registers + i) (false ∷ []) (flag_stands i lt)) flag
        (subst (λ (q : Plan). Carries q (flag_next at i) 1) (with_nets-append plan (taken_nets s) (fork_flags s)) (next_carries i lt));
  }

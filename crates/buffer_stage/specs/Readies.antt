-- What the ready nets of a part's inputs carry once its backward nets stand: one bit each.
use Rattle.std.specs.Prelude.{◌≡◌, ℕ, zero, suc, ◌+◌, ◌-◌, ◌<◌, ◌++◌, false, List, [], ◌∷◌, length, refl}
use Rattle.std.proofs.Common.{◌∙◌, subst, arith}
use Rattle.netlist.specs.declared.net.Net.{Net}
use Rattle.netlist.specs.declared.net.Net.TheVariants.{Register, Not, And, Or, Equal}
use Rattle.netlist.specs.declared.part.Part.{Part}
use Rattle.netlist.specs.declared.part.Part.TheVariants.{Stage, Fifo, AsFifo, AsVr, Map, Scan, Fork, Join}
use Rattle.netlist.specs.Nets.{width_in}
use Rattle.netlist.specs.Parts.{IsGoodPart}
use Rattle.netlist.specs.Plans.{Plan, Stands, IsPlan}
use Rattle.netlist.specs.PlanLaws.{stands_within}
use Rattle.net_lists.specs.Lists.{StandFrom, Carries}
use Rattle.net_lists.specs.ListLaws.{stand_first, stand_front, stand_behind}
use Rattle.looped_nets.specs.Loops.{ArePlaces, behind_upto, turn_stands}
use Rattle.looped_nets.specs.Forks.{ForkNets, branches, fork_of, wait_nets, fork_waits, chain, chain_nets, fork_chain}
use Rattle.buffer_stage.specs.declared.laid.Laid.{Laid}
use Rattle.buffer_stage.specs.Passes.{input_count, register_nets, backward_nets, first_ready}
use Rattle.buffer_stage.specs.GoodParts.{DoFitBack, flag_carries}

-- Where the registers and the backward nets of a good part stand in a netlist, and the ready nets of its outputs fit, the ready net of each
-- of its inputs is one of one bit.
abbrev pub GoodPartsGiveBack : Type 0
GoodPartsGiveBack = (plan : Plan) (part : Part) (laid : Laid) (readies : List ℕ) (at : ℕ) → IsPlan plan → IsGoodPart part → StandFrom plan.nets laid.registers (register_nets part) → DoFitBack plan part readies
    → StandFrom plan.nets at (backward_nets part laid readies at) → (k : ℕ) → k < input_count part → Carries plan (first_ready part readies at + k) 1

-- a net that stands is as wide as its operator makes it
net_carries : (plan : Plan) (place width : ℕ) (net : Net) → IsPlan plan → Stands plan.nets place net → width_in net plan.widths ≡ width → Carries plan place width
net_carries plan place width net kept s e = record { below = stands_within plan.nets place net s; wide = (kept.fit place net s).own ∙ e }

alone : (plan : Plan) (net : ℕ) → Carries plan net 1 → (k : ℕ) → k < 1 → Carries plan (net + k) 1
alone plan net c k lt = subst (λ n. Carries plan n 1) (let e : net ≡ net + k = omega (arith, lt) in e) c

two_carry : (plan : Plan) (at k : ℕ) → k < 2 → Carries plan at 1 → Carries plan (at + 1) 1 → Carries plan (at + k) 1
two_carry plan at zero lt first second = subst (λ n. Carries plan n 1) (let e : at ≡ at + 0 = omega arith in e) first
two_carry plan at (suc zero) lt first second = second
two_carry plan at (suc (suc k)) lt first second = absurd (omega arith)

module _ (plan : Plan) (s : ForkNets) (kept : IsPlan plan) (stand : StandFrom plan.nets s.backward (fork_waits s ++ fork_chain s)) (flag : Carries plan (s.registers + 0) 1) where
  wait_places : ArePlaces (wait_nets s) (λ i. s.backward + i)
  wait_places = record { next = λ i. omega arith }

  chain_places : ArePlaces (chain_nets s) (λ i. s.backward + branches s + i)
  chain_places = record { next = λ i. omega arith }

  waits : StandFrom plan.nets (s.backward + 0) (fork_waits s)
  waits = subst (λ k. StandFrom plan.nets k (fork_waits s)) (let e : s.backward ≡ s.backward + 0 = omega arith in e) (stand_front plan.nets s.backward (fork_waits s) (fork_chain s) stand)

  first_wait : Stands plan.nets (s.backward + 0) (Or (s.registers + 0) (s.readies 0))
  first_wait = stand_first plan.nets (s.backward + 0) _ _ (turn_stands plan.nets (wait_nets s) (λ i. s.backward + i) wait_places (branches s) 0 (omega arith) waits)

  links : StandFrom plan.nets (s.backward + branches s + 0) (fork_chain s)
  links =
      let counted = behind_upto (wait_nets s) (λ i. s.backward + i) wait_places (branches s) in
      subst (λ k. StandFrom plan.nets k (fork_chain s)) (let e : s.backward + length (fork_waits s) ≡ s.backward + branches s + 0 = omega (arith, counted) in e)
      (stand_behind plan.nets s.backward (fork_waits s) (fork_chain s) stand)

  link_stands : (i : ℕ) → i < suc s.more → Stands plan.nets (s.backward + branches s + i) (And (chain s i) (s.backward + suc i))
  link_stands i lt = stand_first plan.nets (s.backward + branches s + i) _ _ (turn_stands plan.nets (chain_nets s) (λ j. s.backward + branches s + j) chain_places (suc s.more) i lt links)

  link_carries : (i : ℕ) → i < branches s → Carries plan (chain s i) 1
  link_carries zero lt =
      subst (λ k. Carries plan k 1) (let e : s.backward + 0 ≡ s.backward = omega arith in e)
      (net_carries plan (s.backward + 0) 1 (Or (s.registers + 0) (s.readies 0)) kept first_wait flag.wide)
  link_carries (suc i) lt = net_carries plan (s.backward + branches s + i) 1 (And (chain s i) (s.backward + suc i)) kept (link_stands i (omega arith)) (link_carries i (omega arith)).wide

pub good_parts_do_give_back : GoodPartsGiveBack
good_parts_do_give_back plan (Stage width) laid readies at kept good stand back these =
    let v1 = net_carries plan (laid.registers + 1) 1 (Register (false ∷ [])) kept (stand.each 1 _ refl) refl in
    alone plan at (net_carries plan at 1 (Not (laid.registers + 1)) kept (stand_first plan.nets at _ _ these) v1.wide)
good_parts_do_give_back plan (Fifo width depth) laid readies at kept good stand back these =
    let full = net_carries plan (at + 1) 1 (Equal laid.registers at) kept (these.each 1 _ refl) refl in
    alone plan (at + 2) (net_carries plan (at + 2) 1 (Not (at + 1)) kept (these.each 2 _ refl) full.wide)
good_parts_do_give_back plan AsFifo laid readies at kept good stand back these = alone plan _ (back.bits 0 (omega arith))
good_parts_do_give_back plan AsVr laid readies at kept good stand back these =
    let ready = back.bits 0 (omega arith) in
    alone plan at (net_carries plan at 1 _ kept (stand_first plan.nets at _ _ these) ready.wide)
good_parts_do_give_back plan (Map body) laid readies at kept good stand back these = alone plan _ (back.bits 0 (omega arith))
good_parts_do_give_back plan (Scan reset body) laid readies at kept good stand back these = alone plan _ (back.bits 0 (omega arith))
good_parts_do_give_back plan (Fork branches) laid readies at kept good stand back these =
    let s : ForkNets = fork_of (record { valid = 0; word = 0; registers = laid.registers; forward = 0; backward = at }) readies 0 in
    let count = back.count in
    let some = good.0 in
    let flag = flag_carries plan branches laid.registers 0 kept stand (omega (arith, some)) in
    let last = link_carries plan s kept these flag (suc s.more) (omega arith) in
    alone plan (at + branches + (branches - 2)) (subst (λ k. Carries plan k 1) (let e : chain s (suc s.more) ≡ at + branches + (branches - 2) = omega (arith, count, some) in e) last)
good_parts_do_give_back plan Join laid readies at kept good stand back these =
    let ready = back.bits 0 (omega arith) in λ k lt.
    two_carry plan at k lt (net_carries plan at 1 _ kept (stand_first plan.nets at _ _ these) ready.wide) (net_carries plan (at + 1) 1 _ kept (these.each 1 _ refl) ready.wide)

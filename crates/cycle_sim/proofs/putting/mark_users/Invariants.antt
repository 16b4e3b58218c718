use Rattle.std.proofs.Common.{◌≡◌, ◌-◌, length, drop}
use Rattle.netlist.specs.Plans.{is_register_at}
use Rattle.cycle_sim.specs.Changes.{with_marks}
use Rattle.cycle_sim.specs.Wired.{is_other_at}
use Rattle.cycle_sim.proofs.putting.mark_users.Given as goal

abbrev pub invariant-loop-user : goal.invariant-loop-user
invariant-loop-user l = record {
  marks : with_marks (is_other_at l.nets) (drop l.user-index l.users) l.marks ≡ with_marks (is_other_at l.nets) l.users l.initial.marks;
  waiting : with_marks (is_register_at l.nets) (drop l.user-index l.users) l.waiting ≡ with_marks (is_register_at l.nets) l.users l.initial.waiting;
  mark_count : length l.marks ≡ length l.nets;
  wait_count : length l.waiting ≡ length l.nets;
}

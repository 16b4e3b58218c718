use Rattle.std.proofs.Common.{◌≡◌, ◌≤◌, ◌-◌, length}
use Rattle.cosim_msgs.specs.Messages.{empty_addressed}
use Rattle.cosim_msgs.specs.Views.{addressed_view}
use Rattle.cosim_msgs.specs.Steps.{addressed_step}
use Rattle.cosim_msgs.specs.Reading.{run}
use Rattle.cosim_msgs.proofs.addressed_message.BorrowedAddressed.read.Given as goal

abbrev pub invariant-loop-field : goal.invariant-loop-field
invariant-loop-field l = record {
  within : l.at ≤ length l.octets;
  so_far : run (addressed_step l.octets) (addressed_view l.addressed) l.octets l.at ≡ run (addressed_step l.octets) empty_addressed l.octets 0;
}

abbrev pub decreases-loop-field : goal.decreases-loop-field
decreases-loop-field l = length l.octets - l.at

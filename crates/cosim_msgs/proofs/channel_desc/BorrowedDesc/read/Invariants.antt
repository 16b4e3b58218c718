use Rattle.std.proofs.Common.{◌≡◌, ◌≤◌, ◌-◌, length}
use Rattle.cosim_msgs.specs.Messages.{empty_desc}
use Rattle.cosim_msgs.specs.Reading.{run}
use Rattle.cosim_msgs.specs.Views.{desc_view}
use Rattle.cosim_msgs.specs.Steps.{desc_step}
use Rattle.cosim_msgs.proofs.channel_desc.BorrowedDesc.read.Given as goal

abbrev pub invariant-loop-field : goal.invariant-loop-field
invariant-loop-field l = record {
  within : l.at ≤ length l.octets;
  so_far : run (desc_step l.octets) (desc_view l.desc) l.octets l.at ≡ run (desc_step l.octets) empty_desc l.octets l.from;
}

abbrev pub decreases-loop-field : goal.decreases-loop-field
decreases-loop-field l = length l.octets - l.at

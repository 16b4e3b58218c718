use Rattle.std.proofs.Common.{◌≡◌, ◌≤◌, ◌-◌, length}
use Rattle.cosim_msgs.specs.Views.{message_of}
use Rattle.cosim_msgs.specs.Steps.{message_step}
use Rattle.cosim_msgs.specs.Reading.{run}
use Rattle.cosim_msgs.proofs.data_message.Message.read.Given as goal

abbrev pub invariant-loop-field : goal.invariant-loop-field
invariant-loop-field l = record {
  within : l.at ≤ length l.octets;
  so_far : run (message_step l.octets) (message_of l.data) l.octets l.at ≡ run (message_step l.octets) (message_of l.before) l.octets l.from;
}

abbrev pub decreases-loop-field : goal.decreases-loop-field
decreases-loop-field l = length l.octets - l.at

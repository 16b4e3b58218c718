use Rattle.std.proofs.Common.{◌≡◌, ◌≤◌, ◌-◌, length}
use Rattle.cosim_msgs.specs.Messages.{void_message}
use Rattle.cosim_msgs.specs.Steps.{void_step}
use Rattle.cosim_msgs.specs.Reading.{run}
use Rattle.cosim_msgs.proofs.void_message.VoidMessage.read.Given as goal

abbrev pub invariant-loop-field : goal.invariant-loop-field
invariant-loop-field l = record {
  within : l.at ≤ length l.octets;
  so_far : run void_step void_message l.octets l.at ≡ run void_step void_message l.octets 0;
}

abbrev pub decreases-loop-field : goal.decreases-loop-field
decreases-loop-field l = length l.octets - l.at

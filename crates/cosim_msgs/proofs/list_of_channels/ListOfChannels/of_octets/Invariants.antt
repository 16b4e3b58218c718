use Rattle.std.proofs.Common.{◌≡◌, ◌≤◌, ◌-◌, length}
use Rattle.cosim_msgs.specs.Messages.{empty_list, list_of}
use Rattle.cosim_msgs.specs.Steps.{list_step}
use Rattle.cosim_msgs.specs.Reading.{run}
use Rattle.cosim_msgs.proofs.list_of_channels.ListOfChannels.of_octets.Given as goal

abbrev pub invariant-loop-channels : goal.invariant-loop-channels
invariant-loop-channels l = record {
  within : l.at ≤ length l.octets;
  so_far : run (list_step l.octets) (list_of l.channels) l.octets l.at ≡ run (list_step l.octets) empty_list l.octets 0;
}

abbrev pub decreases-loop-channels : goal.decreases-loop-channels
decreases-loop-channels l = length l.octets - l.at

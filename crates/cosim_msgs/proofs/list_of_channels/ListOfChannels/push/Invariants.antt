use Rattle.std.proofs.Common.{◌≡◌, ◌++◌, take}
use Rattle.cosim_msgs.specs.Spelling.{channels_spelling}
use Rattle.cosim_msgs.proofs.list_of_channels.ListOfChannels.push.Given as goal

abbrev pub invariant-loop-desc : goal.invariant-loop-desc
invariant-loop-desc l = record { so_far : l.out ≡ l.fn.out ++ channels_spelling (take l.desc-index l.self.channels) }

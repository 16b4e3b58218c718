use Rattle.std.proofs.Common.{◌≡◌, ◌++◌, map, take}
use Rattle.std.specs.Prelude.{filter}
use Rattle.body_plans.specs.Channels.{member_channel, is_to_server}
use Rattle.body_plans.specs.Views.{channel_of}
use Rattle.body_plans.proofs.channels.add_members.Given as goal

abbrev pub invariant-loop-member : goal.invariant-loop-member
invariant-loop-member l = map channel_of l.channels ≡ map channel_of l.fn.channels ++ map (member_channel l.id) (filter is_to_server (take l.member-index l.members))

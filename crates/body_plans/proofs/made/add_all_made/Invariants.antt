use Rattle.std.proofs.Common.{◌≡◌, ◌++◌, map, take}
use Rattle.std.specs.Prelude.{flat_map}
use Rattle.body_plans.specs.Channels.{made_at}
use Rattle.body_plans.specs.Views.{channel_of}
use Rattle.body_plans.proofs.made.add_all_made.Given as goal

abbrev pub invariant-loop-element : goal.invariant-loop-element
invariant-loop-element l = map channel_of l.channels ≡ map channel_of l.fn.channels ++ flat_map (made_at l.scope l.before l.elements) (take l.element-index l.order)

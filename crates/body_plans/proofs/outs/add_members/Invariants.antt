use Rattle.std.proofs.Common.{◌≡◌, ◌++◌, map, take}
use Rattle.std.specs.Prelude.{filter}
use Rattle.design_tree.specs.declared.declarations.Member.{Member}
use Rattle.check_rules.specs.References.{part_label}
use Rattle.body_plans.specs.Channels.{is_to_client}
use Rattle.body_plans.specs.Plans.{driver_place}
use Rattle.body_plans.proofs.outs.add_members.Given as goal

abbrev pub invariant-loop-member : goal.invariant-loop-member
invariant-loop-member l = l.outs ≡ l.fn.outs ++ map (λ (m : Member). driver_place l.places l.drives (part_label l.id m.name)) (filter is_to_client (take l.member-index l.members))

use Rattle.std.proofs.Common.{◌≡◌, false, not, take}
use Rattle.std.specs.List.{list_any}
use Rattle.name_tables.specs.Lists.{stands}
use Rattle.check_rules.specs.References.{part_label}
use Rattle.design_names.proofs.unused.lacks_one_member.Given as goal

abbrev pub invariant-loop-member : goal.invariant-loop-member
invariant-loop-member l = list_any (λ m. not (stands (part_label l.id m.name) l.used)) (take l.member-index l.members) ≡ false

use Rattle.std.proofs.Common.{◌≡◌, map, take}
use Rattle.name_tables.specs.Keys.{occurrence_of}
use Rattle.check_rules.specs.DeclaredTwice.{member_named}
use Rattle.design_names.proofs.declared_twice.repeat_of_members.Given as goal

abbrev pub invariant-loop-member : goal.invariant-loop-member
invariant-loop-member l = map occurrence_of l.marks ≡ map member_named (take l.member-index l.members)

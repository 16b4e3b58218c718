use Rattle.std.proofs.Common.{◌≡◌, map, take}
use Rattle.name_tables.specs.Keys.{label_of}
use Rattle.design_scopes.specs.Tables.{member_label}
use Rattle.design_scopes.proofs.bundles.member_keys.Given as goal

abbrev pub invariant-loop-member : goal.invariant-loop-member
invariant-loop-member l = map label_of l.keys ≡ map member_label (take l.member-index l.members)

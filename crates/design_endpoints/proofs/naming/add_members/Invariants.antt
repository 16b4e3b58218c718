use Rattle.std.proofs.Common.{◌≡◌, ◌++◌, map, take}
use Rattle.design_endpoints.specs.Endpoints.{named_in, ends_of_members}
use Rattle.design_endpoints.proofs.naming.add_members.Given as goal

abbrev pub invariant-loop-member : goal.invariant-loop-member
invariant-loop-member l = map named_in l.endpoints ≡ map named_in l.fn.endpoints ++ ends_of_members l.way l.id (take l.member-index l.members)

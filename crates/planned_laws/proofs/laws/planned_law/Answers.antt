use Rattle.planned_laws.proofs.Planning.{each_is_good, each_part_is_known}
use Rattle.planned_laws.proofs.laws.planned_law.Goals as goal

pub returns : goal.returns
returns c = record { plans = each_is_good c.accepted_law.ensures; parts = each_part_is_known c.parts_law.ensures.stands }

use Rattle.element_parts.specs.StandingLaws.{each_part_stands}
use Rattle.element_parts.specs.Fitting.{each_part_fits}
use Rattle.element_parts.proofs.laws.parts_law.Goals as goal

pub returns : goal.returns
returns c = record { stands = each_part_stands; fits = each_part_fits }

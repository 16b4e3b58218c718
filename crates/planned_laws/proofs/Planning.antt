-- The plans of a design that breaks no rule are good, and its parts stand for its operations.
use Rattle.std.proofs.Common.{arith}
use Rattle.design_tree.specs.declared.design.DesignTree.TheVariants as F
use Rattle.check_rules.specs.Scopes.{scopes}
use Rattle.channel_typing.specs.Misfits.{misfits}
use Rattle.element_parts.specs.Listing.{parts_of}
use Rattle.element_parts.specs.Standing.{EachPartStands}
use Rattle.once_laws.specs.Accepted.{EachAccepted}
use Rattle.tree_plans.specs.Trees.{bodies_of_tree}
use Rattle.planned_laws.specs.Planned.{EachIsGood, EachPartIsKnown}
use Rattle.planned_laws.specs.TypesFit.{types_fit}
use Rattle.planned_laws.specs.Rows.{rows_in_order}

pub each_is_good : EachAccepted → EachIsGood
each_is_good accepted (F.Pipe p) kept = record { each = λ k low. absurd (omega arith) }
each_is_good accepted (F.Modules declarations top) kept = accepted misfits declarations top (parts_of (scopes declarations top)).ordered kept (rows_in_order (scopes declarations top))

pub each_part_is_known : EachPartStands → EachPartIsKnown
each_part_is_known stands tree kept part there = stands (bodies_of_tree tree) (types_fit tree kept) part there

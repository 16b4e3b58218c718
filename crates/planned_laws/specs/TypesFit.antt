-- In a design that breaks no rule all types fit.
use Rattle.std.proofs.Common.{◌≡◌, [], refl}
use Rattle.design_tree.specs.declared.design.DesignTree.{DesignTree}
use Rattle.design_tree.specs.declared.design.DesignTree.TheVariants as F
use Rattle.check_rules.specs.Checks.{Accepts, checks}
use Rattle.channel_typing.specs.Misfits.{misfits}
use Rattle.tree_plans.specs.Trees.{bodies_of_tree}

pub types_fit : (tree : DesignTree) → Accepts (checks misfits tree) → misfits (bodies_of_tree tree) ≡ []
types_fit (F.Pipe p) kept = refl
types_fit (F.Modules declarations top) kept = kept.1.1.1.1.1.1.1.1.0

-- What is computed is what the rules say.
use Rattle.std.specs.Prelude.{◌≡◌, ◌↔◌, ℕ, true, Option, Some, None, List}
use Rattle.design_tree.specs.declared.design.DesignTree.{DesignTree}
use Rattle.check_rules.specs.declared.rule.CheckRule.{CheckRule}
use Rattle.check_rules.specs.Checks.{Check, Accepts, Refuses, checks}
use Rattle.check_rules.specs.Scopes.{Scope}
use Rattle.element_order.specs.Laws.{Depends}
use Rattle.first_breaks.specs.Dependence.{depends_on}
use Rattle.first_breaks.specs.Breaks.{Break, break_at, break_of}

-- The test whether an element depends on another decides it.
abbrev pub EachDepends : Type 0
EachDepends = (needs : List (List ℕ)) (i k : ℕ) → (depends_on needs i k ≡ true) ↔ Depends needs i k

-- There is a break exactly where the checks are not all kept, and it is the one that they refuse.
pub record IsBreakOf (cs : List Check) (found : Option Break) : Type 0 where
  pub accepted : (found ≡ None) ↔ Accepts cs
  pub refused : (rule : CheckRule) (at : ℕ) → (found ≡ Some (break_at rule at)) ↔ Refuses cs rule at

-- The first break of a design is the one by which its checks refuse it.
abbrev pub EachBreak : Type 0
EachBreak = (misfits : List Scope → List ℕ) (tree : DesignTree) → IsBreakOf (checks misfits tree) (break_of misfits tree)

-- A design is either accepted or refused, and refused by one rule at one place.
use Rattle.std.specs.Prelude.{◌≡◌, ℕ, List}
use Rattle.check_rules.specs.declared.rule.CheckRule.{CheckRule}
use Rattle.check_rules.specs.Checks.{Check, Accepts, Refuses, checks}
use Rattle.check_rules.specs.Scopes.{Scope}
use Rattle.design_tree.specs.declared.design.DesignTree.{DesignTree}

-- What some checks report: nothing where all are kept, and else one break.
pub record ReportOne (cs : List Check) : Type 0 where
  pub never_both : (rule : CheckRule) (at : ℕ) → Accepts cs → Refuses cs rule at → ⊥
  pub one : (rule other : CheckRule) (at another : ℕ) → Refuses cs rule at → Refuses cs other another → (rule ≡ other) × (at ≡ another)

abbrev pub EachReportsOne : Type 0
EachReportsOne = (misfits : List Scope → List ℕ) (tree : DesignTree) → ReportOne (checks misfits tree)

-- The refusals of a design that was read.
use Rattle.std.specs.Prelude.{◌≡◌, ℕ, ◌≤◌, List}
use Rattle.channel_typing.specs.Misfits.{misfits}
use Rattle.check_rules.specs.Checks.{Refuses, checks}
use Rattle.check_rules.specs.RuleNumbers.{rule_number}
use Rattle.check_rules.specs.declared.rule.CheckRule.{CheckRule}
use Rattle.design_tree.specs.declared.design.DesignTree.{DesignTree}
use Rattle.esi_base.specs.declared.place.Refusal.{Refusal}
use Rattle.esi_base.specs.Places.{place_at}

-- The design breaks a rule first, and the refusal has its number, and the place of its break in the text.
pub record IsReported (text : List ℕ) (tree : DesignTree) (refusal : Refusal) : Type 0 where
  pub rule : CheckRule
  pub at : ℕ
  pub broken : Refuses (checks misfits tree) rule at
  pub number : refusal.number ≡ rule_number rule
  pub place : refusal.place ≡ place_at text at

-- the numbers of the rules
abbrev pub IsCheckNumber : ℕ → Type 0
IsCheckNumber number = (301 ≤ number) × (number ≤ 312)

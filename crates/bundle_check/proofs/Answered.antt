-- What is computed is what the checks report.
use Rattle.std.proofs.Common.{◌≡◌, ℕ, List, ap}
use Rattle.std.specs.Prelude.{Ok, Err}
use Rattle.channel_typing.specs.Misfits.{misfits}
use Rattle.check_rules.specs.Checks.{Accepts, Refuses, checks}
use Rattle.check_rules.specs.declared.rule.CheckRule.{CheckRule}
use Rattle.design_tree.specs.declared.design.DesignTree.{DesignTree}
use Rattle.first_breaks.specs.Breaks.{break_at}
use Rattle.first_breaks.specs.Laws.{EachBreak}
use Rattle.bundle_check.specs.Checking.{refusal_of, unless_broken, checked_of}

pub answers_kept : (text : List ℕ) (tree : DesignTree) → EachBreak → Accepts (checks misfits tree) → checked_of text tree ≡ Ok tree
unfolding checked_of
answers_kept text tree law kept = ap (unless_broken text tree) ((law misfits tree).accepted.1 kept)

pub answers_broken : (text : List ℕ) (tree : DesignTree) (rule : CheckRule) (at : ℕ) → EachBreak → Refuses (checks misfits tree) rule at → checked_of text tree ≡ Err (refusal_of text (break_at rule at))
unfolding checked_of
answers_broken text tree rule at law broken = ap (unless_broken text tree) (((law misfits tree).refused rule at).1 broken)

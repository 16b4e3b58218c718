-- What the check of a design comes to, computed from its text and its tree.
use Rattle.std.specs.Prelude.{ℕ, Option, Some, None, Result, Ok, Err, List}
use Rattle.channel_typing.specs.Misfits.{misfits}
use Rattle.check_rules.specs.RuleNumbers.{rule_number}
use Rattle.design_tree.specs.declared.design.DesignTree.{DesignTree}
use Rattle.esi_base.specs.declared.place.Refusal.{Refusal}
use Rattle.esi_base.specs.Places.{place_at}
use Rattle.first_breaks.specs.Breaks.{Break, break_of}
use Rattle.bundle_check.specs.declared.checked.Checked.{Checked}

-- the refusal of a design by a rule that it breaks
abbrev pub refusal_of : List ℕ → Break → Refusal
refusal_of text found = record { number = rule_number found.rule; place = place_at text found.at }

-- the design as it is where nothing is broken, or else the refusal by the break
abbrev pub unless_broken : List ℕ → DesignTree → Option Break → Result DesignTree Refusal
unless_broken text tree None = Ok tree
unless_broken text tree (Some found) = Err (refusal_of text found)

-- A design that breaks no rule stays as it is, and any other is refused by the first rule that it breaks.
unfoldable pub checked_of : List ℕ → DesignTree → Result DesignTree Refusal
checked_of text tree = unless_broken text tree (break_of misfits tree)

-- the design that was checked
abbrev pub tree_of : Checked → DesignTree
tree_of checked = checked.design.tree

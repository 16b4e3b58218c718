-- The numbers of the rules: six of them, and each is one rule's.
use Rattle.std.proofs.Common.{◌≡◌, ℕ, ◌≤◌, refl, ap, sym, ◌∙◌, arith}
use Rattle.std.specs.Prelude.{◌==◌, if◌then◌else◌}
use Rattle.hpack.specs.declared.stop.BlockRule.{BlockRule}
use Rattle.hpack.specs.declared.stop.BlockRule.TheVariants.{Padding, EndOfString, NoSuchEntry, CutOrTooLarge, WrongSizeUpdate, ListTooLarge}
use Rattle.hpack.specs.Rules.{rule_number}

pub six_rules : (rule : BlockRule) → (711 ≤ rule_number rule) × (rule_number rule ≤ 716)
six_rules Padding = (omega arith, omega arith)
six_rules EndOfString = (omega arith, omega arith)
six_rules NoSuchEntry = (omega arith, omega arith)
six_rules CutOrTooLarge = (omega arith, omega arith)
six_rules WrongSizeUpdate = (omega arith, omega arith)
six_rules ListTooLarge = (omega arith, omega arith)

-- the rule of a number
abbrev rule_with : ℕ → BlockRule
rule_with number =
    if number == 711
    then Padding
    else (if number == 712 then EndOfString else (if number == 713 then NoSuchEntry else (if number == 714 then CutOrTooLarge else (if number == 715 then WrongSizeUpdate else ListTooLarge))))

found_again : (rule : BlockRule) → rule_with (rule_number rule) ≡ rule
found_again Padding = refl
found_again EndOfString = refl
found_again NoSuchEntry = refl
found_again CutOrTooLarge = refl
found_again WrongSizeUpdate = refl
found_again ListTooLarge = refl

pub own_number : (rule other : BlockRule) → rule_number rule ≡ rule_number other → rule ≡ other
own_number rule other same = sym (found_again rule) ∙ ap rule_with same ∙ found_again other

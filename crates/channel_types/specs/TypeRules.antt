-- The rules of types, their numbers, and which of them a type breaks all of whose parts are good.
use Rattle.std.specs.Prelude.{ℕ, Bool, Option, Some, None, nat_lt, ◌==◌, ◌||◌, if◌then◌else◌}
use Rattle.design_lex.specs.declared.limits.TheConstants.{WIDEST_TYPE}
use Rattle.channel_types.specs.declared.esi_type.EsiType.{EsiType}
use Rattle.channel_types.specs.declared.esi_type.EsiType.TheViews.{out-EsiType}
use Rattle.channel_types.specs.declared.type_rule.TypeRule.{TypeRule}
use Rattle.channel_types.specs.declared.type_rule.TypeRule.TheVariants.{WidthOutOfRange, RepeatedField}
use Rattle.channel_types.specs.Types.{width_of, level_names, has_repeat}

-- the number of a rule in refusals
abbrev pub rule_number : TypeRule → ℕ
rule_number WidthOutOfRange = 101
rule_number RepeatedField = 102

-- the same, 0 for no rule
abbrev pub number_or_zero : Option TypeRule → ℕ
number_or_zero (Some rule) = rule_number rule
number_or_zero None = 0

-- the rule that such a width breaks, or else fields whose names repeat
abbrev pub broken_by : ℕ → Bool → Option TypeRule
broken_by width repeats = if width == 0 || nat_lt WIDEST_TYPE width then Some WidthOutOfRange else (if repeats then Some RepeatedField else None)

-- The rule that a type breaks all of whose parts are good: its width is 0 or above the greatest one, or
-- else two of its fields have one name.
abbrev pub broken_rule : EsiType → Option TypeRule
broken_rule ty = broken_by (width_of ty) (has_repeat (level_names (out-EsiType ty)))

-- The numbers of the rules in refusals.
use Rattle.std.specs.Prelude.{ℕ}
use Rattle.check_rules.specs.declared.rule.CheckRule.{CheckRule}
use Rattle.check_rules.specs.declared.rule.CheckRule.TheVariants as R

abbrev pub rule_number : CheckRule → ℕ
rule_number R.Undeclared = 301
rule_number R.DeclaredTwice = 302
rule_number R.WrongType = 303
rule_number R.Unused = 304
rule_number R.UsedTwice = 305
rule_number R.WrongDirection = 306
rule_number R.DependsOnItself = 307
rule_number R.WrongSignalling = 308
rule_number R.TooLarge = 309
rule_number R.TooManyToServer = 310
rule_number R.TooManyToClient = 311
rule_number R.CountOutOfRange = 312

-- The numbers of the rules are 301 to 312.
use Rattle.std.proofs.Common.{arith}
use Rattle.check_rules.specs.RuleNumbers.{rule_number}
use Rattle.check_rules.specs.declared.rule.CheckRule.{CheckRule}
use Rattle.check_rules.specs.declared.rule.CheckRule.TheVariants as R
use Rattle.bundle_check.specs.Refusals.{IsCheckNumber}

pub number_listed : (rule : CheckRule) → IsCheckNumber (rule_number rule)
number_listed R.Undeclared = (omega arith, omega arith)
number_listed R.DeclaredTwice = (omega arith, omega arith)
number_listed R.WrongType = (omega arith, omega arith)
number_listed R.Unused = (omega arith, omega arith)
number_listed R.UsedTwice = (omega arith, omega arith)
number_listed R.WrongDirection = (omega arith, omega arith)
number_listed R.DependsOnItself = (omega arith, omega arith)
number_listed R.WrongSignalling = (omega arith, omega arith)
number_listed R.TooLarge = (omega arith, omega arith)
number_listed R.TooManyToServer = (omega arith, omega arith)
number_listed R.TooManyToClient = (omega arith, omega arith)
number_listed R.CountOutOfRange = (omega arith, omega arith)

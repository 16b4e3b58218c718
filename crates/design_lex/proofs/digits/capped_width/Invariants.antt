-- What the digits so far and those that are left make, capped, is what all make, capped.
use Rattle.std.proofs.Common.{◌≡◌, ◌≤◌, drop, min}
use Rattle.design_lex.specs.declared.limits.TheConstants.{TOO_WIDE}
use Rattle.design_lex.specs.Digits.{value, value_from}
use Rattle.design_lex.proofs.digits.capped_width.Given as goal

abbrev pub invariant-loop-digit : goal.invariant-loop-digit
invariant-loop-digit l = record {
  small : l.front ≤ TOO_WIDE;
  same : min TOO_WIDE (value_from 10 l.front (drop l.digit-index l.digits)) ≡ min TOO_WIDE (value 10 l.digits);
}

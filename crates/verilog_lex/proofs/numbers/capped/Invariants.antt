-- What the digits so far and those that are left make, capped, is what all make, capped.
use Rattle.std.proofs.Common.{◌≡◌, ◌≤◌, drop, min}
use Rattle.design_lex.specs.Digits.{value, value_from}
use Rattle.verilog_lex.proofs.numbers.capped.Given as goal

abbrev pub invariant-loop-digit : goal.invariant-loop-digit
invariant-loop-digit l = record {
  small : l.front ≤ l.bound;
  same : min l.bound (value_from 10 l.front (drop l.digit-index l.digits)) ≡ min l.bound (value 10 l.digits);
}

-- What the digits so far and those that are left make is what all make.
use Rattle.std.proofs.Common.{◌≡◌, ◌<◌, ◌^◌, drop}
use Rattle.design_lex.specs.Digits.{value, value_from}
use Rattle.design_lex.proofs.digits.number_value.Given as goal

abbrev pub invariant-loop-digit : goal.invariant-loop-digit
invariant-loop-digit l = record {
  small : l.front < 2 ^ 128;
  same : value_from l.base l.front (drop l.digit-index l.digits) ≡ value l.base l.digits;
}

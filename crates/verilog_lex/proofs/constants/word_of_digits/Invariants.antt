-- The octets so far, and above them the digits that are left, make what all digits make.
use Rattle.std.proofs.Common.{◌≡◌, ◌+◌, ◌*◌, ◌-◌, ◌^◌, length, take}
use Rattle.design_lex.specs.Digits.{value}
use Rattle.esi_base.specs.Parts.{whole}
use Rattle.verilog_lex.proofs.constants.word_of_digits.Given as goal

abbrev pub invariant-loop-at : goal.invariant-loop-at
invariant-loop-at l = record {
  sized : length l.octets ≡ 128;
  same : whole 8 (take l.at l.octets) + 2 ^ (8 * l.at) * value 16 (take (length l.digits - 2 * l.at) l.digits) ≡ value 16 l.digits;
}

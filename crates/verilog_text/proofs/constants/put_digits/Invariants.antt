use Rattle.std.proofs.Common.{◌≡◌, ◌++◌, ◌-◌}
use Rattle.esi_base.specs.Bits.{number_of}
use Rattle.verilog_tokens.specs.Spelling.{hex_digits}
use Rattle.verilog_text.proofs.constants.put_digits.Given as goal

abbrev pub invariant-loop-turn : goal.invariant-loop-turn
invariant-loop-turn l = l.text ++ hex_digits (l.count - l.turn) (number_of l.word) ≡ l.initial.text ++ hex_digits l.count (number_of l.word)

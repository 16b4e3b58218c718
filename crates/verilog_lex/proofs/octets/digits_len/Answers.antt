use Rattle.std.proofs.lemmas.List.Sums.{prefix_len-le-length}
use Rattle.std.specs.Char.{is_ascii_digit}
use Rattle.verilog_lex.proofs.octets.digits_len.Goals as goal

pub returns-clause-within : goal.returns-clause-within
returns-clause-within c = rw c.count_digits.ensures (prefix_len-le-length is_ascii_digit c.args.text.now)

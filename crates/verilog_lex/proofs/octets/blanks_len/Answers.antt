use Rattle.std.proofs.lemmas.List.Sums.{prefix_len-le-length}
use Rattle.verilog_lex.specs.Octet.{is_blank}
use Rattle.verilog_lex.proofs.octets.blanks_len.Goals as goal

pub returns-clause-within : goal.returns-clause-within
returns-clause-within c = rw c.count_blanks.ensures (prefix_len-le-length is_blank c.args.text.now)

use Rattle.verilog_lex.specs.CutLaw.{front_is_run}
use Rattle.verilog_lex.specs.Octet.{is_hex_digit}
use Rattle.verilog_lex.proofs.cutting.cut_digits.Goals as goal

pub constant_token-requires : goal.constant_token-requires
constant_token-requires c = rw c.hex_len-count.ensures (front_is_run is_hex_digit c.args.text.now).all

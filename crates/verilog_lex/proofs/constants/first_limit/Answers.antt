use Rattle.std.proofs.Common.{arith, ◌+◌, ◌%◌}
use Rattle.std.proofs.lemmas.Nat.{one_shl}
use Rattle.verilog_lex.proofs.constants.first_limit.Goals as goal

pub returns : goal.returns
returns c = one_shl ((c.args.width + 3) % 4 + 1) 32 (omega arith)

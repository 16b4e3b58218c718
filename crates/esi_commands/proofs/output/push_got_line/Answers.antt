use Rattle.std.proofs.Common.{arith}
use Rattle.esi_commands.proofs.LineLemmas.{got_length}
use Rattle.esi_commands.proofs.output.push_got_line.Goals as goal

pub returns-clause-short : goal.returns-clause-short
returns-clause-short c = got_length c.args.transfer.now (omega arith) c.push_octets.ensures.few

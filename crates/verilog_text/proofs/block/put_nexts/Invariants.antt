use Rattle.std.proofs.Common.{◌≡◌, drop}
use Rattle.verilog_module.specs.Tokens.{from}
use Rattle.verilog_text.specs.Laying.{with_pieces}
use Rattle.verilog_text.specs.Layout.{next_pieces}
use Rattle.verilog_text.proofs.block.put_nexts.Given as goal

abbrev pub invariant-loop-n : goal.invariant-loop-n
invariant-loop-n l = with_pieces (from next_pieces l.n (drop l.n l.net.nexts)) l.text ≡ with_pieces (from next_pieces 0 l.net.nexts) l.initial.text

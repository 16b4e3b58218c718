use Rattle.std.proofs.Common.{◌≡◌, drop}
use Rattle.verilog_module.specs.Tokens.{from}
use Rattle.verilog_text.specs.Laying.{with_pieces}
use Rattle.verilog_text.specs.Layout.{ready_pieces}
use Rattle.verilog_text.proofs.nets.put_readies.Given as goal

abbrev pub invariant-loop-n : goal.invariant-loop-n
invariant-loop-n l = with_pieces (from ready_pieces l.n (drop l.n l.readies)) l.text ≡ with_pieces (from ready_pieces 0 l.readies) l.initial.text

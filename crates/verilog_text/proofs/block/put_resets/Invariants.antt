use Rattle.std.proofs.Common.{◌≡◌, drop, map}
use Rattle.verilog_module.specs.OfNetlist.{reset_from}
use Rattle.verilog_module.specs.Tokens.{from}
use Rattle.verilog_text.specs.Laying.{with_pieces}
use Rattle.verilog_text.specs.Layout.{reset_pieces}
use Rattle.verilog_text.proofs.block.put_resets.Given as goal

abbrev pub invariant-loop-n : goal.invariant-loop-n
invariant-loop-n l = with_pieces (from reset_pieces l.n (drop l.n (map reset_from l.nets))) l.text ≡ with_pieces (from reset_pieces 0 (map reset_from l.nets)) l.initial.text

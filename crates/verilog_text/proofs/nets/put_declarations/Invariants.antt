use Rattle.std.proofs.Common.{◌≡◌, drop}
use Rattle.verilog_module.specs.OfNetlist.{declarations}
use Rattle.verilog_module.specs.Tokens.{from}
use Rattle.verilog_text.specs.Laying.{with_pieces}
use Rattle.verilog_text.specs.Layout.{net_pieces}
use Rattle.verilog_text.proofs.nets.put_declarations.Given as goal

abbrev pub invariant-loop-n : goal.invariant-loop-n
invariant-loop-n l = with_pieces (from net_pieces l.n (drop l.n (declarations l.net.nets l.net.widths))) l.text ≡ with_pieces (from net_pieces 0 (declarations l.net.nets l.net.widths)) l.initial.text

use Rattle.std.proofs.Common.{◌≡◌, drop, map}
use Rattle.verilog_text.specs.Interfaces.{line_of}
use Rattle.verilog_module.specs.Tokens.{from}
use Rattle.verilog_text.specs.Laying.{with_pieces}
use Rattle.verilog_text.specs.Layout.{client_pieces}
use Rattle.verilog_text.proofs.endpoints.put_client_ports.Given as goal

abbrev pub invariant-loop-n : goal.invariant-loop-n
invariant-loop-n l = with_pieces (from client_pieces l.n (drop l.n (map line_of l.ends))) l.text ≡ with_pieces (from client_pieces 0 (map line_of l.ends)) l.initial.text

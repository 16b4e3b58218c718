use Rattle.std.proofs.Common.{◌≡◌, drop, map}
use Rattle.verilog_text.specs.Interfaces.{line_of}
use Rattle.verilog_module.specs.Tokens.{from}
use Rattle.verilog_text.specs.Laying.{with_pieces}
use Rattle.verilog_text.specs.Layout.{comment_pieces}
use Rattle.verilog_text.proofs.endpoints.put_side_comments.Given as goal

abbrev pub invariant-loop-n : goal.invariant-loop-n
invariant-loop-n l = with_pieces (from (comment_pieces l.side) l.n (drop l.n (map line_of l.ends))) l.text ≡ with_pieces (from (comment_pieces l.side) 0 (map line_of l.ends)) l.initial.text

use Rattle.std.proofs.Common.{◌≡◌, drop}
use Rattle.verilog_text.specs.Laying.{with_pieces}
use Rattle.verilog_text.proofs.putting.put.Given as goal

abbrev pub invariant-loop-piece : goal.invariant-loop-piece
invariant-loop-piece l = with_pieces (drop l.piece-index l.pieces) l.text ≡ with_pieces l.pieces l.initial.text

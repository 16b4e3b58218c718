use Rattle.verilog_text.specs.Laying.{with_pieces, put_more, put_done}
use Rattle.verilog_text.proofs.putting.put.Goals as goal

pub loop-piece-preserved : goal.loop-piece-preserved
loop-piece-preserved c =
    put_more c.args.pieces.now c.loop-piece.piece-index c.piece-item.result c.loop-piece.text c.put_piece.new.text (with_pieces c.args.pieces.now c.args.text.now)
    c.loop-piece-test.true c.piece-item.is c.in_ok-put_piece.ensures c.loop-piece.invariant

pub returns : goal.returns
returns c = put_done c.args.pieces.now c.loop-piece.piece-index c.loop-piece.text (with_pieces c.args.pieces.now c.args.text.now) c.loop-piece-test.false c.loop-piece.invariant

use Rattle.std.proofs.Common.{get_or, refl}
use Rattle.verilog_module.specs.Tokens.{from}
use Rattle.verilog_text.specs.Laying.{with_pieces, laid_more, laid_done}
use Rattle.verilog_text.specs.Layout.{ready_pieces}
use Rattle.verilog_text.proofs.nets.put_readies.Goals as goal

pub loop-n-preserved : goal.loop-n-preserved
loop-n-preserved c =
    laid_more ready_pieces c.args.readies.now c.loop-n.n 0 (get_or c.args.readies.now c.loop-n.n 0) c.loop-n.text c.put_ready.new.text (with_pieces (from ready_pieces 0 c.args.readies.now) c.args.text.now)
    c.loop-n-test.true refl c.in_ok-put_ready.ensures c.loop-n.invariant

pub returns : goal.returns
returns c = laid_done ready_pieces c.args.readies.now c.loop-n.n c.loop-n.text (with_pieces (from ready_pieces 0 c.args.readies.now) c.args.text.now) c.loop-n-test.false c.loop-n.invariant

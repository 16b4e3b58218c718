use Rattle.std.proofs.Common.{map}
use Rattle.verilog_module.specs.OfNetlist.{reset_from}
use Rattle.verilog_module.specs.Tokens.{from}
use Rattle.verilog_text.specs.Laying.{with_pieces, laid_mapped, mapped_done}
use Rattle.verilog_text.specs.Layout.{reset_pieces}
use Rattle.verilog_text.proofs.block.put_resets.Goals as goal

pub loop-n-preserved : goal.loop-n-preserved
loop-n-preserved c =
    laid_mapped reset_from reset_pieces c.args.nets.now c.loop-n.n c.index-nets-n.result c.loop-n.text c.put_reset.new.text (with_pieces (from reset_pieces 0 (map reset_from c.args.nets.now)) c.args.text.now)
    c.loop-n-test.true c.index-nets-n.is c.in_ok-put_reset.ensures c.loop-n.invariant

pub returns : goal.returns
returns c = mapped_done reset_from reset_pieces c.args.nets.now c.loop-n.n c.loop-n.text (with_pieces (from reset_pieces 0 (map reset_from c.args.nets.now)) c.args.text.now) c.loop-n-test.false c.loop-n.invariant

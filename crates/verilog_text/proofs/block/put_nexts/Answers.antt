use Rattle.std.proofs.Common.{ap, sym, length, arith, None}
use Rattle.verilog_module.specs.Tokens.{from}
use Rattle.verilog_text.specs.Laying.{with_pieces, laid_more, laid_done}
use Rattle.verilog_text.specs.Layout.{next_pieces}
use Rattle.verilog_text.proofs.block.put_nexts.Goals as goal

pub loop-n-preserved : goal.loop-n-preserved
loop-n-preserved c =
    laid_more next_pieces c.args.net.now.nexts c.loop-n.n None c.next_of-next.result c.loop-n.text c.put_next.new.text (with_pieces (from next_pieces 0 c.args.net.now.nexts) c.args.text.now)
    (omega (arith, c.loop-n-test.true, c.len-count.ensures, ap length c.nets.ensures.nets, c.nets.ensures.kept.plan_kept.next_count)) (sym c.next_of-next.ensures) c.in_ok-put_next.ensures c.loop-n.invariant

pub returns : goal.returns
returns c =
    laid_done next_pieces c.args.net.now.nexts c.loop-n.n c.loop-n.text (with_pieces (from next_pieces 0 c.args.net.now.nexts) c.args.text.now)
    (omega (arith, c.loop-n-test.false, c.len-count.ensures, ap length c.nets.ensures.nets, c.nets.ensures.kept.plan_kept.next_count)) c.loop-n.invariant

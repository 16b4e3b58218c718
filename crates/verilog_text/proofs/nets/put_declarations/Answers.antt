use Rattle.std.proofs.Common.{◌≡◌, ap, sym, length, arith, List}
use Rattle.verilog_module.specs.declared.module.Declared.{Declared}
use Rattle.verilog_module.specs.Modules.{no_net}
use Rattle.verilog_module.specs.OfNetlist.{declarations}
use Rattle.verilog_module.specs.Places.{length_declarations}
use Rattle.verilog_module.specs.Tokens.{from}
use Rattle.verilog_text.specs.Laying.{with_pieces, laid_more, laid_done}
use Rattle.verilog_text.specs.Layout.{net_pieces}
use Rattle.verilog_text.proofs.nets.put_declarations.Goals as goal

pub loop-n-preserved : goal.loop-n-preserved
loop-n-preserved c =
    let plan = c.args.net.now in
    let all : List Declared = declarations plan.nets plan.widths in
    let count : length all ≡ length plan.nets = length_declarations plan.nets plan.widths c.nets.ensures.kept.plan_kept.width_count in
    laid_more net_pieces all c.loop-n.n no_net c.declared_of-declared.result c.loop-n.text c.put_declaration.new.text (with_pieces (from net_pieces 0 all) c.args.text.now)
    (omega (arith, c.loop-n-test.true, c.len-count.ensures, ap length c.nets.ensures.nets, count)) (sym c.declared_of-declared.ensures.is) c.in_ok-put_declaration.ensures c.loop-n.invariant

pub returns : goal.returns
returns c =
    let plan = c.args.net.now in
    let all : List Declared = declarations plan.nets plan.widths in
    let count : length all ≡ length plan.nets = length_declarations plan.nets plan.widths c.nets.ensures.kept.plan_kept.width_count in
    laid_done net_pieces all c.loop-n.n c.loop-n.text (with_pieces (from net_pieces 0 all) c.args.text.now) (omega (arith, c.loop-n-test.false, c.len-count.ensures, ap length c.nets.ensures.nets, count)) c.loop-n.invariant

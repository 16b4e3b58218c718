use Rattle.std.proofs.Common.{◌+◌, ◌∙◌, ap, arith, drop}
use Rattle.verilog_module.specs.OfNetlist.{rights_from}
use Rattle.verilog_module.specs.Tokens.{from}
use Rattle.verilog_text.specs.Laying.{with_pieces, right_more, right_done}
use Rattle.verilog_text.specs.Layout.{assign_pieces}
use Rattle.verilog_text.proofs.nets.put_assigns.Goals as goal

pub loop-n-preserved : goal.loop-n-preserved
loop-n-preserved c =
    let servers = c.args.servers in
    let nets = c.args.nets.now in
    let n = c.loop-n.n in
    let net = c.index-nets-n.result in
    let next = c.put_assign.new.text in
    record {
      few = omega (arith, c.inputs_behind-inputs.ensures.most, c.loop-n.invariant.few);
      so_far =
          ap (λ k. with_pieces (from (assign_pieces servers) (n + 1) (rights_from k (drop (n + 1) nets))) next) c.inputs_behind-inputs.ensures.next
          ∙ right_more servers c.loop-n.inputs n nets net c.loop-n.text next (with_pieces (from (assign_pieces servers) 0 (rights_from 0 nets)) c.args.text.now) c.loop-n-test.true c.index-nets-n.is
          (c.in_ok-put_assign.ensures ∙ ap (λ r. with_pieces (assign_pieces servers n r) c.loop-n.text) c.right_of-right.ensures) c.loop-n.invariant.so_far;
    }

pub returns : goal.returns
returns c =
    right_done c.args.servers c.loop-n.inputs c.loop-n.n c.args.nets.now c.loop-n.text (with_pieces (from (assign_pieces c.args.servers) 0 (rights_from 0 c.args.nets.now)) c.args.text.now) c.loop-n-test.false
    c.loop-n.invariant.so_far

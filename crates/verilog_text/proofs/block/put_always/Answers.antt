use Rattle.std.proofs.Common.{◌++◌, ◌∙◌, ap, map, length, arith, List}
use Rattle.netlist.specs.declared.net.Net.{Net}
use Rattle.verilog_module.specs.OfNetlist.{reset_from}
use Rattle.verilog_module.specs.Tokens.{from}
use Rattle.verilog_text.specs.declared.piece.Piece.{Piece}
use Rattle.verilog_text.specs.Laying.{with_pieces, laid_two}
use Rattle.verilog_text.specs.Layout.{reset_pieces, next_pieces, block_opens, block_turns, block_ends}
use Rattle.verilog_text.proofs.block.put_always.Goals as goal

pub put_resets-requires : goal.put_resets-requires
put_resets-requires c = omega (arith, ap length c.as_slice.ensures, ap length c.nets.ensures.nets, c.nets.ensures.kept.plan_kept.limit)

pub returns : goal.returns
returns c =
    let plan = c.args.net.now in
    let resets : List Piece = from reset_pieces 0 (map reset_from plan.nets) in
    let nexts : List Piece = from next_pieces 0 plan.nexts in
    let t1 = c.put_block_start.new.text in
    let t2 = c.put_resets.new.text in
    let t3 = c.put_block_turn.new.text in
    let t4 = c.put_nexts.new.text in
    laid_two block_opens (resets ++ (block_turns ++ (nexts ++ block_ends))) c.args.text.now t1 _ c.in_ok-put_block_start.ensures
    (laid_two resets (block_turns ++ (nexts ++ block_ends)) t1 t2 _
    (c.in_ok-put_resets.ensures ∙ ap (λ (ns : List Net). with_pieces (from reset_pieces 0 (map reset_from ns)) t1) (c.as_slice.ensures ∙ c.nets.ensures.nets))
    (laid_two block_turns (nexts ++ block_ends) t2 t3 _ c.in_ok-put_block_turn.ensures
    (laid_two nexts block_ends t3 t4 _ c.in_ok-put_nexts.ensures c.in_ok-put_block_end.ensures)))

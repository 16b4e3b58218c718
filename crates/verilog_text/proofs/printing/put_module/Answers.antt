use Rattle.std.proofs.Common.{◌++◌, ◌∙◌, ap, sym, map, length, arith, List, ℕ}
use Rattle.std.proofs.lemmas.List.{length-map}
use Rattle.netlist.specs.declared.net.Net.{Net}
use Rattle.verilog_module.specs.OfNetlist.{declarations, rights_from, reset_from}
use Rattle.verilog_module.specs.Tokens.{from}
use Rattle.verilog_text.specs.declared.piece.Piece.{Piece}
use Rattle.verilog_text.specs.Interfaces.{line_of}
use Rattle.verilog_text.specs.Laying.{with_pieces, laid_two}
use Rattle.verilog_text.specs.Layout.{comment_lines, module_line, port_lines, net_pieces, assign_pieces, output_lines, block_lines, last_line}
use Rattle.verilog_text.proofs.printing.put_module.Goals as goal

pub put_assigns-requires-clause-few : goal.put_assigns-requires-clause-few
put_assigns-requires-clause-few c = omega (arith, ap length c.as_slice.ensures, ap length c.nets.ensures.nets, c.nets.ensures.kept.plan_kept.limit)

pub returns : goal.returns
returns c =
    let plan = c.args.net.now in
    let ends = c.args.directory.now in
    let servers = map line_of ends.to_server in
    let clients = map line_of ends.to_client in
    let p1 : List Piece = comment_lines servers clients in
    let p2 : List Piece = module_line c.args.title.now servers clients in
    let p3 : List Piece = port_lines servers clients in
    let p4 : List Piece = from net_pieces 0 (declarations plan.nets plan.widths) in
    let p5 : List Piece = from (assign_pieces (length servers)) 0 (rights_from 0 plan.nets) in
    let p6 : List Piece = output_lines c.args.readies.now c.args.offers.now in
    let p7 : List Piece = block_lines (declarations plan.nets plan.widths) (map reset_from plan.nets) plan.nexts in
    let t1 = c.put_comments.new.text in
    let t2 = c.put_module_line.new.text in
    let t3 = c.put_ports.new.text in
    let t4 = c.put_declarations.new.text in
    let t5 = c.put_assigns.new.text in
    let t6 = c.put_outputs.new.text in
    let t7 = c.put_block.new.text in
    laid_two p1 (p2 ++ (p3 ++ (p4 ++ (p5 ++ (p6 ++ (p7 ++ last_line)))))) c.args.text.now t1 _ c.in_ok-put_comments.ensures
    (laid_two p2 (p3 ++ (p4 ++ (p5 ++ (p6 ++ (p7 ++ last_line))))) t1 t2 _ c.in_ok-put_module_line.ensures
    (laid_two p3 (p4 ++ (p5 ++ (p6 ++ (p7 ++ last_line)))) t2 t3 _ c.in_ok-put_ports.ensures
    (laid_two p4 (p5 ++ (p6 ++ (p7 ++ last_line))) t3 t4 _ c.in_ok-put_declarations.ensures
    (laid_two p5 (p6 ++ (p7 ++ last_line)) t4 t5 _
    (c.in_ok-put_assigns.ensures
    ∙ ap (λ (ns : List Net). with_pieces (from (assign_pieces c.len-servers.result) 0 (rights_from 0 ns)) t4) (c.as_slice.ensures ∙ c.nets.ensures.nets)
    ∙ ap (λ (k : ℕ). with_pieces (from (assign_pieces k) 0 (rights_from 0 plan.nets)) t4) (c.len-servers.ensures ∙ sym (length-map ends.to_server line_of)))
    (laid_two p6 (p7 ++ last_line) t5 t6 _ c.in_ok-put_outputs.ensures
    (laid_two p7 last_line t6 t7 _ c.in_ok-put_block.ensures c.in_ok-put_last_line.ensures))))))

use Rattle.std.proofs.Common.{◌≡◌, ◌∙◌, ap, sym, subst, map, true, false, List}
use Rattle.std.specs.Prelude.{OnOk}
use Rattle.std.specs.List.{list_any}
use Rattle.netlist.specs.Nets.{is_register}
use Rattle.verilog_module.specs.OfNetlist.{reset_from}
use Rattle.verilog_text.specs.declared.piece.Piece.{Piece}
use Rattle.verilog_text.specs.Laying.{with_pieces, block_there, block_absent}
use Rattle.verilog_text.proofs.block.put_block.Goals as goal

pub returns-then-has_registers : goal.returns-then-has_registers
returns-then-has_registers c =
    let plan = c.args.net.now in
    let is : list_any is_register plan.nets ≡ true =
    sym (ap (list_any is_register) (c.as_slice.ensures ∙ c.nets.ensures.nets)) ∙ sym c.has_registers.ensures ∙ c.if-has_registers.true in
    subst (λ (ps : List Piece). OnOk c.put_always.result (c.put_always.new.text ≡ with_pieces ps c.args.text.now))
    (sym (block_there plan.nets plan.widths (map reset_from plan.nets) plan.nexts c.nets.ensures.kept.plan_kept.width_count is)) c.put_always.ensures

pub returns-else-has_registers : goal.returns-else-has_registers
returns-else-has_registers c =
    let plan = c.args.net.now in
    let is : list_any is_register plan.nets ≡ false =
    sym (ap (list_any is_register) (c.as_slice.ensures ∙ c.nets.ensures.nets)) ∙ sym c.has_registers.ensures ∙ c.if-has_registers.false in
    sym (ap (λ (ps : List Piece). with_pieces ps c.args.text.now) (block_absent plan.nets plan.widths (map reset_from plan.nets) plan.nexts c.nets.ensures.kept.plan_kept.width_count is))

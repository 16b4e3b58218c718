use Rattle.std.proofs.Common.{sym, ◌∙◌, ap}
use Rattle.std.proofs.lemmas.Option.{get_or_from_slice_get}
use Rattle.buffer_stage.specs.Passes.{laid_at}
use Rattle.channel_lower.specs.Lowering.{readies_at}
use Rattle.channel_lower.specs.Turned.{turned_back}
use Rattle.channel_lower.proofs.backward.push_backward.Goals as goal

pub returns-in-Ok-emit_backward-clause-pushed : goal.returns-in-Ok-emit_backward-clause-pushed
returns-in-Ok-emit_backward-clause-pushed c =
    turned_back c.args.lowering.now c.args.part.now c.args.element.now c.args.number c.emit_backward.new.netlist c.nowhere.result c.set-laid.result c.emit_backward.new.laid c.set-laid.new.self c.set-moved.new.self
    c.as_slice-3.result.now c.as_slice-in-Ok-emit_backward-2.result.now c.as_slice-in-Ok-emit_backward.result.now c.set_readies.new.readies
    (sym (get_or_from_slice_get c.args.lowering.now.row c.args.number c.set-laid.result (laid_at 0) c.set-laid.ensures.old_item))
    (c.as_slice-3.ensures ∙ c.in-Ok.ensures ∙ ap (λ rs. readies_at rs c.as_slice-2.result.now) c.as_slice.ensures ∙ ap (readies_at c.args.lowering.now.readies) c.as_slice-2.ensures)
    c.in-Ok-emit_backward.ensures.pushed c.in-Ok-emit_backward.ensures.laid c.set-laid.ensures.put c.set-moved.ensures.put
    (c.as_slice-in-Ok-emit_backward-2.ensures ∙ c.in-Ok-emit_backward.ensures.readies) c.as_slice-in-Ok-emit_backward.ensures c.set_readies.ensures

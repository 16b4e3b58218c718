use Rattle.std.proofs.Common.{◌≡◌, [], length, get_or, ◌∙◌, ap}
use Rattle.std.proofs.lemmas.List.{get_or_read}
use Rattle.std.proofs.lemmas.List.Elements.{All-get_or}
use Rattle.element_order.specs.Orders.{AllBelow}
use Rattle.element_order.specs.Worklists.{all_noted}
use Rattle.element_order.proofs.Notes.{noted_none, noted_more}
use Rattle.element_order.proofs.feeds.feeds_of.Goals as goal

pub loop-element-init : goal.loop-element-init
loop-element-init c = noted_none c.args.needs.now c.in_ok-feeds.feeds.items c.in_ok-feeds.ensures

pub loop-element-preserved : goal.loop-element-preserved
loop-element-preserved c =
    let item : c.as_slice.result.now ≡ get_or c.args.needs.now c.loop-element.element [] = c.as_slice.ensures ∙ get_or_read c.args.needs.now c.loop-element.element c.index-needs-element.result c.loop-element-test.true c.index-needs-element.is [] in
    noted_more c.args.needs.now c.loop-element.feeds.items c.note_all.new.feeds.items c.loop-element.element c.loop-element-test.true
    (All-get_or (AllBelow (length c.args.needs.now)) c.args.needs.now c.loop-element.element [] c.loop-element-test.true c.requires)
    (c.in_ok-note_all.ensures.noted ∙ ap (λ ds. all_noted c.loop-element.feeds.items ds c.loop-element.element) item)
    c.loop-element.invariant

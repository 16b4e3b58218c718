use Rattle.std.proofs.Common.{false, length, sym, ◌∙◌, subst, ap}
use Rattle.std.specs.Prelude.{All}
use Rattle.std.proofs.lemmas.List.{length-replicate}
use Rattle.element_order.specs.Orders.{AllBelow, ordered}
use Rattle.element_order.proofs.Reaching.{placed_below, feeds_below, clear_by_order}
use Rattle.element_order.proofs.cycle.cleared_by_order.Goals as goal

pub mark-requires : goal.mark-requires
mark-requires c =
    let count = ap length c.in_ok-cleared.ensures ∙ length-replicate (length c.args.needs.now) false in
    subst (λ n. AllBelow n c.as_slice.result.now) (sym count) (placed_below c.args.needs.now c.as_slice.result.now c.requires (c.as_slice.ensures ∙ c.in_ok-placed.ensures))

pub element_order-requires-2 : goal.element_order-requires-2
element_order-requires-2 c = subst (λ feeds. All (AllBelow (length feeds)) feeds) (sym c.as_slice-2.ensures.value) (feeds_below c.args.needs.now c.in_ok-feeds.feeds.items c.in_ok-feeds.ensures)

pub mark-requires-2 : goal.mark-requires-2
mark-requires-2 c =
    let feeds = c.in_ok-feeds.feeds.items in
    let count = c.mark.ensures.count ∙ ap length c.in_ok-cleared.ensures ∙ length-replicate (length c.args.needs.now) false ∙ sym c.in_ok-feeds.ensures.many in
    subst (λ n. AllBelow n c.as_slice-3.result.now) (sym count)
    (placed_below feeds c.as_slice-3.result.now (feeds_below c.args.needs.now feeds c.in_ok-feeds.ensures) (c.as_slice-3.ensures ∙ c.in_ok-placed-2.ensures ∙ ap ordered c.as_slice-2.ensures.value))

pub returns : goal.returns
returns c =
    let feeds = c.in_ok-feeds.feeds.items in
    let count = c.mark-2.ensures.count ∙ c.mark.ensures.count ∙ ap length c.in_ok-cleared.ensures ∙ length-replicate (length c.args.needs.now) false in
    clear_by_order c.args.needs.now feeds c.in_ok-cleared.cleared.items c.mark.new.marks.items c.mark-2.new.marks.items c.as_slice.result.now c.as_slice-3.result.now c.requires c.in_ok-feeds.ensures c.in_ok-cleared.ensures
    (c.as_slice.ensures ∙ c.in_ok-placed.ensures) (c.as_slice-3.ensures ∙ c.in_ok-placed-2.ensures ∙ ap ordered c.as_slice-2.ensures.value) c.mark.ensures.marks c.mark-2.ensures.marks count

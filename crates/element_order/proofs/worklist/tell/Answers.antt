use Rattle.std.proofs.Common.{◌+◌, drop, subst, sym, ◌∙◌, ap, get_or}
use Rattle.std.proofs.lemmas.List.{drop_more}
use Rattle.element_order.specs.Worklists.{AreDue, told_keys, all_told_waits, all_told_keys}
use Rattle.element_order.proofs.Placings.{due_more}
use Rattle.element_order.proofs.worklist.tell.Goals as goal

pub tell_one-requires : goal.tell_one-requires
tell_one-requires c =
    let left = drop_more c.args.fed.now c.loop-element.element-index 0 c.loop-element-test.true in
    let f = get_or c.args.fed.now c.loop-element.element-index 0 in
    (due_more f (drop (c.loop-element.element-index + 1) c.args.fed.now) c.loop-element.waits.items (subst (λ fs. AreDue fs c.loop-element.waits.items) left c.loop-element.invariant.due)).0

pub loop-element-preserved : goal.loop-element-preserved
loop-element-preserved c =
    let left = drop_more c.args.fed.now c.loop-element.element-index 0 c.loop-element-test.true in
    let f = get_or c.args.fed.now c.loop-element.element-index 0 in
    let rest = drop (c.loop-element.element-index + 1) c.args.fed.now in
    let waits = c.in_ok-tell_one.ensures.waits in
    let ready = c.in_ok-tell_one.ensures.ready in
    record {
      due = subst (λ ws. AreDue rest ws) (sym waits) (due_more f rest c.loop-element.waits.items (subst (λ fs. AreDue fs c.loop-element.waits.items) left c.loop-element.invariant.due)).1;
      waits = ap (λ ws. all_told_waits ws rest) waits ∙ ap (all_told_waits c.loop-element.waits.items) (sym left) ∙ c.loop-element.invariant.waits;
      ready = ap (λ ks. all_told_keys ks c.tell_one.new.waits.items rest) ready ∙ ap (λ ws. all_told_keys (told_keys c.loop-element.ready.keys c.loop-element.waits.items f) ws rest) waits
          ∙ ap (all_told_keys c.loop-element.ready.keys c.loop-element.waits.items) (sym left) ∙ c.loop-element.invariant.ready;
    }

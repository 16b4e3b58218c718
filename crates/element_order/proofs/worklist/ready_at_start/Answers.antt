use Rattle.std.proofs.Common.{◌∙◌, ap}
use Rattle.std.proofs.lemmas.List.{get_or_default}
use Rattle.element_order.proofs.Placings.{found_here, found_other}
use Rattle.element_order.proofs.worklist.ready_at_start.Goals as goal
use Rattle.element_order.proofs.worklist.ready_at_start.Goals.{then-count-eq0+in_ok-insert, else-count-eq0}

pub loop-element-preserved : goal.loop-element-preserved
loop-element-preserved c =
    elim c.if-count-eq0.branch [
      | then-count-eq0+in_ok-insert w ↦
          found_here c.loop-element.element c.args.waits.now c.loop-element.ready.keys c.if-count-eq0.ready.keys
          (get_or_default c.args.waits.now c.loop-element.element 1 0 c.loop-element-test.true ∙ w.if-count-eq0.true) (ap (λ s. s.keys) w.ready-is ∙ w.in_ok-insert.ensures.keys) c.loop-element.invariant
      | else-count-eq0 w ↦
          found_other c.loop-element.element c.args.waits.now c.loop-element.ready.keys c.if-count-eq0.ready.keys
          (λ none. w.if-count-eq0.false (get_or_default c.args.waits.now c.loop-element.element 0 1 c.loop-element-test.true ∙ none)) (ap (λ s. s.keys) w.ready-is) c.loop-element.invariant
    ]

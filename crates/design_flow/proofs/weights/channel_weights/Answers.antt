use Rattle.std.proofs.Common.{◌≡◌, ◌+◌, ◌-◌, length, get_or, arith, ap, sym, ◌∙◌}
use Rattle.std.specs.Prelude.{slice_get}
use Rattle.std.specs.Option.{option_copied}
use Rattle.element_laws.specs.Elements.{output_count}
use Rattle.element_load.specs.Load.{input_weight}
use Rattle.design_flow.specs.Elements.{element_at}
use Rattle.design_flow.specs.Weights.{capped, put_all}
use Rattle.design_flow.proofs.WeightSteps.{walk_starts, walk_within, walk_more}
use Rattle.design_flow.proofs.weights.channel_weights.Goals as goal

pub loop-at-init : goal.loop-at-init
loop-at-init c =
    walk_starts c.args.servers c.args.parts.now c.args.flat.now.elements c.args.clients.now c.len-channels.result (length c.as_slice-elements.result.now) c.in_ok-weights.weights c.put_each.new.weights
    (c.len-channels.ensures ∙ sym c.requires.counted) (ap length c.as_slice-elements.ensures) c.in_ok-weights.ensures c.put_each.ensures

pub overflow_sub-made : goal.overflow_sub-made
overflow_sub-made c =
    let there = walk_within c.args.servers c.args.parts.now c.args.flat.now.elements c.args.clients.now c.loop-at.made c.loop-at.at c.loop-at.weights c.index-elements-at.result c.loop-at.invariant c.loop-at-test.true
    (let long = ap length c.as_slice-elements.ensures in omega (arith, c.loop-at.auto.at)) (c.index-elements-at.is ∙ ap (λ xs. get_or xs (c.loop-at.at - 1) c.index-elements-at.result) c.as_slice-elements.ensures) in
    let outs : c.output_count-made.result ≡ output_count (element_at (slice_get c.args.parts.now c.index-elements-at.result.part)) = c.output_count-made.ensures ∙ ap (λ o. output_count (element_at o)) c.part_at-part.ensures in
    omega (arith, there.0)

pub input_weight-weight-requires : goal.input_weight-weight-requires
input_weight-weight-requires c =
    let there = walk_within c.args.servers c.args.parts.now c.args.flat.now.elements c.args.clients.now c.loop-at.made c.loop-at.at c.loop-at.weights c.index-elements-at.result c.loop-at.invariant c.loop-at-test.true
    (let long = ap length c.as_slice-elements.ensures in omega (arith, c.loop-at.auto.at)) (c.index-elements-at.is ∙ ap (λ xs. get_or xs (c.loop-at.at - 1) c.index-elements-at.result) c.as_slice-elements.ensures) in
    let outs : c.output_count-made.result ≡ output_count (element_at (option_copied c.part_at-part.result)) = c.output_count-made.ensures in
    let same : output_count (element_at (option_copied c.part_at-part.result)) ≡ output_count (element_at (slice_get c.args.parts.now c.index-elements-at.result.part)) = ap (λ o. output_count (element_at o)) c.part_at-part.ensures in
    let long = ap length c.as_slice.ensures in
    omega (arith, there.0, there.1)

pub loop-at-preserved : goal.loop-at-preserved
loop-at-preserved c =
    let outs : c.output_count-made.result ≡ output_count (element_at (slice_get c.args.parts.now c.index-elements-at.result.part)) = c.output_count-made.ensures ∙ ap (λ o. output_count (element_at o)) c.part_at-part.ensures in
    walk_more c.args.servers c.args.parts.now c.args.flat.now.elements c.args.clients.now c.loop-at.made (c.loop-at.made - c.output_count-made.result) c.loop-at.at c.input_weight-weight.result c.loop-at.weights
    c.put_each-in-loop-at.new.weights c.index-elements-at.result c.loop-at.invariant c.loop-at-test.true (let long = ap length c.as_slice-elements.ensures in omega (arith, c.loop-at.auto.at))
    (c.index-elements-at.is ∙ ap (λ xs. get_or xs (c.loop-at.at - 1) c.index-elements-at.result) c.as_slice-elements.ensures) (ap (λ n. c.loop-at.made - n) outs)
    (c.input_weight-weight.ensures
    ∙ ap (λ o. capped (input_weight (element_at o) (λ k. get_or c.as_slice.result.now (c.loop-at.made - c.output_count-made.result + k) 0))) c.part_at-part.ensures
    ∙ ap (λ ws. capped (input_weight (element_at (slice_get c.args.parts.now c.index-elements-at.result.part)) (λ k. get_or ws (c.loop-at.made - c.output_count-made.result + k) 0))) c.as_slice.ensures)
    (c.put_each-in-loop-at.ensures ∙ ap (λ ps. put_all c.loop-at.weights ps c.input_weight-weight.result) c.as_slice-in-loop-at.ensures)

use Rattle.std.proofs.Common.{◌≡◌, ◌<◌, ◌+◌, length, arith, subst, sym, ap, ◌∙◌}
use Rattle.std.specs.Prelude.{if◌then◌else◌}
use Rattle.netlist.specs.Nets.{is_input}
use Rattle.netlist.specs.Plans.{Plan, net_at}
use Rattle.netlist_checks.proofs.checked.are_inputs.Goals as goal
use Rattle.std.proofs.lemmas.Bool.{eqb-true}
use Rattle.netlist.specs.InputPlaces.{input_place_next}
use Rattle.netlist_checks.proofs.InputWords.{inputs_from, wide_next}

pub loop-at-preserved : goal.loop-at-preserved
loop-at-preserved c =
    let plan : Plan = c.args.net.now in
    let at = c.loop-at.at in
    let lt : at < length plan.nets = subst (λ k. at < k) (c.len-at-end.ensures ∙ ap length c.nets.ensures.nets) c.loop-at-test.true in
    record {
      given = c.in-Some.ensures.count ∙ ap (λ g. if is_input (net_at plan.nets at) then g + 1 else g) c.loop-at.invariant.given ∙ sym (input_place_next plan.nets at lt);
      small = c.in-Some.ensures.small;
      wide = wide_next plan c.args.inputs.now at c.loop-at.given c.loop-at.invariant.given c.in-Some.ensures.wide c.loop-at.invariant.wide;
    }

pub returns : goal.returns
returns c = λ same.
    let plan : Plan = c.args.net.now in
    let count : c.len-at-end.result ≡ length plan.nets = c.len-at-end.ensures ∙ ap length c.nets.ensures.nets in
    let end : c.loop-at.at ≡ length plan.nets = omega arith in
    inputs_from plan c.args.inputs.now c.loop-at.given c.loop-at.at c.nets.ensures.kept.plan_kept end c.loop-at.invariant.given (eqb-true c.loop-at.given (length c.args.inputs.now) same) c.loop-at.invariant.wide

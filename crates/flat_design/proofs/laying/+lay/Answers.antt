use Rattle.std.proofs.Common.{◌≡◌, ℕ, ◌-◌, List, Some, ◌∙◌, ap, arith}
use Rattle.std.specs.Prelude.{slice_get}
use Rattle.std.proofs.lemmas.Grind.{common_steps}
use Rattle.std.proofs.lemmas.Option.{gets}
use Rattle.std.proofs.lemmas.Result.{IfOk-weaker}
use Rattle.flat_design.specs.declared.element.Flat.{Flat}
use Rattle.flat_design.specs.Laying.{steps_laid, laid}
use Rattle.flat_design.proofs.Laid.{laid_some, handed_out}
use Rattle.flat_design.proofs.laying.+lay.Goals as goal

pub lay-returns : goal.lay-returns
lay-returns t c =
    let found : slice_get c.args.plans.now c.args.body ≡ Some c.in-Some.plan.now = grind (arith, common_steps, gets) in
    let laid_is = laid_some c.args.plans.now c.args.levels (c.args.levels - 1) c.args.body c.args.given c.args.flat.now c.in-Some.plan.now (let some = c.if-levels-eq0.false in omega arith) found in
    let steps : ◌≡◌ {A = List ℕ × Flat} (c.in_ok-made.made, c.lay_steps.new.flat) (steps_laid (laid c.args.plans.now (c.args.levels - 1)) c.in-Some.plan.now.steps c.args.given c.args.flat.now)
    = c.in_ok-made.ensures ∙ ap (λ xs. steps_laid (laid c.args.plans.now (c.args.levels - 1)) xs c.args.given c.args.flat.now) c.as_slice.ensures in
    IfOk-weaker c.choose.result _ _
    (λ outs e. handed_out c.args.plans.now c.args.levels c.args.body c.args.given c.args.flat.now c.lay_steps.new.flat c.in-Some.plan.now _ c.in_ok-made.made c.as_slice-2.result.now c.as_slice-3.result.now outs
    laid_is steps c.as_slice-2.ensures c.as_slice-3.ensures e) c.choose.ensures

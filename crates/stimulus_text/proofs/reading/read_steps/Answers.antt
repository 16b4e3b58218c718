use Rattle.std.proofs.Common.{◌≡◌, ◌+◌, ◌<◌, ◌≤◌, ◌++◌, ◌∷◌, [], arith}
use Rattle.std.proofs.lemmas.Grind.{common_steps}
use Rattle.std.proofs.lemmas.Result.{err_from_is_err_and}
use Rattle.stimulus_text.specs.declared.limits.TheConstants.{STIMULUS_CYCLES, STIMULUS_LINES}
use Rattle.stimulus_text.specs.Stimulus.{cycles_of}
use Rattle.stimulus_text.proofs.StepLemmas.{reads_stop, steps_more, steps_end, step_bounds}
use Rattle.stimulus_text.proofs.reading.read_steps.Goals as goal

pub returns-in_err-step : goal.returns-in_err-step
returns-in_err-step c =
    let p = err_from_is_err_and c.from_residual.result c.from_residual.ensures.1 in
    rw (p.1, p.2) (reads_stop c.loop-line.steps _ _ c.in-Some.line c.loop-line.lines c.next_line.new.self c.in_err-step.field-0.0 _ c.in-Some.ensures.next c.in_err-step.ensures c.loop-line.invariant.0)

pub loop-line-preserved : goal.loop-line-preserved
loop-line-preserved c =
    let pushed : c.add.new.self ≡ c.loop-line.steps ++ c.in_ok-step.step ∷ [] = grind (arith, common_steps) in
    let run : c.from-cycles.result ≡ cycles_of c.in_ok-step.step = grind (arith, common_steps) in
    let fits : (c.loop-line.count < STIMULUS_LINES) × (c.loop-line.cycles + cycles_of c.in_ok-step.step ≤ STIMULUS_CYCLES) = step_bounds _ _ c.in-Some.line _ c.loop-line.invariant.2 c.in_ok-step.ensures in
    (rw (pushed, run) (steps_more c.loop-line.steps _ _ c.in-Some.line c.loop-line.lines c.next_line.new.self c.in_ok-step.step _ c.in-Some.ensures.next c.in_ok-step.ensures c.loop-line.invariant.0), omega arith, omega (arith, run))

pub returns : goal.returns
returns c = steps_end c.loop-line.steps c.loop-line.count c.loop-line.cycles c.loop-line.lines _ c.in_default.ensures.next c.loop-line.invariant.0

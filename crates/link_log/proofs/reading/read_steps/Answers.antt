use Rattle.std.proofs.Common.{◌≡◌, ◌++◌, ◌∷◌, [], sym, arith}
use Rattle.std.proofs.lemmas.Grind.{common_steps}
use Rattle.std.proofs.lemmas.Result.{err_from_is_err_and}
use Rattle.line_rules.specs.RuleLaws.{next_line, last_line, stopped_line}
use Rattle.link_log.specs.LogLines.{after_step, log_rules}
use Rattle.link_log.proofs.LineJudged.{line_judged, line_stopped, after_more}
use Rattle.link_log.proofs.reading.read_steps.Goals as goal

pub returns-in_err-step : goal.returns-in_err-step
returns-in_err-step c =
    let p = err_from_is_err_and c.from_residual.result c.from_residual.ensures.1 in
    rw (p.1, p.2) (stopped_line log_rules c.loop-line.steps c.in-Some.line c.loop-line.lines c.next_line.new.self c.in_err-step.field-0.0 _ c.in-Some.ensures.next (line_stopped c.loop-line.steps c.loop-line.conns c.len.result c.in-Some.line c.in_err-step.field-0.0 c.loop-line.invariant.1 c.len.ensures c.in_err-step.ensures) c.loop-line.invariant.0)

pub loop-line-preserved : goal.loop-line-preserved
loop-line-preserved c =
    let pushed : c.add.new.self ≡ c.loop-line.steps ++ c.in_ok-step.step ∷ [] = grind (arith, common_steps) in
    let noted : c.note_step.new.conns ≡ after_step c.loop-line.conns c.in_ok-step.step = grind (arith, common_steps) in (
      rw pushed (next_line log_rules c.loop-line.steps c.in-Some.line c.loop-line.lines c.next_line.new.self c.in_ok-step.step _ c.in-Some.ensures.next (line_judged c.loop-line.steps c.loop-line.conns c.len.result c.in-Some.line c.in_ok-step.step c.loop-line.invariant.1 c.len.ensures c.in_ok-step.ensures) c.loop-line.invariant.0),
      rw (pushed, noted, c.loop-line.invariant.1) (sym (after_more [] c.loop-line.steps c.in_ok-step.step)),
    )

pub returns : goal.returns
returns c = last_line log_rules c.loop-line.steps c.loop-line.lines _ c.in_default.ensures.next c.loop-line.invariant.0

use Rattle.std.proofs.Common.{sym, ◌∙◌, arith}
use Rattle.std.proofs.lemmas.Bool.Decides.{nat_tests}
use Rattle.small_text.proofs.Cutting.{numbered_line, numbered_skipped, numbered_none}
use Rattle.small_text.proofs.text.Lines.next_line.Goals as goal

pub returns-in-Some-clause-next : goal.returns-in-Some-clause-next
returns-in-Some-clause-next c =
    sym c.loop-rest.invariant.0 ∙ numbered_line c.loop-rest.number c.loop-rest.rest.now c.cut_line.result.0.now c.cut_line.result.1.now c.in-Some.line c.cut_line.ensures.cut c.in-Some.ensures

pub loop-rest-preserved : goal.loop-rest-preserved
loop-rest-preserved c =
    (sym (numbered_skipped c.loop-rest.number c.loop-rest.rest.now c.cut_line.result.0.now c.cut_line.result.1.now c.cut_line.ensures.cut c.in-None.ensures) ∙ c.loop-rest.invariant.0, omega arith)

pub returns-clause-next : goal.returns-clause-next
returns-clause-next c =
    sym c.loop-rest.invariant.0 ∙ numbered_none c.loop-rest.number c.loop-rest.rest.now (grind (arith, nat_tests))

pub returns-clause-ended : goal.returns-clause-ended
returns-clause-ended c = numbered_none c.loop-rest.number c.loop-rest.rest.now (grind (arith, nat_tests))

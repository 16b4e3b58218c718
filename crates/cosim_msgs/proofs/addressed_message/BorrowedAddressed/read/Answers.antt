use Rattle.std.proofs.Common.{sym}
use Rattle.std.proofs.lemmas.Result.{err_from_is_err_and}
use Rattle.cosim_msgs.specs.Messages.{empty_addressed}
use Rattle.cosim_msgs.specs.Views.{addressed_view}
use Rattle.cosim_msgs.specs.Steps.{addressed_step}
use Rattle.cosim_msgs.specs.Reading.{run}
use Rattle.cosim_msgs.proofs.Loops.{ends, breaks_off, is_refused, goes_on}
use Rattle.cosim_msgs.proofs.addressed_message.BorrowedAddressed.read.Goals as goal

pub returns-in_err-field : goal.returns-in_err-field
returns-in_err-field c =
    let p = err_from_is_err_and c.from_residual.result c.from_residual.ensures.1 in
    rw (p.1, p.2) (breaks_off (addressed_step c.args.octets.now) (addressed_view c.loop-field.addressed) c.args.octets.now c.loop-field.at (run (addressed_step c.args.octets.now) empty_addressed c.args.octets.now 0) c.loop-field.invariant.within c.loop-field.invariant.so_far c.in_err-field.field-0.0 c.in_err-field.ensures.exact)

pub returns-in_err-addressed : goal.returns-in_err-addressed
returns-in_err-addressed c =
    let p = err_from_is_err_and c.from_residual-in_err-addressed.result c.from_residual-in_err-addressed.ensures.1 in
    rw (p.1, p.2) (is_refused (addressed_step c.args.octets.now) (addressed_view c.loop-field.addressed) c.args.octets.now c.loop-field.at (run (addressed_step c.args.octets.now) empty_addressed c.args.octets.now 0) c.loop-field.invariant.within c.loop-field.invariant.so_far c.in-Some.field c.in_err-addressed.field-0.0 (rw (sym c.in-Some.is) c.in_ok-field.ensures.exact) c.in_err-addressed.ensures)

pub loop-field-preserved : goal.loop-field-preserved
loop-field-preserved c = record {
  within = (rw c.in-Some.is at c.in_ok-field.ensures.onwards).1;
  so_far = goes_on (addressed_step c.args.octets.now) (addressed_view c.loop-field.addressed) c.args.octets.now c.loop-field.at (run (addressed_step c.args.octets.now) empty_addressed c.args.octets.now 0) c.loop-field.invariant.within c.loop-field.invariant.so_far c.in-Some.field (addressed_view c.in_ok-addressed.addressed) (rw (sym c.in-Some.is) c.in_ok-field.ensures.exact) c.in_ok-addressed.ensures;
}

pub returns : goal.returns
returns c =
    ends (addressed_step c.args.octets.now) (addressed_view c.loop-field.addressed) c.args.octets.now c.loop-field.at (run (addressed_step c.args.octets.now) empty_addressed c.args.octets.now 0) c.loop-field.invariant.within c.loop-field.invariant.so_far (rw (sym c.in_default.is) c.in_ok-field.ensures.exact)

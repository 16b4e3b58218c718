use Rattle.std.proofs.Common.{sym, refl}
use Rattle.std.proofs.lemmas.Result.{err_from_is_err_and}
use Rattle.cosim_msgs.specs.Messages.{void_message}
use Rattle.cosim_msgs.specs.Steps.{void_step}
use Rattle.cosim_msgs.specs.Reading.{run}
use Rattle.cosim_msgs.proofs.Loops.{ends, breaks_off, goes_on}
use Rattle.cosim_msgs.proofs.void_message.VoidMessage.read.Goals as goal

pub returns-in_err-field : goal.returns-in_err-field
returns-in_err-field c =
    let p = err_from_is_err_and c.from_residual.result c.from_residual.ensures.1 in
    rw (p.1, p.2) (breaks_off void_step void_message c.args.octets.now c.loop-field.at (run void_step void_message c.args.octets.now 0) c.loop-field.invariant.within c.loop-field.invariant.so_far c.in_err-field.field-0.0 c.in_err-field.ensures.exact)

pub loop-field-preserved : goal.loop-field-preserved
loop-field-preserved c = record {
  within = (rw c.in-Some.is at c.in_ok-field.ensures.onwards).1;
  so_far = goes_on void_step void_message c.args.octets.now c.loop-field.at (run void_step void_message c.args.octets.now 0) c.loop-field.invariant.within c.loop-field.invariant.so_far c.in-Some.field void_message (rw (sym c.in-Some.is) c.in_ok-field.ensures.exact) refl;
}

pub returns : goal.returns
returns c =
    ends void_step void_message c.args.octets.now c.loop-field.at (run void_step void_message c.args.octets.now 0) c.loop-field.invariant.within c.loop-field.invariant.so_far (rw (sym c.in_default.is) c.in_ok-field.ensures.exact)

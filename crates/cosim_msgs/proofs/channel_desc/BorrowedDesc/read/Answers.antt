use Rattle.std.proofs.Common.{sym}
use Rattle.std.proofs.lemmas.Result.{err_from_is_err_and}
use Rattle.cosim_msgs.specs.Messages.{empty_desc}
use Rattle.cosim_msgs.specs.Reading.{run}
use Rattle.cosim_msgs.specs.Views.{desc_view}
use Rattle.cosim_msgs.specs.Steps.{desc_step}
use Rattle.cosim_msgs.proofs.Loops.{ends, breaks_off, is_refused, goes_on}
use Rattle.cosim_msgs.proofs.channel_desc.BorrowedDesc.read.Goals as goal

pub returns-in_err-field : goal.returns-in_err-field
returns-in_err-field c =
    let p = err_from_is_err_and c.from_residual.result c.from_residual.ensures.1 in
    rw (p.1, p.2) (breaks_off (desc_step c.args.octets.now) (desc_view c.loop-field.desc) c.args.octets.now c.loop-field.at (run (desc_step c.args.octets.now) empty_desc c.args.octets.now c.args.from) c.loop-field.invariant.within c.loop-field.invariant.so_far c.in_err-field.field-0.0 c.in_err-field.ensures.exact)

pub returns-in_err-desc : goal.returns-in_err-desc
returns-in_err-desc c =
    let p = err_from_is_err_and c.from_residual-in_err-desc.result c.from_residual-in_err-desc.ensures.1 in
    rw (p.1, p.2) (is_refused (desc_step c.args.octets.now) (desc_view c.loop-field.desc) c.args.octets.now c.loop-field.at (run (desc_step c.args.octets.now) empty_desc c.args.octets.now c.args.from) c.loop-field.invariant.within c.loop-field.invariant.so_far c.in-Some.field c.in_err-desc.field-0.0 (rw (sym c.in-Some.is) c.in_ok-field.ensures.exact) c.in_err-desc.ensures)

pub loop-field-preserved : goal.loop-field-preserved
loop-field-preserved c = record {
  within = (rw c.in-Some.is at c.in_ok-field.ensures.onwards).1;
  so_far = goes_on (desc_step c.args.octets.now) (desc_view c.loop-field.desc) c.args.octets.now c.loop-field.at (run (desc_step c.args.octets.now) empty_desc c.args.octets.now c.args.from) c.loop-field.invariant.within c.loop-field.invariant.so_far c.in-Some.field (desc_view c.in_ok-desc.desc) (rw (sym c.in-Some.is) c.in_ok-field.ensures.exact) c.in_ok-desc.ensures;
}

pub returns : goal.returns
returns c =
    ends (desc_step c.args.octets.now) (desc_view c.loop-field.desc) c.args.octets.now c.loop-field.at (run (desc_step c.args.octets.now) empty_desc c.args.octets.now c.args.from) c.loop-field.invariant.within c.loop-field.invariant.so_far (rw (sym c.in_default.is) c.in_ok-field.ensures.exact)

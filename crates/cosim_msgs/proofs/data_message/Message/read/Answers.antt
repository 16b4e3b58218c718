use Rattle.std.proofs.Common.{◌≡◌, ℕ, List, Ok, sym, refl}
use Rattle.std.proofs.lemmas.Result.{err_from_is_err_and}
use Rattle.cosim_msgs.specs.Views.{message_of}
use Rattle.cosim_msgs.specs.Steps.{octets_or, message_step}
use Rattle.cosim_msgs.specs.Values.{octets_as}
use Rattle.proto_wire.specs.declared.field.WireField.{WireField}
use Rattle.cosim_msgs.specs.Reading.{run}
use Rattle.cosim_msgs.proofs.Loops.{ends, breaks_off, goes_on}
use Rattle.cosim_msgs.proofs.data_message.Message.read.Goals as goal

-- the octets that a field gives are the message's
given : (octets before after : List ℕ) (at : ℕ) (field : WireField) → after ≡ octets_or before (octets_as octets 1 field) → message_step octets (message_of before) (record { at = at; field = field }) ≡ Ok (message_of after)
given octets before after at field e = rw e refl

pub returns-in_err-field : goal.returns-in_err-field
returns-in_err-field c =
    let p = err_from_is_err_and c.from_residual.result c.from_residual.ensures.1 in
    rw (p.1, p.2) (breaks_off (message_step c.args.octets.now) (message_of c.loop-field.data.now) c.args.octets.now c.loop-field.at (run (message_step c.args.octets.now) (message_of c.args.before.now) c.args.octets.now c.args.from) c.loop-field.invariant.within c.loop-field.invariant.so_far c.in_err-field.field-0.0 c.in_err-field.ensures.exact)

pub loop-field-preserved : goal.loop-field-preserved
loop-field-preserved c = record {
  within = (rw c.in-Some.is at c.in_ok-field.ensures.onwards).1;
  so_far = goes_on (message_step c.args.octets.now) (message_of c.loop-field.data.now) c.args.octets.now c.loop-field.at (run (message_step c.args.octets.now) (message_of c.args.before.now) c.args.octets.now c.args.from) c.loop-field.invariant.within c.loop-field.invariant.so_far c.in-Some.field (message_of c.octets_or-data.result.now) (rw (sym c.in-Some.is) c.in_ok-field.ensures.exact) (given c.args.octets.now c.loop-field.data.now c.octets_or-data.result.now c.loop-field.at c.in-Some.field c.octets_or-data.ensures);
}

pub returns : goal.returns
returns c =
    ends (message_step c.args.octets.now) (message_of c.loop-field.data.now) c.args.octets.now c.loop-field.at (run (message_step c.args.octets.now) (message_of c.args.before.now) c.args.octets.now c.args.from) c.loop-field.invariant.within c.loop-field.invariant.so_far (rw (sym c.in_default.is) c.in_ok-field.ensures.exact)

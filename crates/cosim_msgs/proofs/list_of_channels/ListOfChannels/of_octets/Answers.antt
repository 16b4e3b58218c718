use Rattle.std.proofs.Common.{◌≡◌, ℕ, List, Result, Ok, Err, sym, refl}
use Rattle.std.specs.Prelude.{Some, ◌≤◌, length}
use Rattle.std.proofs.lemmas.Result.{err_from_is_err_and}
use Rattle.proto_wire.specs.declared.field.WireField.{WireField}
use Rattle.proto_wire.specs.declared.field.WireRefusal.{WireRefusal}
use Rattle.proto_wire.specs.FieldReading.{field_at}
use Rattle.cosim_msgs.specs.declared.channel_desc.ChannelDesc.{ChannelDesc}
use Rattle.cosim_msgs.specs.declared.list_of_channels.ListOfChannels.{ListOfChannels}
use Rattle.esi_base.specs.declared.stop.Stop.{Stop}
use Rattle.esi_base.specs.declared.stop.Stop.TheVariants.{Refused, NoMemory}
use Rattle.esi_base.specs.Answers.{StopsAs}
use Rattle.cosim_msgs.specs.declared.list_of_channels.TheConstants.{CHANNELS}
use Rattle.cosim_msgs.specs.Messages.{empty_list, list_of}
use Rattle.cosim_msgs.specs.Reading.{run}
use Rattle.cosim_msgs.specs.Steps.{channels_with, list_step}
use Rattle.cosim_msgs.specs.Values.{span_as}
use Rattle.cosim_msgs.proofs.Loops.{ends, breaks_off, is_refused, goes_on}
use Rattle.cosim_msgs.proofs.list_of_channels.ListOfChannels.of_octets.Goals as goal

-- a channel that is list_takes, or list_refuses, is list_takes or list_refuses by the list
list_takes : (octets : List ℕ) (before next : List ChannelDesc) (at : ℕ) (field : WireField) → channels_with octets before (span_as CHANNELS field) ≡ Ok next → list_step octets (list_of before) (record { at = at; field = field }) ≡ Ok (list_of next)
unfolding list_step
list_takes octets before next at field e = rw e refl

list_refuses : (octets : List ℕ) (before : List ChannelDesc) (at : ℕ) (field : WireField) (refusal : WireRefusal) → channels_with octets before (span_as CHANNELS field) ≡ Err refusal → list_step octets (list_of before) (record { at = at; field = field }) ≡ Err refusal
unfolding list_step
list_refuses octets before at field refusal e = rw e refl

list_stops : (octets : List ℕ) (before : List ChannelDesc) (at : ℕ) (whole : Result ListOfChannels WireRefusal) (field : WireField) (stop : Stop WireRefusal) → at ≤ length octets
    → run (list_step octets) (list_of before) octets at ≡ whole → Ok (Some field) ≡ field_at octets at → StopsAs (channels_with octets before (span_as CHANNELS field)) stop → StopsAs whole stop
list_stops octets before at whole field (Refused refusal) within so_far read e = is_refused (list_step octets) (list_of before) octets at whole within so_far field refusal read (list_refuses octets before at field refusal e)
list_stops octets before at whole field NoMemory within so_far read e = tt

ends_at : (octets : List ℕ) (before : List ChannelDesc) (at : ℕ) (whole : Result ListOfChannels WireRefusal) (stop : Stop WireRefusal) → at ≤ length octets
    → run (list_step octets) (list_of before) octets at ≡ whole → StopsAs (field_at octets at) stop → StopsAs whole stop
ends_at octets before at whole (Refused refusal) within so_far e = breaks_off (list_step octets) (list_of before) octets at whole within so_far refusal (sym e)
ends_at octets before at whole NoMemory within so_far e = tt

pub returns-in_err-field : goal.returns-in_err-field
returns-in_err-field c =
    let p = err_from_is_err_and c.from_residual.result c.from_residual.ensures.1 in
    rw (p.1, p.2) (ends_at c.args.octets.now c.loop-channels.channels c.loop-channels.at (run (list_step c.args.octets.now) empty_list c.args.octets.now 0) c.in_err-field.field-0.0 c.loop-channels.invariant.within c.loop-channels.invariant.so_far c.in_err-field.ensures.exact)

pub returns-in_err-push_channel : goal.returns-in_err-push_channel
returns-in_err-push_channel c =
    let p = err_from_is_err_and c.from_residual-in_err-push_channel.result c.from_residual-in_err-push_channel.ensures.1 in
    rw (p.1, p.2) (list_stops c.args.octets.now c.loop-channels.channels c.loop-channels.at (run (list_step c.args.octets.now) empty_list c.args.octets.now 0) c.in-Some.field c.in_err-push_channel.field-0.0 c.loop-channels.invariant.within c.loop-channels.invariant.so_far (sym (rw (sym c.in-Some.is) c.in_ok-field.ensures.exact)) c.in_err-push_channel.ensures)

pub loop-channels-preserved : goal.loop-channels-preserved
loop-channels-preserved c = record {
  within = (rw c.in-Some.is at c.in_ok-field.ensures.onwards).1;
  so_far = goes_on (list_step c.args.octets.now) (list_of c.loop-channels.channels) c.args.octets.now c.loop-channels.at (run (list_step c.args.octets.now) empty_list c.args.octets.now 0) c.loop-channels.invariant.within c.loop-channels.invariant.so_far c.in-Some.field (list_of c.push_channel.new.channels) (sym (rw (sym c.in-Some.is) c.in_ok-field.ensures.exact)) (list_takes c.args.octets.now c.loop-channels.channels c.push_channel.new.channels c.loop-channels.at c.in-Some.field c.in_ok-push_channel.ensures);
}

pub returns : goal.returns
returns c =
    ends (list_step c.args.octets.now) (list_of c.loop-channels.channels) c.args.octets.now c.loop-channels.at (run (list_step c.args.octets.now) empty_list c.args.octets.now 0) c.loop-channels.invariant.within c.loop-channels.invariant.so_far (sym (rw (sym c.in_default.is) c.in_ok-field.ensures.exact))

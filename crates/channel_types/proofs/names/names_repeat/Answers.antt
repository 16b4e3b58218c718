use Rattle.std.proofs.Common.{◌≡◌, ◌+◌, map, take, subst, sym, ◌∙◌}
use Rattle.std.specs.Prelude.{true}
use Rattle.std.proofs.lemmas.List.{take_all}
use Rattle.channel_types.specs.Types.{name_of, has_repeat}
use Rattle.channel_types.proofs.Repeats.{AreKeysOf-nil, AreKeysOf-push, repeat_found, names-more, repeat_taken}
use Rattle.channel_types.proofs.names.names_repeat.Goals as goal

pub loop-field-init : goal.loop-field-init
loop-field-init c = AreKeysOf-nil c.new-names.result.keys c.new-names.ensures.empty

pub returns-then-not-is_new : goal.returns-then-not-is_new
returns-then-not-is_new c =
    let next = names-more c.args.fields.now c.loop-field.field-index c.field-item.result c.as_slice.result.now c.loop-field-test.true c.field-item.is c.as_slice.ensures in
    let again = repeat_found c.loop-field.names.keys c.as_slice.result (map name_of (take c.loop-field.field-index c.args.fields.now)) c.loop-field.invariant
    (sym c.if-not-is_new.true ∙ c.in_ok-is_new.ensures.added) in
    sym (repeat_taken c.args.fields.now (c.loop-field.field-index + 1) (subst (λ names. has_repeat names ≡ true) (sym next) again))

pub loop-field-preserved : goal.loop-field-preserved
loop-field-preserved c =
    let next = names-more c.args.fields.now c.loop-field.field-index c.field-item.result c.as_slice.result.now c.loop-field-test.true c.field-item.is c.as_slice.ensures in
    rw next (AreKeysOf-push c.loop-field.names.keys c.insert.new.self.keys c.as_slice.result (map name_of (take c.loop-field.field-index c.args.fields.now)) c.loop-field.invariant
    (sym c.if-not-is_new.false ∙ c.in_ok-is_new.ensures.added) c.in_ok-is_new.ensures.keys)

pub returns : goal.returns
returns c = rw (take_all c.loop-field.field-index c.args.fields.now c.loop-field-test.false) at (sym c.loop-field.invariant.distinct)

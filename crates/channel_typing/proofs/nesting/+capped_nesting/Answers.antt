use Rattle.channel_typing.proofs.Greatest.{nesting_more, nesting_all}
use Rattle.channel_typing.proofs.nesting.+capped_nesting.Goals as goal

pub loop-field-preserved : goal.loop-field-preserved
loop-field-preserved t c =
    nesting_more c.as_slice-field-items.result.now c.loop-field.field-index c.field-item.result c.loop-field.deepest c.capped_nesting.result c.deeper-deepest.result c.loop-field-test.true c.field-item.is
    c.loop-field.invariant c.capped_nesting.ensures c.deeper-deepest.ensures

pub returns-after-loop-field : goal.returns-after-loop-field
returns-after-loop-field t c =
    nesting_all c.args.ty.now c.in-Struct.fields c.as_slice-field-items.result.now c.loop-field.field-index c.loop-field.deepest c.one_deeper.result c.in-Struct.is c.as_slice-field-items.ensures
    c.loop-field-test.false c.loop-field.invariant c.one_deeper.ensures

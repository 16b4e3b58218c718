-- Each kind of type by what it says of its parts; then a value a step.
use Rattle.std.proofs.Common.{rules, ◌≡◌, ◌≤◌, ◌+◌, ◌-◌, ◌*◌, All, false, length, drop, sym, ap, ◌∙◌, subst, arith}
use Rattle.std.specs.List.{sum_by}
use Rattle.channel_types.specs.Types.{IsGoodType, width_of, field_width}
use Rattle.channel_types.specs.Equations.{width-Bits, width-Struct, width-Array}
use Rattle.channel_types.specs.Goods.{good_type_fields, good_type_item, good_low}
use Rattle.channel_types.specs.declared.esi_type.EsiType.TheViews.{the_lemmas}
use Rattle.bit_packing.specs.Packing.{PackFields}
use Rattle.bit_packing.specs.Voids.{has_marked_one, voids_of}
use Rattle.bit_packing.specs.Equations.{voids-Array}
use Rattle.bit_packing.proofs.VoidWalk.{fields_set, items_set, struct_set, walked_room, items_room}
use Rattle.bit_packing.proofs.Laying.{HasGoodType}
use Rattle.bit_packing.proofs.Taking.{bits_at, IsTaken, taken_more, taken_all, field_clear, AreTaken, items_taken_more, item_clear, number_at, void_at, struct_at}
use Rattle.bit_packing.proofs.unpacking.+unpacking.Goals as goal

pub value_at-overflow_sub-at : goal.value_at-overflow_sub-at
value_at-overflow_sub-at t c =
    let low = good_low c.args.ty.now c.requires.good.each in
    let width = ap width_of c.in-Bits.is ∙ width-Bits c.in-Bits.class c.in-Bits.width in
    omega arith

pub value_at-slice-requires-clause-order : goal.value_at-slice-requires-clause-order
value_at-slice-requires-clause-order t c =
    let low = good_low c.args.ty.now c.requires.good.each in
    let width = ap width_of c.in-Bits.is ∙ width-Bits c.in-Bits.class c.in-Bits.width in
    omega arith

pub value_at-slice-requires-clause-within : goal.value_at-slice-requires-clause-within
value_at-slice-requires-clause-within t c =
    let low = good_low c.args.ty.now c.requires.good.each in
    let width = ap width_of c.in-Bits.is ∙ width-Bits c.in-Bits.class c.in-Bits.width in
    omega (arith, c.requires.within)

pub value_at-values_below-requires : goal.value_at-values_below-requires
value_at-values_below-requires t c =
    let fields = c.in-Struct.fields in
    let good : All HasGoodType fields = good_type_fields fields (subst IsGoodType c.in-Struct.is c.requires.good) in
    let width : c.width.result ≡ sum_by field_width fields = c.width.ensures.width ∙ ap width_of c.in-Struct.is ∙ width-Struct fields in
    let clear : fields_set c.args.word.now fields (c.args.at + c.width.result) ≡ false =
    sym (ap (λ ty. has_marked_one (voids_of ty) (drop c.args.at c.args.word.now)) c.in-Struct.is ∙ struct_set c.args.word.now fields c.args.at c.width.result width) ∙ c.requires.clear in
    let same : fields ≡ c.as_slice.result.now = sym c.as_slice.ensures in
    let sums = ap (sum_by field_width) same in (
      search (rules, the_lemmas),
      (
        subst (All HasGoodType) same good,
        (omega arith, (omega (arith, c.requires.within, c.width.ensures.width), (c.requires.narrow, subst (λ fs. fields_set c.args.word.now fs (c.args.at + c.width.result) ≡ false) same clear))),
      ),
    )

pub value_at-values_from-requires : goal.value_at-values_from-requires
value_at-values_from-requires t c =
    let item = c.in-Array.item in
    let count = c.in-Array.count in
    let good : IsGoodType item = good_type_item item count (subst IsGoodType c.in-Array.is c.requires.good) in
    let width : width_of c.args.ty.now ≡ count * width_of item = ap width_of c.in-Array.is ∙ width-Array item count in
    let clear : items_set c.args.word.now item count c.args.at ≡ false =
    sym (ap (λ ty. has_marked_one (voids_of ty) (drop c.args.at c.args.word.now)) c.in-Array.is ∙ ap (λ marks. has_marked_one marks (drop c.args.at c.args.word.now)) (voids-Array item count)) ∙ c.requires.clear in
    let same : item ≡ c.get.result.now = sym c.get.ensures in (
      search (rules, the_lemmas),
      (
        subst IsGoodType same good,
        (subst (λ ty. c.args.at + count * width_of ty ≤ length c.args.word.now) same (omega (arith, c.requires.within)), (c.requires.narrow, subst (λ ty. items_set c.args.word.now ty count c.args.at ≡ false) same clear)),
      ),
    )

pub value_at-returns-in-Bits : goal.value_at-returns-in-Bits
value_at-returns-in-Bits t c =
    let low = good_low c.args.ty.now c.requires.good.each in
    let width = ap width_of c.in-Bits.is ∙ width-Bits c.in-Bits.class c.in-Bits.width in
    number_at c.args.ty.now c.in-Bits.class c.in-Bits.width c.args.at c.args.word.now c.slice.result c.in-Bits.is (omega arith) (omega (arith, c.requires.within)) c.slice.ensures.bits

pub value_at-returns-in-Void : goal.value_at-returns-in-Void
value_at-returns-in-Void t c = void_at c.args.ty.now c.args.at c.args.word.now c.in-Void.is c.requires.within c.requires.clear

pub value_at-returns-in_ok-values-in-Struct : goal.value_at-returns-in_ok-values-in-Struct
value_at-returns-in_ok-values-in-Struct t c =
    let fields = c.in-Struct.fields in
    let values = c.in_ok-values-in-Struct.values in
    struct_at c.args.ty.now fields values c.args.at c.width.result c.args.word.now c.in-Struct.is c.width.ensures.width
    (subst (λ fs. PackFields fs values (bits_at c.args.word.now (c.args.at + c.width.result - sum_by field_width fs) (sum_by field_width fs))) c.as_slice.ensures c.in_ok-values-in-Struct.ensures)

pub values_below-value_at-requires : goal.values_below-value_at-requires
values_below-value_at-requires t c =
    let walk = c.loop-field.invariant.walk in
    let room = walked_room c.args.word.now c.args.fields.now c.args.end c.loop-field.field-index c.loop-field.at c.width.result c.field-item.result c.loop-field-test.true c.field-item.is c.width.ensures.width walk in (
      search (rules, the_lemmas),
      (
        subst HasGoodType (sym c.field-item.is) (c.requires.good c.loop-field.field-index c.field-item.result c.loop-field-test.true),
        (
          omega (arith, c.requires.within, c.width.ensures.width, walk.within),
          (
            c.requires.narrow,
            field_clear c.args.word.now c.args.fields.now c.args.end c.loop-field.field-index c.loop-field.at c.width.result c.field-item.result c.loop-field-test.true c.field-item.is c.width.ensures.width c.requires.clear walk,
          ),
        ),
      ),
    )

pub values_below-loop-field-preserved : goal.values_below-loop-field-preserved
values_below-loop-field-preserved t c =
    subst (IsTaken c.args.word.now c.args.fields.now c.args.end (c.loop-field.field-index + 1) (c.loop-field.at - c.width.result)) (sym c.in_ok-push.ensures.ok)
    (taken_more c.args.word.now c.args.fields.now c.args.end c.loop-field.field-index c.loop-field.at c.width.result c.field-item.result c.loop-field-test.true c.field-item.is c.width.ensures.width c.requires.clear
    c.loop-field.values c.in_ok-value_at.field-0 c.loop-field.invariant c.in_ok-value_at.ensures)

pub values_below-returns : goal.values_below-returns
values_below-returns t c = taken_all c.args.word.now c.args.fields.now c.args.end c.loop-field.field-index c.loop-field.at c.loop-field.values c.loop-field-test.false c.loop-field.invariant

pub values_from-value_at-requires : goal.values_from-value_at-requires
values_from-value_at-requires t c =
    let room = items_room c.args.word.now c.args.item.now c.args.count c.args.start c.loop.counter c.loop.at c.width-width.result c.loop-test.true c.width-width.ensures.width c.loop.invariant.walk in (
      search (rules, the_lemmas),
      (
        c.requires.good,
        (omega (arith, c.requires.within, c.width-width.ensures.width), (c.requires.narrow, item_clear c.args.word.now c.args.item.now c.args.count c.args.start c.loop.counter c.loop.at c.width-width.result c.loop-test.true c.width-width.ensures.width c.requires.clear c.loop.invariant.walk)),
      ),
    )

pub values_from-loop-preserved : goal.values_from-loop-preserved
values_from-loop-preserved t c =
    subst (AreTaken c.args.word.now c.args.item.now c.args.count c.args.start (c.loop.counter + 1) (c.loop.at + c.width-width.result)) (sym c.in_ok-push.ensures.ok)
    (items_taken_more c.args.word.now c.args.item.now c.args.count c.args.start c.loop.counter c.loop.at c.width-width.result c.loop-test.true c.width-width.ensures.width c.requires.clear
    c.loop.values c.in_ok-value_at.field-0 c.loop.invariant c.in_ok-value_at.ensures)

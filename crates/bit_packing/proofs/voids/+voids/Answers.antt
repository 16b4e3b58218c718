-- The walks over fields and items, step by step; each kind of type by its equation.
use Rattle.std.proofs.Common.{rules, ◌≡◌, ◌+◌, ◌*◌, All, drop, sym, ap, ◌∙◌, subst, arith}
use Rattle.std.specs.List.{sum_by}
use Rattle.channel_types.specs.Types.{IsGoodType, width_of, field_width}
use Rattle.channel_types.specs.Equations.{width-Struct, width-Array}
use Rattle.channel_types.specs.Goods.{good_type_fields, good_type_item}
use Rattle.channel_types.specs.declared.esi_type.EsiType.TheViews.{the_lemmas}
use Rattle.bit_packing.specs.Voids.{has_marked_one, voids_of}
use Rattle.bit_packing.specs.Equations.{voids-Bits, voids-Void}
use Rattle.bit_packing.specs.MarkLemmas.{unmarked}
use Rattle.bit_packing.proofs.VoidWalk.{fields_set, void_set, struct_set, walked_more, walked_found, items_room, items_walked_more, items_walked_found}
use Rattle.bit_packing.proofs.voids.+voids.Goals as goal

pub field_sets_void-returns-then-sets_void : goal.field_sets_void-returns-then-sets_void
field_sets_void-returns-then-sets_void t c =
    sym (walked_found c.args.word.now c.args.fields.now c.args.end c.loop-field.field-index c.loop-field.at c.width-at.result c.field-item.result c.loop-field-test.true c.field-item.is c.width-at.ensures.width
    c.loop-field.invariant (sym c.sets_void.ensures ∙ c.if-sets_void.true))

pub field_sets_void-loop-field-preserved : goal.field_sets_void-loop-field-preserved
field_sets_void-loop-field-preserved t c =
    walked_more c.args.word.now c.args.fields.now c.args.end c.loop-field.field-index c.loop-field.at c.width-at.result c.field-item.result c.loop-field-test.true c.field-item.is c.width-at.ensures.width
    c.loop-field.invariant (sym c.sets_void.ensures ∙ c.if-sets_void.false)

pub item_sets_void-returns-then-sets_void : goal.item_sets_void-returns-then-sets_void
item_sets_void-returns-then-sets_void t c =
    sym (items_walked_found c.args.word.now c.args.item.now c.args.count c.args.start c.loop.counter c.loop.at c.width-width.result c.loop-test.true c.width-width.ensures.width
    c.loop.invariant (sym c.sets_void.ensures ∙ c.if-sets_void.true))

pub item_sets_void-loop-preserved : goal.item_sets_void-loop-preserved
item_sets_void-loop-preserved t c =
    items_walked_more c.args.word.now c.args.item.now c.args.count c.args.start c.loop.counter c.loop.at c.width-width.result c.loop-test.true c.width-width.ensures.width
    c.loop.invariant (sym c.sets_void.ensures ∙ c.if-sets_void.false)

pub item_sets_void-overflow_add-at : goal.item_sets_void-overflow_add-at
item_sets_void-overflow_add-at t c =
    let room = items_room c.args.word.now c.args.item.now c.args.count c.args.start c.loop.counter c.loop.at c.width-width.result c.loop-test.true c.width-width.ensures.width c.loop.invariant in
    omega (arith, c.requires.within, c.requires.narrow)

pub sets_void-overflow_add-at : goal.sets_void-overflow_add-at
sets_void-overflow_add-at t c = omega (arith, c.requires.within, c.requires.narrow)

pub sets_void-field_sets_void-requires : goal.sets_void-field_sets_void-requires
sets_void-field_sets_void-requires t c =
    let fields = c.in-Struct.fields in
    let good : All (λ f. IsGoodType f.ty) fields = good_type_fields fields (subst IsGoodType c.in-Struct.is c.requires.good) in
    let same : c.as_slice.result.now ≡ fields = c.as_slice.ensures in
    let width : width_of c.args.ty.now ≡ sum_by field_width fields = ap width_of c.in-Struct.is ∙ width-Struct fields in
    let sums : sum_by field_width c.as_slice.result.now ≡ sum_by field_width fields = ap (sum_by field_width) same in
    (search (rules, the_lemmas), (subst (All (λ f. IsGoodType f.ty)) (sym same) good, (omega arith, (omega (arith, c.requires.within), c.requires.narrow))))

pub sets_void-item_sets_void-requires : goal.sets_void-item_sets_void-requires
sets_void-item_sets_void-requires t c =
    let item = c.in-Array.item in
    let good : IsGoodType item = good_type_item item c.in-Array.count (subst IsGoodType c.in-Array.is c.requires.good) in
    let same : c.get.result.now ≡ item = c.get.ensures in
    let width : width_of c.args.ty.now ≡ c.in-Array.count * width_of item = ap width_of c.in-Array.is ∙ width-Array item c.in-Array.count in
    let sames : c.in-Array.count * width_of c.get.result.now ≡ c.in-Array.count * width_of item = ap (λ ty. c.in-Array.count * width_of ty) same in
    (search (rules, the_lemmas), (subst IsGoodType (sym same) good, (omega (arith, c.requires.within), c.requires.narrow)))

pub sets_void-returns-in-Bits : goal.sets_void-returns-in-Bits
sets_void-returns-in-Bits t c =
    sym (ap (λ ty. has_marked_one (voids_of ty) (drop c.args.at c.args.word.now)) c.in-Bits.is
    ∙ ap (λ marks. has_marked_one marks (drop c.args.at c.args.word.now)) (voids-Bits c.in-Bits.class c.in-Bits.width)
    ∙ unmarked c.in-Bits.width (drop c.args.at c.args.word.now))

pub sets_void-returns-in-Void : goal.sets_void-returns-in-Void
sets_void-returns-in-Void t c =
    sym (ap (λ ty. has_marked_one (voids_of ty) (drop c.args.at c.args.word.now)) c.in-Void.is
    ∙ ap (λ marks. has_marked_one marks (drop c.args.at c.args.word.now)) voids-Void
    ∙ void_set c.args.word.now c.args.at c.bit.result c.bit.ensures)

pub sets_void-returns-in-Struct : goal.sets_void-returns-in-Struct
sets_void-returns-in-Struct t c =
    let fields = c.in-Struct.fields in
    let width : c.width.result ≡ sum_by field_width fields = c.width.ensures.width ∙ ap width_of c.in-Struct.is ∙ width-Struct fields in
    c.field_sets_void.ensures
    ∙ ap (λ fs. fields_set c.args.word.now fs (c.args.at + c.width.result)) c.as_slice.ensures
    ∙ sym (ap (λ ty. has_marked_one (voids_of ty) (drop c.args.at c.args.word.now)) c.in-Struct.is ∙ struct_set c.args.word.now fields c.args.at c.width.result width)

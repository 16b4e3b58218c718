-- What a struct's fields or an array's items need is what the type and the value give; then a value a step.
use Rattle.std.proofs.Common.{rules, ◌≡◌, ◌≤◌, ◌+◌, ◌*◌, All, true, [], length, drop, get_or, map, sym, ap, ◌∙◌, subst, arith, append-nil}
use Rattle.std.specs.List.{sum_by, list_all}
use Rattle.esi_base.specs.declared.word.TheConstants.{WORD_BITS}
use Rattle.channel_types.specs.Types.{IsGoodType, width_of, field_width}
use Rattle.channel_types.specs.Equations.{width-Struct}
use Rattle.channel_types.specs.declared.esi_type.EsiType.TheViews.{the_lemmas}
use Rattle.bit_packing.specs.declared.value.Value.TheViews as views
use Rattle.bit_packing.specs.Fitting.{fits_of, field_fits, fits_fields}
use Rattle.bit_packing.proofs.Laying.{IsLaid, HasGoodType, laid_none, room_at, more_at, struct_given, array_given}
use Rattle.bit_packing.proofs.packing.+packing.Goals as goal

pub packed-packed_fields-requires : goal.packed-packed_fields-requires
packed-packed_fields-requires t c =
    let given = struct_given c.args.ty.now c.args.value.now c.in-Struct-Struct.fields c.in-Struct-Struct.values c.in-Struct-Struct.is-0 c.in-Struct-Struct.is-1 c.requires.good c.requires.fits in
    let same : c.in-Struct-Struct.fields ≡ c.as_slice-in-Struct-Struct.result.now = sym c.as_slice-in-Struct-Struct.ensures in
    let sames : c.in-Struct-Struct.values ≡ c.as_slice.result.now = sym c.as_slice.ensures in (
      search (rules, the_lemmas, views.the_lemmas),
      (
        subst (All HasGoodType) same given.0,
        (
          subst (λ fs. fits_fields (map field_fits fs) c.as_slice.result.now ≡ true) same (subst (λ vs. fits_fields (map field_fits c.in-Struct-Struct.fields) vs ≡ true) sames given.1),
          (subst (λ fs. 1 ≤ length fs) same given.2, subst (λ fs. sum_by field_width fs ≤ WORD_BITS) same given.3),
        ),
      ),
    )

pub packed-packed_items-requires : goal.packed-packed_items-requires
packed-packed_items-requires t c =
    let item = c.in-Array-Array.item in
    let values = c.in-Array-Array.values in
    let given = array_given c.args.ty.now c.args.value.now item _ values c.in-Array-Array.is-0 c.in-Array-Array.is-1 c.requires.good c.requires.fits in
    let same : item ≡ c.get.result.now = sym c.get.ensures in
    let sames : values ≡ c.as_slice-in-Array-Array.result.now = sym c.as_slice-in-Array-Array.ensures in (
      search (rules, the_lemmas, views.the_lemmas),
      (
        subst IsGoodType same given.0,
        (
          subst (λ ty. list_all (fits_of ty) c.as_slice-in-Array-Array.result.now ≡ true) same (subst (λ vs. list_all (fits_of item) vs ≡ true) sames given.1),
          (
            subst (λ vs. 1 ≤ length vs) sames given.2,
            subst (λ ty. length c.as_slice-in-Array-Array.result.now * width_of ty ≤ WORD_BITS) same (subst (λ vs. length vs * width_of item ≤ WORD_BITS) sames given.3),
          ),
        ),
      ),
    )

pub packed-returns-in-Struct-Struct-clause-width : goal.packed-returns-in-Struct-Struct-clause-width
packed-returns-in-Struct-Struct-clause-width t c =
    c.packed_fields.ensures.width
    ∙ ap (sum_by field_width) c.as_slice-in-Struct-Struct.ensures
    ∙ sym (ap width_of c.in-Struct-Struct.is-0 ∙ width-Struct c.in-Struct-Struct.fields)

pub packed_fields-loop-at-init : goal.packed_fields-loop-at-init
packed_fields-loop-at-init t c =
    let fields = c.args.fields.now in
    let values = c.args.values.now in
    subst (λ w. IsLaid w (drop 1 fields) (drop 1 values) fields values) (append-nil c.packed-word.result)
    (more_at [] fields values 0 (get_or fields 0 c.index-fields-0.result) c.index-values-0.result c.requires.some (ap (get_or fields 0) c.index-fields-0.is) c.index-values-0.is
    c.packed-word.result c.packed-word.ensures.bits c.packed-word.ensures.width
    (laid_none fields values c.requires.good c.requires.fits))

pub packed_fields-concat-word-requires : goal.packed_fields-concat-word-requires
packed_fields-concat-word-requires t c =
    let room = room_at c.loop-at.word c.args.fields.now c.args.values.now c.loop-at.at (get_or c.args.fields.now c.loop-at.at c.index-fields-at.result) c.index-values-at.result c.loop-at-test.true (ap (get_or c.args.fields.now c.loop-at.at) c.index-fields-at.is) c.index-values-at.is c.loop-at.invariant in
    omega (arith, c.requires.narrow, c.packed.ensures.width)

pub packed_fields-loop-at-preserved : goal.packed_fields-loop-at-preserved
packed_fields-loop-at-preserved t c =
    let fields = c.args.fields.now in
    let values = c.args.values.now in
    subst (λ w. IsLaid w (drop (c.loop-at.at + 1) fields) (drop (c.loop-at.at + 1) values) fields values) (sym c.concat-word.ensures.bits)
    (more_at c.loop-at.word fields values c.loop-at.at (get_or c.args.fields.now c.loop-at.at c.index-fields-at.result) c.index-values-at.result c.loop-at-test.true (ap (get_or c.args.fields.now c.loop-at.at) c.index-fields-at.is) c.index-values-at.is
    c.packed.result c.packed.ensures.bits c.packed.ensures.width c.loop-at.invariant)

-- The two tests are what the bits of a packing have.
use Rattle.std.proofs.Common.{◌≡◌, Bool, true, false, not, length, sym, ap, ◌∙◌, refl}
use Rattle.std.proofs.lemmas.Bool.{eqb-true, eq-eqb}
use Rattle.channel_types.specs.Types.{width_of}
use Rattle.bit_packing.specs.Packings.{packing_width, packing_clear, made_packing}
use Rattle.bit_packing.proofs.voids.is_packing.Goals as goal

not_set : (b : Bool) → not b ≡ true → b ≡ false
not_set false h = refl
not_set true h = absurd (cc)

pub returns-then-width : goal.returns-then-width
returns-then-width c =
    let word = c.args.word.now in
    let ty = c.args.ty.now in
    let width : length word ≡ width_of ty = sym c.width.ensures.bits ∙ c.if-width.true ∙ c.width-2.ensures.width in (
      λ h. made_packing word ty width (sym c.sets_void.ensures ∙ not_set c.sets_void.result h),
      λ packing. ap not (c.sets_void.ensures ∙ packing_clear word ty packing),
    )

pub returns-else-width : goal.returns-else-width
returns-else-width c = (
  λ h. absurd (c.if-width.false (eqb-true c.width.result c.width-2.result h)),
  λ packing.
      let width = packing_width c.args.word.now c.args.ty.now packing in
      eq-eqb c.width.result c.width-2.result (c.width.ensures.bits ∙ width ∙ sym c.width-2.ensures.width),
)

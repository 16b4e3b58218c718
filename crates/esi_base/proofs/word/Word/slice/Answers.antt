use Rattle.std.proofs.Common.{◌≡◌, ◌+◌, ◌-◌, ◌/◌, ◌%◌, ◌≤◌, ◌^◌, slice_range, ap, sym, ◌∙◌, arith}
use Rattle.std.proofs.lemmas.Nat.{pow_pos}
use Rattle.std.proofs.Math.Nat.{mod-lt}
use Rattle.esi_base.specs.Bits.{bits_of, length-bits_of}
use Rattle.esi_base.specs.BitLists.{bits_of-mod, slice_range-bits_of}
use Rattle.esi_base.specs.Parts.{whole}
use Rattle.esi_base.proofs.Made.{width_of, word_of_limbs, bits_of_limbs}
use Rattle.esi_base.proofs.word.Word.slice.Goals as goal

pub overflow_add-width : goal.overflow_add-width
overflow_add-width c = omega (arith, width_of c.self.inside c.args.self.now c.self.view_is, c.self.invariant.high)

pub cut-requires-clause-from : goal.cut-requires-clause-from
cut-requires-clause-from c = omega (arith, width_of c.self.inside c.args.self.now c.self.view_is, c.self.invariant.high)

pub cut-requires-clause-width : goal.cut-requires-clause-width
cut-requires-clause-width c = omega (arith, width_of c.self.inside c.args.self.now c.self.view_is, c.self.invariant.high)

pub invariant_of-result : goal.invariant_of-result
invariant_of-result c =
    let n = whole 64 c.self.inside.limbs in
    let width = c.args.high - c.args.low + 1 in
    let high : width ≤ 1024 = omega (arith, width_of c.self.inside c.args.self.now c.self.view_is, c.self.invariant.high) in
    word_of_limbs c.cut.result width (n / 2 ^ c.args.low % 2 ^ width) c.cut.ensures (mod-lt (n / 2 ^ c.args.low) (pow_pos width)) (omega arith) high

pub returns-clause-bits : goal.returns-clause-bits
returns-clause-bits c =
    let n = whole 64 c.self.inside.limbs in
    let wide = width_of c.self.inside c.args.self.now c.self.view_is in
    let low = c.args.low in
    let width = c.args.high - low + 1 in
    let high : width ≤ 1024 = omega (arith, wide, c.self.invariant.high) in
    let count : c.args.high + 1 - low ≡ width = omega arith in
    bits_of_limbs c.cut.result width (n / 2 ^ low % 2 ^ width) c.cut.ensures (mod-lt (n / 2 ^ low) (pow_pos width)) high
    ∙ bits_of-mod width width (n / 2 ^ low) (omega arith)
    ∙ ap (λ k. bits_of k (n / 2 ^ low)) (sym count)
    ∙ sym (slice_range-bits_of c.self.inside.width n low (c.args.high + 1) (omega arith) (omega (arith, wide)))
    ∙ ap (λ bits. slice_range bits low (c.args.high + 1)) c.self.view_is

pub returns-clause-width : goal.returns-clause-width
returns-clause-width c = length-bits_of (c.args.high - c.args.low + 1) (whole 64 c.cut.result)

pub prove-unreachable-requires : goal.prove-unreachable-requires
prove-unreachable-requires c = omega (arith, width_of c.self.inside c.args.self.now c.self.view_is)

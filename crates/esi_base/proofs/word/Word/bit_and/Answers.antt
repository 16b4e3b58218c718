use Rattle.std.proofs.Common.{◌&&◌, bit_and, ap, sym, ◌∙◌}
use Rattle.std.proofs.lemmas.Nat.{and_le_l}
use Rattle.std.proofs.Math.Nat.{lt_of_le_of_lt}
use Rattle.esi_base.specs.Bits.{bits_of, zip_bits, length-bits_of}
use Rattle.esi_base.specs.BitLists.{bits_of-and}
use Rattle.esi_base.specs.Parts.{whole}
use Rattle.esi_base.proofs.Made.{width_of, same_width, word_of_limbs, bits_of_limbs}
use Rattle.esi_base.proofs.word.Word.bit_and.Goals as goal

pub invariant_of-result : goal.invariant_of-result
invariant_of-result c =
    let a = c.self.inside in
    let b = c.other.inside in
    let n = whole 64 a.limbs in
    let m = whole 64 b.limbs in
    word_of_limbs c.and.result a.width (bit_and n m) c.and.ensures (lt_of_le_of_lt (and_le_l n m) c.self.invariant.within) c.self.invariant.low c.self.invariant.high

pub returns-clause-bits : goal.returns-clause-bits
returns-clause-bits c =
    let a = c.self.inside in
    let b = c.other.inside in
    let n = whole 64 a.limbs in
    let m = whole 64 b.limbs in
    let same = same_width a b c.args.self.now c.args.other.now c.self.view_is c.other.view_is c.requires in
    bits_of_limbs c.and.result a.width (bit_and n m) c.and.ensures (lt_of_le_of_lt (and_le_l n m) c.self.invariant.within) c.self.invariant.high
    ∙ bits_of-and a.width n m
    ∙ ap (λ bits. zip_bits ◌&&◌ bits (bits_of a.width m)) c.self.view_is
    ∙ ap (λ bits. zip_bits ◌&&◌ c.args.self.now bits) (ap (λ k. bits_of k m) (sym same) ∙ c.other.view_is)

pub returns-clause-width : goal.returns-clause-width
returns-clause-width c = length-bits_of c.self.inside.width (whole 64 c.and.result) ∙ sym (width_of c.self.inside c.args.self.now c.self.view_is)

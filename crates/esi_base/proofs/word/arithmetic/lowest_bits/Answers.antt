use Rattle.std.proofs.Common.{◌-◌, bit_and, ap, ◌∙◌, arith}
use Rattle.std.proofs.lemmas.Nat.{one_shl, and_mask}
use Rattle.esi_base.specs.Bits.{bits_of}
use Rattle.esi_base.specs.BitLists.{bits_of-mod}
use Rattle.esi_base.proofs.word.arithmetic.lowest_bits.Goals as goal

pub returns : goal.returns
returns c =
    let width = c.args.width in
    let value = c.args.value in
    c.from_u128.ensures
    ∙ ap (λ ones. bits_of width (bit_and value (ones - 1))) (one_shl width 128 (omega arith))
    ∙ ap (λ n. bits_of width n) (and_mask value width)
    ∙ bits_of-mod width width value (omega arith)

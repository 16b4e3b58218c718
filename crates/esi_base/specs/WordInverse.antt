-- A word's limbs and width can be had back from its bits.
use Rattle.std.specs.Prelude.{◌≡◌, ℕ, ◌^◌, ◌<◌, List, length}
use Rattle.std.proofs.Common.{◌∙◌, ap, subst}
use Rattle.std.proofs.Math.Nat.{mod-eq_of_lt}
use Rattle.esi_base.specs.Parts.{whole, parts, parts-whole}
use Rattle.esi_base.specs.Bits.{number_of, bits_of, number_of-bits_of, length-bits_of}
use Rattle.esi_base.specs.Words.{bits_in, fields_of, IsWord}
use Rattle.esi_base.specs.declared.word.Word.TheInside.{Inside}

limbs_again : (limbs : List ℕ) (width : ℕ) → length limbs ≡ 16 → whole 64 limbs < 2 ^ width → parts 64 (length limbs) (whole 64 limbs) ≡ limbs
    → parts 64 16 (number_of (bits_of width (whole 64 limbs))) ≡ limbs
limbs_again limbs width count within again =
    ap (λ n. parts 64 16 n) (number_of-bits_of width (whole 64 limbs) ∙ mod-eq_of_lt within)
    ∙ subst (λ k. parts 64 k (whole 64 limbs) ≡ limbs) count again

pub fields_of-bits_in : (word : Inside) → IsWord word → fields_of (bits_in word) ≡ word
unfolding fields_of
fields_of-bits_in word h =
    let made : List ℕ → ℕ → Inside = λ limbs width. record { limbs = limbs; width = width } in
    ap (λ limbs. made limbs (length (bits_in word))) (limbs_again word.limbs word.width h.limbs.count h.within (parts-whole 64 word.limbs h.limbs.small))
    ∙ ap (λ width. made word.limbs width) (length-bits_of word.width (whole 64 word.limbs))

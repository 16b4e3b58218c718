-- Words and their limbs: what the fields of a word are, and a word that is made from the limbs of a number.
use Rattle.std.proofs.Common.{◌≡◌, ℕ, ◌^◌, ◌<◌, ◌≤◌, Bool, List, length, sym, ◌∙◌, ap, subst}
use Rattle.std.proofs.Math.Nat.{mod-eq_of_lt}
use Rattle.esi_base.specs.Parts.{whole}
use Rattle.esi_base.specs.Bits.{number_of, bits_of, number_of-bits_of, length-bits_of}
use Rattle.esi_base.specs.Limbs.{IsLimbs, limbs_of, IsLimbs-limbs_of, whole-limbs_of}
use Rattle.esi_base.specs.Words.{bits_in, IsWord}
use Rattle.esi_base.specs.declared.word.Word.TheInside.{Inside}

pub width_of : (word : Inside) (bits : List Bool) → bits_in word ≡ bits → length bits ≡ word.width
width_of word bits e = sym (ap length e) ∙ length-bits_of word.width (whole 64 word.limbs)

pub same_width : (a b : Inside) (xs ys : List Bool) → bits_in a ≡ xs → bits_in b ≡ ys → length xs ≡ length ys → b.width ≡ a.width
same_width a b xs ys e f h = sym (width_of b ys f) ∙ sym h ∙ width_of a xs e

pub number_in : (word : Inside) (bits : List Bool) → IsWord word → bits_in word ≡ bits → number_of bits ≡ whole 64 word.limbs
number_in word bits h e = sym (ap number_of e) ∙ number_of-bits_of word.width (whole 64 word.limbs) ∙ mod-eq_of_lt h.within

pub word_of_limbs : (limbs : List ℕ) (width n : ℕ) → limbs ≡ limbs_of n → n < 2 ^ width → 1 ≤ width → width ≤ 1024 → IsWord (record { limbs = limbs; width = width })
word_of_limbs limbs width n e within low high = record {
  limbs = subst IsLimbs (sym e) (IsLimbs-limbs_of n);
  low = low;
  high = high;
  within = subst (λ m. m < 2 ^ width) (sym (whole-limbs_of n width within high) ∙ ap (λ xs. whole 64 xs) (sym e)) within;
}

pub bits_of_limbs : (limbs : List ℕ) (width n : ℕ) → limbs ≡ limbs_of n → n < 2 ^ width → width ≤ 1024 → bits_of width (whole 64 limbs) ≡ bits_of width n
bits_of_limbs limbs width n e within high = ap (λ m. bits_of width m) (ap (λ xs. whole 64 xs) e ∙ whole-limbs_of n width within high)

-- Words are the same exactly where their limbs and widths are.
use Rattle.std.proofs.Common.{◌≡◌, Bool, true, List, sym, ◌∙◌, ap}
use Rattle.std.specs.Bool.{Decides}
use Rattle.esi_base.specs.Parts.{whole}
use Rattle.esi_base.specs.Bits.{bits_of}
use Rattle.esi_base.specs.Words.{bits_in, fields_of, IsWord}
use Rattle.esi_base.specs.WordInverse.{fields_of-bits_in}
use Rattle.esi_base.specs.declared.word.Word.TheInside.{Inside}

same_fields : (a b : Inside) → IsWord a → IsWord b → bits_in a ≡ bits_in b → a ≡ b
same_fields a b h g e = sym (fields_of-bits_in a h) ∙ ap fields_of e ∙ fields_of-bits_in b g

same_view : (a b : Inside) → a.limbs ≡ b.limbs → a.width ≡ b.width → bits_in a ≡ bits_in b
same_view a b e f = ap (λ limbs. bits_of a.width (whole 64 limbs)) e ∙ ap (λ width. bits_of width (whole 64 b.limbs)) f

-- a test of limbs and widths is one of the bits
pub same_words : (a b : Inside) (xs ys : List Bool) (test : Bool) → IsWord a → IsWord b → bits_in a ≡ xs → bits_in b ≡ ys
    → (test ≡ true → (a.limbs ≡ b.limbs) × (a.width ≡ b.width)) → (a.limbs ≡ b.limbs → a.width ≡ b.width → test ≡ true) → Decides test (xs ≡ ys)
same_words a b xs ys test h g e f told back = (
  λ t. sym e ∙ same_view a b (told t).0 (told t).1 ∙ f,
  λ s. let same : a ≡ b = same_fields a b h g (e ∙ s ∙ sym f) in back (ap (λ w. w.limbs) same) (ap (λ w. w.width) same),
)

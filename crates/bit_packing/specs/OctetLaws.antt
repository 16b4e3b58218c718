-- Octets give a word exactly where they are those of a packing, and that word is it.
use Rattle.std.proofs.Common.{◌≡◌, ℕ, ◌+◌, ◌/◌, ◌^◌, ◌<◌, ◌==◌, ◌↔◌, Bool, true, false, if◌then◌else◌, Result, Ok, Err, nat_lt, List, length, refl, sym, ap, ◌∙◌, subst}
use Rattle.std.specs.Prelude.{IfOk}
use Rattle.std.proofs.lemmas.Bool.{eqb-true, eq-eqb, lt-ltb, ltb-true}
use Rattle.esi_base.specs.Bits.{number_of, bits_of, length-bits_of}
use Rattle.esi_base.specs.BitLists.{number_of-below, bits_of-number_of}
use Rattle.esi_base.specs.Octets.{octet_count, octets_of, whole-octets_of, octets_of-bits_of}
use Rattle.esi_base.specs.Parts.{whole, AreSmall, length-parts}
use Rattle.channel_types.specs.Types.{width_of}
use Rattle.channel_types.specs.declared.esi_type.EsiType.{EsiType}
use Rattle.bit_packing.specs.declared.octets.Unpacked.{Unpacked}
use Rattle.bit_packing.specs.declared.octets.Unpacked.TheVariants.{Count, Spare, VoidBit}
use Rattle.bit_packing.specs.Packing.{IsPacking}
use Rattle.bit_packing.specs.Packings.{packing_width, packing_clear, made_packing}
use Rattle.bit_packing.specs.Voids.{voids_of, has_marked_one}
use Rattle.bit_packing.specs.OctetRules.{octets_for, bits_from, word_from}

-- the word that octets give is a packing, and they are its octets
packing_of_word_from : (octets : List ℕ) (ty : EsiType) (word : List Bool) → AreSmall 8 octets → word_from octets ty ≡ Ok word → IsPacking word ty × (octets_of word ≡ octets)
packing_of_word_from octets ty word small e = of (length octets == octets_for ty) (nat_lt (whole 8 octets) (2 ^ width_of ty)) (has_marked_one (voids_of ty) (bits_from octets ty)) refl refl refl e
  where
    of : (count fits set : Bool) → (length octets == octets_for ty) ≡ count → nat_lt (whole 8 octets) (2 ^ width_of ty) ≡ fits → has_marked_one (voids_of ty) (bits_from octets ty) ≡ set
        → (if count then (if fits then (if set then Err VoidBit else Ok (bits_from octets ty)) else Err Spare) else Err Count) ≡ Ok word → IsPacking word ty × (octets_of word ≡ octets)
    of false fits set c f s e = absurd (cc)
    of true false set c f s e = absurd (cc)
    of true true true c f s e = absurd (cc)
    of true true false c f s e =
        let same : bits_from octets ty ≡ word = cc in (
          subst (λ w. IsPacking w ty) same (made_packing (bits_from octets ty) ty (length-bits_of (width_of ty) (whole 8 octets)) s),
          ap octets_of (sym same) ∙ octets_of-bits_of (width_of ty) octets small (eqb-true (length octets) (octets_for ty) c) (ltb-true (whole 8 octets) (2 ^ width_of ty) f),
        )

-- the octets of a packing give that packing
word_from_of_packing : (octets : List ℕ) (ty : EsiType) (word : List Bool) → IsPacking word ty → octets_of word ≡ octets → word_from octets ty ≡ Ok word
word_from_of_packing octets ty word packing e =
    let width = packing_width word ty packing in
    let number : whole 8 octets ≡ number_of word = ap (whole 8) (sym e) ∙ whole-octets_of word in
    let count : length octets ≡ octets_for ty = ap length (sym e) ∙ length-parts 8 (octet_count word) (number_of word) ∙ ap (λ n. (n + 7) / 8) width in
    let below = number_of-below word in
    let fits : whole 8 octets < 2 ^ width_of ty = subst (λ k. whole 8 octets < 2 ^ k) width (subst (λ n. n < 2 ^ length word) (sym number) below) in
    let bits : bits_from octets ty ≡ word = ap (λ n. bits_of (width_of ty) n) number ∙ ap (λ k. bits_of k (number_of word)) (sym width) ∙ bits_of-number_of word in
    of (length octets == octets_for ty) (nat_lt (whole 8 octets) (2 ^ width_of ty)) (has_marked_one (voids_of ty) (bits_from octets ty))
    (eq-eqb (length octets) (octets_for ty) count) (lt-ltb (whole 8 octets) (2 ^ width_of ty) fits) (ap (has_marked_one (voids_of ty)) bits ∙ packing_clear word ty packing) bits
  where
    of : (count fits set : Bool) → count ≡ true → fits ≡ true → set ≡ false → bits_from octets ty ≡ word
        → (if count then (if fits then (if set then Err VoidBit else Ok (bits_from octets ty)) else Err Spare) else Err Count) ≡ Ok word
    of true true false c f s e = ap Ok e
    of false fits set c f s e = absurd (cc)
    of true false set c f s e = absurd (cc)
    of true true true c f s e = absurd (cc)

-- octets give a word exactly where it is a packing and they are its octets
pub word_from-Ok : (octets : List ℕ) (ty : EsiType) (word : List Bool) → AreSmall 8 octets → (word_from octets ty ≡ Ok word) ↔ (IsPacking word ty × (octets_of word ≡ octets))
word_from-Ok octets ty word small = (packing_of_word_from octets ty word small, λ h. word_from_of_packing octets ty word h.0 h.1)

pub word_from-packing : (octets : List ℕ) (ty : EsiType) (result : Result (List Bool) Unpacked) → AreSmall 8 octets → result ≡ word_from octets ty → IfOk result (λ word. IsPacking word ty)
word_from-packing octets ty (Ok word) small e = (packing_of_word_from octets ty word small (sym e)).0
word_from-packing octets ty (Err cause) small e = tt

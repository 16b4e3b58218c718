-- Octets are read again as they were printed, and nothing else is read.
use Rattle.std.specs.Prelude.{◌≡◌, ◌≢◌, ◌+◌, ◌*◌, ◌/◌, ◌%◌, ◌<◌, ℕ, Option, Some, None, List, [], ◌∷◌, All, refl}
use Rattle.std.proofs.Common.{arith, sym, ◌∙◌, ap}
use Rattle.std.proofs.lemmas.Bool.Decides.{nat_tests}
use Rattle.std.proofs.lemmas.List.Elements.{All-nil, All-cons, All-head, All-tail, All-same}
use Rattle.small_text.specs.Hexadecimal.{hex_digit, hex_of, hex_value, octet_of, with_octet, octets_of_digits, octets_of}

-- Octets, at least one.
pub record AreOctets (octets : List ℕ) : Type 0 where
  pub some : octets ≢ []
  pub small : All (λ octet. octet < 256) octets

-- A part is octets where it is their digits.
pub record IsHexOf (part octets : List ℕ) : Type 0 where
  pub octets_are : AreOctets octets
  pub digits : part ≡ hex_of octets

-- What is printed is read again, and only what is printed is read.
pub record ReadAgain : Type 0 where
  pub printed : (octets : List ℕ) → AreOctets octets → octets_of (hex_of octets) ≡ Some octets
  pub read : (part octets : List ℕ) → octets_of part ≡ Some octets → IsHexOf part octets

digit_read : (number : ℕ) → number < 16 → hex_value (hex_digit number) ≡ Some number
digit_read number small = grind (arith, nat_tests)

digit_printed : (digit number : ℕ) → hex_value digit ≡ Some number → (digit ≡ hex_digit number) × (number < 16)
digit_printed digit number e = grind (arith, nat_tests)

octet_printed : (octet : ℕ) → octet < 256 → octet_of (hex_value (hex_digit (octet / 16))) (hex_value (hex_digit (octet % 16))) ≡ Some octet
octet_printed octet small =
    let high : octet / 16 < 16 = omega arith in
    let low : octet % 16 < 16 = omega arith in
    let whole : 16 * (octet / 16) + octet % 16 ≡ octet = omega arith in
    rw (digit_read (octet / 16) high, digit_read (octet % 16) low, whole) refl

digits_again : (octets : List ℕ) → All (λ octet. octet < 256) octets → octets_of_digits (hex_of octets) ≡ Some octets
unfolding hex_of octets_of_digits
digits_again [] h = refl
digits_again (octet ∷ octets) h =
    rw (octet_printed octet (All-head (λ o. o < 256) octet octets h), digits_again octets (All-tail (λ o. o < 256) octet octets h)) refl

printed_again : (octets : List ℕ) → AreOctets octets → octets_of (hex_of octets) ≡ Some octets
unfolding hex_of
printed_again [] h = absurd (h.some refl)
printed_again (octet ∷ octets) h = digits_again (octet ∷ octets) h.small

-- an octet and octets after it were read
record FrontRead (octet : Option ℕ) (rest : Option (List ℕ)) (octets : List ℕ) : Type 0 where
  first : ℕ
  others : List ℕ
  first_is : octet ≡ Some first
  others_are : rest ≡ Some others
  octets_are : octets ≡ first ∷ others

front_read : (octet : Option ℕ) (rest : Option (List ℕ)) (octets : List ℕ) → with_octet octet rest ≡ Some octets → FrontRead octet rest octets
front_read None rest octets e = absurd (cc)
front_read (Some octet) None octets e = absurd (cc)
front_read (Some octet) (Some others) octets e = record { first = octet; others = others; first_is = refl; others_are = refl; octets_are = (cc) }

-- two digits were read
record PairRead (high low : Option ℕ) (octet : ℕ) : Type 0 where
  high_part : ℕ
  low_part : ℕ
  high_is : high ≡ Some high_part
  low_is : low ≡ Some low_part
  octet_is : octet ≡ 16 * high_part + low_part

pair_read : (high low : Option ℕ) (octet : ℕ) → octet_of high low ≡ Some octet → PairRead high low octet
pair_read None low octet e = absurd (cc)
pair_read (Some high) None octet e = absurd (cc)
pair_read (Some high) (Some low) octet e = record { high_part = high; low_part = low; high_is = refl; low_is = refl; octet_is = (cc) }

digits_joined : (high low first h l : ℕ) (digits others : List ℕ) → high ≡ hex_digit h → low ≡ hex_digit l → first / 16 ≡ h → first % 16 ≡ l → digits ≡ hex_of others → high ∷ low ∷ digits ≡ hex_of (first ∷ others)
unfolding hex_of
digits_joined high low first h l digits others high_is low_is above below rest = rw (high_is, low_is, above, below, rest) refl

digits_read : (digits octets : List ℕ) → octets_of_digits digits ≡ Some octets → (digits ≡ hex_of octets) × All (λ octet. octet < 256) octets
unfolding hex_of octets_of_digits
digits_read [] octets e = let none : octets ≡ [] = cc in rw none (refl, All-nil (λ octet. octet < 256))
digits_read (one ∷ []) octets e = absurd (cc)
digits_read (high ∷ low ∷ digits) octets e =
    let front = front_read (octet_of (hex_value high) (hex_value low)) (octets_of_digits digits) octets e in
    let pair = pair_read (hex_value high) (hex_value low) front.first front.first_is in
    let rest = digits_read digits front.others front.others_are in
    let h = digit_printed high pair.high_part pair.high_is in
    let l = digit_printed low pair.low_part pair.low_is in
    let octet : front.first ≡ 16 * pair.high_part + pair.low_part = pair.octet_is in
    let above : front.first / 16 ≡ pair.high_part = omega (arith, h.1, l.1) in
    let below : front.first % 16 ≡ pair.low_part = omega (arith, h.1, l.1) in
    let small : front.first < 256 = omega (arith, h.1, l.1) in
    let whole = digits_joined high low front.first pair.high_part pair.low_part digits front.others h.0 l.0 above below rest.0 in
    (whole ∙ ap hex_of (sym front.octets_are), All-same (λ octet. octet < 256) octets (front.first ∷ front.others) front.octets_are (All-cons (λ octet. octet < 256) front.first front.others small rest.1))

no_digits : (digit : ℕ) (digits octets : List ℕ) → digit ∷ digits ≡ hex_of octets → octets ≡ [] → ⊥
unfolding hex_of
no_digits digit digits [] e none = absurd (cc)
no_digits digit digits (octet ∷ octets) e none = absurd (cc)

read_only : (part octets : List ℕ) → octets_of part ≡ Some octets → IsHexOf part octets
unfolding octets_of_digits
read_only [] octets e = absurd (cc)
read_only (digit ∷ digits) octets e =
    let whole = digits_read (digit ∷ digits) octets e in
    record { octets_are = record { some = λ none. no_digits digit digits octets whole.0 none; small = whole.1 }; digits = whole.0 }

pub octets_again : ReadAgain
octets_again = record { printed = printed_again; read = read_only }

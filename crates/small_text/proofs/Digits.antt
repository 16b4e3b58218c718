-- Octets and numbers, digit by digit.
use Rattle.std.proofs.Common.{◌≡◌, ◌+◌, ◌*◌, ◌/◌, ◌%◌, ◌<◌, ◌≤◌, ◌^◌, ℕ, Option, Some, None, List, [], ◌∷◌, ◌++◌, length, take, drop, refl, sym, ◌∙◌, arith, append_assoc, append-nil, get_or}
use Rattle.std.proofs.lemmas.List.{take_more}
use Rattle.std.proofs.lemmas.List.{at_drop_more}
use Rattle.std.proofs.lemmas.Bool.Decides.{nat_tests}
use Rattle.std.specs.Char.{digit_value}
use Rattle.std.specs.Str.Parse.{digits_value, digits_value_after}
use Rattle.small_text.specs.Numbers.{number_of}
use Rattle.small_text.specs.Hexadecimal.{hex_digit, hex_of, hex_value, octet_of, with_octet, octets_of_digits, octets_of}

-- octets that were read already, before those that are left
abbrev pub after : List ℕ → Option (List ℕ) → Option (List ℕ)
after front None = None
after front (Some rest) = Some (front ++ rest)

pub hex_of-append : (xs ys : List ℕ) → hex_of (xs ++ ys) ≡ hex_of xs ++ hex_of ys
unfolding hex_of
hex_of-append [] ys = refl
hex_of-append (x ∷ xs) ys = rw (hex_of-append xs ys) refl

pub hex_of-none : (out : List ℕ) → out ≡ out ++ hex_of []
unfolding hex_of
hex_of-none out = sym (append-nil out)

-- the digits of one octet more
pub hex_of-more : (octets out : List ℕ) (i : ℕ) → i < length octets → (out ++ hex_of (take i octets)) ++ (hex_digit (get_or octets i 0 / 16) ∷ hex_digit (get_or octets i 0 % 16) ∷ []) ≡ out ++ hex_of (take (i + 1) octets)
unfolding hex_of
hex_of-more octets out i h = rw (take_more octets i 0 h, hex_of-append (take i octets) (get_or octets i 0 ∷ []), append_assoc) refl

-- two digits are read, and then the rest
octets_front : (digits : List ℕ) → 2 ≤ length digits → octets_of_digits digits ≡ with_octet (octet_of (hex_value (get_or digits 0 0)) (hex_value (get_or digits 1 0))) (octets_of_digits (drop 2 digits))
unfolding octets_of_digits
octets_front [] h = absurd (omega arith)
octets_front (one ∷ []) h = absurd (omega arith)
octets_front (high ∷ low ∷ digits) h = refl

after_step : (front : List ℕ) (octet : ℕ) (rest : Option (List ℕ)) → after (front ++ octet ∷ []) rest ≡ after front (with_octet (Some octet) rest)
after_step front octet None = refl
after_step front octet (Some rest) = rw append_assoc refl

pub octets_step : (front digits all others : List ℕ) (octet : ℕ) → 2 ≤ length digits → others ≡ drop 2 digits → Some octet ≡ octet_of (hex_value (get_or digits 0 0)) (hex_value (get_or digits 1 0)) → after front (octets_of_digits digits) ≡ octets_of_digits all → after (front ++ octet ∷ []) (octets_of_digits others) ≡ octets_of_digits all
octets_step front digits all others octet long rest is before =
    rw rest (after_step front octet (octets_of_digits (drop 2 digits)) ∙ rw is (rw (sym (octets_front digits long)) before))

octets_some : (part : List ℕ) → 0 < length part → octets_of part ≡ octets_of_digits part
octets_some [] h = absurd (omega arith)
octets_some (digit ∷ digits) h = refl

pub octets_stop : (front digits part : List ℕ) → 0 < length part → 2 ≤ length digits → None ≡ octet_of (hex_value (get_or digits 0 0)) (hex_value (get_or digits 1 0)) → after front (octets_of_digits digits) ≡ octets_of_digits part → None ≡ octets_of part
octets_stop front digits part some long is before =
    sym (octets_some part some ∙ sym before ∙ rw (octets_front digits long, sym is) refl)

pub octets_end : (front digits part : List ℕ) → 0 < length part → length digits ≡ 0 → after front (octets_of_digits digits) ≡ octets_of_digits part → Some front ≡ octets_of part
unfolding octets_of_digits
octets_end front [] part some none before = sym (octets_some part some ∙ sym before ∙ rw append-nil refl)
octets_end front (digit ∷ digits) part some none before = absurd (omega arith)

pub octets_odd : (front digits part : List ℕ) → 0 < length part → length digits ≡ 1 → after front (octets_of_digits digits) ≡ octets_of_digits part → None ≡ octets_of part
unfolding octets_of_digits
octets_odd front [] part some none before = absurd (omega arith)
octets_odd front (digit ∷ []) part some none before = sym (octets_some part some ∙ sym before)
octets_odd front (digit ∷ second ∷ digits) part some none before = absurd (omega arith)

-- a number does not shrink by more digits
value_grows : (number : ℕ) (digits : List ℕ) → number ≤ digits_value_after 10 number digits
value_grows number [] = omega arith
value_grows number (digit ∷ digits) = omega (arith, value_grows (number * 10 + digit_value digit) digits)

value_step : (part : List ℕ) (number i : ℕ) → i < length part → digits_value_after 10 number (drop i part) ≡ digits_value_after 10 (number * 10 + digit_value (get_or part i 0)) (drop (i + 1) part)
value_step part number i h = at_drop_more (digits_value_after 10 number) part i 0 h

beyond : (part : List ℕ) (bound : ℕ) → bound < digits_value 10 part → None ≡ number_of bound part
beyond part bound h = grind (arith, nat_tests)

-- a number that passes 2^64 passes the bound
pub too_large : (part : List ℕ) (bound number i : ℕ) → i < length part → digits_value_after 10 number (drop i part) ≡ digits_value 10 part → bound < 2 ^ 64 → (number * 10 + digit_value (get_or part i 0) < 2 ^ 64 → ⊥) → None ≡ number_of bound part
too_large part bound number i h value fits large =
    let grows : number * 10 + digit_value (get_or part i 0) ≤ digits_value 10 part = rw (sym value, value_step part number i h) (value_grows (number * 10 + digit_value (get_or part i 0)) (drop (i + 1) part)) in
    beyond part bound (omega arith)

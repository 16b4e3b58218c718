-- A printed token is cut again as that token, whatever stands behind it.
use Rattle.std.proofs.Common.{◌≡◌, ℕ, ◌<◌, ◌≤◌, Bool, true, false, not, eqb, ◌&&◌, ◌||◌, List, [], ◌∷◌, ◌++◌, ◌+◌, ◌^◌, inl, inr, min, length, get_or, refl, subst, arith}
use Rattle.design_lex.specs.declared.limits.TheConstants.{WIDEST_TYPE, TOO_WIDE}
use Rattle.std.proofs.Math.Dec.{ltb}
use Rattle.std.proofs.lemmas.Bool.{lt-ltb, ne_eqb}
use Rattle.std.specs.Char.{is_ascii_digit}
use Rattle.std.specs.Fmt.{decimal}
use Rattle.std.specs.List.{list_all}
use Rattle.design_lex.specs.Octet.{begins_word, is_word_octet, is_sign}
use Rattle.design_lex.specs.Digits.{value}
use Rattle.design_lex.specs.Tokens.{lexemes_from, word_token, type_word, are_digits, decimal as decimal_token}
use Rattle.design_lex.specs.Cuts.{stops, begins_hexadecimal, IsToken, word, decimal_number, one_sign}
use Rattle.design_lex.specs.CutLaw.{answers, both}
use Rattle.design_lex.specs.CutOnly.{not_at, blank_step, no_more, token_cut}
use Rattle.design_lex.specs.Spellings.{IsWordText, class_letters}
use Rattle.design_lex.specs.PrintedDigits.{AreDigitsOf, decimal_digits}
use Rattle.design_lex.specs.declared.token.Class.{Class}
use Rattle.design_lex.specs.declared.token.Class.TheVariants.{Unsigned, Signed, Plain}
use Rattle.design_lex.specs.declared.token.Token.TheVariants.{Word, TypeWord, Number, Sign}

-- A space in front is passed.
pub space_cut : (at : ℕ) (z : List ℕ) → lexemes_from 0 false at (32 ∷ z) ≡ lexemes_from 0 false (at + 1) z
space_cut at z = blank_step 32 z at refl

-- An LF in front is passed.
pub line_end_cut : (at : ℕ) (z : List ℕ) → lexemes_from 0 false at (10 ∷ z) ≡ lexemes_from 0 false (at + 1) z
line_end_cut at z = blank_step 10 z at refl

-- No token stands in the empty text.
pub nothing_cut : (at : ℕ) → lexemes_from 0 false at [] ≡ []
nothing_cut at = no_more at

-- A sign is cut as itself.
pub sign_cut : (at b : ℕ) (tail : List ℕ) → is_sign b ≡ true → lexemes_from 0 false at (b ∷ tail) ≡ ((at, at + 1), Sign b) ∷ lexemes_from 0 false (at + 1) tail
sign_cut at b tail s = token_cut at (one_sign b tail s)

-- A word is cut as itself where no letter, digit or `_` stands behind it.
pub word_cut : (at : ℕ) (w tail : List ℕ) → IsWordText w → stops is_word_octet tail ≡ true → lexemes_from 0 false at (w ++ tail) ≡ ((at, at + length w), Word w) ∷ lexemes_from 0 false (at + length w) tail
word_cut at w tail h s = token_cut at (subst (IsToken w tail) h.spells (word w tail h.begins (record { all = h.octets; longest = s })))

-- digits are octets of words
digit_in_word : (b : ℕ) → is_ascii_digit b ≡ true → is_word_octet b ≡ true
digit_in_word b d = by (begins_word b) d
  where
    by : (c : Bool) → is_ascii_digit b ≡ true → (c || is_ascii_digit b) ≡ true
    by true d = refl
    by false d = d

-- each of them is
digits_in_word : (digits : List ℕ) → list_all is_ascii_digit digits ≡ true → list_all is_word_octet digits ≡ true
digits_in_word [] h = refl
digits_in_word (d ∷ digits) h =
    let p = both (is_ascii_digit d) (list_all is_ascii_digit digits) h in
    rw (digit_in_word d p.0, digits_in_word digits p.1) refl

-- where digits are a number's, the class's letters and they are a type word
type_word_is : (class : Class) (width : ℕ) (digits : List ℕ) → width ≤ WIDEST_TYPE → AreDigitsOf width digits → type_word class digits ≡ TypeWord class width
unfolding type_word
type_word_is class width digits h d =
    let capped : min TOO_WIDE (value 10 digits) ≡ width = omega (arith, d.same) in
    rw (d.leading, capped) refl

-- they are digits alone, and one at least
some_digits : (width : ℕ) (digits : List ℕ) → AreDigitsOf width digits → are_digits digits ≡ true
some_digits width digits d =
    let some : eqb (length digits) 0 ≡ false = ne_eqb (length digits) 0 (λ e. omega (arith, e, d.some)) in
    rw (some, d.all) refl

-- so the letters and the digits are the type word
type_word_token : (class : Class) (width : ℕ) (digits : List ℕ) → width ≤ WIDEST_TYPE → AreDigitsOf width digits → word_token (class_letters class ++ digits) ≡ TypeWord class width
unfolding word_token
type_word_token Unsigned width digits h d = rw (some_digits width digits d) (type_word_is Unsigned width digits h d)
type_word_token Signed width digits h d = rw (some_digits width digits d) (type_word_is Signed width digits h d)
type_word_token Plain width digits h d = rw (some_digits width digits d) (type_word_is Plain width digits h d)

-- the letters of a class begin a word
class_begins : (class : Class) (digits : List ℕ) → begins_word (get_or (class_letters class ++ digits) 0 0) ≡ true
class_begins Unsigned digits = refl
class_begins Signed digits = refl
class_begins Plain digits = refl

-- and are octets of words
class_octets : (class : Class) (digits : List ℕ) → list_all is_word_octet digits ≡ true → list_all is_word_octet (class_letters class ++ digits) ≡ true
class_octets Unsigned digits h = h
class_octets Signed digits h = h
class_octets Plain digits h = h

-- The letters of a class with a width's decimal digits behind them are cut as the type word of that class and width,
-- where no letter, digit or `_` stands behind them.
pub type_word_cut : (at : ℕ) (class : Class) (width : ℕ) (tail : List ℕ) → width ≤ WIDEST_TYPE → stops is_word_octet tail ≡ true
    → lexemes_from 0 false at ((class_letters class ++ decimal width) ++ tail) ≡ ((at, at + length (class_letters class ++ decimal width)), TypeWord class width) ∷ lexemes_from 0 false (at + length (class_letters class ++ decimal width)) tail
type_word_cut at class width tail h s =
    let d = decimal_digits width (omega arith) in
    let w : List ℕ = class_letters class ++ decimal width in
    token_cut at (subst (IsToken w tail) (type_word_token class width (decimal width) h d) (word w tail (class_begins class (decimal width)) (record { all = class_octets class (decimal width) (digits_in_word (decimal width) d.all); longest = s })))

-- what no octet of a word passes, no digit passes
stops_digits : (tail : List ℕ) → stops is_word_octet tail ≡ true → stops is_ascii_digit tail ≡ true
stops_digits [] s = refl
stops_digits (b ∷ tail) s =
    elim (answers (is_ascii_digit b)) [
      | inl e ↦ (let in_word : is_word_octet b ≡ true = digit_in_word b e in let wrong : not true ≡ true = subst (λ (c : Bool). not c ≡ true) in_word s in cc)
      | inr e ↦ rw e refl
    ]

-- the octet behind a word is no `x`
stops_letter : (tail : List ℕ) → stops is_word_octet tail ≡ true → eqb (get_or tail 0 0) 120 ≡ false
stops_letter [] s = refl
stops_letter (b ∷ tail) s = not_at (λ (k : ℕ). not (is_word_octet k)) b 120 s refl

-- two tests do not hold where the second one does not
none_after : (a b : Bool) → b ≡ false → (a && b) ≡ false
none_after true b e = e
none_after false b e = refl

-- no digits begin with `0x`
no_hexadecimal : (digits tail : List ℕ) → list_all is_ascii_digit digits ≡ true → 0 < length digits → stops is_word_octet tail ≡ true → begins_hexadecimal (digits ++ tail) ≡ false
no_hexadecimal [] tail a h s = absurd (omega arith)
no_hexadecimal (b ∷ []) tail a h s = none_after (eqb b 48) (eqb (get_or tail 0 0) 120) (stops_letter tail s)
no_hexadecimal (b ∷ (c ∷ digits)) tail a h s =
    let p = both (is_ascii_digit b) (list_all is_ascii_digit (c ∷ digits)) a in
    let q = both (is_ascii_digit c) (list_all is_ascii_digit digits) p.1 in
    none_after (eqb b 48) (eqb c 120) (not_at is_ascii_digit c 120 q.0 refl)

-- a number's digits mean it
number_token : (n : ℕ) (digits : List ℕ) → n < 2 ^ 128 → AreDigitsOf n digits → decimal_token digits ≡ Number n
unfolding decimal_token
number_token n digits h d =
    let small : ltb n (2 ^ 128) ≡ true = lt-ltb n (2 ^ 128) h in
    rw (d.leading, d.same, small) refl

-- A number's decimal digits are cut as that number, where no letter, digit or `_` stands behind them.
pub number_cut : (at n : ℕ) (tail : List ℕ) → n < 2 ^ 128 → stops is_word_octet tail ≡ true → lexemes_from 0 false at (decimal n ++ tail) ≡ ((at, at + length (decimal n)), Number n) ∷ lexemes_from 0 false (at + length (decimal n)) tail
number_cut at n tail h s =
    let d = decimal_digits n (omega arith) in
    token_cut at (subst (IsToken (decimal n) tail) (number_token n (decimal n) h d) (decimal_number (decimal n) tail d.some (record { all = d.all; longest = stops_digits tail s }) (no_hexadecimal (decimal n) tail d.all d.some s)))

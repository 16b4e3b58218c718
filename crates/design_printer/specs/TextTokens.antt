-- The tokens of a text are printable, but for its faults and its type words above 1,024 bits.
use Rattle.std.proofs.Common.{◌≡◌, ℕ, ◌<◌, ◌≤◌, ◌^◌, Bool, true, false, eqb, cond, min, drop, length, Some, None, List, [], ◌∷◌, map, refl}
use Rattle.std.proofs.Math.Dec.{ltb}
use Rattle.std.specs.Prelude.{All}
use Rattle.std.proofs.lemmas.Bool.{ltb-true}
use Rattle.std.proofs.lemmas.List.Elements.{All-nil, All-cons, All-head, All-tail}
use Rattle.design_lex.specs.declared.limits.TheConstants.{WIDEST_TYPE}
use Rattle.design_lex.specs.Octet.{is_sign}
use Rattle.design_lex.specs.Digits.{value, has_leading_zero}
use Rattle.design_lex.specs.Tokens.{Lexeme, tokens, word_token, plain_word, type_word, decimal, hexadecimal, bounded, bounded_token}
use Rattle.design_lex.specs.Cuts.{IsToken, word, decimal_number, hexadecimal_number, one_sign, unknown, IsCut, ended, goes_on}
use Rattle.design_lex.specs.CutLaw.{lexemes_cut}
use Rattle.design_lex.specs.Spellings.{IsSpelled, AreSpelled}
use Rattle.design_lex.specs.WordTexts.{words_spelled}
use Rattle.design_lex.specs.declared.token.Class.{Class}
use Rattle.design_lex.specs.declared.token.Class.TheVariants.{Unsigned, Signed, Plain}
use Rattle.design_lex.specs.declared.token.LexicalRule.TheVariants.{BadNumber, LongWord}
use Rattle.design_lex.specs.declared.token.Token.{Token}
use Rattle.design_lex.specs.declared.token.Token.TheVariants.{Word, TypeWord, Number, Sign, Faulty, End}
use Rattle.design_printer.specs.CutAgain.{IsPrintable, token_in}

-- No fault, no type word above 1,024 bits, and not the end.
abbrev pub IsUsable : Token → Type 0
IsUsable (Word w) = Unit {0}
IsUsable (TypeWord class width) = width ≤ WIDEST_TYPE
IsUsable (Number n) = Unit {0}
IsUsable (Sign b) = Unit {0}
IsUsable (Faulty fault) = ⊥
IsUsable End = ⊥

-- numbers are below 2^128, and signs are signs
IsWithin : Token → Type 0
IsWithin (Word w) = Unit {0}
IsWithin (TypeWord class width) = Unit {0}
IsWithin (Number n) = n < 2 ^ 128
IsWithin (Sign b) = is_sign b ≡ true
IsWithin (Faulty fault) = Unit {0}
IsWithin End = Unit {0}

-- of two tokens one is chosen
chosen : (c : Bool) (t u : Token) → IsWithin t → IsWithin u → IsWithin (cond c t u)
chosen true t u p q = p
chosen false t u p q = q

type_word_within : (class : Class) (digits : List ℕ) → IsWithin (type_word class digits)
unfolding IsWithin type_word
type_word_within class digits = chosen (has_leading_zero digits) (Faulty BadNumber) (TypeWord class (min 1025 (value 10 digits))) tt tt

plain_word_within : (w : List ℕ) → IsWithin (plain_word w)
unfolding IsWithin
plain_word_within w = chosen (ltb 64 (length w)) (Faulty LongWord) (Word w) tt tt

word_within : (w : List ℕ) → IsWithin (word_token w)
unfolding word_token
word_within w = chosen _ _ _ (type_word_within Unsigned (drop 2 w)) (chosen _ _ _ (type_word_within Signed (drop 2 w)) (chosen _ _ _ (type_word_within Plain (drop 1 w)) (plain_word_within w)))

bounded_within : (n : ℕ) → IsWithin (bounded n)
unfolding IsWithin
bounded_within n = of (ltb n (2 ^ 128)) refl
  where
    of : (b : Bool) → ltb n (2 ^ 128) ≡ b → IsWithin (bounded_token (cond b (Some n) None))
    of true e = ltb-true n (2 ^ 128) e
    of false e = tt

decimal_within : (digits : List ℕ) → IsWithin (decimal digits)
unfolding IsWithin decimal
decimal_within digits = chosen (has_leading_zero digits) (Faulty BadNumber) (bounded (value 10 digits)) tt (bounded_within (value 10 digits))

hexadecimal_within : (digits : List ℕ) → IsWithin (hexadecimal digits)
unfolding IsWithin hexadecimal
hexadecimal_within digits = chosen (eqb (length digits) 0) (Faulty BadNumber) (bounded (value 16 digits)) tt (bounded_within (value 16 digits))

token_within : {octets behind : List ℕ} {t : Token} → IsToken octets behind t → IsWithin t
unfolding IsWithin
token_within (word octets behind h r) = word_within octets
token_within (decimal_number octets behind h r x) = decimal_within octets
token_within (hexadecimal_number digits behind r) = hexadecimal_within digits
token_within (one_sign b behind s) = s
token_within (unknown b behind w d s g) = tt

-- so it is for all the tokens of a cut
AllWithin : List Lexeme → Type 0
AllWithin [] = Unit {0}
AllWithin (x ∷ rest) = IsWithin x.1 × AllWithin rest

cut_within : {at : ℕ} {text : List ℕ} {ts : List Lexeme} → IsCut at text ts → AllWithin ts
unfolding AllWithin
cut_within (ended at text g) = tt
cut_within (goes_on at text behind x rest b c) = (token_within b.is_token, cut_within c)

printable : (t : Token) → IsSpelled t → IsWithin t → IsUsable t → IsPrintable t
unfolding IsWithin
printable (Word w) spelled within usable = spelled
printable (TypeWord class width) spelled within usable = usable
printable (Number n) spelled within usable = within
printable (Sign b) spelled within usable = within
printable (Faulty fault) spelled within usable = usable
printable End spelled within usable = usable

all_printable : (ts : List Lexeme) → AreSpelled ts → AllWithin ts → All IsUsable (map token_in ts) → All IsPrintable (map token_in ts)
unfolding AllWithin
all_printable [] spelled within usable = All-nil IsPrintable
all_printable (x ∷ rest) spelled within usable =
    All-cons IsPrintable x.1 (map token_in rest) (printable x.1 spelled.0 within.0 (All-head IsUsable x.1 (map token_in rest) usable))
    (all_printable rest spelled.1 within.1 (All-tail IsUsable x.1 (map token_in rest) usable))

-- The tokens of a text that has no fault, and no type word above 1,024 bits, are printable.
pub text_printable : (text : List ℕ) (at : ℕ) → All IsUsable (map token_in (tokens text at)) → All IsPrintable (map token_in (tokens text at))
text_printable text at usable = all_printable (tokens text at) (words_spelled at (drop at text)) (cut_within (lexemes_cut (drop at text) at)) usable

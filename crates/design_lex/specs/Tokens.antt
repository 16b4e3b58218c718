-- How a design text is cut into its tokens.
use Rattle.std.specs.Prelude.{◌≡◌, ◌≤◌, ℕ, Bool, true, false, not, Option, Some, None, List, [], ◌∷◌, ◌==◌, ◌&&◌, ◌+◌, ◌-◌, ◌^◌, zero, suc, nat_lt, if◌then◌else◌, length, take, drop, slice_index, min}
use Rattle.design_lex.specs.declared.limits.TheConstants.{LONGEST_WORD, TOO_WIDE}
use Rattle.std.specs.List.{prefix_len, list_all}
use Rattle.std.specs.Char.{is_ascii_digit}
use Rattle.design_lex.specs.Octet.{begins_word, is_word_octet, is_hex_digit, is_sign, begins_gap}
use Rattle.design_lex.specs.Digits.{value, value_below, has_leading_zero}
use Rattle.design_lex.specs.declared.token.Class.{Class}
use Rattle.design_lex.specs.declared.token.Class.TheVariants.{Unsigned, Signed, Plain}
use Rattle.design_lex.specs.declared.token.LexicalRule.TheVariants.{UnknownOctet, LongWord, BadNumber}
use Rattle.design_lex.specs.declared.token.Token.{Token}
use Rattle.design_lex.specs.declared.token.Token.TheVariants.{Word, TypeWord, Number, Sign, Faulty, End}

-- the octets at the front that pass a test
abbrev pub front_of : (ℕ → Bool) → List ℕ → List ℕ
front_of test text = take (prefix_len test text) text

-- one digit at least, and nothing but digits
abbrev pub are_digits : List ℕ → Bool
are_digits digits = not (length digits == 0) && list_all is_ascii_digit digits

-- a number that is not too great
abbrev pub bounded_token : Option ℕ → Token
bounded_token (Some n) = Number n
bounded_token None = Faulty BadNumber

-- a number is at most 2^128 - 1
abbrev pub bounded : ℕ → Token
bounded n = bounded_token (value_below (2 ^ 128) n)

-- decimal digits, with no zero in front of others
unfoldable pub decimal : List ℕ → Token
decimal digits = if has_leading_zero digits then Faulty BadNumber else bounded (value 10 digits)

-- the digits behind `0x`, of which there is one at least
unfoldable pub hexadecimal : List ℕ → Token
hexadecimal digits = if length digits == 0 then Faulty BadNumber else bounded (value 16 digits)

-- a type word of a class, by the digits of its width
unfoldable pub type_word : Class → List ℕ → Token
type_word class digits = if has_leading_zero digits then Faulty BadNumber else TypeWord class (min TOO_WIDE (value 10 digits))

-- a word that is no type word is not too long
abbrev pub plain_word : List ℕ → Token
plain_word word = if nat_lt LONGEST_WORD (length word) then Faulty LongWord else Word word

-- `ui`, `si` or `i` with digits alone behind it is a type word, and every other word is a plain one
unfoldable pub word_token : List ℕ → Token
word_token word =
    if slice_index word 0 == 117 && slice_index word 1 == 105 && are_digits (drop 2 word) then type_word Unsigned (drop 2 word)
    else (if slice_index word 0 == 115 && slice_index word 1 == 105 && are_digits (drop 2 word) then type_word Signed (drop 2 word)
    else (if slice_index word 0 == 105 && are_digits (drop 1 word) then type_word Plain (drop 1 word)
    else plain_word word))

-- the token that a text begins with, the longest one, and the count of its octets
unfoldable pub cut : List ℕ → Token × ℕ
cut text =
    let first = slice_index text 0 in
    if begins_word first then (word_token (front_of is_word_octet text), prefix_len is_word_octet text)
    else (if first == 48 && slice_index text 1 == 120 then (hexadecimal (front_of is_hex_digit (drop 2 text)), 2 + prefix_len is_hex_digit (drop 2 text))
    else (if is_ascii_digit first then (decimal (front_of is_ascii_digit text), prefix_len is_ascii_digit text)
    else (if is_sign first then (Sign first, 1) else (Faulty UnknownOctet, 1))))

-- a token with its span: the offset of its first octet, and the offset behind its last one
abbrev pub Lexeme : Type 0
Lexeme = (ℕ × ℕ) × Token

-- a token of a length at an offset
abbrev pub lexeme_at : ℕ → Token × ℕ → Lexeme
lexeme_at at token = ((at, at + token.1), token.0)

-- The lexemes of what is left of a text from an offset on. The first number counts the octets that are still to be
-- passed, which the last token has, and the test says whether the text begins inside a comment.
unfoldable pub lexemes_from : ℕ → Bool → ℕ → List ℕ → List Lexeme
lexemes_from left within at [] = []
lexemes_from (suc left) within at (b ∷ text) = lexemes_from left within (at + 1) text
lexemes_from zero true at (b ∷ text) = lexemes_from 0 (not (b == 10)) (at + 1) text
lexemes_from zero false at (b ∷ text) =
    if begins_gap (b ∷ text) then lexemes_from 0 (b == 47) (at + 1) text
    else lexeme_at at (cut (b ∷ text)) ∷ lexemes_from ((cut (b ∷ text)).1 - 1) false (at + 1) text

-- the lexemes of a text from an offset on
abbrev pub tokens : List ℕ → ℕ → List Lexeme
tokens text at = lexemes_from 0 false at (drop at text)

-- the token that comes next, or the end
abbrev pub first_token : List Lexeme → Token
first_token [] = End
first_token (x ∷ rest) = x.1

-- where the token that comes next begins, None at the end
abbrev pub first_begin : List Lexeme → Option ℕ
first_begin [] = None
first_begin (x ∷ rest) = Some x.0.0

-- the offset behind the token that comes next, None at the end
abbrev pub first_end : List Lexeme → Option ℕ
first_end [] = None
first_end (x ∷ rest) = Some x.0.1

-- all but the first, and nothing at the end
abbrev pub others : List Lexeme → List Lexeme
others [] = []
others (x ∷ rest) = rest

-- a token that has octets stands in front of the others
abbrev pub with_front : Token → ℕ → ℕ → List Lexeme → List Lexeme
with_front token begin end rest = if begin == end then [] else ((begin, end), token) ∷ rest

-- a cursor's fields: the next token ends within the text, and where none has octets the end is seen
pub record IsCursor (text : List ℕ) (token : Token) (begin end : ℕ) : Type 0 where
  pub within : end ≤ length text
  pub at_end : begin ≡ end → token ≡ End

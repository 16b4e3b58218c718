-- How a Verilog text is cut into its tokens.
use Rattle.std.specs.Prelude.{◌≡◌, ◌≤◌, ℕ, Option, Some, None, List, [], ◌∷◌, ◌==◌, ◌+◌, ◌-◌, zero, suc, if◌then◌else◌, length, drop, slice_index}
use Rattle.std.specs.List.{prefix_len}
use Rattle.std.specs.Char.{is_ascii_digit}
use Rattle.design_lex.specs.Tokens.{front_of}
use Rattle.verilog_lex.specs.Numbers.{number_token, constant_token}
use Rattle.verilog_lex.specs.Octet.{is_blank, in_line, begins_word, is_word_octet, is_hex_digit, begins_comment, begins_base, begins_equality, begins_assignment, sign_of}
use Rattle.verilog_lex.specs.Words.{word_token}
use Rattle.verilog_tokens.specs.declared.token.Sign.{Sign}
use Rattle.verilog_tokens.specs.declared.token.Sign.TheVariants.{DoubleEquals, Becomes}
use Rattle.verilog_tokens.specs.declared.token.Token.{Token}
use Rattle.verilog_tokens.specs.declared.token.Token.TheVariants as T

-- what follows the digits at the front
abbrev pub behind_digits : List ℕ → List ℕ
behind_digits text = drop (prefix_len is_ascii_digit text) text

-- a constant of a width, and the count of the hexadecimal digits at the front
abbrev pub cut_digits : List ℕ → List ℕ → Token × ℕ
cut_digits width text = (constant_token width (front_of is_hex_digit text), prefix_len is_hex_digit text)

-- a constant, and the count of its octets
abbrev pub cut_constant : List ℕ → Token × ℕ
cut_constant text =
    let digits = drop 2 (behind_digits text) in
    (constant_token (front_of is_ascii_digit text) (front_of is_hex_digit digits), prefix_len is_ascii_digit text + 2 + prefix_len is_hex_digit digits)

-- a number, or the constant of which it is the width
abbrev pub cut_number : List ℕ → Token × ℕ
cut_number text =
    if begins_base (behind_digits text) then cut_constant text else (number_token (front_of is_ascii_digit text), prefix_len is_ascii_digit text)

-- a sign of one octet, or none
abbrev pub one_sign : Option Sign → Token × ℕ
one_sign (Some sign) = (T.Sign sign, 1)
one_sign None = (T.Faulty, 1)

abbrev pub cut_sign : List ℕ → Token × ℕ
cut_sign text =
    if begins_equality text then (T.Sign DoubleEquals, 2)
    else (if begins_assignment text then (T.Sign Becomes, 2) else one_sign (sign_of (slice_index text 0)))

-- a comment, by what stands behind `//`, and the count of its octets
abbrev pub cut_comment : List ℕ → Token × ℕ
cut_comment text = (T.Comment (front_of in_line (drop 2 text)), 2 + prefix_len in_line (drop 2 text))

-- a word, and the count of its octets
abbrev pub cut_word : List ℕ → Token × ℕ
cut_word text = (word_token (front_of is_word_octet text), prefix_len is_word_octet text)

-- the token that a text begins with, the longest one, and the count of its octets
unfoldable pub cut : List ℕ → Token × ℕ
cut text =
    if begins_comment text then cut_comment text
    else (if begins_word (slice_index text 0) then cut_word text
    else (if is_ascii_digit (slice_index text 0) then cut_number text else cut_sign text))

-- a token with its span: the offset of its first octet, and the offset behind its last one
abbrev pub Lexeme : Type 0
Lexeme = (ℕ × ℕ) × Token

-- a token of a length at an offset
abbrev pub lexeme_at : ℕ → Token × ℕ → Lexeme
lexeme_at at token = ((at, at + token.1), token.0)

-- The lexemes of what is left of a text from an offset on. The first number counts the octets that are still to be passed, which
-- the last token has.
unfoldable pub lexemes_from : ℕ → ℕ → List ℕ → List Lexeme
lexemes_from left at [] = []
lexemes_from (suc left) at (b ∷ text) = lexemes_from left (at + 1) text
lexemes_from zero at (b ∷ text) =
    if is_blank b then lexemes_from 0 (at + 1) text
    else lexeme_at at (cut (b ∷ text)) ∷ lexemes_from ((cut (b ∷ text)).1 - 1) (at + 1) text

-- the lexemes of a text from an offset on
abbrev pub tokens : List ℕ → ℕ → List Lexeme
tokens text at = lexemes_from 0 at (drop at text)

-- the token that comes next, or the end
abbrev pub first_token : List Lexeme → Token
first_token [] = T.EndOfText
first_token (x ∷ rest) = x.1

-- where the token that comes next begins, None at the end
abbrev pub first_begin : List Lexeme → Option ℕ
first_begin [] = None
first_begin (x ∷ rest) = Some x.0.0

-- the offset behind the token that comes next, None at the end
abbrev pub first_end : List Lexeme → Option ℕ
first_end [] = None
first_end (x ∷ rest) = Some x.0.1

-- all but the first, and nothing at the end
abbrev pub others : List Lexeme → List Lexeme
others [] = []
others (x ∷ rest) = rest

-- a token that has octets stands in front of the others
abbrev pub with_front : Token → ℕ → ℕ → List Lexeme → List Lexeme
with_front token begin end rest = if begin == end then [] else ((begin, end), token) ∷ rest

-- a cursor's fields: the next token ends within the text, and where none has octets the end is seen
pub record IsCursor (text : List ℕ) (token : Token) (begin end : ℕ) : Type 0 where
  pub within : end ≤ length text
  pub at_end : begin ≡ end → token ≡ T.EndOfText

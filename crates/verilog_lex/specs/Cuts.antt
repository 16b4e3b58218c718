-- What a cut of a Verilog text is, said of the whole text: blanks and tokens in turn, each token as long as it can be.
use Rattle.std.specs.Prelude.{◌≡◌, ℕ, true, false, Some, None, List, [], ◌∷◌, ◌++◌, ◌+◌, ◌<◌, length, slice_index}
use Rattle.std.specs.List.{list_all}
use Rattle.std.specs.Char.{is_ascii_digit}
use Rattle.design_lex.specs.Cuts.{IsRun}
use Rattle.verilog_lex.specs.Numbers.{number_token, constant_token}
use Rattle.verilog_lex.specs.Octet.{is_blank, in_line, begins_word, is_word_octet, is_hex_digit, begins_comment, begins_base, begins_equality, begins_assignment, sign_of}
use Rattle.verilog_lex.specs.Tokens.{Lexeme}
use Rattle.verilog_lex.specs.Words.{word_token}
use Rattle.verilog_tokens.specs.declared.token.Sign.{Sign}
use Rattle.verilog_tokens.specs.declared.token.Sign.TheVariants.{DoubleEquals, Becomes}
use Rattle.verilog_tokens.specs.declared.token.Token.{Token}
use Rattle.verilog_tokens.specs.declared.token.Token.TheVariants as T

-- octets are the longest token in front of the octets behind them, and mean this token
pub data IsToken : (octets behind : List ℕ) → Token → Type 0 where
  word : (octets behind : List ℕ) → begins_word (slice_index octets 0) ≡ true → IsRun is_word_octet octets behind → IsToken octets behind (word_token octets)
  number : (digits behind : List ℕ) → 0 < length digits → IsRun is_ascii_digit digits behind → begins_base behind ≡ false → IsToken digits behind (number_token digits)
  constant : (width digits behind : List ℕ) → 0 < length width → list_all is_ascii_digit width ≡ true → IsRun is_hex_digit digits behind → IsToken (width ++ 39 ∷ 104 ∷ digits) behind (constant_token width digits)
  comment : (line behind : List ℕ) → IsRun in_line line behind → IsToken (47 ∷ 47 ∷ line) behind (T.Comment line)
  equality : (behind : List ℕ) → IsToken (61 ∷ 61 ∷ []) behind (T.Sign DoubleEquals)
  assignment : (behind : List ℕ) → IsToken (60 ∷ 61 ∷ []) behind (T.Sign Becomes)
  one_sign : (b : ℕ) (behind : List ℕ) (sign : Sign) → sign_of b ≡ Some sign → begins_equality (b ∷ behind) ≡ false → begins_assignment (b ∷ behind) ≡ false → IsToken (b ∷ []) behind (T.Sign sign)
  unknown : (b : ℕ) (behind : List ℕ) → is_blank b ≡ false → begins_word b ≡ false → is_ascii_digit b ≡ false → begins_comment (b ∷ behind) ≡ false → sign_of b ≡ None → IsToken (b ∷ []) behind T.Faulty

-- a text from an offset on begins with blanks and this lexeme, and the rest stands behind them
pub record Begins (at : ℕ) (text : List ℕ) (x : Lexeme) (behind : List ℕ) : Type 0 where
  pub blanks : List ℕ
  pub octets : List ℕ
  pub parts : text ≡ blanks ++ (octets ++ behind)
  pub are_blank : list_all is_blank blanks ≡ true
  pub span : x.0 ≡ (at + length blanks, at + length blanks + length octets)
  pub is_token : IsToken octets behind x.1

-- a text from an offset on is cut into these lexemes: nothing but blanks stands between them, and nothing is left out
pub data IsCut : (at : ℕ) (text : List ℕ) → List Lexeme → Type 0 where
  ended : (at : ℕ) (text : List ℕ) → list_all is_blank text ≡ true → IsCut at text []
  goes_on : (at : ℕ) (text behind : List ℕ) (x : Lexeme) (rest : List Lexeme) → Begins at text x behind → IsCut x.0.1 behind rest → IsCut at text (x ∷ rest)

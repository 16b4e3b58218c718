-- Texts in which tokens are spelled.
use Rattle.std.specs.Prelude.{◌≡◌, ◌<◌, ℕ, Bool, true, not, List, [], ◌∷◌, ◌++◌, ◌==◌, ◌&&◌, ◌^◌, length, map}
use Rattle.std.specs.List.{list_all}
use Rattle.design_lex.specs.Cuts.{stops}
use Rattle.verilog_lex.specs.Numbers.{is_width}
use Rattle.verilog_lex.specs.Octet.{is_blank, in_line, is_word_octet, begins_base}
use Rattle.verilog_lex.specs.Tokens.{Lexeme}
use Rattle.verilog_tokens.specs.Spelling.{spelling}
use Rattle.verilog_tokens.specs.declared.token.Sign.TheVariants.{Equals, Less}
use Rattle.verilog_tokens.specs.declared.token.Token.{Token}
use Rattle.verilog_tokens.specs.declared.token.Token.TheVariants as T

-- Tokens that a text can be written with: numbers are below 2^32, words have 1 to 1,024 bits, what follows `esi_` goes on with
-- octets of words, and a comment does not go past its line.
abbrev pub IsSpelled : Token → Type 0
IsSpelled (T.Keyword keyword) = Unit {0}
IsSpelled (T.Sign sign) = Unit {0}
IsSpelled (T.Net n) = n < 2 ^ 32
IsSpelled (T.Port port) = port.channel < 2 ^ 32
IsSpelled T.Clock = Unit {0}
IsSpelled T.Reset = Unit {0}
IsSpelled (T.Title title) = list_all is_word_octet title ≡ true
IsSpelled T.Other = ⊥
IsSpelled (T.Number n) = n < 2 ^ 32
IsSpelled T.LeadingZero = ⊥
IsSpelled (T.Constant word) = is_width (length word) ≡ true
IsSpelled (T.BadConstant fault) = ⊥
IsSpelled (T.Comment line) = list_all in_line line ≡ true
IsSpelled T.Faulty = ⊥
IsSpelled T.EndOfText = ⊥

-- What stands behind a token does not go on with it: no letter, digit or `_` behind a word, a number or a constant, no `'h` behind
-- a number, no `=` behind `=` and `<`, and LF or the end behind a comment.
abbrev pub stands_apart : Token → List ℕ → Bool
stands_apart (T.Sign Equals) behind = stops (λ b. b == 61) behind
stands_apart (T.Sign Less) behind = stops (λ b. b == 61) behind
stands_apart (T.Sign _) behind = true
stands_apart (T.Number n) behind = stops is_word_octet behind && not (begins_base behind)
stands_apart (T.Comment line) behind = stops in_line behind
stands_apart _ behind = stops is_word_octet behind

-- a text in which these tokens are spelled in order, each apart from what stands behind it, with blanks between them
pub data Spells : (text : List ℕ) → List Token → Type 0 where
  ended : Spells [] []
  blank : (b : ℕ) (text : List ℕ) (ts : List Token) → is_blank b ≡ true → Spells text ts → Spells (b ∷ text) ts
  token : (t : Token) (text : List ℕ) (ts : List Token) → IsSpelled t → stands_apart t text ≡ true → Spells text ts → Spells (spelling t ++ text) (t ∷ ts)

-- the tokens of lexemes, without their places
abbrev pub tokens_in : List Lexeme → List Token
tokens_in lexemes = map (λ (x : Lexeme). x.1) lexemes

-- What a cut of a design text is, said of the whole text: gaps and tokens in turn, each token as long as it can be.
use Rattle.std.specs.Prelude.{◌≡◌, ℕ, Bool, true, false, not, List, [], ◌∷◌, ◌++◌, ◌==◌, ◌&&◌, ◌+◌, ◌<◌, length, slice_index}
use Rattle.std.specs.List.{list_all}
use Rattle.std.specs.Char.{is_ascii_digit}
use Rattle.design_lex.specs.Octet.{is_blank, begins_word, is_word_octet, is_hex_digit, is_sign, begins_gap}
use Rattle.design_lex.specs.Tokens.{Lexeme, word_token, decimal, hexadecimal}
use Rattle.design_lex.specs.declared.token.LexicalRule.TheVariants.{UnknownOctet}
use Rattle.design_lex.specs.declared.token.Token.{Token}
use Rattle.design_lex.specs.declared.token.Token.TheVariants.{Sign, Faulty}

-- an octet that passes the test does not stand at the front
abbrev pub stops : (ℕ → Bool) → List ℕ → Bool
stops test [] = true
stops test (b ∷ text) = not (test b)

-- all octets pass the test, and the next one does not
pub record IsRun (test : ℕ → Bool) (run behind : List ℕ) : Type 0 where
  pub all : list_all test run ≡ true
  pub longest : stops test behind ≡ true

-- `0x` stands at the front
abbrev pub begins_hexadecimal : List ℕ → Bool
begins_hexadecimal text = slice_index text 0 == 48 && slice_index text 1 == 120

-- octets are the longest token in front of the octets behind them, and mean this token
pub data IsToken : (octets behind : List ℕ) → Token → Type 0 where
  word : (octets behind : List ℕ) → begins_word (slice_index octets 0) ≡ true → IsRun is_word_octet octets behind → IsToken octets behind (word_token octets)
  decimal_number : (octets behind : List ℕ) → 0 < length octets → IsRun is_ascii_digit octets behind → begins_hexadecimal (octets ++ behind) ≡ false → IsToken octets behind (decimal octets)
  hexadecimal_number : (digits behind : List ℕ) → IsRun is_hex_digit digits behind → IsToken (48 ∷ (120 ∷ digits)) behind (hexadecimal digits)
  one_sign : (b : ℕ) (behind : List ℕ) → is_sign b ≡ true → IsToken (b ∷ []) behind (Sign b)
  unknown : (b : ℕ) (behind : List ℕ) → begins_word b ≡ false → is_ascii_digit b ≡ false → is_sign b ≡ false → begins_gap (b ∷ behind) ≡ false → IsToken (b ∷ []) behind (Faulty UnknownOctet)

-- no LF is among the octets
abbrev pub is_one_line : List ℕ → Bool
is_one_line octets = list_all (λ b. not (b == 10)) octets

-- Blanks and comments. A comment is `//` and all that stands on its line, and goes to the LF or to the end of the text.
pub data IsGap : (gap behind : List ℕ) → Type 0 where
  none : (behind : List ℕ) → IsGap [] behind
  blank : (b : ℕ) (gap behind : List ℕ) → is_blank b ≡ true → IsGap gap behind → IsGap (b ∷ gap) behind
  comment : (line gap behind : List ℕ) → slice_index line 0 ≡ 47 → is_one_line line ≡ true → IsGap gap behind → IsGap (47 ∷ (line ++ 10 ∷ gap)) behind
  last_comment : (line : List ℕ) → slice_index line 0 ≡ 47 → is_one_line line ≡ true → IsGap (47 ∷ line) []

-- a text from an offset on begins with a gap and this lexeme, and the rest stands behind them
pub record Begins (at : ℕ) (text : List ℕ) (x : Lexeme) (behind : List ℕ) : Type 0 where
  pub gap : List ℕ
  pub octets : List ℕ
  pub parts : text ≡ gap ++ (octets ++ behind)
  pub is_gap : IsGap gap (octets ++ behind)
  pub span : x.0 ≡ (at + length gap, at + length gap + length octets)
  pub is_token : IsToken octets behind x.1

-- a text from an offset on is cut into these lexemes: nothing but gaps stands between them, and nothing is left out
pub data IsCut : (at : ℕ) (text : List ℕ) → List Lexeme → Type 0 where
  ended : (at : ℕ) (text : List ℕ) → IsGap text [] → IsCut at text []
  goes_on : (at : ℕ) (text behind : List ℕ) (x : Lexeme) (rest : List Lexeme) → Begins at text x behind → IsCut x.0.1 behind rest → IsCut at text (x ∷ rest)

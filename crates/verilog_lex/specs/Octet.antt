-- What an octet of a Verilog text may be.
use Rattle.std.specs.Prelude.{ℕ, Bool, not, List, [], ◌∷◌, Option, Some, None, ◌==◌, ◌||◌, ◌&&◌, if◌then◌else◌, slice_index}
use Rattle.std.specs.Char.{is_ascii_digit}
use Rattle.std.specs.Int.{is_in_range}
use Rattle.verilog_tokens.specs.declared.token.Sign.{Sign}
use Rattle.verilog_tokens.specs.declared.token.Sign.TheVariants.{LeftParenthesis, RightParenthesis, LeftBracket, RightBracket, LeftBrace, RightBrace, Comma, Semicolon, Colon, Question, At, Tilde, Ampersand, Bar, Caret, Plus, Minus, Equals, Less}

-- space and LF
abbrev pub is_blank : ℕ → Bool
is_blank b = b == 32 || b == 10

-- any octet but LF
abbrev pub in_line : ℕ → Bool
in_line b = not (b == 10)

-- a letter or `_`
abbrev pub begins_word : ℕ → Bool
begins_word b = is_in_range 97 122 b || is_in_range 65 90 b || b == 95

-- a letter, a digit or `_`
abbrev pub is_word_octet : ℕ → Bool
is_word_octet b = begins_word b || is_ascii_digit b

-- a digit or one of the letters a to f
abbrev pub is_hex_digit : ℕ → Bool
is_hex_digit b = is_ascii_digit b || is_in_range 97 102 b

-- `//` stands at the front
abbrev pub begins_comment : List ℕ → Bool
begins_comment text = slice_index text 0 == 47 && slice_index text 1 == 47

-- `'h` stands at the front
abbrev pub begins_base : List ℕ → Bool
begins_base text = slice_index text 0 == 39 && slice_index text 1 == 104

-- `==` stands at the front
abbrev pub begins_equality : List ℕ → Bool
begins_equality text = slice_index text 0 == 61 && slice_index text 1 == 61

-- `<=` stands at the front
abbrev pub begins_assignment : List ℕ → Bool
begins_assignment text = slice_index text 0 == 60 && slice_index text 1 == 61

-- the signs of one octet
abbrev pub signs : List (ℕ × Sign)
signs =
    (40, LeftParenthesis)
    ∷ (41, RightParenthesis)
    ∷ (91, LeftBracket)
    ∷ (93, RightBracket)
    ∷ (123, LeftBrace)
    ∷ (125, RightBrace)
    ∷ (44, Comma)
    ∷ (59, Semicolon)
    ∷ (58, Colon)
    ∷ (63, Question)
    ∷ (64, At)
    ∷ (126, Tilde)
    ∷ (38, Ampersand)
    ∷ (124, Bar)
    ∷ (94, Caret)
    ∷ (43, Plus)
    ∷ (45, Minus)
    ∷ (61, Equals)
    ∷ (60, Less)
    ∷ []

-- the sign of an octet by a table
abbrev pub sign_in : List (ℕ × Sign) → ℕ → Option Sign
sign_in [] b = None
sign_in (s ∷ ss) b = if b == s.0 then Some s.1 else sign_in ss b

abbrev pub sign_of : ℕ → Option Sign
sign_of b = sign_in signs b

-- The canonical text of tokens (docs/design-text.md, section "Printing").
use Rattle.std.specs.Prelude.{◌≡◌, ℕ, Bool, false, ◌==◌, ◌||◌, if◌then◌else◌, List, [], ◌∷◌, ◌++◌, codes, refl}
use Rattle.std.specs.Fmt.{decimal, digits}
use Rattle.design_lex.specs.Spellings.{class_letters}
use Rattle.design_lex.specs.declared.token.Class.TheVariants.{Unsigned}
use Rattle.design_lex.specs.declared.token.Token.{Token}
use Rattle.design_lex.specs.declared.token.Token.TheVariants.{Word, TypeWord, Number, Sign, Faulty, End}

-- the octets of a token: numbers are decimal
abbrev pub token_text : Token → List ℕ
token_text (Word w) = w
token_text (TypeWord class width) = class_letters class ++ decimal width
token_text (Number n) = decimal n
token_text (Sign b) = b ∷ []
token_text (Faulty fault) = []
token_text End = []

-- a sign whose octet passes the test
abbrev pub is_sign_with : (ℕ → Bool) → Token → Bool
is_sign_with test (Word w) = false
is_sign_with test (TypeWord class width) = false
is_sign_with test (Number n) = false
is_sign_with test (Sign b) = test b
is_sign_with test (Faulty fault) = false
is_sign_with test End = false

-- after ; { } a line ends
abbrev pub ends_line : Token → Bool
ends_line = is_sign_with (λ b. b == 59 || b == 123 || b == 125)

-- before ; : , . ) ] > < [ ( stands no space
abbrev pub no_space_before : Token → Bool
no_space_before = is_sign_with (λ b. b == 59 || b == 58 || b == 44 || b == 46 || b == 41 || b == 93 || b == 62 || b == 60 || b == 91 || b == 40)

-- after ( [ < . stands no space
abbrev pub no_space_after : Token → Bool
no_space_after = is_sign_with (λ b. b == 40 || b == 91 || b == 60 || b == 46)

-- what stands after a token before the next one
abbrev pub line_end : Token → List ℕ
line_end t = if ends_line t then 10 ∷ [] else []

-- what stands between two tokens: LF where a line ends, else one space or nothing
abbrev pub gap : Token → Token → List ℕ
gap t u = if ends_line t then 10 ∷ [] else (if no_space_after t || no_space_before u then [] else 32 ∷ [])

-- The text of the tokens in order, with the gap of each two between them, and the end of the line after the last one.
abbrev pub canonical : List Token → List ℕ
canonical [] = []
canonical (t ∷ []) = token_text t ++ line_end t
canonical (t ∷ (u ∷ ts)) = token_text t ++ (gap t u ++ canonical (u ∷ ts))

-- ---- worked examples

pipe_text : canonical (Word (codes "esi") ∷ Number 1 ∷ Sign 59 ∷ Word (codes "pipe") ∷ TypeWord Unsigned 8 ∷ Word (codes "stages") ∷ Number 2 ∷ Sign 59 ∷ []) ≡ codes "esi 1;\npipe ui8 stages 2;\n"
unfolding digits
pipe_text = refl

-- Pieces whose tokens stand apart: no token goes on with the octets behind it.
use Rattle.std.specs.Prelude.{◌≡◌, ℕ, ◌==◌, ◌&&◌, not, Bool, true, false, List, [], ◌∷◌, ◌++◌, refl}
use Rattle.std.proofs.Common.{◌∙◌, ap}
use Rattle.std.proofs.lemmas.Bool.{false≢true}
use Rattle.design_lex.specs.Cuts.{stops}
use Rattle.verilog_lex.specs.Octet.{in_line, is_word_octet, begins_base}
use Rattle.verilog_lex.specs.Spelled.{IsSpelled, Spells, stands_apart}
use Rattle.verilog_lex.specs.Spelled.Spells.{ended, blank, token}
use Rattle.verilog_tokens.specs.declared.token.Sign.{Sign}
use Rattle.verilog_tokens.specs.declared.token.Sign.TheVariants.{Equals, Less, Comma}
use Rattle.verilog_tokens.specs.declared.token.Token.{Token}
use Rattle.verilog_tokens.specs.declared.token.Token.TheVariants as T
use Rattle.verilog_tokens.specs.Spelling.{sign_text}
use Rattle.verilog_text.specs.declared.piece.Piece.{Piece}
use Rattle.verilog_text.specs.declared.piece.Piece.TheVariants.{Space, Indent, LineEnd, Spelled}
use Rattle.verilog_text.specs.Blanks.{piece_text, text_of_pieces, tokens_in}

-- ---- what stands behind a token

-- a blank
abbrev pub begins_blank : List Piece → Bool
begins_blank [] = false
begins_blank (Spelled t ∷ pieces) = false
begins_blank (_ ∷ pieces) = true

-- a blank or a sign
abbrev pub begins_apart : List Piece → Bool
begins_apart [] = false
begins_apart (Spelled (T.Sign sign) ∷ pieces) = true
begins_apart (Spelled _ ∷ pieces) = false
begins_apart (_ ∷ pieces) = true

-- the end of a line
abbrev pub begins_line_end : List Piece → Bool
begins_line_end (LineEnd ∷ pieces) = true
begins_line_end _ = false

-- A token may stand before these pieces: `=` and `<` before a blank, another sign before all, a comment before the end of its line, and
-- any other token before a blank or a sign.
abbrev pub may_precede : Token → List Piece → Bool
may_precede (T.Sign Equals) pieces = begins_blank pieces
may_precede (T.Sign Less) pieces = begins_blank pieces
may_precede (T.Sign _) pieces = true
may_precede (T.Comment line) pieces = begins_line_end pieces
may_precede _ pieces = begins_apart pieces

abbrev pub AreApart : List Piece → Type 0
AreApart [] = Unit {0}
AreApart (Spelled t ∷ pieces) = (may_precede t pieces ≡ true) × AreApart pieces
AreApart (_ ∷ pieces) = AreApart pieces

-- each token can be spelled
abbrev pub AreSpelled : List Token → Type 0
AreSpelled [] = Unit {0}
AreSpelled (t ∷ ts) = IsSpelled t × AreSpelled ts

-- ---- so their text spells them

blank_behind : (pieces : List Piece) → begins_blank pieces ≡ true → stops (λ b. b == 61) (text_of_pieces pieces) ≡ true
unfolding piece_text
blank_behind [] e = absurd (false≢true e)
blank_behind (Spelled t ∷ pieces) e = absurd (false≢true e)
blank_behind (Space ∷ pieces) e = refl
blank_behind (Indent ∷ pieces) e = refl
blank_behind (LineEnd ∷ pieces) e = refl

record GoesOnWithNone (text : List ℕ) : Type 0 where
  pub word : stops is_word_octet text ≡ true
  pub base : begins_base text ≡ false

sign_behind : (sign : Sign) (text : List ℕ) → GoesOnWithNone (sign_text sign ++ text)
sign_behind Comma text = record { word = refl; base = refl }
sign_behind _ text = record { word = refl; base = refl }

apart_behind : (pieces : List Piece) → begins_apart pieces ≡ true → GoesOnWithNone (text_of_pieces pieces)
unfolding piece_text
apart_behind [] e = absurd (false≢true e)
apart_behind (Space ∷ pieces) e = record { word = refl; base = refl }
apart_behind (Indent ∷ pieces) e = record { word = refl; base = refl }
apart_behind (LineEnd ∷ pieces) e = record { word = refl; base = refl }
apart_behind (Spelled (T.Sign sign) ∷ pieces) e = sign_behind sign (text_of_pieces pieces)
apart_behind (Spelled t ∷ pieces) e = absurd (false≢true e)

line_behind : (pieces : List Piece) → begins_line_end pieces ≡ true → stops in_line (text_of_pieces pieces) ≡ true
unfolding piece_text
line_behind [] e = absurd (false≢true e)
line_behind (LineEnd ∷ pieces) e = refl
line_behind (_ ∷ pieces) e = absurd (false≢true e)

and_true : (a b : Bool) → a ≡ true → b ≡ false → (a && not b) ≡ true
and_true a b e f = ap (λ c. c && not b) e ∙ ap (λ c. not c) f

apart : (t : Token) (pieces : List Piece) → may_precede t pieces ≡ true → stands_apart t (text_of_pieces pieces) ≡ true
apart (T.Sign Equals) pieces e = blank_behind pieces e
apart (T.Sign Less) pieces e = blank_behind pieces e
apart (T.Sign _) pieces e = refl
apart (T.Number n) pieces e = let a = apart_behind pieces e in and_true (stops is_word_octet (text_of_pieces pieces)) (begins_base (text_of_pieces pieces)) a.word a.base
apart (T.Comment line) pieces e = line_behind pieces e
apart _ pieces e = (apart_behind pieces e).word

-- a text of pieces that stand apart spells their tokens
pub pieces_spell : (pieces : List Piece) → AreSpelled (tokens_in pieces) → AreApart pieces → Spells (text_of_pieces pieces) (tokens_in pieces)
unfolding piece_text
pieces_spell [] spelled e = ended
pieces_spell (Space ∷ pieces) spelled e = blank 32 (text_of_pieces pieces) (tokens_in pieces) refl (pieces_spell pieces spelled e)
pieces_spell (Indent ∷ pieces) spelled e = blank 32 (32 ∷ text_of_pieces pieces) (tokens_in pieces) refl (blank 32 (text_of_pieces pieces) (tokens_in pieces) refl (pieces_spell pieces spelled e))
pieces_spell (LineEnd ∷ pieces) spelled e = blank 10 (text_of_pieces pieces) (tokens_in pieces) refl (pieces_spell pieces spelled e)
pieces_spell (Spelled t ∷ pieces) spelled e = token t (text_of_pieces pieces) (tokens_in pieces) spelled.0 (apart t pieces e.0) (pieces_spell pieces spelled.1 e.1)

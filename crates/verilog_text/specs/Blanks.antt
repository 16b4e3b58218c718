-- The pieces of a text: tokens, and the blanks between them.
use Rattle.std.specs.Prelude.{ℕ, List, [], ◌∷◌, flat_map, codes}
use Rattle.verilog_tokens.specs.declared.token.Token.{Token}
use Rattle.verilog_tokens.specs.Spelling.{spelling}
use Rattle.verilog_text.specs.declared.piece.Piece.{Piece}
use Rattle.verilog_text.specs.declared.piece.Piece.TheVariants.{Space, Indent, LineEnd, Spelled}

-- the octets of a piece
unfoldable pub piece_text : Piece → List ℕ
piece_text Space = codes " "
piece_text Indent = codes "  "
piece_text LineEnd = codes "\n"
piece_text (Spelled token) = spelling token

-- the text of pieces, one after another
abbrev pub text_of_pieces : List Piece → List ℕ
text_of_pieces pieces = flat_map piece_text pieces

-- the tokens among pieces: what is left without the blanks
abbrev pub token_in : Piece → List Token
token_in Space = []
token_in Indent = []
token_in LineEnd = []
token_in (Spelled token) = token ∷ []

abbrev pub tokens_in : List Piece → List Token
tokens_in pieces = flat_map token_in pieces

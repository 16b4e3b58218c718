-- Worked texts: where lines end, and where no space stands.
use Rattle.std.specs.Prelude.{◌≡◌, [], ◌∷◌, codes, refl}
use Rattle.std.specs.Fmt.{digits}
use Rattle.design_lex.specs.declared.token.Class.TheVariants.{Unsigned}
use Rattle.design_lex.specs.declared.token.Token.TheVariants.{Word, TypeWord, Number}
use Rattle.design_tree.specs.Tokens.{SEMICOLON, COLON, COMMA, DOT, EQUALS, OPEN_BRACE, CLOSE_BRACE, OPEN, CLOSE, LESS, GREATER, OPEN_BRACKET, CLOSE_BRACKET}
use Rattle.design_printer.specs.Canonical.{canonical}

no_text : canonical [] ≡ []
no_text = refl

braces : canonical (Word (codes "bundle") ∷ Word (codes "b") ∷ OPEN_BRACE ∷ CLOSE_BRACE ∷ []) ≡ codes "bundle b {\n}\n"
braces = refl

member : canonical (Word (codes "arg") ∷ COLON ∷ Word (codes "to_hw") ∷ Word (codes "struct") ∷ LESS ∷ Word (codes "a") ∷ COLON ∷ TypeWord Unsigned 8 ∷ GREATER ∷ SEMICOLON ∷ []) ≡ codes "arg: to_hw struct<a: ui8>;\n"
unfolding digits
member = refl

drive : canonical (Word (codes "drive") ∷ Word (codes "add") ∷ OPEN_BRACKET ∷ Number 10 ∷ CLOSE_BRACKET ∷ DOT ∷ Word (codes "x") ∷ EQUALS ∷ Word (codes "q") ∷ SEMICOLON ∷ []) ≡ codes "drive add[10].x = q;\n"
unfolding digits
drive = refl

module_head : canonical (Word (codes "m") ∷ OPEN ∷ Word (codes "in") ∷ Word (codes "a") ∷ COMMA ∷ Word (codes "out") ∷ Word (codes "b") ∷ CLOSE ∷ OPEN_BRACE ∷ []) ≡ codes "m(in a, out b) {\n"
module_head = refl

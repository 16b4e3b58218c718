-- Tokens with their places.
use Rattle.std.specs.Prelude.{ℕ, List, [], ◌∷◌, Option, Some, None}

-- a token, between the place of its first octet and the place behind its last one
abbrev pub Lexeme : Type 0 → Type 0
Lexeme T = (ℕ × ℕ) × T

abbrev pub Lexemes : Type 0 → Type 0
Lexemes T = List (Lexeme T)

-- where the first token begins, nowhere at the end of the text
abbrev pub first_place : {T : Type 0} → Lexemes T → Option ℕ
first_place [] = None
first_place (x ∷ xs) = Some x.0.0

-- what stands behind the first token
abbrev pub rest : {T : Type 0} → Lexemes T → Lexemes T
rest [] = []
rest (x ∷ xs) = xs

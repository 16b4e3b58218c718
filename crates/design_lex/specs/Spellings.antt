-- How the tokens of a design text are spelled.
use Rattle.std.specs.Prelude.{◌≡◌, ℕ, true, List, [], ◌∷◌, slice_index}
use Rattle.std.specs.List.{list_all}
use Rattle.design_lex.specs.Octet.{begins_word, is_word_octet}
use Rattle.design_lex.specs.Tokens.{Lexeme, word_token}
use Rattle.design_lex.specs.declared.token.Class.{Class}
use Rattle.design_lex.specs.declared.token.Class.TheVariants.{Unsigned, Signed, Plain}
use Rattle.design_lex.specs.declared.token.Token.{Token}
use Rattle.design_lex.specs.declared.token.Token.TheVariants.{Word, TypeWord, Number, Sign, Faulty, End}

-- Octets that are a word token: they begin with a letter or `_`, go on with letters, digits and `_`, are no type word
-- and not too many. Of a word that is known each field is `refl`, under `unfolding word_token`.
pub record IsWordText (w : List ℕ) : Type 0 where
  pub begins : begins_word (slice_index w 0) ≡ true
  pub octets : list_all is_word_octet w ≡ true
  pub spells : word_token w ≡ Word w

-- the letters of a class
abbrev pub class_letters : Class → List ℕ
class_letters Unsigned = 117 ∷ (105 ∷ [])
class_letters Signed = 115 ∷ (105 ∷ [])
class_letters Plain = 105 ∷ []

-- a word's octets are a word's
abbrev pub IsSpelled : Token → Type 0
IsSpelled (Word w) = IsWordText w
IsSpelled (TypeWord class width) = Unit {0}
IsSpelled (Number n) = Unit {0}
IsSpelled (Sign b) = Unit {0}
IsSpelled (Faulty fault) = Unit {0}
IsSpelled End = Unit {0}

-- so are those of each word among lexemes
abbrev pub AreSpelled : List Lexeme → Type 0
AreSpelled [] = Unit {0}
AreSpelled (x ∷ rest) = IsSpelled x.1 × AreSpelled rest

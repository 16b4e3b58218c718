-- What the readers of types answer, as relations between the octets of a text and a type.
use Rattle.std.specs.Prelude.{◌≡◌, ℕ, ◌++◌, length, Option, Some, None, List}
use Rattle.ll1_grammar.specs.Lexemes.{Lexemes}
use Rattle.ll1_grammar.specs.Rule.{Tree}
use Rattle.ll1_grammar.specs.Rule.Rule.{call}
use Rattle.ll1_grammar.specs.Kinds.{spell}
use Rattle.ll1_grammar.specs.declared.refusal.TokenRefusal.{TokenRefusal}
use Rattle.ll1_grammar.specs.WithoutLimits.{no_check}
use Rattle.ll1_grammar.specs.Nested.{NoTree, TooDeep, no_level}
use Rattle.ll1_grammar.specs.Nesting.{NestingTree, NestingBreak}
use Rattle.ll1_grammar.specs.NestingLaws.{all_own}
use Rattle.ll1_grammar.specs.Texts.{StopsAt}
use Rattle.esi_base.specs.Places.{place_at}
use Rattle.esi_base.specs.declared.place.Place.{Place}
use Rattle.esi_base.specs.declared.place.Refusal.{Refusal}
use Rattle.design_lex.specs.Tokens.{tokens}
use Rattle.design_lex.specs.declared.token.Token.{Token}
use Rattle.channel_types.specs.declared.esi_type.EsiType.{EsiType}
use Rattle.channel_types.specs.declared.limits.TheConstants.{OPEN_TYPES}
use Rattle.design_grammar.specs.Rules.{designs}
use Rattle.channel_types.specs.TypeGrammar.{type_check, type_of, Found}

-- a tree of the grammar of types, that many levels deep at most, all of whose types are checked good
abbrev pub IsTypeTree : ℕ → Tree Token → Type 0
IsTypeTree levels t = NestingTree designs all_own type_check (no_level designs) NoTree (TooDeep designs) levels 0 t

-- where such a tree breaks a limit
abbrev pub TypeBreak : ℕ → ℕ → TokenRefusal → ℕ → Tree Token → Type 0
TypeBreak levels = NestingBreak designs all_own type_check (no_level designs) NoTree (TooDeep designs) levels

-- This type stands in the text at the offset, and ends before this one.
pub record IsTypeAt (text : List ℕ) (at : ℕ) (found : Found) : Type 0 where
  pub tree : Tree Token
  pub rest : Lexemes Token
  pub fits : IsTypeTree OPEN_TYPES tree
  pub parts : tokens text at ≡ spell tree ++ rest
  pub is : found ≡ type_of OPEN_TYPES tree

-- The whole text is that of the type.
pub record IsTypeText (text : List ℕ) (ty : EsiType) : Type 0 where
  pub tree : Tree Token
  pub fits : IsTypeTree OPEN_TYPES tree
  pub parts : tokens text 0 ≡ spell tree
  pub is : ty ≡ (type_of OPEN_TYPES tree).0

-- the place of an offset, or of the text's end
abbrev pub place_in : List ℕ → Option ℕ → Place
place_in text (Some at) = place_at text at
place_in text None = place_at text (length text)

-- the refusal of a token, reported by line and column
abbrev pub refusal_at : List ℕ → TokenRefusal → Refusal
refusal_at text refusal = record { number = refusal.number; place = place_in text refusal.at }

-- From the offset on the text stops to be a type: at the first token with which no type goes on, by all the kinds that
-- may stand there, or at which a limit is broken.
pub record StopsToBeType (text : List ℕ) (at : ℕ) (refusal : Refusal) : Type 0 where
  pub token_refusal : TokenRefusal
  pub stops : StopsAt designs no_check (TypeBreak OPEN_TYPES) (call 0) (tokens text at) token_refusal
  pub is_reported : refusal ≡ refusal_at text token_refusal

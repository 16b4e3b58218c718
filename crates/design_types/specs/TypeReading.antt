-- What the readers of types answer, as functions of the lexemes that are left.
use Rattle.std.specs.Prelude.{ℕ, zero, suc, List, [], ◌∷◌, Result, Ok, Err, if◌then◌else◌}
use Rattle.ll1_grammar.specs.Lexemes.{Lexemes, first_place}
use Rattle.ll1_grammar.specs.declared.refusal.TokenRefusal.{TokenRefusal}
use Rattle.ll1_grammar.specs.Kinds.{among, first_kind}
use Rattle.ll1_grammar.specs.Readers.{Read, Reader, read_to_end, refused, pure, ◌>>=◌, ◌>>◌, on, checking}
use Rattle.design_lex.specs.declared.token.Token.{Token}
use Rattle.design_grammar.specs.declared.kind.Kind.TheVariants.{Nothing, TypeWord, Less, Greater, Colon, Comma, Void, Struct, Array}
use Rattle.design_grammar.specs.Kinds.{code}
use Rattle.design_grammar.specs.Grammar.{expect, name, count, type_word}
use Rattle.design_grammar.specs.RuleNumbers.{rule_number}
use Rattle.design_grammar.specs.declared.rule.GrammarRule.TheVariants.{TooManyOpenTypes}
use Rattle.design_lex.specs.Tokens.{tokens}
use Rattle.channel_types.specs.declared.esi_type.EsiType.TheVariants as V
use Rattle.channel_types.specs.declared.esi_type.Field.{Field}
use Rattle.esi_base.specs.declared.place.Refusal.{Refusal}
use Rattle.channel_types.specs.declared.esi_type.EsiType.{EsiType}
use Rattle.channel_types.specs.declared.limits.TheConstants.{OPEN_TYPES}
use Rattle.channel_types.specs.TypeAnswers.{refusal_at}
use Rattle.design_grammar.specs.Rules.{designs, type_first_set}
use Rattle.design_grammar.specs.Lists.{items_onto, after_comma}
use Rattle.channel_types.specs.TypeGrammar.{check_of, Found}

-- a type word
unfoldable pub bits : Reader Token Found
bits = type_word >>= λ word. pure (V.Bits word.0.0 word.0.1, word.1)

unfoldable pub void : Reader Token Found
void = expect Void >>= λ end. pure (V.Void, end)

-- `inner` reads the types that stand in a type
module _ (inner : Reader Token Found) where
  unfoldable pub field : Reader Token Field
  field = do
    n ← name
    expect Colon
    found ← inner
    pure (record { name = n.0; ty = found.0 })

  -- the first field and all those after commas
  abbrev pub more_fields : Field → Reader Token (List Field)
  more_fields f = items_onto (code Comma ∷ []) (after_comma field) (f ∷ [])

  unfoldable pub struct_type : Reader Token Found
  struct_type = do
    expect Struct
    expect Less
    f ← field
    fields ← more_fields f
    end ← expect Greater
    pure (V.Struct fields, end)

  unfoldable pub array_type : Reader Token Found
  array_type = do
    expect Array
    expect Less
    item ← inner
    expect Comma
    n ← count
    end ← expect Greater
    pure (V.Array item.0 n, end)

  -- one level of a type
  unfoldable pub level : Reader Token Found
  level = on designs (code TypeWord) bits (on designs (code Void) void (on designs (code Struct) struct_type array_type))

-- the refusal where no further type may be open: that of too many types, where one begins
unfoldable pub too_deep : Lexemes Token → TokenRefusal
too_deep ts =
    if among type_first_set (first_kind designs ts) then record { number = rule_number TooManyOpenTypes; at = first_place ts }
    else refused designs (code TypeWord ∷ []) ts

-- a type, with at most that many open at a place
unfoldable pub type_at : ℕ → Reader Token Found
type_at zero ts = Err (too_deep ts)
type_at (suc levels) ts = checking (λ found. check_of found.0) (level (type_at levels)) ts

-- what was read, whatever is left
abbrev pub without_rest : {A : Type 0} → Read Token A → Result A TokenRefusal
without_rest (Ok x) = Ok x.0
without_rest (Err refusal) = Err refusal

-- the type that stands at an offset of a text, and the offset after it
abbrev pub found_at : List ℕ → ℕ → Result Found TokenRefusal
found_at text at = without_rest (type_at OPEN_TYPES (tokens text at))

-- the type of a whole text, and the offset after it
abbrev pub whole_text : List ℕ → Result Found TokenRefusal
whole_text text = read_to_end designs (code Nothing ∷ []) (type_at OPEN_TYPES (tokens text 0))

-- the same, with the place of a refusal by line and column
abbrev pub reported_in : {A : Type 0} → List ℕ → Result A TokenRefusal → Result A Refusal
reported_in text (Ok found) = Ok found
reported_in text (Err refusal) = Err (refusal_at text refusal)

-- the type alone
abbrev pub type_alone : Result Found TokenRefusal → Result EsiType TokenRefusal
type_alone (Ok found) = Ok found.0
type_alone (Err refusal) = Err refusal

-- what a text means at an offset: a type and the offset after it, or a refusal
abbrev pub type_from : List ℕ → ℕ → Result Found Refusal
type_from text at = reported_in text (found_at text at)

-- what a whole text means: a type, or a refusal
abbrev pub type_of_text : List ℕ → Result EsiType Refusal
type_of_text text = reported_in text (type_alone (whole_text text))

-- The values of the trees of types (the grammar of the design text: `Rules` of design_grammar), and how types are checked:
-- when the last token was read.
use Rattle.std.specs.Prelude.{ℕ, zero, suc, ◌∷◌}
use Rattle.ll1_grammar.specs.Rule.{Tree}
use Rattle.ll1_grammar.specs.Kinds.{first, second, inside}
use Rattle.ll1_grammar.specs.Trees.{Checks}
use Rattle.ll1_grammar.specs.Bridge.{leaf_by, either, items}
use Rattle.design_lex.specs.declared.token.Token.{Token}
use Rattle.design_grammar.specs.Grammar.{word_in, number_in, width_in}
use Rattle.design_grammar.specs.Rules.{designs}
use Rattle.channel_types.specs.declared.esi_type.EsiType.{EsiType}
use Rattle.channel_types.specs.declared.esi_type.EsiType.TheVariants as V
use Rattle.channel_types.specs.declared.esi_type.Field.{Field}
use Rattle.channel_types.specs.TypeRules.{broken_rule, number_or_zero}

-- The number of the rule that a type breaks all of whose parts are good, 0 for none.
abbrev pub check_of : EsiType → ℕ
check_of ty = number_or_zero (broken_rule ty)

-- The value of a tree of a type: the type, and the offset after its last octet. `inner` is that of the types in it.
abbrev pub Found : Type 0
Found = EsiType × ℕ

abbrev pub end_in : Tree Token → ℕ
end_in t = leaf_by designs (λ x. x.0.1) t

module _ (inner : Tree Token → Found) where
  abbrev pub field_in : Tree Token → Field
  field_in t = record { name = leaf_by designs (λ x. word_in x.1) (first t); ty = (inner (second (second t))).0 }

  abbrev pub struct_in : Tree Token → Found
  struct_in t = (V.Struct (field_in (first t) ∷ items (λ w. field_in (second w)) (first (second t))), end_in (second (second t)))

  abbrev pub array_in : Tree Token → Found
  array_in t = (V.Array (inner (first t)).0 (leaf_by designs (λ x. number_in x.1) (first (second (second t)))), end_in (second (second (second t))))

  abbrev pub level_in : Tree Token → Found
  level_in =
      either (leaf_by designs (λ x. (V.Bits (width_in x.1).0 (width_in x.1).1, x.0.1)))
      (either (λ t. (V.Void, end_in t)) (either (λ t. struct_in (second (second t))) (λ t. array_in (second (second t)))))

-- to that many levels
abbrev pub type_of : ℕ → Tree Token → Found
type_of zero t = (V.Void, 0)
type_of (suc d) t = level_in (type_of d) (inside (inside t))

-- a level is checked by its value
abbrev pub type_check : ℕ → Checks Token
type_check d c t = check_of (level_in (type_of d) t).0

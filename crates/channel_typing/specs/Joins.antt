-- The type of two channels in step.
use Rattle.std.specs.Prelude.{ℕ, ◌+◌, ◌≤◌, ◌&&◌, Bool, nat_le, max, List, [], ◌∷◌, codes}
use Rattle.design_lex.specs.declared.limits.TheConstants.{WIDEST_TYPE}
use Rattle.channel_types.specs.declared.esi_type.EsiType.{EsiType}
use Rattle.channel_types.specs.declared.esi_type.EsiType.TheVariants as T
use Rattle.channel_types.specs.declared.esi_type.Field.{Field}
use Rattle.channel_types.specs.declared.limits.TheConstants.{OPEN_TYPES}
use Rattle.channel_types.specs.Types.{width_of, nesting_of}

abbrev pub field_of : List ℕ → EsiType → Field
field_of name ty = record { name = name; ty = ty }

-- struct<l: T, r: U>
abbrev pub join_type : EsiType → EsiType → EsiType
join_type left right = T.Struct (field_of (codes "l") left ∷ field_of (codes "r") right ∷ [])

-- Two types can be joined where their join is a type of a channel: of at most `WIDEST_TYPE` bits, and of at most `OPEN_TYPES`
-- types inside one another.
pub record IsJoinable (left right : EsiType) : Type 0 where
  pub wide : width_of (join_type left right) ≤ WIDEST_TYPE
  pub deep : nesting_of (join_type left right) ≤ OPEN_TYPES

-- the test of it
abbrev pub joinable : EsiType → EsiType → Bool
joinable left right = nat_le (width_of left + width_of right) WIDEST_TYPE && nat_le (max (nesting_of left) (nesting_of right) + 1) OPEN_TYPES

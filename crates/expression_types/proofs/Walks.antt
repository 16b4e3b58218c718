-- A walk through fields and the types of parts.
use Rattle.std.proofs.Common.{◌≡◌, Bool, true, false, List, [], ◌∷◌, length, refl, arith}
use Rattle.std.proofs.lemmas.Bool.{and_parts}
use Rattle.channel_types.specs.declared.esi_type.EsiType.{EsiType}
use Rattle.channel_types.specs.declared.esi_type.Field.{Field}
use Rattle.channel_types.specs.SameTypes.{same_types}
use Rattle.expression_types.specs.Typing.{fields_given}

-- there is one part for each field only where there are as many
given_length : (fields : List Field) (types : List EsiType) → fields_given fields types ≡ true → length fields ≡ length types
given_length [] [] e = refl
given_length [] (ty ∷ types) e = absurd (cc)
given_length (f ∷ fs) [] e = absurd (cc)
given_length (f ∷ fs) (ty ∷ types) e = let p = and_parts (same_types ty f.ty) (fields_given fs types) e in let n = given_length fs types p.1 in omega arith

pub not_given : (fields : List Field) (types : List EsiType) → (length fields ≡ length types → ⊥) → false ≡ fields_given fields types
not_given fields types differ = of (fields_given fields types) (given_length fields types)
  where
    of : (given : Bool) → (given ≡ true → length fields ≡ length types) → false ≡ given
    of true length_of = absurd (differ (length_of refl))
    of false length_of = refl

pub none_left : (fields : List Field) (types : List EsiType) → length fields ≡ length types → length fields ≡ 0 → fields_given fields types ≡ true
none_left [] [] e n = refl
none_left [] (ty ∷ types) e n = absurd (omega arith)
none_left (f ∷ fs) types e n = absurd (omega arith)

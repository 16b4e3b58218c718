-- A struct holds that a type is good as `∥ IsGoodType ty ∥₁`, since antt cannot see that `IsGoodType` has one proof at
-- most. Nothing is lost by that: the fact itself follows from what is held.
use Rattle.std.specs.Prelude.{◌≡◌, List, [], ◌∷◌, map, All}
use Rattle.std.proofs.Common.{refl, ap, subst}
use Rattle.std.proofs.Math.Bridge.{le_prop}
use Rattle.std.proofs.Math.Logic.{∥∥₁_elim, ∥∥₁_map}
use Rattle.std.proofs.Props.{props}
use Rattle.std.proofs.lemmas.List.Elements.{All-head, All-tail}
use Rattle.channel_types.specs.Types.{IsGoodType, IsEachGood, IsLevel, IsGoodField}
use Rattle.channel_types.specs.Goods.{good_level, good_fields, good_item, good_field, made_field}
use Rattle.channel_types.specs.declared.esi_type.EsiType.{EsiType}
use Rattle.channel_types.specs.declared.esi_type.EsiType.TheVariants.{rolls-Struct, rolls-Array}
use Rattle.channel_types.specs.declared.esi_type.EsiType.TheOpen.{EsiType-F, Field-F}
use Rattle.channel_types.specs.declared.esi_type.EsiType.TheViews.{roll-EsiType, roll-Field, out-roll-EsiType}
use Rattle.channel_types.specs.declared.esi_type.EsiType.TheFolds as folds
use Rattle.channel_types.specs.declared.esi_type.Field.{Field}

-- that a type, and a field, is good follows from what a struct would hold of it
abbrev TypeRecovers : EsiType → Type 0
TypeRecovers ty = ∥ IsEachGood ty ∥₁ → IsEachGood ty

abbrev FieldRecovers : Field → Type 0
FieldRecovers f = ∥ IsGoodField f ∥₁ → IsGoodField f

abbrev RecoverableType : Type 0
RecoverableType = (ty : EsiType) × TypeRecovers ty

abbrev RecoverableField : Type 0
RecoverableField = (f : Field) × FieldRecovers f

-- such fields, without the proofs
abbrev fields_of : List RecoverableField → List Field
fields_of held = map (λ e. e.0) held

-- what is said of a level has one proof at most
IsLevel-prop : (level : EsiType-F EsiType Field) → IsProp (IsLevel level)
IsLevel-prop level = Prim.hlevel props

level_recovers : (level : EsiType-F EsiType Field) → ∥ IsEachGood (roll-EsiType level) ∥₁ → IsLevel level
level_recovers level held_good = ∥∥₁_elim held_good (IsLevel-prop level) (λ good. subst IsLevel (out-roll-EsiType level) (good_level (roll-EsiType level) good))

-- the fields of a struct, each with the proof that it is good
good_fields_of : (held : List RecoverableField) → ∥ All IsGoodField (fields_of held) ∥₁ → List ((f : Field) × IsGoodField f)
good_fields_of [] held_good = []
good_fields_of (e ∷ es) held_good =
    (e.0, e.1 (∥∥₁_map held_good (λ all. All-head IsGoodField e.0 (fields_of es) all)))
    ∷ good_fields_of es (∥∥₁_map held_good (λ all. All-tail IsGoodField e.0 (fields_of es) all))

map-good_fields_of : (held : List RecoverableField) (held_good : ∥ All IsGoodField (fields_of held) ∥₁) → map (λ e. e.0) (good_fields_of held held_good) ≡ fields_of held
unfolding good_fields_of
map-good_fields_of [] held_good = refl
map-good_fields_of (e ∷ es) held_good = ap (λ s. e.0 ∷ s) (map-good_fields_of es (∥∥₁_map held_good (λ all. All-tail IsGoodField e.0 (fields_of es) all)))

each_recovers : (ty : EsiType) → TypeRecovers ty
each_recovers = folds.ind-EsiType TypeRecovers FieldRecovers
    (λ x y e. subst (λ x. TypeRecovers (roll-EsiType x)) e (of y))
    (λ x y e. subst (λ x. FieldRecovers (roll-Field x)) e (field y))
  where
    of : (y : EsiType-F RecoverableType RecoverableField) → TypeRecovers (roll-EsiType (folds.map-EsiType RecoverableType RecoverableField EsiType Field (λ e. e.0) (λ e. e.0) y))
    of (EsiType-F.Bits class width) held_good =
        folds.every_made-EsiType IsLevel (λ f. Unit {0}) (EsiType-F.Bits class width) (EsiType-F.Bits class width) refl (level_recovers _ held_good)
    of EsiType-F.Void held_good = folds.every_made-EsiType IsLevel (λ f. Unit {0}) EsiType-F.Void EsiType-F.Void refl (level_recovers _ held_good)
    of (EsiType-F.Struct held) held_good =
        let fields = ∥∥₁_map held_good (λ good. good_fields (fields_of held) (subst IsEachGood (rolls-Struct (fields_of held)) good)) in
        folds.every_made-EsiType IsLevel (λ f. Unit {0}) (EsiType-F.Struct (fields_of held)) (EsiType-F.Struct (good_fields_of held fields))
        (ap EsiType-F.Struct (map-good_fields_of held fields)) (level_recovers _ held_good)
    of (EsiType-F.Array held count) held_good =
        let item = ∥∥₁_map held_good (λ good. good_item held.0 count (subst IsEachGood (rolls-Array held.0 count) good)) in
        folds.every_made-EsiType IsLevel (λ f. Unit {0}) (EsiType-F.Array held.0 count) (EsiType-F.Array (held.0, held.1 item) count) refl (level_recovers _ held_good)

    field : (y : Field-F RecoverableType RecoverableField) → FieldRecovers (roll-Field (folds.map-Field RecoverableType RecoverableField EsiType Field (λ e. e.0) (λ e. e.0) y))
    field y held_good =
        let f = roll-Field (folds.map-Field RecoverableType RecoverableField EsiType Field (λ e. e.0) (λ e. e.0) y) in
        made_field f (y.ty.1 (∥∥₁_map held_good (good_field f)))

-- A type is good of which a struct holds it.
pub good_type_recovers : (ty : EsiType) → ∥ IsGoodType ty ∥₁ → IsGoodType ty
good_type_recovers ty held_good = record {
  each = each_recovers ty (∥∥₁_map held_good (λ good. good.each));
  nesting = ∥∥₁_elim held_good le_prop (λ good. good.nesting);
}

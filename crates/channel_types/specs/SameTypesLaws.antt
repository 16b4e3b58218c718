-- The test that two types are one is true exactly where they are.
use Rattle.std.proofs.Common.{◌≡◌, ℕ, Bool, ◌&&◌, List, [], ◌∷◌, map, refl, ap, sym, ◌∙◌, subst}
use Rattle.std.specs.Prelude.{IsTrue, ◌↔◌}
use Rattle.std.specs.Bool.{Decides}
use Rattle.std.proofs.lemmas.Bool.{and_parts, and_from}
use Rattle.std.proofs.lemmas.Bool.Decides.{Decides-eqb, Decides-at, same_from_decides}
use Rattle.std.proofs.lemmas.Slice.Eq.{bytes_eq-Decides}
use Rattle.design_lex.specs.declared.token.Class.{Class}
use Rattle.design_lex.specs.declared.token.Class.TheVariants.{Unsigned, Signed, Plain}
use Rattle.channel_types.specs.declared.esi_type.EsiType.{EsiType}
use Rattle.channel_types.specs.declared.esi_type.EsiType.TheOpen.{EsiType-F, Field-F}
use Rattle.channel_types.specs.declared.esi_type.EsiType.TheViews.{roll-EsiType, out-EsiType, roll-Field, out-roll-EsiType, roll-out-EsiType, roll-out-Field}
use Rattle.channel_types.specs.declared.esi_type.EsiType.TheFolds as folds
use Rattle.channel_types.specs.declared.esi_type.Field.{Field}
use Rattle.channel_types.specs.SameTypes.{TypeTest, FieldTest, same_class, same_fields, same_level, same_step, same_field_step, same_types, same_field}

-- The test decides, for every other type or field, whether the two are one.
abbrev pub IsTest : EsiType → Type 0
IsTest ty = (other : EsiType) → Decides (same_types ty other) (ty ≡ other)

abbrev pub IsFieldTest : Field → Type 0
IsFieldTest f = (other : Field) → Decides (same_field f other) (f ≡ other)

abbrev Tested : Type 0
Tested = (ty : EsiType) × IsTest ty

abbrev TestedField : Type 0
TestedField = (f : Field) × IsFieldTest f

abbrev bare : EsiType-F Tested TestedField → EsiType-F EsiType Field
bare = folds.map-EsiType Tested TestedField EsiType Field (λ e. e.0) (λ e. e.0)

abbrev tests_of : EsiType-F EsiType Field → EsiType-F TypeTest FieldTest
tests_of = folds.map-EsiType EsiType Field TypeTest FieldTest same_types same_field

-- ---- tests of two things

both_decide : {P Q : Type 0} → (p q : Bool) → Decides p P → Decides q Q → Decides (p && q) (P × Q)
both_decide p q one other = (λ e. let parts = and_parts p q e in (one.0 parts.0, other.0 parts.1), λ both. and_from p q (one.1 both.0) (other.1 both.1))

decides_as : {P Q : Type 0} → (r : Bool) → (P → Q) → (Q → P) → Decides r P → Decides r Q
decides_as r there back decides = (λ e. there (decides.0 e), λ q. decides.1 (back q))

same_class-Decides : (class other : Class) → Decides (same_class class other) (class ≡ other)
same_class-Decides Unsigned Unsigned = (λ e. refl, λ e. refl)
same_class-Decides Signed Signed = (λ e. refl, λ e. refl)
same_class-Decides Plain Plain = (λ e. refl, λ e. refl)
same_class-Decides class other = (λ e. absurd (cc), λ e. absurd (cc))

-- ---- levels

fields_decide : (held : List TestedField) (fields : List Field) → Decides (same_fields (map same_field (map (λ (e : TestedField). e.0) held)) fields) (map (λ (e : TestedField). e.0) held ≡ fields)
fields_decide [] [] = (λ e. refl, λ e. refl)
fields_decide [] (f ∷ fs) = (λ e. absurd (cc), λ e. absurd (cc))
fields_decide (e ∷ es) [] = (λ e. absurd (cc), λ e. absurd (cc))
fields_decide (e ∷ es) (f ∷ fs) =
    decides_as _ (λ both. let one = both.0 in let more = both.1 in cc) (λ same. (cc, cc)) (both_decide _ _ (e.1 f) (fields_decide es fs))

level_decides : (y : EsiType-F Tested TestedField) (m : EsiType-F EsiType Field) → Decides (same_level (tests_of (bare y)) m) (bare y ≡ m)
level_decides (EsiType-F.Bits class width) (EsiType-F.Bits other n) =
    decides_as _ (λ both. let one = both.0 in let more = both.1 in cc) (λ same. (cc, cc)) (both_decide _ _ (same_class-Decides class other) (Decides-eqb width n))
level_decides EsiType-F.Void EsiType-F.Void = (λ e. refl, λ e. refl)
level_decides (EsiType-F.Struct held) (EsiType-F.Struct fields) =
    decides_as _ (λ one. ap EsiType-F.Struct one) (λ same. cc) (fields_decide held fields)
level_decides (EsiType-F.Array held count) (EsiType-F.Array item n) =
    decides_as _ (λ both. let one = both.0 in let more = both.1 in cc) (λ same. (cc, cc)) (both_decide _ _ (held.1 item) (Decides-eqb count n))
level_decides y m = (λ e. absurd (cc), λ e. absurd (cc))

-- ---- types and fields

rolled : (y : EsiType-F Tested TestedField) → IsTest (roll-EsiType (bare y))
rolled y other =
    Decides-at _ _ (ap (λ (test : TypeTest). test other) (folds.fold-roll-EsiType TypeTest FieldTest same_step same_field_step (bare y)))
    (decides_as _ (λ e. ap roll-EsiType e ∙ roll-out-EsiType other) (λ e. sym (out-roll-EsiType (bare y)) ∙ ap out-EsiType e) (level_decides y (out-EsiType other)))

abbrev field_of : List ℕ → EsiType → Field
field_of name ty = roll-Field (record { name = name; ty = ty })

field_rolled : (y : Field-F Tested TestedField) → IsFieldTest (roll-Field (folds.map-Field Tested TestedField EsiType Field (λ e. e.0) (λ e. e.0) y))
field_rolled y other =
    Decides-at _ _ (ap (λ (test : FieldTest). test other) (folds.fold-roll-Field TypeTest FieldTest same_step same_field_step (folds.map-Field Tested TestedField EsiType Field (λ e. e.0) (λ e. e.0) y)))
    (decides_as _
    (λ both. ap (λ name. field_of name y.ty.0) both.0 ∙ ap (λ ty. field_of other.name ty) both.1 ∙ roll-out-Field other)
    (λ same. (ap (λ (f : Field). f.name) same, ap (λ (f : Field). f.ty) same))
    (both_decide _ _ (bytes_eq-Decides y.name other.name) (y.ty.1 other.ty)))

pub is_test : (ty : EsiType) → IsTest ty
is_test = folds.ind-EsiType IsTest IsFieldTest
    (λ x y e. subst (λ x. IsTest (roll-EsiType x)) e (rolled y))
    (λ x y e. subst (λ x. IsFieldTest (roll-Field x)) e (field_rolled y))

-- so a test that is true exactly where two types are one gives what this one gives
pub same_answer : (ty other : EsiType) (answer : Bool) → (IsTrue answer ↔ (ty ≡ other)) → answer ≡ same_types ty other
same_answer ty other answer told = same_from_decides answer (same_types ty other) (told.0, told.1) (is_test ty other)

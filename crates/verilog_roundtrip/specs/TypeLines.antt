-- The text of a good type stands in one line, and so does the comment line of a good endpoint.
use Rattle.std.specs.Prelude.{◌≡◌, ℕ, zero, suc, ◌+◌, ◌*◌, ◌<◌, ◌≤◌, ◌^◌, ◌&&◌, not, Bool, true, false, List, [], ◌∷◌, ◌++◌, map, codes, All, IsTrue, refl}
use Rattle.std.specs.List.{flat_map, list_all}
use Rattle.std.specs.Char.{is_ascii_digit}
use Rattle.std.specs.Fmt.{decimal}
use Rattle.std.proofs.Common.{sym, ◌∙◌, ap, subst, arith, inl, inr, add-one}
use Rattle.std.proofs.Math.Nat.{le-mul_of_pos_right}
use Rattle.std.proofs.lemmas.Bool.{false≢true, cases_eq, ne_eqb}
use Rattle.std.proofs.lemmas.List.Elements.{All-head, All-tail}
use Rattle.std.proofs.lemmas.List.Folds.{list_all-append}
use Rattle.design_lex.specs.declared.limits.TheConstants.{WIDEST_TYPE}
use Rattle.design_lex.specs.declared.token.Class.{Class}
use Rattle.design_lex.specs.declared.token.Class.TheVariants.{Unsigned, Signed, Plain}
use Rattle.design_lex.specs.Octet as D
use Rattle.design_lex.specs.PrintedDigits.{decimal_digits}
use Rattle.design_lex.specs.Spellings.{class_letters}
use Rattle.design_grammar.specs.Names.{IsName}
use Rattle.channel_types.specs.declared.esi_type.EsiType.{EsiType}
use Rattle.channel_types.specs.declared.esi_type.EsiType.TheVariants as V
use Rattle.channel_types.specs.declared.esi_type.EsiType.TheVariants.{rolls-Bits, rolls-Void, rolls-Struct, rolls-Array}
use Rattle.channel_types.specs.declared.esi_type.EsiType.TheOpen.{EsiType-F}
use Rattle.channel_types.specs.declared.esi_type.EsiType.TheViews.{out-EsiType, roll-EsiType, roll-out-EsiType}
use Rattle.channel_types.specs.declared.esi_type.Field.{Field}
use Rattle.channel_types.specs.declared.limits.TheConstants.{OPEN_TYPES}
use Rattle.channel_types.specs.Types.{width_of, nesting_of, name_of}
use Rattle.channel_types.specs.Text.{text_of, field_text}
use Rattle.channel_types.specs.Equations.{nesting-Bits, nesting-Void, nesting-Struct, nesting-Array, text-Bits, text-Void, text-Struct, text-Array, text-field}
use Rattle.channel_types.specs.Goods.{IsGoodWithin, good_level_Bits, good_level_Struct, good_level_Array, good_low, good_within, fields_within, item_within}
use Rattle.verilog_lex.specs.Octet.{in_line}
use Rattle.verilog_tokens.specs.declared.token.PortSide.{PortSide}
use Rattle.verilog_tokens.specs.declared.token.PortSide.TheVariants.{Server, Client}
use Rattle.verilog_module.specs.declared.module.EndpointLine.{EndpointLine}
use Rattle.verilog_module.specs.Good.{IsGoodEnd, is_name_octet}
use Rattle.verilog_module.specs.Tokens.{side_word, comment_text}

-- no octet ends the line
abbrev pub InLine : List ℕ → Type 0
InLine text = list_all in_line text ≡ true

line_append : (a b : List ℕ) → InLine a → InLine b → InLine (a ++ b)
line_append a b f g = list_all-append in_line a b ∙ ap (λ c. c && list_all in_line b) f ∙ g

pub both_true : (a b : Bool) → (a && b) ≡ true → (a ≡ true) × (b ≡ true)
both_true true b e = (refl, e)
both_true false b e = absurd (false≢true e)

-- octets of a class to which LF does not belong
module _ (test : ℕ → Bool) (apart : test 10 ≡ false) where
  one_in_line : (b : ℕ) → test b ≡ true → in_line b ≡ true
  one_in_line b e =
      elim (cases_eq b 10) [
        | inl same ↦ absurd (false≢true (sym apart ∙ sym (ap test same) ∙ e))
        | inr other ↦ ap (λ c. not c) (ne_eqb b 10 other)
      ]

  all_in_line : (octets : List ℕ) → list_all test octets ≡ true → InLine octets
  all_in_line [] e = refl
  all_in_line (b ∷ octets) e = let s = both_true (test b) (list_all test octets) e in ap (λ c. c && list_all in_line octets) (one_in_line b s.0) ∙ all_in_line octets s.1

pub from_all : (test : ℕ → Bool) (octets : List ℕ) → All (λ b. IsTrue (test b)) octets → list_all test octets ≡ true
from_all test [] all = refl
from_all test (b ∷ octets) all =
    ap (λ c. c && list_all test octets) (All-head (λ b. IsTrue (test b)) b octets all) ∙ from_all test octets (All-tail (λ b. IsTrue (test b)) b octets all)

number_line : (n : ℕ) → n < 10 ^ 64 → InLine (decimal n)
number_line n h = all_in_line is_ascii_digit refl (decimal n) (decimal_digits n h).all

-- ---- types

class_line : (class : Class) → InLine (class_letters class)
class_line Unsigned = refl
class_line Signed = refl
class_line Plain = refl

few : (count width : ℕ) → 1 ≤ width → count * width ≤ WIDEST_TYPE → count < 10 ^ 64
few count width h k = let e : count ≤ count * width = le-mul_of_pos_right count h in omega arith

module _ (d : ℕ) (below : (ty : EsiType) → IsGoodWithin d ty → InLine (text_of ty)) where
  field_line : (f : Field) → IsName f.name → IsGoodWithin d f.ty → InLine (field_text f)
  field_line f name good =
      subst InLine (sym (text-field f))
      (line_append f.name (codes ": " ++ text_of f.ty) (all_in_line D.is_word_octet refl f.name name.word.octets) (line_append (codes ": ") (text_of f.ty) refl (below f.ty good)))

  fields_line : (fs : List Field) → All IsName (map name_of fs) → All (λ f. IsGoodWithin d f.ty) fs → InLine (flat_map (λ y. codes ", " ++ y) (map field_text fs))
  fields_line [] names good = refl
  fields_line (f ∷ fs) names good =
      line_append (codes ", " ++ field_text f) (flat_map (λ y. codes ", " ++ y) (map field_text fs))
      (line_append (codes ", ") (field_text f) refl (field_line f (All-head IsName f.name (map name_of fs) names) (All-head (λ f. IsGoodWithin d f.ty) f fs good)))
      (fields_line fs (All-tail IsName f.name (map name_of fs) names) (All-tail (λ f. IsGoodWithin d f.ty) f fs good))

  struct_line : (f : Field) (fs : List Field) → All IsName (map name_of (f ∷ fs)) → All (λ f. IsGoodWithin d f.ty) (f ∷ fs) → InLine (text_of (V.Struct (f ∷ fs)))
  struct_line f fs names good =
      let others : List ℕ = flat_map (λ y. codes ", " ++ y) (map field_text fs) in
      subst InLine (sym (text-Struct (f ∷ fs)))
      (line_append (codes "struct<") ((field_text f ++ others) ++ codes ">") refl
      (line_append (field_text f ++ others) (codes ">")
      (line_append (field_text f) others (field_line f (All-head IsName f.name (map name_of fs) names) (All-head (λ f. IsGoodWithin d f.ty) f fs good))
      (fields_line fs (All-tail IsName f.name (map name_of fs) names) (All-tail (λ f. IsGoodWithin d f.ty) f fs good)))
      refl))

  array_line : (item : EsiType) (count : ℕ) → IsGoodWithin d item → count < 10 ^ 64 → InLine (text_of (V.Array item count))
  array_line item count good small =
      subst InLine (sym (text-Array item count))
      (line_append (codes "array<") (text_of item ++ (codes ", " ++ (decimal count ++ codes ">"))) refl
      (line_append (text_of item) (codes ", " ++ (decimal count ++ codes ">")) (below item good)
      (line_append (codes ", ") (decimal count ++ codes ">") refl (line_append (decimal count) (codes ">") (number_line count small) refl))))

  level_line : (ty : EsiType) (level : EsiType-F EsiType Field) → roll-EsiType level ≡ ty → IsGoodWithin (d + 1) ty → InLine (text_of ty)
  level_line ty (EsiType-F.Bits class width) e good =
      let same : V.Bits class width ≡ ty = sym (rolls-Bits class width) ∙ e in
      let good_here = subst (λ z. IsGoodWithin (d + 1) z) (sym same) good in
      let narrow : width ≤ WIDEST_TYPE = (good_level_Bits class width good_here.each).high in
      subst (λ z. InLine (text_of z)) same (subst InLine (sym (text-Bits class width)) (line_append (class_letters class) (decimal width) (class_line class) (number_line width (omega (arith, narrow)))))
  level_line ty EsiType-F.Void e good =
      let same : V.Void ≡ ty = sym rolls-Void ∙ e in
      subst (λ z. InLine (text_of z)) same (subst InLine (sym text-Void) refl)
  level_line ty (EsiType-F.Struct []) e good =
      let same : V.Struct [] ≡ ty = sym (rolls-Struct []) ∙ e in
      let good_here = subst (λ z. IsGoodWithin (d + 1) z) (sym same) good in
      let level = good_level_Struct [] good_here.each in
      absurd (omega (arith, level.low))
  level_line ty (EsiType-F.Struct (f ∷ fs)) e good =
      let same : V.Struct (f ∷ fs) ≡ ty = sym (rolls-Struct (f ∷ fs)) ∙ e in
      let good_here = subst (λ z. IsGoodWithin (d + 1) z) (sym same) good in
      let level = good_level_Struct (f ∷ fs) good_here.each in
      subst (λ z. InLine (text_of z)) same (struct_line f fs level.names (fields_within d (f ∷ fs) good_here))
  level_line ty (EsiType-F.Array item count) e good =
      let same : V.Array item count ≡ ty = sym (rolls-Array item count) ∙ e in
      let good_here = subst (λ z. IsGoodWithin (d + 1) z) (sym same) good in
      let level = good_level_Array item count good_here.each in
      let inside = item_within d item count good_here in
      subst (λ z. InLine (text_of z)) same (array_line item count inside (few count (width_of item) (good_low item inside.each) level.high))

nesting_some : (ty : EsiType) (level : EsiType-F EsiType Field) → roll-EsiType level ≡ ty → 1 ≤ nesting_of ty
nesting_some ty (EsiType-F.Bits class width) e = omega (arith, nesting-Bits class width, ap nesting_of (sym (rolls-Bits class width) ∙ e))
nesting_some ty EsiType-F.Void e = omega (arith, nesting-Void, ap nesting_of (sym rolls-Void ∙ e))
nesting_some ty (EsiType-F.Struct fields) e = omega (arith, nesting-Struct fields, ap nesting_of (sym (rolls-Struct fields) ∙ e))
nesting_some ty (EsiType-F.Array item count) e = omega (arith, nesting-Array item count, ap nesting_of (sym (rolls-Array item count) ∙ e))

type_line : (d : ℕ) (ty : EsiType) → IsGoodWithin d ty → InLine (text_of ty)
type_line zero ty good = absurd (omega (arith, nesting_some ty (out-EsiType ty) (roll-out-EsiType ty), good.nesting))
type_line (suc d) ty good = level_line d (type_line d) ty (out-EsiType ty) (roll-out-EsiType ty) (subst (λ n. IsGoodWithin n ty) (sym (add-one d)) good)

-- ---- comment lines

side_line : (side : PortSide) → InLine (side_word side)
side_line Server = refl
side_line Client = refl

pub comment_line : (side : PortSide) (n : ℕ) (end : EndpointLine) → n < 10 ^ 64 → IsGoodEnd end → InLine (comment_text side n end)
comment_line side n end few_ends good =
    let ty : List ℕ = text_of end.ty in
    line_append (codes " ") (side_word side ++ (codes " " ++ (decimal n ++ (codes " " ++ (end.name ++ (codes " " ++ ty)))))) refl
    (line_append (side_word side) (codes " " ++ (decimal n ++ (codes " " ++ (end.name ++ (codes " " ++ ty))))) (side_line side)
    (line_append (codes " ") (decimal n ++ (codes " " ++ (end.name ++ (codes " " ++ ty)))) refl
    (line_append (decimal n) (codes " " ++ (end.name ++ (codes " " ++ ty))) (number_line n few_ends)
    (line_append (codes " ") (end.name ++ (codes " " ++ ty)) refl
    (line_append end.name (codes " " ++ ty) (all_in_line is_name_octet refl end.name (from_all is_name_octet end.name good.printable))
    (line_append (codes " ") ty refl (type_line OPEN_TYPES end.ty (good_within end.ty good.good_type))))))))

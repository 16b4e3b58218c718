-- The part that stands for an operation fits the channels between which it stands.
use Rattle.std.proofs.Common.{◌≡◌, ℕ, ◌+◌, ◌≤◌, ◌^◌, Bool, List, [], ◌∷◌, All, Some, length, map, refl, ap, sym, ◌∙◌, arith}
use Rattle.std.specs.Prelude.{codes, nat_le, nat_lt, ◌&&◌, ◌==◌, None, if◌then◌else◌}
use Rattle.std.proofs.lemmas.Bool.{le-leb, eq-eqb}
use Rattle.std.proofs.lemmas.Option.{same_Some}
use Rattle.std.proofs.lemmas.List.Elements.{All-head}
use Rattle.esi_base.specs.Bits.{bits_of, length-bits_of}
use Rattle.design_lex.specs.declared.limits.TheConstants.{WIDEST_TYPE}
use Rattle.channel_types.specs.declared.esi_type.EsiType.{EsiType}
use Rattle.channel_types.specs.declared.esi_type.EsiType.TheOpen.{EsiType-F}
use Rattle.channel_types.specs.declared.esi_type.EsiType.TheViews.{out-EsiType}
use Rattle.channel_types.specs.declared.esi_type.Field.{Field}
use Rattle.channel_types.specs.Types.{width_of, level_width}
use Rattle.channel_types.specs.Equations.{width-Struct, width-field, width-level}
use Rattle.design_tree.specs.declared.statements.Operation.{Operation}
use Rattle.netlist.specs.declared.part.Part.{Part}
use Rattle.netlist.specs.declared.limits.TheConstants.{MAX_WIDTH}
use Rattle.netlist.specs.Nets.{Bits}
use Rattle.netlist.specs.Formulas.{size}
use Rattle.netlist.specs.FormulaLaws.{chosen}
use Rattle.netlist.specs.Parts.{only_width, part_width}
use Rattle.expression_types.specs.Typing.{literal_word, level_literal}
use Rattle.channel_typing.specs.Joins.{join_type, field_of}
use Rattle.channel_typing.specs.Typing.{width_in}
use Rattle.element_parts.specs.Standing as S
use Rattle.element_parts.specs.Standing.{StandsFor}

-- a width that types have
abbrev pub IsNarrow : EsiType → Type 0
IsNarrow ty = width_of ty ≤ WIDEST_TYPE

-- A part that stands for an operation gives words of its width, where it takes words as wide as the types of its sources, and
-- these widths are within the limit.
abbrev pub EachPartFits : Type 0
EachPartFits = (channels : ℕ) (operation : Operation) (types : List EsiType) (part : Part) (count width : ℕ) → StandsFor channels operation types part count width
    → All IsNarrow types → width ≤ WIDEST_TYPE → part_width part (map width_of types) ≡ Some width

-- ---- widths

uncapped : (ty : EsiType) → width_of ty ≤ WIDEST_TYPE → width_of ty ≡ width_in ty
uncapped ty low = omega arith

within : (ty : EsiType) → width_in ty ≤ WIDEST_TYPE → width_of ty ≡ width_in ty
within ty low = omega arith

only : (asked width : ℕ) → width ≡ asked → only_width asked (Some width) ≡ Some asked
only asked width e = ap (λ (t : Bool). if t then Some asked else None) (eq-eqb width asked e)

join_width : (a b : EsiType) → width_of (join_type a b) ≡ width_of a + width_of b
join_width a b =
    width-Struct (field_of (codes "l") a ∷ field_of (codes "r") b ∷ []) ∙ (let l = width-field (field_of (codes "l") a) in let r = width-field (field_of (codes "r") b) in omega (arith, l, r))

literal_length : (ty : EsiType) (number : ℕ) (word : Bits) → literal_word ty number ≡ Some word → length word ≡ width_of ty
unfolding literal_word
literal_length ty number word e = of (out-EsiType ty) refl e
  where
    of : (level : EsiType-F EsiType Field) → out-EsiType ty ≡ level → level_literal level number ≡ Some word → length word ≡ width_of ty
    of (EsiType-F.Bits class width) same e =
        let c = chosen (nat_le 1 width && (nat_le width WIDEST_TYPE && nat_lt number (2 ^ width))) (Some (bits_of width number)) word e in
        ap length (sym (same_Some _ word c.1)) ∙ length-bits_of width number ∙ sym (width-level ty ∙ ap level_width same)
    of EsiType-F.Void same e =
        let c = chosen (number == 0) (Some (bits_of 1 0)) word e in
        ap length (sym (same_Some _ word c.1)) ∙ length-bits_of 1 0 ∙ sym (width-level ty ∙ ap level_width same)
    of (EsiType-F.Struct fields) same e = absurd (cc)
    of (EsiType-F.Array item count) same e = absurd (cc)

narrow_first : (a : EsiType) (more : List EsiType) → All IsNarrow (a ∷ more) → IsNarrow a
narrow_first a more all = All-head IsNarrow a more all

fits : (channels : ℕ) {operation : Operation} {types : List EsiType} {part : Part} {count width : ℕ} → StandsFor channels operation types part count width → All IsNarrow types → width ≤ WIDEST_TYPE
    → part_width part (map width_of types) ≡ Some width
fits channels (S.stage source a) narrow low = only (width_in a) (width_of a) (uncapped a (narrow_first a [] narrow))
fits channels (S.buffer stages source a) narrow low = only (width_in a) (width_of a) (uncapped a (narrow_first a [] narrow))
fits channels (S.fifo depth source a) narrow low = only (width_in a) (width_of a) (uncapped a (narrow_first a [] narrow))
fits channels (S.as_fifo source a) narrow low = ap Some (uncapped a (narrow_first a [] narrow))
fits channels (S.as_vr source a) narrow low = ap Some (uncapped a (narrow_first a [] narrow))
fits channels (S.fork source a) narrow low = ap Some (uncapped a (narrow_first a [] narrow))
fits channels (S.join left right a b joined) narrow low =
    let sum = join_width a b in
    let wide = joined.wide in
    ap (λ (t : Bool). if t then Some (width_of a + width_of b) else None) (le-leb (width_of a + width_of b) MAX_WIDTH (omega (arith, sum, wide)))
    ∙ ap Some (sym sum ∙ within (join_type a b) low)
fits channels (S.mapping source variable body a t meaning) narrow low = meaning.good ∙ ap Some (within t.ty low)
fits channels (S.scan source state ty initial variable body a word t first meaning same) narrow low =
    let long = literal_length ty initial.value word first in
    let whole : width_of t.ty ≡ length word = ap width_of same ∙ sym long in
    ap (λ n. only_width (length word) (size (n ∷ width_of a ∷ []) t.formula)) long
    ∙ ap (only_width (length word)) meaning.good
    ∙ only (length word) (width_of t.ty) whole
    ∙ ap Some (long ∙ within ty low)

pub each_part_fits : EachPartFits
each_part_fits channels operation types part count width stands narrow low = fits channels stands narrow low

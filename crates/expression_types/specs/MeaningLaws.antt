-- The formula of an expression is worth what the expression means, and is as wide as its type.
use Rattle.std.proofs.Common.{◌≡◌, ℕ, ◌+◌, ◌-◌, ◌*◌, ◌≤◌, ◌==◌, Bool, true, false, Option, Some, None, List, [], ◌∷◌, ◌++◌, length, take, drop, map, replicate, refl, ap, sym, ◌∙◌, subst, arith}
use Rattle.std.specs.Prelude.{slice_range, slice_get, if◌then◌else◌, Result, Ok, Err}
use Rattle.std.specs.List.{sum_by}
use Rattle.std.specs.Str.{bytes_eq}
use Rattle.std.proofs.lemmas.Bool.{and_parts, eqb-true}
use Rattle.std.proofs.lemmas.Option.{same_Some}
use Rattle.std.proofs.lemmas.List.{map-append, length-append, append_assoc, append-nil, length-replicate}
use Rattle.std.proofs.lemmas.List.Sums.{sum_by-cons}
use Rattle.std.proofs.Math.Seq.{get_or-append_seam}
use Rattle.std.proofs.Math.Nat.{suc-mul}
use Rattle.esi_base.specs.Answers.{◌>>=◌}
use Rattle.channel_types.specs.declared.esi_type.EsiType.{EsiType}
use Rattle.channel_types.specs.declared.esi_type.EsiType.TheOpen.{EsiType-F}
use Rattle.channel_types.specs.declared.esi_type.EsiType.TheViews.{out-EsiType}
use Rattle.channel_types.specs.declared.esi_type.Field.{Field}
use Rattle.channel_types.specs.Types.{width_of, field_width, level_width}
use Rattle.channel_types.specs.Equations.{width-level, width-field}
use Rattle.channel_types.specs.SameTypes.{same_types}
use Rattle.channel_types.specs.SameTypesLaws.{is_test}
use Rattle.netlist.specs.declared.limits.TheConstants.{MAX_WIDTH}
use Rattle.netlist.specs.declared.formula.Half.{Half}
use Rattle.netlist.specs.declared.formula.Half.TheVariants.{High, Low}
use Rattle.netlist.specs.declared.formula.Formula.TheVariants as F
use Rattle.netlist.specs.Nets.{Bits, word_at}
use Rattle.netlist.specs.Formulas.{worth, size, size_join, joined}
use Rattle.netlist.specs.FormulaLaws.{chosen}
use Rattle.netlist.specs.FormulaEquations.{worth-Var, worth-Slice, worth-Join, size-Var, size-Slice, size-Join}
use Rattle.design_tree.specs.declared.leaves.Name.{Name}
use Rattle.design_tree.specs.declared.expression.Suffix.{Suffix}
use Rattle.design_tree.specs.declared.expression.Expression.{Expression}
use Rattle.design_tree.specs.declared.expression.Expression.TheOpen.{Expression-F}
use Rattle.design_tree.specs.declared.expression.Expression.TheViews.{roll-Expression}
use Rattle.design_tree.specs.declared.expression.Expression.TheFolds as folds
use Rattle.expression_types.specs.Views.{Variable, Typed, Piece, Parts}
use Rattle.expression_types.specs.Typing.{Typing, value_width, variable_from, piece_of, sliced, part_at, part_within, part_of, parts_of, no_parts, with_part, gathered, fields_given, all_same, elements_given, level_joined, join_of, make_joined, make_within, make_of, cast_of, zext_of, slice_of, not_of, pair_of, mux_of, typed_step, typed}
use Rattle.expression_types.specs.WidthLaws.{value_has}
use Rattle.expression_types.specs.Meaning.{value_at, part_bits, part_type, parts_bits, level_made, made_bits, Valued, typing_in, bits_in, parts_valued, bits_step, valued_step, valued, mean, variable_width}
use Rattle.expression_types.specs.PartLaws.{piece_found}
use Rattle.expression_types.specs.OperatorLaws.{IsSound, typed_as, same_typed, slice_good, concat_good, sound_width, sound_as, not_sound, pair_sound, cast_sound, slice_sound, zext_sound, literal_sound, mux_sound}

-- ---- what comes after what fits

pub bound : {A B : Type 0} (m : Result A ℕ) (f : A → Result B ℕ) (b : B) → m >>= f ≡ Ok b → (a : A) × (m ≡ Ok a) × (f a ≡ Ok b)
bound (Ok a) f b e = (a, refl, e)
bound (Err at) f b e = absurd (cc)

-- ---- variables

variable_sound : (name : Name) (before : List Bits) (i : ℕ) (vs : List Variable) (words : List Bits) (t : Typed) → length before ≡ i → map length words ≡ map variable_width vs
    → variable_from name i vs ≡ Ok t → IsSound (before ++ words) (value_at name.octets vs words) t
variable_sound name before i [] words t n h e = absurd (cc)
variable_sound name before i (v ∷ vs) [] t n h e = absurd (cc)
variable_sound name before i (v ∷ vs) (word ∷ words) t n h e = of (variable_sound name (before ++ word ∷ []) (i + 1) vs words t (length-append before (word ∷ []) ∙ omega arith) cc) (bytes_eq v.name name.octets) refl e
  where
    seam : (before : List Bits) → slice_get (map length (before ++ word ∷ words)) (length before) ≡ Some (length word)
    seam [] = refl
    seam (b ∷ before) = seam before

    of : (variable_from name (i + 1) vs ≡ Ok t → IsSound ((before ++ word ∷ []) ++ words) (value_at name.octets vs words) t)
        → (same : Bool) → bytes_eq v.name name.octets ≡ same
        → ◌≡◌ {A = Typing} (if same then Ok (typed_as name.at v.ty (F.Var i)) else variable_from name (i + 1) vs) (Ok t)
        → IsSound (before ++ word ∷ words) (if same then word else value_at name.octets vs words) t
    of later true same e = sound_as (before ++ word ∷ words) word _ t (same_typed _ t e) (record {
      value = worth-Var (before ++ word ∷ words) i ∙ ap (word_at (before ++ word ∷ words)) (sym n) ∙ get_or-append_seam before word words [];
      good =
          size-Var (map length (before ++ word ∷ words)) i
          ∙ ap (slice_get (map length (before ++ word ∷ words))) (sym n)
          ∙ seam before
          ∙ ap Some (let k : length word ≡ width_of v.ty = cc in k);
    })
    of later false same e =
        subst (λ ws. IsSound ws (value_at name.octets vs words) t) (append_assoc before (word ∷ []) words) (later e)

-- ---- suffixes

module _ (words : List Bits) where
  part_sound : (suffix : Suffix) (bits : Bits) (a t : Typed) → IsSound words bits a → part_of a suffix ≡ Ok t → (part_type a.ty suffix ≡ t.ty) × IsSound words (part_bits a.ty suffix bits) t
  part_sound suffix bits a t s e = within (value_width a.ty) refl e
    where
      cut : (piece : Piece) → piece_of a.ty suffix ≡ Some piece → (width : Option ℕ) → value_width piece.ty ≡ width → sliced a piece width ≡ Ok t
          → (part_type a.ty suffix ≡ t.ty) × IsSound words (part_bits a.ty suffix bits) t
      cut piece found None same e = absurd (cc)
      cut piece found (Some width) same e =
          let own = piece_found a.ty suffix piece found in
          let wide = value_has piece.ty width same in
          let long = sound_width words bits a s in
          let answer = same_typed (typed_as a.at piece.ty (F.Slice a.formula (piece.low + width - 1) piece.low)) t e in
          let few : piece.low + width - 1 + 1 - piece.low ≡ width = omega (arith, wide.low) in
          let result : piece.low + width - 1 - piece.low + 1 ≡ width = omega (arith, wide.low) in (
            own.is_type ∙ ap (λ (t : Typed). t.ty) answer,
            sound_as words _ _ t answer (record {
              value =
                  worth-Slice words a.formula (piece.low + width - 1) piece.low
                  ∙ ap (λ w. slice_range w piece.low (piece.low + width - 1 + 1)) s.value
                  ∙ ap (λ n. take n (drop piece.low bits)) (few ∙ sym wide.is)
                  ∙ sym (own.bits bits long);
              good =
                  size-Slice (map length words) a.formula (piece.low + width - 1) piece.low
                  ∙ slice_good _ (piece.low + width - 1) piece.low (width_of a.ty) s.good (omega (arith, wide.low)) (omega (arith, wide.low, wide.is, own.within))
                  ∙ ap Some (result ∙ sym wide.is);
            }),
          )

      at_piece : (piece : Option Piece) → piece_of a.ty suffix ≡ piece → part_at a piece ≡ Ok t → (part_type a.ty suffix ≡ t.ty) × IsSound words (part_bits a.ty suffix bits) t
      at_piece None same e = absurd (cc)
      at_piece (Some piece) same e = cut piece same (value_width piece.ty) refl e

      within : (width : Option ℕ) → value_width a.ty ≡ width → part_within a suffix width ≡ Ok t → (part_type a.ty suffix ≡ t.ty) × IsSound words (part_bits a.ty suffix bits) t
      within None same e = absurd (cc)
      within (Some width) same e = at_piece (piece_of a.ty suffix) refl e

  parts_sound : (suffixes : List Suffix) (bits : Bits) (a t : Typed) → IsSound words bits a → parts_of suffixes a ≡ Ok t → IsSound words (parts_bits suffixes a.ty bits) t
  parts_sound [] bits a t s e = sound_as words bits a t (same_typed a t e) s
  parts_sound (suffix ∷ suffixes) bits a t s e =
      let b = bound (part_of a suffix) (parts_of suffixes) t e in
      let part = part_sound suffix bits a b.0 s b.1 in
      subst (λ ty. IsSound words (parts_bits suffixes ty (part_bits a.ty suffix bits)) t) (sym part.0) (parts_sound suffixes (part_bits a.ty suffix bits) b.0 t part.1 b.2)

  -- ---- parts of a struct or an array

  record AreSound (done : List Bits) (parts : Parts) : Type 0 where
    values : map (worth words) parts.formulas ≡ done
    goods : map (size (map length words)) parts.formulas ≡ map (λ ty. Some (width_of ty)) parts.types

  added : (done : List Bits) (parts : Parts) (bits : Bits) (t : Typed) → AreSound done parts → IsSound words bits t → AreSound (done ++ bits ∷ []) (with_part parts t)
  added done parts bits t all s = record {
    values =
        map-append (worth words) parts.formulas (t.formula ∷ [])
        ∙ ap (λ front. front ++ worth words t.formula ∷ []) all.values
        ∙ ap (λ w. done ++ w ∷ []) s.value;
    goods =
        map-append (size (map length words)) parts.formulas (t.formula ∷ [])
        ∙ ap (λ front. front ++ size (map length words) t.formula ∷ []) all.goods
        ∙ ap (λ w. map (λ ty. Some (width_of ty)) parts.types ++ w ∷ []) s.good
        ∙ sym (map-append (λ ty. Some (width_of ty)) parts.types (t.ty ∷ []));
  }

-- ---- the widths of parts add up

fields_sum : (fields : List Field) (types : List EsiType) → fields_given fields types ≡ true → sum_by width_of types ≡ sum_by field_width fields
fields_sum [] [] e = refl
fields_sum [] (ty ∷ types) e = absurd (cc)
fields_sum (f ∷ fs) [] e = absurd (cc)
fields_sum (f ∷ fs) (ty ∷ types) e =
    let p = and_parts (same_types ty f.ty) (fields_given fs types) e in
    let own : width_of ty ≡ field_width f = ap width_of ((is_test ty f.ty).0 p.0) ∙ sym (width-field f) in
    let more = fields_sum fs types p.1 in
    sum_by-cons width_of ty types ∙ ap (λ n. n + sum_by width_of types) own ∙ ap (λ n. field_width f + n) more ∙ sym (sum_by-cons field_width f fs)

elements_sum : (item : EsiType) (types : List EsiType) → all_same item types ≡ true → sum_by width_of types ≡ length types * width_of item
elements_sum item [] e = omega arith
elements_sum item (ty ∷ types) e =
    let p = and_parts (same_types ty item) (all_same item types) e in
    let own : width_of ty ≡ width_of item = ap width_of ((is_test ty item).0 p.0) in
    let more = elements_sum item types p.1 in
    sum_by-cons width_of ty types
    ∙ ap (λ n. n + sum_by width_of types) own
    ∙ ap (λ n. width_of item + n) more
    ∙ sym (suc-mul (length types) (width_of item) ∙ omega arith)

join_more : (ty : EsiType) (types : List EsiType) → sum_by width_of (ty ∷ types) ≤ MAX_WIDTH → size_join (map (λ ty. Some (width_of ty)) (ty ∷ types)) ≡ Some (sum_by width_of (ty ∷ types))
join_more ty [] h = ap Some (let k : width_of ty ≡ width_of ty + sum_by width_of [] = omega arith in k ∙ sym (sum_by-cons width_of ty []))
join_more ty (other ∷ types) h =
    let whole = sum_by-cons width_of ty (other ∷ types) in
    concat_good (Some (width_of ty)) _ (width_of ty) (sum_by width_of (other ∷ types)) refl (join_more other types (omega (arith, whole, h))) (omega (arith, whole, h))
    ∙ ap Some (sym whole)

join_good : (types : List EsiType) → 1 ≤ sum_by width_of types → sum_by width_of types ≤ MAX_WIDTH → size_join (map (λ ty. Some (width_of ty)) types) ≡ Some (sum_by width_of types)
join_good [] l h = absurd (omega arith)
join_good (ty ∷ types) l h = join_more ty types h

-- what is joined is what the type says, and the parts are as wide together as it
record IsJoin (ty : EsiType) (types : List EsiType) (so_far : Half) : Type 0 where
  bits : (done : List Bits) → joined so_far done ≡ made_bits ty done
  sum : sum_by width_of types ≡ width_of ty

join_found : (ty : EsiType) (types : List EsiType) (so_far : Half) → join_of ty types ≡ Some so_far → IsJoin ty types so_far
unfolding join_of made_bits
join_found ty types so_far e = of (out-EsiType ty) refl e
  where
    of : (level : EsiType-F EsiType Field) → out-EsiType ty ≡ level → level_joined level types ≡ Some so_far → IsJoin ty types so_far
    of (EsiType-F.Bits class width) same e = absurd (cc)
    of EsiType-F.Void same e = absurd (cc)
    of (EsiType-F.Struct fields) same e =
        let c = chosen (fields_given fields types) (Some High) so_far e in
        record {
          bits = λ done. ap (λ h. joined h done) (sym (same_Some High so_far c.1)) ∙ sym (ap (λ level. level_made level done) same);
          sum = fields_sum fields types c.0 ∙ sym (width-level ty ∙ ap level_width same);
        }
    of (EsiType-F.Array item count) same e =
        let c = chosen (elements_given item count types) (Some Low) so_far e in
        let p = and_parts (length types == count) (all_same item types) c.0 in
        record {
          bits = λ done. ap (λ h. joined h done) (sym (same_Some Low so_far c.1)) ∙ sym (ap (λ level. level_made level done) same);
          sum = elements_sum item types p.1 ∙ ap (λ n. n * width_of item) (eqb-true (length types) count p.0) ∙ sym (width-level ty ∙ ap level_width same);
        }

module _ (words : List Bits) where
  make_sound : (at : ℕ) (ty : EsiType) (parts : Parts) (done : List Bits) (t : Typed) → AreSound words done parts → make_of at ty parts ≡ Ok t → IsSound words (made_bits ty done) t
  make_sound at ty parts done t all e = within (value_width ty) refl e
    where
      joins : (width : ℕ) → value_width ty ≡ Some width → (so_far : Option Half) → join_of ty parts.types ≡ so_far → make_joined at ty parts.formulas so_far ≡ Ok t → IsSound words (made_bits ty done) t
      joins width wide None same e = absurd (cc)
      joins width wide (Some so_far) same e =
          let join = join_found ty parts.types so_far same in
          let own = value_has ty width wide in
          sound_as words _ _ t (same_typed (typed_as at ty (F.Join parts.formulas so_far)) t e) (record {
            value = worth-Join words parts.formulas so_far ∙ ap (joined so_far) all.values ∙ join.bits done;
            good =
                size-Join (map length words) parts.formulas so_far
                ∙ ap size_join all.goods
                ∙ join_good parts.types (omega (arith, join.sum, own.is, own.low)) (omega (arith, join.sum, own.is, own.high))
                ∙ ap Some join.sum;
          })

      within : (width : Option ℕ) → value_width ty ≡ width → make_within at ty parts width ≡ Ok t → IsSound words (made_bits ty done) t
      within None same e = absurd (cc)
      within (Some width) same e = joins width same (join_of ty parts.types) refl e

-- ---- expressions

module _ (vs : List Variable) (words : List Bits) where
  -- the typing beside the value is that of the expression
  abbrev IsTyped : Expression → Type 0
  IsTyped e = (valued vs words e).typing ≡ typed vs e

  abbrev WithTyping : Type 0
  WithTyping = (e : Expression) × IsTyped e

  abbrev bare_typed : Expression-F WithTyping → Expression-F Expression
  bare_typed = folds.map-Expression WithTyping Expression (λ e. e.0)

  parts_typed : (held : List WithTyping) → map typing_in (map (valued vs words) (map (λ (e : WithTyping). e.0) held)) ≡ map (typed vs) (map (λ (e : WithTyping). e.0) held)
  parts_typed [] = refl
  parts_typed (e ∷ es) = ap (λ m. m ∷ map typing_in (map (valued vs words) (map (λ (e : WithTyping). e.0) es))) e.1 ∙ ap (λ ms. typed vs e.0 ∷ ms) (parts_typed es)

  layer_typed : (y : Expression-F WithTyping)
      → folds.map-Expression Valued Typing typing_in (folds.map-Expression Expression Valued (valued vs words) (bare_typed y)) ≡ folds.map-Expression Expression Typing (typed vs) (bare_typed y)
  layer_typed (Expression-F.Variable name) = refl
  layer_typed (Expression-F.Part of suffixes) = ap (λ m. Expression-F.Part m suffixes) of.1
  layer_typed (Expression-F.Literal at ty number) = refl
  layer_typed (Expression-F.Make at ty parts) = ap (λ ms. Expression-F.Make at ty ms) (parts_typed parts)
  layer_typed (Expression-F.Cast at ty of) = ap (λ m. Expression-F.Cast at ty m) of.1
  layer_typed (Expression-F.Zext at width of) = ap (λ m. Expression-F.Zext at width m) of.1
  layer_typed (Expression-F.Slice at high low of) = ap (λ m. Expression-F.Slice at high low m) of.1
  layer_typed (Expression-F.Not at of) = ap (λ m. Expression-F.Not at m) of.1
  layer_typed (Expression-F.Binary at operator left right) =
      ap (λ m. Expression-F.Binary at operator m ((valued vs words right.0).typing)) left.1 ∙ ap (λ m. Expression-F.Binary at operator (typed vs left.0) m) right.1
  layer_typed (Expression-F.Mux at condition one other) =
      ap (λ m. Expression-F.Mux at m ((valued vs words one.0).typing) ((valued vs words other.0).typing)) condition.1
      ∙ ap (λ m. Expression-F.Mux at (typed vs condition.0) m ((valued vs words other.0).typing)) one.1
      ∙ ap (λ m. Expression-F.Mux at (typed vs condition.0) (typed vs one.0) m) other.1

  typing_rolled : (y : Expression-F WithTyping) → IsTyped (roll-Expression (bare_typed y))
  typing_rolled y =
      ap typing_in (folds.fold-roll-Expression Valued (valued_step vs words) (bare_typed y))
      ∙ ap (typed_step vs) (layer_typed y)
      ∙ sym (folds.fold-roll-Expression Typing (typed_step vs) (bare_typed y))

  pub typing_same : (e : Expression) → IsTyped e
  typing_same = folds.ind-Expression IsTyped (λ x y e. subst (λ x. IsTyped (roll-Expression x)) e (typing_rolled y))

  module _ (h : map length words ≡ map variable_width vs) where
    abbrev Means : Expression → Type 0
    Means e = (t : Typed) → typed vs e ≡ Ok t → IsSound words (mean vs words e) t

    abbrev Held : Type 0
    Held = (e : Expression) × Means e

    abbrev bare : Expression-F Held → Expression-F Expression
    bare = folds.map-Expression Held Expression (λ e. e.0)

    gathered_sound : (held : List Held) (before after : Parts) (done : List Bits) → AreSound words done before
        → gathered before (map (typed vs) (map (λ (e : Held). e.0) held)) ≡ Ok after
        → AreSound words (done ++ map bits_in (map (valued vs words) (map (λ (e : Held). e.0) held))) after
    gathered_sound [] before after done all e =
        subst (λ bits. AreSound words bits after) (sym (append-nil done)) (subst (AreSound words done) (same_parts before after e) all)
      where
        same_parts : (a b : Parts) → ◌≡◌ {A = Result Parts ℕ} (Ok a) (Ok b) → a ≡ b
        same_parts a b e = cc
    gathered_sound (x ∷ xs) before after done all e =
        of (λ t. gathered_sound xs (with_part before t) after (done ++ mean vs words x.0 ∷ [])) (typed vs x.0) refl e
      where
        of : ((t : Typed) → AreSound words (done ++ mean vs words x.0 ∷ []) (with_part before t) → gathered (with_part before t) (map (typed vs) (map (λ (e : Held). e.0) xs)) ≡ Ok after
            → AreSound words ((done ++ mean vs words x.0 ∷ []) ++ map bits_in (map (valued vs words) (map (λ (e : Held). e.0) xs))) after)
            → (m : Typing) → typed vs x.0 ≡ m → gathered before (m ∷ map (typed vs) (map (λ (e : Held). e.0) xs)) ≡ Ok after
            → AreSound words (done ++ map bits_in (map (valued vs words) (map (λ (e : Held). e.0) (x ∷ xs)))) after
        of later (Err at) same e = absurd (cc)
        of later (Ok t) same e =
            subst (λ bits. AreSound words bits after) (append_assoc done (mean vs words x.0 ∷ []) (map bits_in (map (valued vs words) (map (λ (e : Held). e.0) xs))))
            (later t (added words done before (mean vs words x.0) t all (x.1 t same)) e)

    level_sound : (y : Expression-F Held) (t : Typed) → typed_step vs (folds.map-Expression Expression Typing (typed vs) (bare y)) ≡ Ok t
        → IsSound words (bits_step vs words (folds.map-Expression Expression Valued (valued vs words) (bare y))) t
    level_sound (Expression-F.Variable name) t e = variable_sound name [] 0 vs words t refl h e
    level_sound (Expression-F.Part of suffixes) t e =
        let b = bound (typed vs of.0) (parts_of suffixes) t e in
        subst (λ bits. IsSound words bits t) (sym (ap (λ m. parts_valued suffixes m (mean vs words of.0)) (typing_same of.0 ∙ b.1)))
        (parts_sound words suffixes (mean vs words of.0) b.0 t (of.1 b.0 b.1) b.2)
    level_sound (Expression-F.Literal at ty number) t e = literal_sound words at ty number.value t e
    level_sound (Expression-F.Make at ty parts) t e =
        let b = bound (gathered no_parts (map (typed vs) (map (λ (e : Held). e.0) parts))) (make_of at ty) t e in
        make_sound words at ty b.0 _ t (gathered_sound parts no_parts b.0 [] (record { values = refl; goods = refl }) b.1) b.2
    level_sound (Expression-F.Cast at ty of) t e =
        let b = bound (typed vs of.0) (cast_of at ty) t e in cast_sound words at ty (mean vs words of.0) b.0 t (of.1 b.0 b.1) b.2
    level_sound (Expression-F.Zext at width of) t e =
        let b = bound (typed vs of.0) (zext_of at width.value) t e in zext_sound words at width.value (mean vs words of.0) b.0 t (of.1 b.0 b.1) b.2
    level_sound (Expression-F.Slice at high low of) t e =
        let b = bound (typed vs of.0) (slice_of at high.value low.value) t e in slice_sound words at high.value low.value (mean vs words of.0) b.0 t (of.1 b.0 b.1) b.2
    level_sound (Expression-F.Not at of) t e =
        let b = bound (typed vs of.0) (not_of at) t e in not_sound words at (mean vs words of.0) b.0 t (of.1 b.0 b.1) b.2
    level_sound (Expression-F.Binary at operator left right) t e =
        let a = bound (typed vs left.0) (λ a. typed vs right.0 >>= pair_of at operator a) t e in
        let b = bound (typed vs right.0) (pair_of at operator a.0) t a.2 in
        pair_sound words (mean vs words left.0) (mean vs words right.0) a.0 b.0 (left.1 a.0 a.1) (right.1 b.0 b.1) operator at t b.2
    level_sound (Expression-F.Mux at condition one other) t e =
        let c = bound (typed vs condition.0) (λ c. typed vs one.0 >>= (λ a. typed vs other.0 >>= mux_of at c a)) t e in
        let a = bound (typed vs one.0) (λ a. typed vs other.0 >>= mux_of at c.0 a) t c.2 in
        let b = bound (typed vs other.0) (mux_of at c.0 a.0) t a.2 in
        mux_sound words at (mean vs words condition.0) (mean vs words one.0) (mean vs words other.0) c.0 a.0 b.0 t (condition.1 c.0 c.1) (one.1 a.0 a.1) (other.1 b.0 b.1) b.2

    rolled : (y : Expression-F Held) → Means (roll-Expression (bare y))
    rolled y t e =
        subst (λ bits. IsSound words bits t) (sym (ap bits_in (folds.fold-roll-Expression Valued (valued_step vs words) (bare y))))
        (level_sound y t (sym (folds.fold-roll-Expression Typing (typed_step vs) (bare y)) ∙ e))

    pub each_sound : (e : Expression) → Means e
    each_sound = folds.ind-Expression Means (λ x y e. subst (λ x. Means (roll-Expression x)) e (rolled y))

-- ---- the law

-- The formula of an expression that fits is good for words as wide as its variables, is as wide as the expression's type,
-- and is worth what the expression means, whatever words its variables have.
pub record HasMeaning (vs : List Variable) (e : Expression) (t : Typed) : Type 0 where
  pub good : size (map variable_width vs) t.formula ≡ Some (width_of t.ty)
  pub value : (words : List Bits) → map length words ≡ map variable_width vs → worth words t.formula ≡ mean vs words e

abbrev pub EachMeans : Type 0
EachMeans = (vs : List Variable) (e : Expression) (t : Typed) → typed vs e ≡ Ok t → HasMeaning vs e t

zero_words : List Variable → List Bits
zero_words [] = []
zero_words (v ∷ vs) = replicate (width_of v.ty) false ∷ zero_words vs

zero_widths : (vs : List Variable) → map length (zero_words vs) ≡ map variable_width vs
unfolding zero_words
zero_widths [] = refl
zero_widths (v ∷ vs) = ap (λ n. n ∷ map length (zero_words vs)) (length-replicate (width_of v.ty) false) ∙ ap (λ ns. width_of v.ty ∷ ns) (zero_widths vs)

pub each_means : EachMeans
each_means vs e t fits = record {
  good = sym (ap (λ ws. size ws t.formula) (zero_widths vs)) ∙ (each_sound vs (zero_words vs) (zero_widths vs) e t fits).good;
  value = λ words h. (each_sound vs words h e t fits).value;
}

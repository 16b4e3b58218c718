-- What stands for an operation all of whose sources have types, and which fits.
use Rattle.std.proofs.Common.{◌≡◌, ℕ, ◌+◌, max, arith, inl, inr, List, [], ◌∷◌, Option, Some, refl, ap, sym, ◌∙◌, subst}
use Rattle.std.specs.Prelude.{true, None, Result, Ok, Err, Contains, codes, nat_le, if◌then◌else◌}
use Rattle.std.proofs.lemmas.Bool.{cases_Bool, and_parts, leb-true}
use Rattle.esi_base.specs.Answers.{◌>>=◌}
use Rattle.name_tables.specs.PlaceLaws.{contains_here, contains_later}
use Rattle.channel_types.specs.declared.esi_type.EsiType.{EsiType}
use Rattle.design_lex.specs.declared.limits.TheConstants.{WIDEST_TYPE}
use Rattle.channel_types.specs.declared.limits.TheConstants.{OPEN_TYPES}
use Rattle.channel_types.specs.Types.{width_of, nesting_of}
use Rattle.channel_types.specs.Equations.{width-Struct, width-field, nesting-Struct, nesting-field}
use Rattle.channel_types.specs.SameTypes.{same_types}
use Rattle.channel_types.specs.SameTypesLaws.{is_test}
use Rattle.design_tree.specs.declared.leaves.Name.{Name}
use Rattle.design_tree.specs.declared.leaves.Number.{Number}
use Rattle.design_tree.specs.declared.leaves.Reference.{Reference}
use Rattle.design_tree.specs.declared.expression.Expression.{Expression}
use Rattle.design_tree.specs.declared.statements.Operation.{Operation}
use Rattle.design_tree.specs.declared.statements.Operation.TheVariants as O
use Rattle.netlist.specs.declared.part.Part.{Part}
use Rattle.netlist.specs.declared.part.Part.TheVariants as P
use Rattle.netlist.specs.Nets.{Bits}
use Rattle.expression_types.specs.Views.{Typed}
use Rattle.expression_types.specs.Typing.{typed, literal_word}
use Rattle.expression_types.specs.Rows.{first_octet}
use Rattle.expression_types.specs.MeaningLaws.{each_means}
use Rattle.check_rules.specs.References.{operation_sources, reference_place}
use Rattle.body_plans.specs.declared.ordered.OrderedElement.{OrderedElement}
use Rattle.channel_typing.specs.Joins.{join_type, joinable, IsJoinable, field_of}
use Rattle.channel_typing.specs.Rules as M
use Rattle.channel_typing.specs.Rules.{map_variables, scan_variables, EachHas, MakesType}
use Rattle.channel_typing.specs.Typing.{Made, Making, over, in_stages, as_part, width_in, count_in, joined, mapped, scanned, map_over, scan_from, operation_made, refusals, made_or}
use Rattle.element_parts.specs.Numbering.{parts_in, ordered_element}
use Rattle.element_parts.specs.Standing as K
use Rattle.element_parts.specs.Standing.{StandsFor}

abbrev fine : Made → Making
fine m = Ok m

same_made : (a b : Made) → fine a ≡ fine b → a ≡ b
same_made a b e = cc

join_width : (a b : EsiType) → width_of (join_type a b) ≡ width_of a + width_of b
join_width a b =
    width-Struct (field_of (codes "l") a ∷ field_of (codes "r") b ∷ []) ∙ (let l = width-field (field_of (codes "l") a) in let r = width-field (field_of (codes "r") b) in omega (arith, l, r))

join_nesting : (a b : EsiType) → nesting_of (join_type a b) ≡ max (nesting_of a) (nesting_of b) + 1
join_nesting a b =
    nesting-Struct (field_of (codes "l") a ∷ field_of (codes "r") b ∷ []) ∙ (let l = nesting-field (field_of (codes "l") a) in let r = nesting-field (field_of (codes "r") b) in omega (arith, l, r))

joinable_sound : (a b : EsiType) → joinable a b ≡ true → IsJoinable a b
joinable_sound a b e =
    let parts = and_parts (nat_le (width_of a + width_of b) WIDEST_TYPE) (nat_le (max (nesting_of a) (nesting_of b) + 1) OPEN_TYPES) e in
    let wide = leb-true (width_of a + width_of b) WIDEST_TYPE parts.0 in
    let deep = leb-true (max (nesting_of a) (nesting_of b) + 1) OPEN_TYPES parts.1 in
    record { wide = omega (arith, wide, join_width a b); deep = omega (arith, deep, join_nesting a b) }

-- an element for which the part of an index stands, so many in a row
abbrev pub element_at : ℕ → ℕ → ℕ → ℕ → OrderedElement
element_at index number count width = record { number = number; part = index; count = count; width = width }

-- each of the references has a type
abbrev pub AreTyped : (Reference → Option EsiType) → List Reference → Type 0
AreTyped of rs = (r : Reference) → Contains rs r → (ty : EsiType) × (of r ≡ Some ty)

-- The element is a part, so many in a row, which stands for the operation, and the channels have a type.
pub record StandsAs (of : Reference → Option EsiType) (channels : ℕ) (operation : Operation) (m : Made) : Type 0 where
  pub types : List EsiType
  pub known : EachHas (λ r ty. of r ≡ Some ty) (operation_sources operation) types
  pub part : Part
  pub own : parts_in m.element ≡ part ∷ []
  pub count : ℕ
  pub width : ℕ
  pub numbered : (index number : ℕ) → ordered_element index number m.element ≡ element_at index number count width
  pub stands : StandsFor channels operation types part count width
  pub ty : EsiType
  pub has : m.ty ≡ Some ty
  pub makes : MakesType operation types ty
  pub word : width ≡ width_in ty

module _ (of : Reference → Option EsiType) (channels : ℕ) where
  -- what is one part, or stages in a row
  by_part : (operation : Operation) (types : List EsiType) → EachHas (λ r ty. of r ≡ Some ty) (operation_sources operation) types → (own : Part) (ty : EsiType) → StandsFor channels operation types own 1 (width_in ty) → MakesType operation types ty
      → (m : Made) → fine (as_part own ty) ≡ fine m → StandsAs of channels operation m
  by_part operation types known own ty stands makes m e = subst (λ (m : Made). StandsAs of channels operation m) (same_made (as_part own ty) m e) (record {
    types = types;
    known = known;
    part = own;
    own = refl;
    count = 1;
    width = width_in ty;
    numbered = λ index number. refl;
    stands = stands;
    ty = ty;
    has = refl;
    makes = makes;
    word = refl;
  })

  by_stages : (operation : Operation) (types : List EsiType) → EachHas (λ r ty. of r ≡ Some ty) (operation_sources operation) types → (count : ℕ) (ty : EsiType) → StandsFor channels operation types (P.Stage (width_in ty)) count (width_in ty)
      → MakesType operation types ty → (m : Made) → fine (in_stages count ty) ≡ fine m → StandsAs of channels operation m
  by_stages operation types known count ty stands makes m e = subst (λ (m : Made). StandsAs of channels operation m) (same_made (in_stages count ty) m e) (record {
    types = types;
    known = known;
    part = P.Stage (width_in ty);
    own = refl;
    count = count;
    width = width_in ty;
    numbered = λ index number. refl;
    stands = stands;
    ty = ty;
    has = refl;
    makes = makes;
    word = refl;
  })

  over_known : (o : Option EsiType) (a : EsiType) (next : EsiType → Making) (m : Making) → o ≡ Some a → over o next ≡ m → next a ≡ m
  over_known o a next m is e = sym (ap (λ (o : Option EsiType). over o next) is) ∙ e

  joins : (left right : Reference) (a b : EsiType) → of left ≡ Some a → of right ≡ Some b → (m : Made) → joined left a b ≡ Ok m → StandsAs of channels (O.Join left right) m
  joins left right a b l r m e =
      elim (cases_Bool (joinable a b)) [
        | inl j ↦
            by_part (O.Join left right) (a ∷ b ∷ []) (l, (r, tt)) P.Join (join_type a b) (K.join left right a b (joinable_sound a b j)) (M.join left right a b (joinable_sound a b j)) m
            (sym (ap (λ v. if v then fine (as_part P.Join (join_type a b)) else Err (reference_place left)) j) ∙ e)
        | inr f ↦
            let made : Err (reference_place left) ≡ Ok m = sym (ap (λ v. if v then Ok (as_part P.Join (join_type a b)) else Err (reference_place left)) f) ∙ e in
            absurd (cc)
      ]

  maps : (source : Reference) (variable : Name) (body : Expression) (a : EsiType) → of source ≡ Some a → (r : Result Typed ℕ) → typed (map_variables variable a) body ≡ r → (m : Made) → r >>= mapped ≡ Ok m
      → StandsAs of channels (O.Map source variable body) m
  maps source variable body a is (Err at) t m e = absurd (cc)
  maps source variable body a is (Ok t) fits m e =
      by_part (O.Map source variable body) (a ∷ []) (is, tt) (P.Map t.formula) t.ty (K.mapping source variable body a t (each_means (map_variables variable a) body t fits))
      (M.mapping source variable body a t fits) m e

  scan_stands : (source : Reference) (state : Name) (st : EsiType) (initial : Number) (variable : Name) (body : Expression) (a : EsiType) → of source ≡ Some a → (word : Bits) → literal_word st initial.value ≡ Some word
      → (t : Typed) → typed (scan_variables state st variable a) body ≡ Ok t → (m : Made) → scanned (first_octet body) st word t ≡ Ok m → StandsAs of channels (O.Scan source state st initial variable body) m
  scan_stands source state st initial variable body a is word first t fits m e =
      elim (cases_Bool (same_types t.ty st)) [
        | inl same ↦
            by_part (O.Scan source state st initial variable body) (a ∷ []) (is, tt) (P.Scan word t.formula) st
            (K.scan source state st initial variable body a word t first (each_means (scan_variables state st variable a) body t fits) ((is_test t.ty st).0 same))
            (M.scan source state st initial variable body a word t first fits ((is_test t.ty st).0 same)) m
            (sym (ap (λ v. if v then fine (as_part (P.Scan word t.formula) st) else Err (first_octet body)) same) ∙ e)
        | inr other ↦
            let made : Err (first_octet body) ≡ Ok m = sym (ap (λ v. if v then Ok (as_part (P.Scan word t.formula) st) else Err (first_octet body)) other) ∙ e in
            absurd (cc)
      ]

  scan_typed : (source : Reference) (state : Name) (st : EsiType) (initial : Number) (variable : Name) (body : Expression) (a : EsiType) → of source ≡ Some a → (word : Bits) → literal_word st initial.value ≡ Some word
      → (r : Result Typed ℕ) → typed (scan_variables state st variable a) body ≡ r → (m : Made) → r >>= scanned (first_octet body) st word ≡ Ok m → StandsAs of channels (O.Scan source state st initial variable body) m
  scan_typed source state st initial variable body a is word first (Err at) fits m e = absurd (cc)
  scan_typed source state st initial variable body a is word first (Ok t) fits m e = scan_stands source state st initial variable body a is word first t fits m e

  scans : (source : Reference) (state : Name) (st : EsiType) (initial : Number) (variable : Name) (body : Expression) (a : EsiType) → of source ≡ Some a → (w : Option Bits) → literal_word st initial.value ≡ w
      → (m : Made) → scan_from state st variable body a w ≡ Ok m → StandsAs of channels (O.Scan source state st initial variable body) m
  scans source state st initial variable body a is None first m e = absurd (cc)
  scans source state st initial variable body a is (Some word) first m e = scan_typed source state st initial variable body a is word first (typed (scan_variables state st variable a) body) refl m e

  operation_stands : (operation : Operation) → AreTyped of (operation_sources operation) → (m : Made) → operation_made of channels operation ≡ Ok m → StandsAs of channels operation m
  operation_stands (O.Stage source) typed_are m e =
      let a = typed_are source (contains_here source []) in
      by_stages (O.Stage source) (a.0 ∷ []) (a.1, tt) 1 a.0 (K.stage source a.0) (M.stage source a.0) m (over_known (of source) a.0 (λ a. Ok (in_stages 1 a)) (Ok m) a.1 e)
  operation_stands (O.Buffer count source) typed_are m e =
      let a = typed_are source (contains_here source []) in
      by_stages (O.Buffer count source) (a.0 ∷ []) (a.1, tt) (count_in count.value) a.0 (K.buffer count source a.0) (M.buffer count source a.0) m (over_known (of source) a.0 (λ a. Ok (in_stages (count_in count.value) a)) (Ok m) a.1 e)
  operation_stands (O.Fifo depth source) typed_are m e =
      let a = typed_are source (contains_here source []) in
      by_part (O.Fifo depth source) (a.0 ∷ []) (a.1, tt) (P.Fifo (width_in a.0) (count_in depth.value)) a.0 (K.fifo depth source a.0) (M.fifo depth source a.0) m
      (over_known (of source) a.0 (λ a. Ok (as_part (P.Fifo (width_in a) (count_in depth.value)) a)) (Ok m) a.1 e)
  operation_stands (O.AsFifo source) typed_are m e =
      let a = typed_are source (contains_here source []) in
      by_part (O.AsFifo source) (a.0 ∷ []) (a.1, tt) P.AsFifo a.0 (K.as_fifo source a.0) (M.as_fifo source a.0) m (over_known (of source) a.0 (λ a. Ok (as_part P.AsFifo a)) (Ok m) a.1 e)
  operation_stands (O.AsVr source) typed_are m e =
      let a = typed_are source (contains_here source []) in
      by_part (O.AsVr source) (a.0 ∷ []) (a.1, tt) P.AsVr a.0 (K.as_vr source a.0) (M.as_vr source a.0) m (over_known (of source) a.0 (λ a. Ok (as_part P.AsVr a)) (Ok m) a.1 e)
  operation_stands (O.Fork source) typed_are m e =
      let a = typed_are source (contains_here source []) in
      by_part (O.Fork source) (a.0 ∷ []) (a.1, tt) (P.Fork (count_in channels)) a.0 (K.fork source a.0) (M.fork source a.0) m (over_known (of source) a.0 (λ a. Ok (as_part (P.Fork (count_in channels)) a)) (Ok m) a.1 e)
  operation_stands (O.Join left right) typed_are m e =
      let a = typed_are left (contains_here left (right ∷ [])) in
      let b = typed_are right (contains_later left (right ∷ []) right (contains_here right [])) in
      joins left right a.0 b.0 a.1 b.1 m (over_known (of right) b.0 (joined left a.0) (Ok m) b.1 (over_known (of left) a.0 (λ a. over (of right) (joined left a)) (Ok m) a.1 e))
  operation_stands (O.Map source variable body) typed_are m e =
      let a = typed_are source (contains_here source []) in
      maps source variable body a.0 a.1 (typed (map_variables variable a.0) body) refl m (over_known (of source) a.0 (map_over variable body) (Ok m) a.1 e)
  operation_stands (O.Scan source state st initial variable body) typed_are m e =
      let a = typed_are source (contains_here source []) in
      scans source state st initial variable body a.0 a.1 (literal_word st initial.value) refl m
      (over_known (of source) a.0 (λ a. scan_from state st variable body a (literal_word st initial.value)) (Ok m) a.1 e)

  -- what was made of an operation that fits
  pub making_stands : (operation : Operation) → AreTyped of (operation_sources operation) → (m : Making) → operation_made of channels operation ≡ m → refusals m ≡ [] → StandsAs of channels operation (made_or m)
  making_stands operation typed_are (Err at) is kept = absurd (cc)
  making_stands operation typed_are (Ok made) is kept = operation_stands operation typed_are made is

-- What an operation makes, as it is worked out, is what the rules say: its type, and where it does not fit.
use Rattle.std.proofs.Common.{◌≡◌, ℕ, ◌+◌, Bool, true, false, ◌⊎◌, inl, inr, List, [], ◌∷◌, Option, Some, None, max, refl, ap, sym, ◌∙◌, subst, arith}
use Rattle.std.specs.Prelude.{◌↔◌, Result, Ok, Err, codes, nat_le, if◌then◌else◌}
use Rattle.std.proofs.lemmas.Bool.{cases_Bool, false≢true, and_parts, and_from, leb-true, le-leb}
use Rattle.esi_base.specs.Answers.{◌>>=◌}
use Rattle.design_lex.specs.declared.limits.TheConstants.{WIDEST_TYPE}
use Rattle.channel_types.specs.declared.esi_type.EsiType.{EsiType}
use Rattle.channel_types.specs.declared.limits.TheConstants.{OPEN_TYPES}
use Rattle.channel_types.specs.Types.{width_of, nesting_of}
use Rattle.channel_types.specs.Equations.{width-Struct, width-field, nesting-Struct, nesting-field}
use Rattle.channel_types.specs.SameTypes.{same_types}
use Rattle.channel_types.specs.SameTypesLaws.{is_test}
use Rattle.netlist.specs.declared.part.Part.TheVariants as P
use Rattle.netlist.specs.Nets.{Bits}
use Rattle.design_tree.specs.declared.leaves.Name.{Name}
use Rattle.design_tree.specs.declared.leaves.Number.{Number}
use Rattle.design_tree.specs.declared.leaves.Reference.{Reference}
use Rattle.design_tree.specs.declared.expression.Expression.{Expression}
use Rattle.design_tree.specs.declared.statements.Operation.{Operation}
use Rattle.design_tree.specs.declared.statements.Operation.TheVariants as O
use Rattle.expression_types.specs.Views.{Typed}
use Rattle.expression_types.specs.Typing.{typed, literal_word}
use Rattle.expression_types.specs.Rows.{first_octet}
use Rattle.check_rules.specs.References.{operation_sources, reference_place}
use Rattle.channel_typing.specs.Joins.{join_type, field_of, IsJoinable, joinable}
use Rattle.channel_typing.specs.Rules as M
use Rattle.channel_typing.specs.Rules.{map_variables, scan_variables, MakesType, IsOperationMisfit, EachHas}
use Rattle.channel_typing.specs.Typing.{Made, Making, unknown, over, in_stages, as_part, width_in, count_in, joined, mapped, scanned, map_over, scan_from, operation_made}

-- ---- joins

join_width : (a b : EsiType) → width_of (join_type a b) ≡ width_of a + width_of b
join_width a b =
    width-Struct (field_of (codes "l") a ∷ field_of (codes "r") b ∷ []) ∙ (let l = width-field (field_of (codes "l") a) in let r = width-field (field_of (codes "r") b) in omega (arith, l, r))

join_nesting : (a b : EsiType) → nesting_of (join_type a b) ≡ max (nesting_of a) (nesting_of b) + 1
join_nesting a b =
    nesting-Struct (field_of (codes "l") a ∷ field_of (codes "r") b ∷ []) ∙ (let l = nesting-field (field_of (codes "l") a) in let r = nesting-field (field_of (codes "r") b) in omega (arith, l, r))

joinable_sound : (a b : EsiType) → joinable a b ≡ true → IsJoinable a b
joinable_sound a b e =
    let parts = and_parts (nat_le (width_of a + width_of b) WIDEST_TYPE) (nat_le (max (nesting_of a) (nesting_of b) + 1) OPEN_TYPES) e in
    let wide = leb-true (width_of a + width_of b) WIDEST_TYPE parts.0 in
    let deep = leb-true (max (nesting_of a) (nesting_of b) + 1) OPEN_TYPES parts.1 in
    record { wide = omega (arith, wide, join_width a b); deep = omega (arith, deep, join_nesting a b) }

joinable_true : (a b : EsiType) → IsJoinable a b → joinable a b ≡ true
joinable_true a b j =
    and_from (nat_le (width_of a + width_of b) WIDEST_TYPE) (nat_le (max (nesting_of a) (nesting_of b) + 1) OPEN_TYPES)
    (le-leb (width_of a + width_of b) WIDEST_TYPE (let wide = j.wide in omega (arith, wide, join_width a b)))
    (le-leb (max (nesting_of a) (nesting_of b) + 1) OPEN_TYPES (let deep = j.deep in omega (arith, deep, join_nesting a b)))

-- ---- steps

-- what is over a type that is known
record Over (o : Option EsiType) (next : EsiType → Making) (r : Making) : Type 0 where
  ty : EsiType
  is : o ≡ Some ty
  gives : next ty ≡ r

abbrev fine : Made → Making
fine m = Ok m

abbrev bad : ℕ → Making
bad at = Err at

none_made : (m : Made) (ty : EsiType) (r : Making) → r ≡ Ok unknown → r ≡ Ok m → m.ty ≡ Some ty → ⊥
none_made m ty (Ok n) e f t = let u : n ≡ unknown = cc in let v : n ≡ m = cc in let k : unknown.ty ≡ m.ty = ap (λ (m : Made). m.ty) (sym u ∙ v) in cc
none_made m ty (Err at) e f t = cc

over_ok : (o : Option EsiType) (next : EsiType → Making) (m : Made) (ty : EsiType) → over o next ≡ Ok m → m.ty ≡ Some ty → Over o next (Ok m)
over_ok None next m ty e t = absurd (none_made m ty (Ok unknown) refl e t)
over_ok (Some a) next m ty e t = record { ty = a; is = refl; gives = e }

over_err : (o : Option EsiType) (next : EsiType → Making) (at : ℕ) → over o next ≡ Err at → Over o next (Err at)
over_err None next at e = absurd (cc)
over_err (Some a) next at e = record { ty = a; is = refl; gives = e }

over_some : (o : Option EsiType) (next : EsiType → Making) (a : EsiType) → o ≡ Some a → over o next ≡ next a
over_some o next a is = ap (λ (o : Option EsiType). over o next) is

-- what follows an expression that fits
record Then (e : Result Typed ℕ) (next : Typed → Making) (r : Making) : Type 0 where
  t : Typed
  is : e ≡ Ok t
  gives : next t ≡ r

then_ok : (e : Result Typed ℕ) (next : Typed → Making) (m : Made) → e >>= next ≡ Ok m → Then e next (Ok m)
then_ok (Ok t) next m h = record { t = t; is = refl; gives = h }
then_ok (Err at) next m h = absurd (cc)

then_err : (e : Result Typed ℕ) (next : Typed → Making) (at : ℕ) → e >>= next ≡ Err at → (e ≡ Err at) ⊎ Then e next (Err at)
then_err (Ok t) next at h = inr (record { t = t; is = refl; gives = h })
then_err (Err k) next at h = inl (let same : k ≡ at = cc in ap (λ (n : ℕ). let r : Result Typed ℕ = Err n in r) same)

-- ---- what is made

-- the sources of an operation have types of which this holds
pub record Sourced (of : Reference → Option EsiType) (operation : Operation) (P : List EsiType → Type 0) : Type 0 where
  pub types : List EsiType
  pub known : EachHas (λ r ty. of r ≡ Some ty) (operation_sources operation) types
  pub holds : P types

-- a type is made
pub record Makes (r : Making) (ty : EsiType) : Type 0 where
  pub made : Made
  pub is : r ≡ Ok made
  pub has : made.ty ≡ Some ty

same_made : (a b : Made) → fine a ≡ fine b → a ≡ b
same_made a b e = cc

some_same : (a b : EsiType) → Some a ≡ Some b → a ≡ b
some_same a b e = cc

-- the type of what was made, by what makes it
made_is : (made m : Made) (a ty : EsiType) → made.ty ≡ Some a → fine made ≡ fine m → m.ty ≡ Some ty → a ≡ ty
made_is made m a ty own e t = some_same a ty (sym own ∙ ap (λ (m : Made). m.ty) (same_made made m e) ∙ t)

err_same : (i k : ℕ) → bad i ≡ bad k → i ≡ k
err_same i k e = cc

module _ (of : Reference → Option EsiType) (channels : ℕ) where
  -- operations whose channels have the type of their source
  passing : (operation : Operation) (source : Reference) (make : EsiType → Made) → operation_sources operation ≡ source ∷ [] → ((a : EsiType) → (make a).ty ≡ Some a) → ((a : EsiType) → MakesType operation (a ∷ []) a)
      → (m : Made) (ty : EsiType) → over (of source) (λ a. Ok (make a)) ≡ Ok m → m.ty ≡ Some ty → Sourced of operation (λ types. MakesType operation types ty)
  passing operation source make one own rule m ty e t =
      let o = over_ok (of source) (λ a. Ok (make a)) m ty e t in
      let same = made_is (make o.ty) m o.ty ty (own o.ty) o.gives t in
      record {
        types = o.ty ∷ [];
        known = subst (λ rs. EachHas (λ r ty. of r ≡ Some ty) rs (o.ty ∷ [])) (sym one) (o.is, tt);
        holds = subst (λ u. MakesType operation (o.ty ∷ []) u) same (rule o.ty);
      }

  joined_ok : (left right : Reference) (a b : EsiType) (m : Made) (ty : EsiType) → joined left a b ≡ Ok m → m.ty ≡ Some ty → MakesType (O.Join left right) (a ∷ b ∷ []) ty
  joined_ok left right a b m ty e t =
      elim (cases_Bool (joinable a b)) [
        | inl j ↦
            let made : Ok (as_part P.Join (join_type a b)) ≡ Ok m = sym (ap (λ v. if v then Ok (as_part P.Join (join_type a b)) else Err (reference_place left)) j) ∙ e in
            subst (λ u. MakesType (O.Join left right) (a ∷ b ∷ []) u) (made_is (as_part P.Join (join_type a b)) m (join_type a b) ty refl made t) (M.join left right a b (joinable_sound a b j))
        | inr f ↦
            let made : Err (reference_place left) ≡ Ok m = sym (ap (λ v. if v then Ok (as_part P.Join (join_type a b)) else Err (reference_place left)) f) ∙ e in
            absurd (cc)
      ]

  scan_ok : (source : Reference) (state : Name) (st : EsiType) (initial : Number) (variable : Name) (body : Expression) (a : EsiType) (m : Made) (ty : EsiType) (w : Option Bits)
      → literal_word st initial.value ≡ w → scan_from state st variable body a w ≡ Ok m → m.ty ≡ Some ty → MakesType (O.Scan source state st initial variable body) (a ∷ []) ty
  scan_ok source state st initial variable body a m ty None l e t = absurd (cc)
  scan_ok source state st initial variable body a m ty (Some word) l e t =
      let n = then_ok (typed (scan_variables state st variable a) body) (scanned (first_octet body) st word) m e in
      elim (cases_Bool (same_types n.t.ty st)) [
        | inl same ↦
            let made : Ok (as_part (P.Scan word n.t.formula) st) ≡ Ok m = sym (ap (λ v. if v then Ok (as_part (P.Scan word n.t.formula) st) else Err (first_octet body)) same) ∙ n.gives in
            subst (λ u. MakesType (O.Scan source state st initial variable body) (a ∷ []) u) (made_is (as_part (P.Scan word n.t.formula) st) m st ty refl made t)
            (M.scan source state st initial variable body a word n.t l n.is ((is_test n.t.ty st).0 same))
        | inr other ↦
            let made : Err (first_octet body) ≡ Ok m = sym (ap (λ v. if v then Ok (as_part (P.Scan word n.t.formula) st) else Err (first_octet body)) other) ∙ n.gives in
            absurd (cc)
      ]

  -- What an operation is worked out to make has its type by the rules.
  pub operation_sound : (operation : Operation) (m : Made) (ty : EsiType) → operation_made of channels operation ≡ Ok m → m.ty ≡ Some ty → Sourced of operation (λ types. MakesType operation types ty)
  operation_sound (O.Stage source) m ty e t = passing (O.Stage source) source (in_stages 1) refl (λ a. refl) (λ a. M.stage source a) m ty e t
  operation_sound (O.Buffer count source) m ty e t = passing (O.Buffer count source) source (in_stages (count_in count.value)) refl (λ a. refl) (λ a. M.buffer count source a) m ty e t
  operation_sound (O.Fifo depth source) m ty e t = passing (O.Fifo depth source) source (λ a. as_part (P.Fifo (width_in a) (count_in depth.value)) a) refl (λ a. refl) (λ a. M.fifo depth source a) m ty e t
  operation_sound (O.AsFifo source) m ty e t = passing (O.AsFifo source) source (as_part P.AsFifo) refl (λ a. refl) (λ a. M.as_fifo source a) m ty e t
  operation_sound (O.AsVr source) m ty e t = passing (O.AsVr source) source (as_part P.AsVr) refl (λ a. refl) (λ a. M.as_vr source a) m ty e t
  operation_sound (O.Fork source) m ty e t = passing (O.Fork source) source (as_part (P.Fork (count_in channels))) refl (λ a. refl) (λ a. M.fork source a) m ty e t
  operation_sound (O.Join left right) m ty e t =
      let o = over_ok (of left) (λ a. over (of right) (joined left a)) m ty e t in
      let p = over_ok (of right) (joined left o.ty) m ty o.gives t in
      record { types = o.ty ∷ p.ty ∷ []; known = (o.is, (p.is, tt)); holds = joined_ok left right o.ty p.ty m ty p.gives t }
  operation_sound (O.Map source variable body) m ty e t =
      let o = over_ok (of source) (map_over variable body) m ty e t in
      let n = then_ok (typed (map_variables variable o.ty) body) mapped m o.gives in
      record {
        types = o.ty ∷ [];
        known = (o.is, tt);
        holds = subst (λ u. MakesType (O.Map source variable body) (o.ty ∷ []) u) (made_is (as_part (P.Map n.t.formula) n.t.ty) m n.t.ty ty refl n.gives t) (M.mapping source variable body o.ty n.t n.is);
      }
  operation_sound (O.Scan source state st initial variable body) m ty e t =
      let o = over_ok (of source) (λ a. scan_from state st variable body a (literal_word st initial.value)) m ty e t in
      record { types = o.ty ∷ []; known = (o.is, tt); holds = scan_ok source state st initial variable body o.ty m ty (literal_word st initial.value) refl o.gives t }

  -- ---- where it does not fit

  fits : (source : Reference) (make : EsiType → Made) (at : ℕ) → over (of source) (λ a. Ok (make a)) ≡ Err at → ⊥
  fits source make at e = let o = over_err (of source) (λ a. Ok (make a)) at e in let no : Ok (make o.ty) ≡ Err at = o.gives in cc

  joined_err : (left right : Reference) (a b : EsiType) (at : ℕ) → joined left a b ≡ Err at → IsOperationMisfit (O.Join left right) (a ∷ b ∷ []) at
  joined_err left right a b at e =
      elim (cases_Bool (joinable a b)) [
        | inl j ↦
            let made : Ok (as_part P.Join (join_type a b)) ≡ Err at = sym (ap (λ v. if v then Ok (as_part P.Join (join_type a b)) else Err (reference_place left)) j) ∙ e in
            absurd (cc)
        | inr f ↦
            let made : Err (reference_place left) ≡ Err at = sym (ap (λ v. if v then Ok (as_part P.Join (join_type a b)) else Err (reference_place left)) f) ∙ e in
            subst (λ k. IsOperationMisfit (O.Join left right) (a ∷ b ∷ []) k) (err_same (reference_place left) at made)
            (M.unjoinable left right a b (λ j. false≢true (sym f ∙ joinable_true a b j)))
      ]

  scan_err : (source : Reference) (state : Name) (st : EsiType) (initial : Number) (variable : Name) (body : Expression) (a : EsiType) (at : ℕ) (w : Option Bits)
      → literal_word st initial.value ≡ w → scan_from state st variable body a w ≡ Err at → IsOperationMisfit (O.Scan source state st initial variable body) (a ∷ []) at
  scan_err source state st initial variable body a at None l e =
      subst (λ k. IsOperationMisfit (O.Scan source state st initial variable body) (a ∷ []) k) (err_same (first_octet body) at e) (M.misfitting_state source state st initial variable body a l)
  scan_err source state st initial variable body a at (Some word) l e =
      elim (then_err (typed (scan_variables state st variable a) body) (scanned (first_octet body) st word) at e) [
        | inl misfit ↦ M.untyped_scan source state st initial variable body a word at l misfit
        | inr n ↦ elim (cases_Bool (same_types n.t.ty st)) [
          | inl same ↦
              let made : Ok (as_part (P.Scan word n.t.formula) st) ≡ Err at = sym (ap (λ v. if v then Ok (as_part (P.Scan word n.t.formula) st) else Err (first_octet body)) same) ∙ n.gives in
              absurd (cc)
          | inr other ↦
              let made : Err (first_octet body) ≡ Err at = sym (ap (λ v. if v then Ok (as_part (P.Scan word n.t.formula) st) else Err (first_octet body)) other) ∙ n.gives in
              subst (λ k. IsOperationMisfit (O.Scan source state st initial variable body) (a ∷ []) k) (err_same (first_octet body) at made)
              (M.other_result source state st initial variable body a word n.t l n.is (λ same. false≢true (sym other ∙ (is_test n.t.ty st).1 same)))
        ]
      ]

  -- Where an operation is worked out not to fit, it does not fit by the rules.
  pub operation_refused : (operation : Operation) (at : ℕ) → operation_made of channels operation ≡ Err at → Sourced of operation (λ types. IsOperationMisfit operation types at)
  operation_refused (O.Stage source) at e = absurd (fits source (in_stages 1) at e)
  operation_refused (O.Buffer count source) at e = absurd (fits source (in_stages (count_in count.value)) at e)
  operation_refused (O.Fifo depth source) at e = absurd (fits source (λ a. as_part (P.Fifo (width_in a) (count_in depth.value)) a) at e)
  operation_refused (O.AsFifo source) at e = absurd (fits source (as_part P.AsFifo) at e)
  operation_refused (O.AsVr source) at e = absurd (fits source (as_part P.AsVr) at e)
  operation_refused (O.Fork source) at e = absurd (fits source (as_part (P.Fork (count_in channels))) at e)
  operation_refused (O.Join left right) at e =
      let o = over_err (of left) (λ a. over (of right) (joined left a)) at e in
      let p = over_err (of right) (joined left o.ty) at o.gives in
      record { types = o.ty ∷ p.ty ∷ []; known = (o.is, (p.is, tt)); holds = joined_err left right o.ty p.ty at p.gives }
  operation_refused (O.Map source variable body) at e =
      let o = over_err (of source) (map_over variable body) at e in
      record {
        types = o.ty ∷ [];
        known = (o.is, tt);
        holds = elim (then_err (typed (map_variables variable o.ty) body) mapped at o.gives) [
          | inl misfit ↦ M.untyped_mapping source variable body o.ty at misfit
          | inr n ↦ let made : mapped n.t ≡ Err at = n.gives in absurd (cc)
        ];
      }
  operation_refused (O.Scan source state st initial variable body) at e =
      let o = over_err (of source) (λ a. scan_from state st variable body a (literal_word st initial.value)) at e in
      record { types = o.ty ∷ []; known = (o.is, tt); holds = scan_err source state st initial variable body o.ty at (literal_word st initial.value) refl o.gives }

  -- ---- what the rules say is what is worked out

  -- An operation that has a type by the rules is worked out to have it.
  pub operation_complete : {operation : Operation} {types : List EsiType} {ty : EsiType} → MakesType operation types ty → EachHas (λ r ty. of r ≡ Some ty) (operation_sources operation) types
      → Makes (operation_made of channels operation) ty
  operation_complete (M.stage source a) k = record { made = in_stages 1 a; is = over_some (of source) (λ a. Ok (in_stages 1 a)) a k.0; has = refl }
  operation_complete (M.buffer count source a) k = record { made = in_stages (count_in count.value) a; is = over_some (of source) (λ a. Ok (in_stages (count_in count.value) a)) a k.0; has = refl }
  operation_complete (M.fifo depth source a) k = record {
    made = as_part (P.Fifo (width_in a) (count_in depth.value)) a;
    is = over_some (of source) (λ a. Ok (as_part (P.Fifo (width_in a) (count_in depth.value)) a)) a k.0;
    has = refl;
  }
  operation_complete (M.as_fifo source a) k = record { made = as_part P.AsFifo a; is = over_some (of source) (λ a. Ok (as_part P.AsFifo a)) a k.0; has = refl }
  operation_complete (M.as_vr source a) k = record { made = as_part P.AsVr a; is = over_some (of source) (λ a. Ok (as_part P.AsVr a)) a k.0; has = refl }
  operation_complete (M.fork source a) k = record { made = as_part (P.Fork (count_in channels)) a; is = over_some (of source) (λ a. Ok (as_part (P.Fork (count_in channels)) a)) a k.0; has = refl }
  operation_complete (M.join left right a b j) k = record {
    made = as_part P.Join (join_type a b);
    is = over_some (of left) (λ a. over (of right) (joined left a)) a k.0 ∙ over_some (of right) (joined left a) b k.1.0
        ∙ ap (λ v. if v then Ok (as_part P.Join (join_type a b)) else Err (reference_place left)) (joinable_true a b j);
    has = refl;
  }
  operation_complete (M.mapping source variable body a t e) k = record {
    made = as_part (P.Map t.formula) t.ty;
    is = over_some (of source) (map_over variable body) a k.0 ∙ ap (λ (r : Result Typed ℕ). r >>= mapped) e;
    has = refl;
  }
  operation_complete (M.scan source state st initial variable body a word t l e same) k = record {
    made = as_part (P.Scan word t.formula) st;
    is = over_some (of source) (λ a. scan_from state st variable body a (literal_word st initial.value)) a k.0
        ∙ ap (scan_from state st variable body a) l ∙ ap (λ (r : Result Typed ℕ). r >>= scanned (first_octet body) st word) e
        ∙ ap (λ v. if v then Ok (as_part (P.Scan word t.formula) st) else Err (first_octet body)) ((is_test t.ty st).1 same);
    has = refl;
  }

  -- An operation that does not fit by the rules is worked out not to fit, at the same place.
  pub misfit_complete : {operation : Operation} {types : List EsiType} {at : ℕ} → IsOperationMisfit operation types at → EachHas (λ r ty. of r ≡ Some ty) (operation_sources operation) types
      → operation_made of channels operation ≡ Err at
  misfit_complete (M.untyped_mapping source variable body a at e) k =
      over_some (of source) (map_over variable body) a k.0 ∙ ap (λ (r : Result Typed ℕ). r >>= mapped) e
  misfit_complete (M.misfitting_state source state st initial variable body a l) k =
      over_some (of source) (λ a. scan_from state st variable body a (literal_word st initial.value)) a k.0 ∙ ap (scan_from state st variable body a) l
  misfit_complete (M.untyped_scan source state st initial variable body a word at l e) k =
      over_some (of source) (λ a. scan_from state st variable body a (literal_word st initial.value)) a k.0
      ∙ ap (scan_from state st variable body a) l ∙ ap (λ (r : Result Typed ℕ). r >>= scanned (first_octet body) st word) e
  misfit_complete (M.other_result source state st initial variable body a word t l e other) k =
      over_some (of source) (λ a. scan_from state st variable body a (literal_word st initial.value)) a k.0
      ∙ ap (scan_from state st variable body a) l ∙ ap (λ (r : Result Typed ℕ). r >>= scanned (first_octet body) st word) e
      ∙ ap (λ v. if v then Ok (as_part (P.Scan word t.formula) st) else Err (first_octet body)) (not_same t.ty st other)
    where
      not_same : (a b : EsiType) → (a ≡ b → ⊥) → same_types a b ≡ false
      not_same a b no_path = elim (cases_Bool (same_types a b)) [ inl s ↦ absurd (no_path ((is_test a b).0 s)) | inr f ↦ f ]
  misfit_complete (M.unjoinable left right a b other) k =
      over_some (of left) (λ a. over (of right) (joined left a)) a k.0 ∙ over_some (of right) (joined left a) b k.1.0
      ∙ ap (λ v. if v then Ok (as_part P.Join (join_type a b)) else Err (reference_place left)) (not_joinable a b other)
    where
      not_joinable : (a b : EsiType) → (IsJoinable a b → ⊥) → joinable a b ≡ false
      not_joinable a b no_join = elim (cases_Bool (joinable a b)) [ inl j ↦ absurd (no_join (joinable_sound a b j)) | inr f ↦ f ]

-- ---- the laws

-- What an operation makes, as it is worked out from the types of its sources, has a type exactly where the rules give it one.
abbrev pub EachMakes : Type 0
EachMakes = (of : Reference → Option EsiType) (channels : ℕ) (operation : Operation) (ty : EsiType) → Makes (operation_made of channels operation) ty ↔ Sourced of operation (λ types. MakesType operation types ty)

-- It is worked out not to fit exactly where it does not fit by the rules, at the same place.
abbrev pub EachMisfits : Type 0
EachMisfits = (of : Reference → Option EsiType) (channels : ℕ) (operation : Operation) (at : ℕ)
    → (operation_made of channels operation ≡ Err at) ↔ Sourced of operation (λ types. IsOperationMisfit operation types at)

pub each_makes : EachMakes
each_makes of channels operation ty = (
  λ m. operation_sound of channels operation m.made ty m.is m.has,
  λ s. operation_complete of channels s.holds s.known,
)

pub each_misfits : EachMisfits
each_misfits of channels operation at = (
  λ e. operation_refused of channels operation at e,
  λ s. misfit_complete of channels s.holds s.known,
)

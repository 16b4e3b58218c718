-- Each part of the table stands for an operation.
use Rattle.std.proofs.Common.{◌≡◌, ℕ, zero, suc, ◌+◌, max, arith, true, ◌⊎◌, inl, inr, List, [], ◌∷◌, ◌++◌, Option, Some, None, length, refl, ap, sym, ◌∙◌, subst}
use Rattle.std.specs.Prelude.{Result, Ok, Err, Contains, slice_get, flat_map, codes, nat_le, if◌then◌else◌}
use Rattle.std.proofs.lemmas.Bool.{cases_Bool, and_parts, leb-true}
use Rattle.std.proofs.lemmas.List.Elements.{Contains-append_cases, Contains-append_left, Contains-append_right}
use Rattle.esi_base.specs.Answers.{◌>>=◌}
use Rattle.name_tables.specs.PlaceLaws.{contains_none, contains_one, contains_here, contains_later}
use Rattle.channel_types.specs.declared.esi_type.EsiType.{EsiType}
use Rattle.design_lex.specs.declared.limits.TheConstants.{WIDEST_TYPE}
use Rattle.channel_types.specs.declared.limits.TheConstants.{OPEN_TYPES}
use Rattle.channel_types.specs.Types.{width_of, nesting_of}
use Rattle.channel_types.specs.Equations.{width-Struct, width-field, nesting-Struct, nesting-field}
use Rattle.channel_types.specs.SameTypes.{same_types}
use Rattle.channel_types.specs.SameTypesLaws.{is_test}
use Rattle.design_tree.specs.declared.leaves.Name.{Name}
use Rattle.design_tree.specs.declared.leaves.Number.{Number}
use Rattle.design_tree.specs.declared.leaves.Reference.{Reference}
use Rattle.design_tree.specs.declared.expression.Expression.{Expression}
use Rattle.design_tree.specs.declared.statements.Operation.{Operation}
use Rattle.design_tree.specs.declared.statements.Operation.TheVariants as O
use Rattle.design_tree.specs.declared.statements.Statement.{Statement}
use Rattle.design_tree.specs.declared.statements.Statement.TheVariants as S
use Rattle.netlist.specs.declared.part.Part.{Part}
use Rattle.netlist.specs.declared.part.Part.TheVariants as P
use Rattle.netlist.specs.Nets.{Bits}
use Rattle.expression_types.specs.Views.{Typed}
use Rattle.expression_types.specs.Typing.{typed, literal_word}
use Rattle.expression_types.specs.Rows.{first_octet}
use Rattle.expression_types.specs.MeaningLaws.{each_means}
use Rattle.check_rules.specs.Scopes.{Scope}
use Rattle.check_rules.specs.References.{operation_sources, reference_place}
use Rattle.check_rules.specs.Dependencies.{elements_of}
use Rattle.channel_typing.specs.declared.typed_element.TypedElement.{TypedElement}
use Rattle.channel_typing.specs.Joins.{join_type, joinable, IsJoinable, field_of}
use Rattle.channel_typing.specs.Rules.{map_variables, scan_variables, EachHas, HasType}
use Rattle.channel_typing.specs.Typing.{Known, Made, Making, unknown, over, in_stages, as_part, width_in, count_in, type_at, joined, mapped, scanned, map_over, scan_from, operation_made, refusals, made_or, statement_made, element_misfits}
use Rattle.channel_typing.specs.Misfits.{misfits_of, made_by, known_with, known_after, misfits_along, elements_along, nothing_known, drive_misfits, type_in_body, elements_typed, order_of, scope_misfits, misfits}
use Rattle.channel_typing.specs.BodyLaws.{each_type_found}
use Rattle.element_parts.specs.declared.design_parts.DesignParts.{DesignParts}
use Rattle.element_parts.specs.Numbering.{BodyParts, body_parts, parts_in, with_element, numbered_along}
use Rattle.element_parts.specs.Listing.{no_parts, with_body, parts_along}
use Rattle.element_parts.specs.Standing as K
use Rattle.element_parts.specs.Standing.{StandsFor, IsPartOf, EachPartStands}

abbrev fine : Made → Making
fine m = Ok m

same_made : (a b : Made) → fine a ≡ fine b → a ≡ b
same_made a b e = cc

join_width : (a b : EsiType) → width_of (join_type a b) ≡ width_of a + width_of b
join_width a b =
    width-Struct (field_of (codes "l") a ∷ field_of (codes "r") b ∷ []) ∙ (let l = width-field (field_of (codes "l") a) in let r = width-field (field_of (codes "r") b) in omega (arith, l, r))

join_nesting : (a b : EsiType) → nesting_of (join_type a b) ≡ max (nesting_of a) (nesting_of b) + 1
join_nesting a b =
    nesting-Struct (field_of (codes "l") a ∷ field_of (codes "r") b ∷ []) ∙ (let l = nesting-field (field_of (codes "l") a) in let r = nesting-field (field_of (codes "r") b) in omega (arith, l, r))

joinable_sound : (a b : EsiType) → joinable a b ≡ true → IsJoinable a b
joinable_sound a b e =
    let parts = and_parts (nat_le (width_of a + width_of b) WIDEST_TYPE) (nat_le (max (nesting_of a) (nesting_of b) + 1) OPEN_TYPES) e in
    let wide = leb-true (width_of a + width_of b) WIDEST_TYPE parts.0 in
    let deep = leb-true (max (nesting_of a) (nesting_of b) + 1) OPEN_TYPES parts.1 in
    record { wide = omega (arith, wide, join_width a b); deep = omega (arith, deep, join_nesting a b) }

none_left : (xs ys : List ℕ) → xs ++ ys ≡ [] → (xs ≡ []) × (ys ≡ [])
none_left [] ys e = (refl, e)
none_left (x ∷ xs) ys e = absurd (cc)

-- ---- one operation

-- the part stands for the operation, whose sources have types
record StandsAt (of : Reference → Option EsiType) (channels : ℕ) (part : Part) (operation : Operation) : Type 0 where
  types : List EsiType
  known : EachHas (λ r ty. of r ≡ Some ty) (operation_sources operation) types
  count : ℕ
  width : ℕ
  stands : StandsFor channels operation types part count width

module _ (of : Reference → Option EsiType) (channels : ℕ) (part : Part) where
  no_part : (m : Made) → fine unknown ≡ fine m → Contains (parts_in m.element) part → ⊥
  no_part m e c = contains_none part (subst (λ (m : Made). Contains (parts_in m.element) part) (sym (same_made unknown m e)) c)

  own_part : (own : Part) (ty : EsiType) (m : Made) → fine (as_part own ty) ≡ fine m → Contains (parts_in m.element) part → own ≡ part
  own_part own ty m e c = contains_one own part (subst (λ (m : Made). Contains (parts_in m.element) part) (sym (same_made (as_part own ty) m e)) c)

  own_stage : (count : ℕ) (ty : EsiType) (m : Made) → fine (in_stages count ty) ≡ fine m → Contains (parts_in m.element) part → P.Stage (width_in ty) ≡ part
  own_stage count ty m e c = contains_one (P.Stage (width_in ty)) part (subst (λ (m : Made). Contains (parts_in m.element) part) (sym (same_made (in_stages count ty) m e)) c)

  -- operations of one source that make one part of its type
  passing : (operation : Operation) (source : Reference) (own : EsiType → Part) → operation_sources operation ≡ source ∷ [] → ((a : EsiType) → StandsFor channels operation (a ∷ []) (own a) 1 (width_in a))
      → (o : Option EsiType) → of source ≡ o → (m : Made) → over o (λ a. Ok (as_part (own a) a)) ≡ Ok m → Contains (parts_in m.element) part → StandsAt of channels part operation
  passing operation source own one rule None is m e c = absurd (no_part m e c)
  passing operation source own one rule (Some a) is m e c = record {
    types = a ∷ [];
    known = subst (λ rs. EachHas (λ r ty. of r ≡ Some ty) rs (a ∷ [])) (sym one) (is, tt);
    count = 1;
    width = width_in a;
    stands = subst (λ p. StandsFor channels operation (a ∷ []) p 1 (width_in a)) (own_part (own a) a m e c) (rule a);
  }

  -- stages in a row
  in_row : (operation : Operation) (source : Reference) (count : ℕ) → operation_sources operation ≡ source ∷ [] → ((a : EsiType) → StandsFor channels operation (a ∷ []) (P.Stage (width_in a)) count (width_in a))
      → (o : Option EsiType) → of source ≡ o → (m : Made) → over o (λ a. Ok (in_stages count a)) ≡ Ok m → Contains (parts_in m.element) part → StandsAt of channels part operation
  in_row operation source count one rule None is m e c = absurd (no_part m e c)
  in_row operation source count one rule (Some a) is m e c = record {
    types = a ∷ [];
    known = subst (λ rs. EachHas (λ r ty. of r ≡ Some ty) rs (a ∷ [])) (sym one) (is, tt);
    count = count;
    width = width_in a;
    stands = subst (λ p. StandsFor channels operation (a ∷ []) p count (width_in a)) (own_stage count a m e c) (rule a);
  }

  join_stands : (left right : Reference) (a b : EsiType) → of left ≡ Some a → of right ≡ Some b → (m : Made) → joined left a b ≡ Ok m → Contains (parts_in m.element) part → StandsAt of channels part (O.Join left right)
  join_stands left right a b l r m e c =
      elim (cases_Bool (joinable a b)) [
        | inl j ↦
            let made : fine (as_part P.Join (join_type a b)) ≡ fine m = sym (ap (λ v. if v then Ok (as_part P.Join (join_type a b)) else Err (reference_place left)) j) ∙ e in
            record {
              types = a ∷ b ∷ [];
              known = (l, (r, tt));
              count = 1;
              width = width_in (join_type a b);
              stands = subst (λ p. StandsFor channels (O.Join left right) (a ∷ b ∷ []) p 1 (width_in (join_type a b))) (own_part P.Join (join_type a b) m made c) (K.join left right a b (joinable_sound a b j));
            }
        | inr f ↦
            let made : Err (reference_place left) ≡ Ok m = sym (ap (λ v. if v then Ok (as_part P.Join (join_type a b)) else Err (reference_place left)) f) ∙ e in
            absurd (cc)
      ]

  joins : (left right : Reference) (o p : Option EsiType) → of left ≡ o → of right ≡ p → (m : Made) → over o (λ a. over p (joined left a)) ≡ Ok m → Contains (parts_in m.element) part → StandsAt of channels part (O.Join left right)
  joins left right None p l r m e c = absurd (no_part m e c)
  joins left right (Some a) None l r m e c = absurd (no_part m e c)
  joins left right (Some a) (Some b) l r m e c = join_stands left right a b l r m e c

  maps : (source : Reference) (variable : Name) (body : Expression) (a : EsiType) → of source ≡ Some a → (r : Result Typed ℕ) → typed (map_variables variable a) body ≡ r → (m : Made) → r >>= mapped ≡ Ok m
      → Contains (parts_in m.element) part → StandsAt of channels part (O.Map source variable body)
  maps source variable body a is (Err at) t m e c = absurd (cc)
  maps source variable body a is (Ok t) fits m e c = record {
    types = a ∷ [];
    known = (is, tt);
    count = 1;
    width = width_in t.ty;
    stands = subst (λ p. StandsFor channels (O.Map source variable body) (a ∷ []) p 1 (width_in t.ty)) (own_part (P.Map t.formula) t.ty m e c)
        (K.mapping source variable body a t (each_means (map_variables variable a) body t fits));
  }

  maps_over : (source : Reference) (variable : Name) (body : Expression) (o : Option EsiType) → of source ≡ o → (m : Made) → over o (map_over variable body) ≡ Ok m → Contains (parts_in m.element) part
      → StandsAt of channels part (O.Map source variable body)
  maps_over source variable body None is m e c = absurd (no_part m e c)
  maps_over source variable body (Some a) is m e c = maps source variable body a is (typed (map_variables variable a) body) refl m e c

  scan_stands : (source : Reference) (state : Name) (st : EsiType) (initial : Number) (variable : Name) (body : Expression) (a : EsiType) → of source ≡ Some a → (word : Bits) → literal_word st initial.value ≡ Some word
      → (t : Typed) → typed (scan_variables state st variable a) body ≡ Ok t → (m : Made) → scanned (first_octet body) st word t ≡ Ok m → Contains (parts_in m.element) part
      → StandsAt of channels part (O.Scan source state st initial variable body)
  scan_stands source state st initial variable body a is word first t fits m e c =
      elim (cases_Bool (same_types t.ty st)) [
        | inl same ↦
            let made : fine (as_part (P.Scan word t.formula) st) ≡ fine m = sym (ap (λ v. if v then Ok (as_part (P.Scan word t.formula) st) else Err (first_octet body)) same) ∙ e in
            record {
              types = a ∷ [];
              known = (is, tt);
              count = 1;
              width = width_in st;
              stands = subst (λ p. StandsFor channels (O.Scan source state st initial variable body) (a ∷ []) p 1 (width_in st)) (own_part (P.Scan word t.formula) st m made c)
                  (K.scan source state st initial variable body a word t first (each_means (scan_variables state st variable a) body t fits) ((is_test t.ty st).0 same));
            }
        | inr other ↦
            let made : Err (first_octet body) ≡ Ok m = sym (ap (λ v. if v then Ok (as_part (P.Scan word t.formula) st) else Err (first_octet body)) other) ∙ e in
            absurd (cc)
      ]

  scan_typed : (source : Reference) (state : Name) (st : EsiType) (initial : Number) (variable : Name) (body : Expression) (a : EsiType) → of source ≡ Some a → (word : Bits) → literal_word st initial.value ≡ Some word
      → (r : Result Typed ℕ) → typed (scan_variables state st variable a) body ≡ r → (m : Made) → r >>= scanned (first_octet body) st word ≡ Ok m → Contains (parts_in m.element) part
      → StandsAt of channels part (O.Scan source state st initial variable body)
  scan_typed source state st initial variable body a is word first (Err at) fits m e c = absurd (cc)
  scan_typed source state st initial variable body a is word first (Ok t) fits m e c = scan_stands source state st initial variable body a is word first t fits m e c

  scan_first : (source : Reference) (state : Name) (st : EsiType) (initial : Number) (variable : Name) (body : Expression) (a : EsiType) → of source ≡ Some a → (w : Option Bits) → literal_word st initial.value ≡ w
      → (m : Made) → scan_from state st variable body a w ≡ Ok m → Contains (parts_in m.element) part → StandsAt of channels part (O.Scan source state st initial variable body)
  scan_first source state st initial variable body a is None first m e c = absurd (cc)
  scan_first source state st initial variable body a is (Some word) first m e c = scan_typed source state st initial variable body a is word first (typed (scan_variables state st variable a) body) refl m e c

  scans : (source : Reference) (state : Name) (st : EsiType) (initial : Number) (variable : Name) (body : Expression) (o : Option EsiType) → of source ≡ o → (m : Made)
      → over o (λ a. scan_from state st variable body a (literal_word st initial.value)) ≡ Ok m → Contains (parts_in m.element) part → StandsAt of channels part (O.Scan source state st initial variable body)
  scans source state st initial variable body None is m e c = absurd (no_part m e c)
  scans source state st initial variable body (Some a) is m e c = scan_first source state st initial variable body a is (literal_word st initial.value) refl m e c

  operation_stands : (operation : Operation) (m : Made) → operation_made of channels operation ≡ Ok m → Contains (parts_in m.element) part → StandsAt of channels part operation
  operation_stands (O.Stage source) m e c = in_row (O.Stage source) source 1 refl (λ a. K.stage source a) (of source) refl m e c
  operation_stands (O.Buffer count source) m e c = in_row (O.Buffer count source) source (count_in count.value) refl (λ a. K.buffer count source a) (of source) refl m e c
  operation_stands (O.Fifo depth source) m e c = passing (O.Fifo depth source) source (λ a. P.Fifo (width_in a) (count_in depth.value)) refl (λ a. K.fifo depth source a) (of source) refl m e c
  operation_stands (O.AsFifo source) m e c = passing (O.AsFifo source) source (λ a. P.AsFifo) refl (λ a. K.as_fifo source a) (of source) refl m e c
  operation_stands (O.AsVr source) m e c = passing (O.AsVr source) source (λ a. P.AsVr) refl (λ a. K.as_vr source a) (of source) refl m e c
  operation_stands (O.Fork source) m e c = passing (O.Fork source) source (λ a. P.Fork (count_in channels)) refl (λ a. K.fork source a) (of source) refl m e c
  operation_stands (O.Join left right) m e c = joins left right (of left) (of right) refl refl m e c
  operation_stands (O.Map source variable body) m e c = maps_over source variable body (of source) refl m e c
  operation_stands (O.Scan source state ty initial variable body) m e c = scans source state ty initial variable body (of source) refl m e c

  -- what was made of an operation that fits
  making_stands : (operation : Operation) (m : Making) → operation_made of channels operation ≡ m → refusals m ≡ [] → Contains (parts_in (made_or m).element) part → StandsAt of channels part operation
  making_stands operation (Err at) is kept c = absurd (cc)
  making_stands operation (Ok made) is kept c = operation_stands operation made is c

-- ---- a body

each_at : (scope : Scope) (of : Reference → Option EsiType) → ((r : Reference) (ty : EsiType) → of r ≡ Some ty → HasType scope r ty) → (rs : List Reference) (types : List EsiType)
    → EachHas (λ r ty. of r ≡ Some ty) rs types → EachHas (HasType scope) rs types
each_at scope of has [] [] k = tt
each_at scope of has [] (ty ∷ types) k = absurd k
each_at scope of has (r ∷ rs) [] k = absurd k
each_at scope of has (r ∷ rs) (ty ∷ types) k = (has r ty k.0, each_at scope of has rs types k.1)

module _ (scopes : List Scope) (scope : Scope) (there : Contains scopes scope) (part : Part) where
  statement_stands : (of : Reference → Option EsiType) → ((r : Reference) (ty : EsiType) → of r ≡ Some ty → HasType scope r ty) → (s : Statement) → Contains scope.statements s → element_misfits scope of s ≡ []
      → Contains (parts_in (statement_made of s).element) part → IsPartOf scopes part
  statement_stands of has (S.Request at service port id) inside kept c = absurd (contains_none part c)
  statement_stands of has (S.Instance at id body bindings) inside kept c = absurd (contains_none part c)
  statement_stands of has (S.Drive at sink source) inside kept c = absurd (contains_none part c)
  statement_stands of has (S.Channels at names operation) inside kept c =
      let s = making_stands of (length names) part operation (operation_made of (length names) operation) refl kept c in
      record {
        scope = scope;
        body = there;
        at = at;
        names = names;
        operation = operation;
        statement = inside;
        types = s.types;
        known = each_at scope of has (operation_sources operation) s.types s.known;
        count = s.count;
        width = s.width;
        stands = s.stands;
      }

-- whatever is typed further, types are those of the rules
abbrev IsSound : Scope → List Statement → Known → Type 0
IsSound scope elements known = (order : List ℕ) (r : Reference) (ty : EsiType) → type_at scope elements (known_after scope elements known order) r ≡ Some ty → HasType scope r ty

module _ (scopes : List Scope) (scope : Scope) (there : Contains scopes scope) (part : Part) (elements : List Statement) (inside : (k : ℕ) (s : Statement) → slice_get elements k ≡ Some s → Contains scope.statements s) where
  number_stands : (known : Known) → IsSound scope elements known → (number : ℕ) (s : Option Statement) → slice_get elements number ≡ s → misfits_of scope elements known s ≡ [] → Contains (parts_in (made_by scope elements known s).element) part
      → IsPartOf scopes part
  number_stands known is number None e kept c = absurd (contains_none part c)
  number_stands known is number (Some s) e kept c = statement_stands scopes scope there part (type_at scope elements known) (is []) s (inside number s e) kept c

  along_stands : (known : Known) → IsSound scope elements known → (order : List ℕ) → misfits_along scope elements known order ≡ [] → Contains (flat_map parts_in (elements_along scope elements known order)) part → IsPartOf scopes part
  along_stands known is [] kept c = absurd (contains_none part c)
  along_stands known is (number ∷ order) kept c =
      let k = none_left (misfits_of scope elements known (slice_get elements number)) (misfits_along scope elements (known_with scope elements known number) order) kept in
      elim (Contains-append_cases (parts_in (made_by scope elements known (slice_get elements number)).element) (flat_map parts_in (elements_along scope elements (known_with scope elements known number) order)) part c) [
        | inl here ↦ number_stands known is number (slice_get elements number) refl k.0 here
        | inr later ↦ along_stands (known_with scope elements known number) (λ order r ty e. is (number ∷ order) r ty e) order k.1 later
      ]

head_within : (x : Statement) (xs es : List Statement) (k : ℕ) (s : Statement) → ((j : ℕ) → slice_get es j ≡ Some s → Contains xs s) → slice_get (x ∷ es) k ≡ Some s → Contains (x ∷ xs) s
head_within x xs es zero s more e = let same : x ≡ s = cc in subst (λ y. Contains (x ∷ xs) y) same (contains_here x xs)
head_within x xs es (suc k) s more e = contains_later x xs s (more k e)

element_within : (ss : List Statement) (k : ℕ) (s : Statement) → slice_get (elements_of ss) k ≡ Some s → Contains ss s
element_within [] k s e = absurd (cc)
element_within (S.Request at service port id ∷ ss) k s e = contains_later (S.Request at service port id) ss s (element_within ss k s e)
element_within (S.Instance at id body bindings ∷ ss) k s e = head_within (S.Instance at id body bindings) ss (elements_of ss) k s (λ j f. element_within ss j s f) e
element_within (S.Channels at names operation ∷ ss) k s e = head_within (S.Channels at names operation) ss (elements_of ss) k s (λ j f. element_within ss j s f) e
element_within (S.Drive at sink source ∷ ss) k s e = contains_later (S.Drive at sink source) ss s (element_within ss k s e)

body_stands : (scopes : List Scope) (scope : Scope) → Contains scopes scope → (part : Part) → scope_misfits scope ≡ [] → Contains (flat_map parts_in (elements_typed scope (elements_of scope.statements) (order_of scope))) part → IsPartOf scopes part
body_stands scopes scope there part kept c =
    let elements : List Statement = elements_of scope.statements in
    let k = none_left (misfits_along scope elements (nothing_known elements) (order_of scope)) (drive_misfits (type_in_body scope elements (order_of scope)) scope.statements) kept in
    along_stands scopes scope there part elements (λ k s e. element_within scope.statements k s e) (nothing_known elements) (λ order r ty e. each_type_found scope order r ty e) (order_of scope) k.0 c

-- ---- the table

-- a part of the table was in it before, or stands for one of the elements
numbered_parts : (part : Part) (b : BodyParts) (order : List ℕ) (typed : List TypedElement) → Contains (numbered_along b order typed).parts part → Contains b.parts part ⊎ Contains (flat_map parts_in typed) part
numbered_parts part b [] typed c = inl c
numbered_parts part b (number ∷ order) [] c = inl c
numbered_parts part b (number ∷ order) (element ∷ typed) c =
    elim (numbered_parts part (with_element b number element) order typed c) [
      | inl before ↦
          elim (Contains-append_cases b.parts (parts_in element) part before) [ inl old ↦ inl old | inr own ↦ inr (Contains-append_left (parts_in element) (flat_map parts_in typed) part own) ]
      | inr later ↦ inr (Contains-append_right (parts_in element) (flat_map parts_in typed) part later)
    ]

along_parts : (scopes : List Scope) (part : Part) (before : DesignParts) (left : List Scope) → ((s : Scope) → Contains left s → Contains scopes s) → misfits left ≡ [] → (Contains before.parts part → IsPartOf scopes part)
    → Contains (parts_along before left).parts part → IsPartOf scopes part
along_parts scopes part before [] among kept old c = old c
along_parts scopes part before (scope ∷ left) among kept old c =
    let k = none_left (scope_misfits scope) (misfits left) kept in
    along_parts scopes part (with_body before scope) left (λ s t. among s (contains_later scope left s t)) k.1
    (λ b. elim (numbered_parts part (body_parts before.parts []) (order_of scope) (elements_typed scope (elements_of scope.statements) (order_of scope)) b) [
      | inl earlier ↦ old earlier
      | inr own ↦ body_stands scopes scope (among scope (contains_here scope left)) part k.0 own
    ])
    c

pub each_part_stands : EachPartStands
each_part_stands scopes kept part c = along_parts scopes part no_parts scopes (λ s t. t) kept (λ b. absurd (contains_none part b)) c

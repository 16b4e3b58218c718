-- Each type of a body is good, where those in the text are.
use Rattle.std.proofs.Common.{◌≡◌, ℕ, zero, suc, ◌+◌, ◌<◌, max, List, [], ◌∷◌, Option, Some, None, length, inl, inr, refl, ap, sym, ◌∙◌, subst, arith}
use Rattle.std.specs.Prelude.{All, Contains, cond, find, slice_get, codes, Bool, true}
use Rattle.std.specs.Option.{option_map}
use Rattle.std.proofs.lemmas.Bool.{cases_Bool}
use Rattle.std.proofs.lemmas.List.Elements.{All-nil, All-cons, All-head, All-tail}
use Rattle.std.proofs.lemmas.Option.{same_Some, slice_get_within}
use Rattle.ll1_grammar.specs.Kinds.{among}
use Rattle.name_tables.specs.PlaceLaws.{contains_here, contains_later}
use Rattle.design_lex.specs.Spellings.{IsWordText}
use Rattle.design_lex.specs.Tokens.{word_token}
use Rattle.design_grammar.specs.Kinds.{code, names, word_kind}
use Rattle.design_grammar.specs.Names.{IsName}
use Rattle.channel_types.specs.declared.esi_type.EsiType.{EsiType}
use Rattle.channel_types.specs.declared.esi_type.EsiType.TheOpen.{EsiType-F}
use Rattle.channel_types.specs.declared.esi_type.EsiType.TheVariants.{outs-Struct}
use Rattle.channel_types.specs.declared.esi_type.Field.{Field}
use Rattle.channel_types.specs.Types.{width_of, nesting_of, level_width, IsLevel, IsGoodType}
use Rattle.channel_types.specs.Goods.{IsGoodWithin, good_low, good_type, good_struct}
use Rattle.channel_types.specs.Equations.{width-level, width-Struct, width-field, nesting-Struct, nesting-field}
use Rattle.design_tree.specs.declared.leaves.Name.{Name}
use Rattle.design_tree.specs.declared.leaves.Reference.{Reference}
use Rattle.design_tree.specs.declared.leaves.Reference.TheVariants as R
use Rattle.design_tree.specs.declared.expression.Expression.{Expression}
use Rattle.design_tree.specs.declared.expression.Expression.TheOpen.{Expression-F}
use Rattle.design_tree.specs.declared.expression.Expression.TheFolds.{fold-Expression}
use Rattle.design_tree.specs.declared.statements.Operation.{Operation}
use Rattle.design_tree.specs.declared.statements.Statement.{Statement}
use Rattle.design_tree.specs.declared.statements.Statement.TheVariants as S
use Rattle.design_tree.specs.declared.declarations.Member.{Member}
use Rattle.design_tree.specs.declared.declarations.Bundle.{Bundle}
use Rattle.design_tree.specs.declared.declarations.ServicePort.{ServicePort}
use Rattle.design_tree.specs.declared.declarations.Service.{Service}
use Rattle.design_tree.specs.declared.declarations.ModulePort.{ModulePort}
use Rattle.design_tree.specs.declared.declarations.Module.{Module}
use Rattle.expression_types.specs.GoodTypes as W
use Rattle.expression_types.specs.GoodTypes.{good_types_stay_good}
use Rattle.expression_types.specs.Views.{Variable}
use Rattle.check_rules.specs.Scopes.{Scope, is_name, and_then, find_bundle, find_service, find_service_port, find_module, find_member, find_port, find_id, bundle_of}
use Rattle.check_rules.specs.References.{operation_sources}
use Rattle.channel_typing.specs.DeclaredTypes as Y
use Rattle.channel_typing.specs.DeclaredTypes.{declared_type, part_type, type_of_port, type_of_member}
use Rattle.channel_typing.specs.Joins.{join_type, field_of, IsJoinable}
use Rattle.channel_typing.specs.Rules as M
use Rattle.channel_typing.specs.Rules.{variable_of, map_variables, EachHas, HasType, MakesType}
use Rattle.esi_text.specs.TypesIn as T
use Rattle.esi_text.specs.TypesIn.{expression_types, operation_types}
use Rattle.fitted_parts.proofs.TypesOf.{HoldsIn}

-- ---- what is found

find_contains : {A : Type 0} (test : A → Bool) (xs : List A) (x : A) → find test xs ≡ Some x → Contains xs x
find_contains test [] x e = absurd (cc)
find_contains test (y ∷ ys) x e =
    elim (cases_Bool (test y)) [
      | inl t ↦ subst (λ q. Contains (y ∷ ys) q) (same_Some y x (sym (ap (λ b. cond b (Some y) (find test ys)) t) ∙ e)) (contains_here y ys)
      | inr f ↦ contains_later y ys x (find_contains test ys x (sym (ap (λ b. cond b (Some y) (find test ys)) f) ∙ e))
    ]

-- what was found before it
record IsFrom {A B : Type 0} (o : Option A) (next : A → Option B) (y : B) : Type 0 where
  from : A
  is : o ≡ Some from
  gives : next from ≡ Some y

found_from : {A B : Type 0} (o : Option A) (next : A → Option B) (y : B) → and_then o next ≡ Some y → IsFrom o next y
found_from None next y e = absurd (cc)
found_from (Some x) next y e = record { from = x; is = refl; gives = e }

record IsMapped {A B : Type 0} (f : A → B) (o : Option A) (y : B) : Type 0 where
  item : A
  is : o ≡ Some item
  gives : f item ≡ y

mapped_from : {A B : Type 0} (f : A → B) (o : Option A) (y : B) → option_map f o ≡ Some y → IsMapped f o y
mapped_from f None y e = absurd (cc)
mapped_from f (Some x) y e = record { item = x; is = refl; gives = same_Some (f x) y e }

-- ---- declared types

module _ (scope : Scope) (good : HoldsIn IsGoodType scope) where
  member_good : (name : Name) (b : Bundle) → Contains scope.bundles b → (ty : EsiType) → option_map type_of_member (find_member name b.members) ≡ Some ty → IsGoodType ty
  member_good name b there ty e =
      let m = mapped_from type_of_member (find_member name b.members) ty e in
      subst IsGoodType m.gives (good.member b there m.item (find_contains (λ (q : Member). is_name name q.name) b.members m.item m.is))

  request_good : (service port name : Name) (ty : EsiType) → Y.member_type name (bundle_of scope service port) ≡ Some ty → IsGoodType ty
  request_good service port name ty e =
      let b = found_from (bundle_of scope service port) (λ (b : Bundle). option_map type_of_member (find_member name b.members)) ty e in
      let s = found_from (find_service service scope.services) (λ (s : Service). and_then (find_service_port port s.ports) (λ (p : ServicePort). find_bundle p.bundle scope.bundles)) b.from b.is in
      let p = found_from (find_service_port port s.from.ports) (λ (p : ServicePort). find_bundle p.bundle scope.bundles) b.from s.gives in
      member_good name b.from (find_contains (λ (q : Bundle). is_name p.from.bundle q.name) scope.bundles b.from p.gives) ty b.gives

  instance_good : (body name : Name) (ty : EsiType) → Y.port_type name (find_module body scope.modules) ≡ Some ty → IsGoodType ty
  instance_good body name ty e =
      let m = found_from (find_module body scope.modules) (λ (m : Module). option_map type_of_port (find_port name m.ports)) ty e in
      let p = mapped_from type_of_port (find_port name m.from.ports) ty m.gives in
      subst IsGoodType p.gives
      (good.module_port m.from (find_contains (λ (q : Module). is_name body q.name) scope.modules m.from m.is) p.item (find_contains (λ (q : ModulePort). is_name name q.name) m.from.ports p.item p.is))

  part_good : (name : Name) (o : Option Statement) (ty : EsiType) → part_type scope name o ≡ Some ty → IsGoodType ty
  part_good name None ty e = absurd (cc)
  part_good name (Some (S.Request at service port id)) ty e = request_good service port name ty e
  part_good name (Some (S.Instance at id body bindings)) ty e = instance_good body name ty e
  part_good name (Some (S.Channels at names operation)) ty e = absurd (cc)
  part_good name (Some (S.Drive at sink source)) ty e = absurd (cc)

  declared_good : (r : Reference) (ty : EsiType) → declared_type scope r ≡ Some ty → IsGoodType ty
  declared_good (R.Channel name) ty e =
      let p = mapped_from type_of_port (find_port name scope.ports) ty e in
      subst IsGoodType p.gives (good.port p.item (find_contains (λ (q : ModulePort). is_name name q.name) scope.ports p.item p.is))
  declared_good (R.Member id name) ty e = part_good name (find_id id scope.statements) ty e

-- ---- what operations make

abbrev join_fields : EsiType → EsiType → List Field
join_fields a b = field_of (codes "l") a ∷ field_of (codes "r") b ∷ []

-- l and r are names
l_word : IsWordText (codes "l")
unfolding word_token
l_word = record { begins = refl; octets = refl; spells = refl }

r_word : IsWordText (codes "r")
unfolding word_token
r_word = record { begins = refl; octets = refl; spells = refl }

l_kind : among names (code (word_kind (codes "l"))) ≡ true
unfolding word_kind
l_kind = refl

r_kind : among names (code (word_kind (codes "r"))) ≡ true
unfolding word_kind
r_kind = refl

join_width : (a b : EsiType) → width_of (join_type a b) ≡ width_of a + width_of b
join_width a b = width-Struct (join_fields a b) ∙ (let l = width-field (field_of (codes "l") a) in let r = width-field (field_of (codes "r") b) in omega (arith, l, r))

join_nesting : (a b : EsiType) → nesting_of (join_type a b) ≡ max (nesting_of a) (nesting_of b) + 1
join_nesting a b = nesting-Struct (join_fields a b) ∙ (let l = nesting-field (field_of (codes "l") a) in let r = nesting-field (field_of (codes "r") b) in omega (arith, l, r))

joined_good : (a b : EsiType) → IsGoodType a → IsGoodType b → IsJoinable a b → IsGoodType (join_type a b)
joined_good a b left right j =
    let sum = join_width a b in
    let depth = join_nesting a b in
    let low = good_low a left.each in
    let wide = j.wide in
    let deep = j.deep in
    let whole : width_of (join_type a b) ≡ level_width (EsiType-F.Struct (join_fields a b)) = width-level (join_type a b) ∙ ap level_width (outs-Struct (join_fields a b)) in
    let level : IsLevel (EsiType-F.Struct (join_fields a b)) = record {
      low = omega (arith, sum, low, whole);
      high = omega (arith, wide, whole);
      names = All-cons IsName (codes "l") (codes "r" ∷ []) (record { word = l_word; no_keyword = l_kind }) (All-cons IsName (codes "r") [] (record { word = r_word; no_keyword = r_kind }) (All-nil IsName));
      distinct = refl;
    } in
    let inner_left : IsGoodWithin 15 a = record { each = left.each; nesting = omega (arith, depth, deep) } in
    let inner_right : IsGoodWithin 15 b = record { each = right.each; nesting = omega (arith, depth, deep) } in
    good_type (join_type a b)
    (good_struct 15 (join_fields a b) level
    (All-cons (λ (f : Field). IsGoodWithin 15 f.ty) (field_of (codes "l") a) (field_of (codes "r") b ∷ []) inner_left
    (All-cons (λ (f : Field). IsGoodWithin 15 f.ty) (field_of (codes "r") b) [] inner_right (All-nil (λ (f : Field). IsGoodWithin 15 f.ty)))))

-- the types in an expression are read twice, by the same steps
steps_same : (level : Expression-F (List EsiType)) → T.types_step level ≡ W.types_step level
steps_same (Expression-F.Variable name) = refl
steps_same (Expression-F.Part of suffixes) = refl
steps_same (Expression-F.Literal at ty value) = refl
steps_same (Expression-F.Make at ty parts) = refl
steps_same (Expression-F.Cast at ty of) = refl
steps_same (Expression-F.Zext at width of) = refl
steps_same (Expression-F.Slice at high low of) = refl
steps_same (Expression-F.Not at of) = refl
steps_same (Expression-F.Binary at operator left right) = refl
steps_same (Expression-F.Mux at condition one other) = refl

written_good : (body : Expression) → All IsGoodType (expression_types body) → All IsGoodType (W.written_types body)
written_good body all = subst (λ (step : Expression-F (List EsiType) → List EsiType). All IsGoodType (fold-Expression (List EsiType) step body)) (λ i level. steps_same level i) all

makes_good : {operation : Operation} {types : List EsiType} {ty : EsiType} → MakesType operation types ty → All IsGoodType (operation_types operation) → All IsGoodType types → IsGoodType ty
makes_good (M.stage source a) written all = All-head IsGoodType a [] all
makes_good (M.buffer stages source a) written all = All-head IsGoodType a [] all
makes_good (M.fifo depth source a) written all = All-head IsGoodType a [] all
makes_good (M.as_fifo source a) written all = All-head IsGoodType a [] all
makes_good (M.as_vr source a) written all = All-head IsGoodType a [] all
makes_good (M.fork source a) written all = All-head IsGoodType a [] all
makes_good (M.join left right a b j) written all = joined_good a b (All-head IsGoodType a (b ∷ []) all) (All-head IsGoodType b [] (All-tail IsGoodType a (b ∷ []) all)) j
makes_good (M.mapping source variable body a t fits) written all =
    good_types_stay_good (map_variables variable a) body t (All-cons (λ (v : Variable). IsGoodType v.ty) (variable_of variable a) [] (All-head IsGoodType a [] all) (All-nil (λ (v : Variable). IsGoodType v.ty))) (written_good body written) fits
makes_good (M.scan source state st initial variable body a word t first fits same) written all = All-head IsGoodType st (expression_types body) written

-- ---- types of references

all_contained : (P : EsiType → Type 0) (xs : List EsiType) → ((x : EsiType) → Contains xs x → P x) → All P xs
all_contained P [] h = All-nil P
all_contained P (x ∷ xs) h = All-cons P x xs (h x (contains_here x xs)) (all_contained P xs (λ y c. h y (contains_later x xs y c)))

all_at : (P : EsiType → Type 0) (xs : List EsiType) → ((k : ℕ) (x : EsiType) → slice_get xs k ≡ Some x → P x) → All P xs
all_at P [] h = All-nil P
all_at P (x ∷ xs) h = All-cons P x xs (h 0 x refl) (all_at P xs (λ k y e. h (suc k) y e))

some_at : {A : Type 0} (xs : List A) (k : ℕ) → k < length xs → (x : A) × (slice_get xs k ≡ Some x)
some_at [] k low = absurd (omega arith)
some_at (x ∷ xs) zero low = (x, refl)
some_at (x ∷ xs) (suc k) low = some_at xs k (omega arith)

module _ (scope : Scope) (good : HoldsIn IsGoodType scope) where
  -- the types in the text of an operation
  pub written_of : (at : ℕ) (names : List Name) (operation : Operation) → Contains scope.statements (S.Channels at names operation) → All IsGoodType (operation_types operation)
  written_of at names operation inside = all_contained IsGoodType (operation_types operation) (λ ty c. good.statement (S.Channels at names operation) inside ty c)

  pub good_of : {r : Reference} {ty : EsiType} → HasType scope r ty → IsGoodType ty
  good_of (M.of_declaration r ty own) = declared_good scope good r ty own
  good_of (M.of_operation name at names operation types ty own inside named long sources made) =
      makes_good made (written_of at names operation inside)
      (all_at IsGoodType types (λ k a e.
      let within = slice_get_within types k a e in
      let r = some_at (operation_sources operation) k (omega arith) in
      good_of (sources k r.0 a r.1 e)))

  pub each_good : (rs : List Reference) (types : List EsiType) → EachHas (HasType scope) rs types → All IsGoodType types
  each_good [] [] known = All-nil IsGoodType
  each_good [] (ty ∷ types) known = absurd known
  each_good (r ∷ rs) [] known = absurd known
  each_good (r ∷ rs) (ty ∷ types) known = All-cons IsGoodType ty types (good_of known.0) (each_good rs types known.1)

  pub made_good : (at : ℕ) (names : List Name) (operation : Operation) → Contains scope.statements (S.Channels at names operation) → (types : List EsiType) (ty : EsiType) → MakesType operation types ty → All IsGoodType types → IsGoodType ty
  made_good at names operation inside types ty makes all = makes_good makes (written_of at names operation inside) all

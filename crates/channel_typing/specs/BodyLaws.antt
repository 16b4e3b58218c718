-- What is found along an order does not fit by the rules.
use Rattle.std.proofs.Common.{◌≡◌, ℕ, zero, suc, ◌+◌, Bool, true, false, ◌⊎◌, inl, inr, List, [], ◌∷◌, Option, Some, None, length, get_or, set, refl, ap, sym, ◌∙◌, subst, arith}
use Rattle.std.specs.Prelude.{Ok, Err, Contains, slice_get, replicate, if◌then◌else◌}
use Rattle.std.proofs.lemmas.Bool.{cases_Bool, false≢true}
use Rattle.std.proofs.lemmas.List.Elements.{Contains-append_cases}
use Rattle.name_tables.specs.PlaceLaws.{contains_none, contains_here, contains_later, contains_cases}
use Rattle.channel_types.specs.declared.esi_type.EsiType.{EsiType}
use Rattle.channel_types.specs.SameTypes.{same_types}
use Rattle.channel_types.specs.SameTypesLaws.{is_test}
use Rattle.design_tree.specs.declared.leaves.Name.{Name}
use Rattle.design_tree.specs.declared.leaves.Reference.{Reference}
use Rattle.design_tree.specs.declared.leaves.Reference.TheVariants as R
use Rattle.design_tree.specs.declared.statements.Operation.{Operation}
use Rattle.design_tree.specs.declared.statements.Statement.{Statement}
use Rattle.design_tree.specs.declared.statements.Statement.TheVariants as S
use Rattle.design_scopes.specs.Flat.{contains_flat}
use Rattle.check_rules.specs.Scopes.{Scope, find_module}
use Rattle.check_rules.specs.References.{operation_sources, reference_place}
use Rattle.check_rules.specs.Dependencies.{elements_of, makes}
use Rattle.body_order.specs.Makers.{maker_from, maker}
use Rattle.channel_typing.specs.DeclaredTypes.{declared_type, port_type}
use Rattle.channel_typing.specs.Rules as M
use Rattle.channel_typing.specs.Rules.{EachHas, HasType, IsMisfit}
use Rattle.channel_typing.specs.Typing.{Known, Making, known_of, made_type, or_type, type_at, operation_made, refusals, made_or, unless_same, bound_misfits, element_misfits, drive_misfit, statement_made}
use Rattle.channel_typing.specs.Misfits.{misfits_of, made_by, known_with, known_after, misfits_along, nothing_known, known_in, type_in_body, drive_misfits, body_misfits, scope_misfits, order_of}
use Rattle.channel_typing.specs.OperationLaws.{Makes, operation_sound, operation_refused}

-- ---- lists

pub one_only : (x y : ℕ) → Contains (x ∷ []) y → y ≡ x
one_only x y c = elim (contains_cases x [] y c) [ inl e ↦ sym e | inr later ↦ absurd (contains_none y later) ]

set_cases : (xs : Known) (n k : ℕ) (x : Option EsiType) (ty : EsiType) → get_or (set xs n x) k None ≡ Some ty → ((k ≡ n) × (x ≡ Some ty)) ⊎ (get_or xs k None ≡ Some ty)
set_cases [] n k x ty e = inr e
set_cases (y ∷ ys) zero zero x ty e = inl (refl, e)
set_cases (y ∷ ys) zero (suc k) x ty e = inr e
set_cases (y ∷ ys) (suc n) zero x ty e = inr e
set_cases (y ∷ ys) (suc n) (suc k) x ty e = elim (set_cases ys n k x ty e) [ inl both ↦ inl (ap (λ (i : ℕ). suc i) both.0, both.1) | inr old ↦ inr old ]

none_there : (n k : ℕ) (ty : EsiType) → get_or (replicate n None) k None ≡ Some ty → ⊥
none_there zero k ty e = cc
none_there (suc n) zero ty e = cc
none_there (suc n) (suc k) ty e = none_there n k ty e

-- an element that makes something
record IsMaker (r : Reference) (es : List Statement) (i k : ℕ) : Type 0 where
  element : Statement
  index : ℕ
  place : k ≡ i + index
  stands : slice_get es index ≡ Some element
  makes_it : makes r element ≡ true

maker_is : (r : Reference) (i k : ℕ) (es : List Statement) → maker_from r i es ≡ Some k → IsMaker r es i k
maker_is r i k [] e = absurd (cc)
maker_is r i k (s ∷ es) e =
    elim (cases_Bool (makes r s)) [
      | inl t ↦
          let same : Some i ≡ Some k = sym (ap (λ b. if b then Some i else maker_from r (i + 1) es) t) ∙ e in
          let is : i ≡ k = cc in
          record { element = s; index = 0; place = omega arith; stands = refl; makes_it = t }
      | inr f ↦
          let more = maker_is r (i + 1) k es (sym (ap (λ b. if b then Some i else maker_from r (i + 1) es) f) ∙ e) in
          record { element = more.element; index = suc more.index; place = (let p = more.place in omega arith); stands = more.stands; makes_it = more.makes_it }
    ]

head_within : (x : Statement) (ss rest : List Statement) (k : ℕ) (s : Statement) → ((j : ℕ) → slice_get rest j ≡ Some s → Contains ss s) → slice_get (x ∷ rest) k ≡ Some s → Contains (x ∷ ss) s
head_within x ss rest zero s more e = let same : x ≡ s = cc in subst (λ y. Contains (x ∷ ss) y) same (contains_here x ss)
head_within x ss rest (suc k) s more e = contains_later x ss s (more k e)

filter_within : (ss : List Statement) (k : ℕ) (s : Statement) → slice_get (elements_of ss) k ≡ Some s → Contains ss s
filter_within [] k s e = absurd (cc)
filter_within (S.Request at service port id ∷ ss) k s e = contains_later (S.Request at service port id) ss s (filter_within ss k s e)
filter_within (S.Instance at id body bindings ∷ ss) k s e = head_within (S.Instance at id body bindings) ss (elements_of ss) k s (λ j f. filter_within ss j s f) e
filter_within (S.Channels at names operation ∷ ss) k s e = head_within (S.Channels at names operation) ss (elements_of ss) k s (λ j f. filter_within ss j s f) e
filter_within (S.Drive at sink source ∷ ss) k s e = contains_later (S.Drive at sink source) ss s (filter_within ss k s e)

-- ---- types of sources

module _ (scope : Scope) where
  each_at : (of : Reference → Option EsiType) → ((r : Reference) (ty : EsiType) → of r ≡ Some ty → HasType scope r ty) → (rs : List Reference) (types : List EsiType) → EachHas (λ r ty. of r ≡ Some ty) rs types
      → EachHas (HasType scope) rs types
  each_at of has [] [] k = tt
  each_at of has [] (ty ∷ types) k = absurd k
  each_at of has (r ∷ rs) [] k = absurd k
  each_at of has (r ∷ rs) (ty ∷ types) k = (has r ty k.0, each_at of has rs types k.1)

  each_long : (rs : List Reference) (types : List EsiType) → EachHas (HasType scope) rs types → length types ≡ length rs
  each_long [] [] k = refl
  each_long [] (ty ∷ types) k = absurd k
  each_long (r ∷ rs) [] k = absurd k
  each_long (r ∷ rs) (ty ∷ types) k = ap (λ n. suc n) (each_long rs types k.1)

  each_get : (rs : List Reference) (types : List EsiType) → EachHas (HasType scope) rs types → (k : ℕ) (r : Reference) (a : EsiType) → slice_get rs k ≡ Some r → slice_get types k ≡ Some a → HasType scope r a
  each_get [] types h k r a e f = absurd (cc)
  each_get (x ∷ rs) [] h k r a e f = absurd h
  each_get (x ∷ rs) (ty ∷ types) h zero r a e f = let one : x ≡ r = cc in let other : ty ≡ a = cc in subst (λ u. HasType scope r u) other (subst (λ q. HasType scope q ty) one h.0)
  each_get (x ∷ rs) (ty ∷ types) h (suc k) r a e f = each_get rs types h.1 k r a e f

-- ---- what is known

-- the channels of the statement have the type
abbrev pub Gives : Scope → Statement → EsiType → Type 0
Gives scope s ty = (name : Name) → makes (R.Channel name) s ≡ true → declared_type scope (R.Channel name) ≡ None → HasType scope (R.Channel name) ty

-- what is known of an element is the type of its channels
pub record IsKnown (scope : Scope) (elements : List Statement) (known : Known) : Type 0 where
  pub each : (k : ℕ) (ty : EsiType) (s : Statement) → get_or known k None ≡ Some ty → slice_get elements k ≡ Some s → Gives scope s ty

-- the elements are statements of the body
pub record AreInside (scope : Scope) (elements : List Statement) : Type 0 where
  pub each : (k : ℕ) (s : Statement) → slice_get elements k ≡ Some s → Contains scope.statements s

nothing_sound : (scope : Scope) (elements : List Statement) → IsKnown scope elements (nothing_known elements)
nothing_sound scope elements = record { each = λ k ty s e at. absurd (none_there (length elements) k ty e) }

module _ (scope : Scope) (elements : List Statement) (known : Known) (is : IsKnown scope elements known) where
  of_maker : (name : Name) (ty : EsiType) → declared_type scope (R.Channel name) ≡ None → (m : Option ℕ) → maker elements (R.Channel name) ≡ m → known_of known m ≡ Some ty → HasType scope (R.Channel name) ty
  of_maker name ty own None f e = absurd (cc)
  of_maker name ty own (Some k) f e =
      let m = maker_is (R.Channel name) 0 k elements f in
      let place : k ≡ m.index = (let p = m.place in omega arith) in
      is.each k ty m.element e (ap (slice_get elements) place ∙ m.stands) name m.makes_it own

  of_made : (r : Reference) (ty : EsiType) → declared_type scope r ≡ None → made_type elements known r ≡ Some ty → HasType scope r ty
  of_made (R.Member id name) ty own e = absurd (cc)
  of_made (R.Channel name) ty own e = of_maker name ty own (maker elements (R.Channel name)) refl e

  by_declaration : (r : Reference) (ty : EsiType) (d : Option EsiType) → declared_type scope r ≡ d → or_type d (made_type elements known r) ≡ Some ty → HasType scope r ty
  by_declaration r ty (Some t) own e = M.of_declaration r ty (own ∙ e)
  by_declaration r ty None own e = of_made r ty own e

  -- what is worked out of a reference is its type
  pub type_sound : (r : Reference) (ty : EsiType) → type_at scope elements known r ≡ Some ty → HasType scope r ty
  type_sound r ty e = by_declaration r ty (declared_type scope r) refl e

made_some : (m : Making) (ty : EsiType) → (made_or m).ty ≡ Some ty → Makes m ty
made_some (Ok made) ty e = record { made = made; is = refl; has = e }
made_some (Err at) ty e = absurd (cc)

-- two types that are known and are not one
record Unlike (reported : ℕ) (asked_type own_type : Option EsiType) (at : ℕ) : Type 0 where
  asked : EsiType
  ty : EsiType
  asked_is : asked_type ≡ Some asked
  ty_is : own_type ≡ Some ty
  other : ty ≡ asked → ⊥
  place : at ≡ reported

unlike : (place : ℕ) (asked own : Option EsiType) (at : ℕ) → Contains (unless_same place asked own) at → Unlike place asked own at
unlike place None own at c = absurd (contains_none at c)
unlike place (Some a) None at c = absurd (contains_none at c)
unlike place (Some a) (Some t) at c =
    elim (cases_Bool (same_types t a)) [
      | inl s ↦ absurd (contains_none at (subst (λ b. Contains (if b then [] else place ∷ []) at) s c))
      | inr f ↦ record {
        asked = a;
        ty = t;
        asked_is = refl;
        ty_is = refl;
        other = λ p. false≢true (sym f ∙ (is_test t a).1 p);
        place = one_only place at (subst (λ b. Contains (if b then [] else place ∷ []) at) f c);
      }
    ]

module _ (scope : Scope) (of : Reference → Option EsiType) (has : (r : Reference) (ty : EsiType) → of r ≡ Some ty → HasType scope r ty) where
  gives : (s : Statement) → Contains scope.statements s → (ty : EsiType) → (statement_made of s).ty ≡ Some ty → Gives scope s ty
  gives (S.Request at service port id) inside ty e = absurd (cc)
  gives (S.Instance at id body bindings) inside ty e = absurd (cc)
  gives (S.Drive at sink source) inside ty e = absurd (cc)
  gives (S.Channels at names operation) inside ty e = λ name named own.
      let m = made_some (operation_made of (length names) operation) ty e in
      let s = operation_sound of (length names) operation m.made ty m.is m.has in
      let h = each_at scope of has (operation_sources operation) s.types s.known in
      M.of_operation name at names operation s.types ty own inside named (each_long scope (operation_sources operation) s.types h) (each_get scope (operation_sources operation) s.types h) s.holds

  -- ---- what does not fit

  operation_found : (at : ℕ) (names : List Name) (operation : Operation) (place : ℕ) (m : Making) → operation_made of (length names) operation ≡ m → Contains (refusals m) place → IsMisfit scope (S.Channels at names operation) place
  operation_found at names operation place (Ok made) e c = absurd (contains_none place c)
  operation_found at names operation place (Err p) e c =
      let same = one_only p place c in
      let s = operation_refused of (length names) operation p e in
      subst (λ q. IsMisfit scope (S.Channels at names operation) q) (sym same)
      (M.misfitting at names operation s.types p (each_at scope of has (operation_sources operation) s.types s.known) s.holds)

  element_found : (s : Statement) (place : ℕ) → Contains (element_misfits scope of s) place → IsMisfit scope s place
  element_found (S.Request at service port id) place c = absurd (contains_none place c)
  element_found (S.Drive at sink source) place c = absurd (contains_none place c)
  element_found (S.Channels at names operation) place c = operation_found at names operation place (operation_made of (length names) operation) refl c
  element_found (S.Instance at id body bindings) place c =
      let o = contains_flat (bound_misfits scope of body) bindings place c in
      let u = unlike (reference_place o.item.source) (port_type o.item.port (find_module body scope.modules)) (of o.item.source) place o.one in
      subst (λ q. IsMisfit scope (S.Instance at id body bindings) q) (sym u.place)
      (M.misbound at id body bindings o.item u.asked u.ty o.there u.asked_is (has o.item.source u.ty u.ty_is) u.other)

  drive_found : (s : Statement) (place : ℕ) → Contains (drive_misfit of s) place → IsMisfit scope s place
  drive_found (S.Request at service port id) place c = absurd (contains_none place c)
  drive_found (S.Instance at id body bindings) place c = absurd (contains_none place c)
  drive_found (S.Channels at names operation) place c = absurd (contains_none place c)
  drive_found (S.Drive at sink source) place c =
      let u = unlike (reference_place source) (of sink) (of source) place c in
      subst (λ q. IsMisfit scope (S.Drive at sink source) q) (sym u.place)
      (M.misdriven at sink source u.asked u.ty (has sink u.asked u.asked_is) (has source u.ty u.ty_is) u.other)

-- ---- along an order

-- a statement of the body does not fit, at the place
pub record IsMisfitIn (scope : Scope) (at : ℕ) : Type 0 where
  pub statement : Statement
  pub there : Contains scope.statements statement
  pub misfits : IsMisfit scope statement at

module _ (scope : Scope) (elements : List Statement) (inside : AreInside scope elements) where
  known_more : (known : Known) → IsKnown scope elements known → (number : ℕ) → IsKnown scope elements (known_with scope elements known number)
  known_more known is number = record { each = each }
    where
      new : (ty : EsiType) (s : Statement) → (made_by scope elements known (slice_get elements number)).ty ≡ Some ty → slice_get elements number ≡ Some s → Gives scope s ty
      new ty s e at =
          gives scope (type_at scope elements known) (type_sound scope elements known is) s (inside.each number s at) ty (sym (ap (λ (o : Option Statement). (made_by scope elements known o).ty) at) ∙ e)

      each : (k : ℕ) (ty : EsiType) (s : Statement) → get_or (known_with scope elements known number) k None ≡ Some ty → slice_get elements k ≡ Some s → Gives scope s ty
      each k ty s e at = elim (set_cases known number k (made_by scope elements known (slice_get elements number)).ty ty e) [
        | inl both ↦ new ty s both.1 (sym (ap (slice_get elements) both.0) ∙ at)
        | inr old ↦ is.each k ty s old at
      ]

  after_sound : (known : Known) → IsKnown scope elements known → (order : List ℕ) → IsKnown scope elements (known_after scope elements known order)
  after_sound known is [] = is
  after_sound known is (number ∷ order) = after_sound (known_with scope elements known number) (known_more known is number) order

  number_found : (known : Known) → IsKnown scope elements known → (number : ℕ) (o : Option Statement) → slice_get elements number ≡ o → (at : ℕ) → Contains (misfits_of scope elements known o) at → IsMisfitIn scope at
  number_found known is number None e at c = absurd (contains_none at c)
  number_found known is number (Some s) e at c = record { statement = s; there = inside.each number s e; misfits = element_found scope (type_at scope elements known) (type_sound scope elements known is) s at c }

  along_found : (known : Known) → IsKnown scope elements known → (order : List ℕ) (at : ℕ) → Contains (misfits_along scope elements known order) at → IsMisfitIn scope at
  along_found known is [] at c = absurd (contains_none at c)
  along_found known is (number ∷ order) at c =
      elim (Contains-append_cases (misfits_of scope elements known (slice_get elements number)) (misfits_along scope elements (known_with scope elements known number) order) at c) [
        | inl here ↦ number_found known is number (slice_get elements number) refl at here
        | inr later ↦ along_found (known_with scope elements known number) (known_more known is number) order at later
      ]

  drives_found : (known : Known) → IsKnown scope elements known → (at : ℕ) → Contains (drive_misfits (type_at scope elements known) scope.statements) at → IsMisfitIn scope at
  drives_found known is at c =
      let o = contains_flat (drive_misfit (type_at scope elements known)) scope.statements at c in
      record { statement = o.item; there = o.there; misfits = drive_found scope (type_at scope elements known) (type_sound scope elements known is) o.item at o.one }

  body_found : (order : List ℕ) (at : ℕ) → Contains (body_misfits scope elements order) at → IsMisfitIn scope at
  body_found order at c =
      elim (Contains-append_cases (misfits_along scope elements (nothing_known elements) order) (drive_misfits (type_in_body scope elements order) scope.statements) at c) [
        | inl here ↦ along_found (nothing_known elements) (nothing_sound scope elements) order at here
        | inr later ↦ drives_found (known_in scope elements order) (after_sound (nothing_known elements) (nothing_sound scope elements) order) at later
      ]

elements_inside : (scope : Scope) → AreInside scope (elements_of scope.statements)
elements_inside scope = record { each = λ k s e. filter_within scope.statements k s e }

-- ---- the laws

-- The types that are found in a body, along any order of its elements, are those of the rules.
abbrev pub EachTypeFound : Type 0
EachTypeFound = (scope : Scope) (order : List ℕ) (r : Reference) (ty : EsiType) → type_in_body scope (elements_of scope.statements) order r ≡ Some ty → HasType scope r ty

-- Where something is found not to fit, a statement of the body does not fit by the rules.
abbrev pub EachMisfitFound : Type 0
EachMisfitFound = (scope : Scope) (at : ℕ) → Contains (scope_misfits scope) at → IsMisfitIn scope at

pub each_type_found : EachTypeFound
each_type_found scope order r ty e =
    type_sound scope (elements_of scope.statements) (known_in scope (elements_of scope.statements) order)
    (after_sound scope (elements_of scope.statements) (elements_inside scope) (nothing_known (elements_of scope.statements)) (nothing_sound scope (elements_of scope.statements)) order) r ty e

pub each_misfit_found : EachMisfitFound
each_misfit_found scope at c = body_found scope (elements_of scope.statements) (elements_inside scope) (order_of scope) at c

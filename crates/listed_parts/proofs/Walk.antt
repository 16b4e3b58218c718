-- Along the element order of a body each operation finds its sources typed, so that a part stands for it.
use Rattle.std.proofs.Common.{◌≡◌, ℕ, zero, suc, ◌+◌, ◌<◌, true, false, ◌⊎◌, inl, inr, List, [], ◌∷◌, ◌++◌, Option, Some, None, All, length, map, get_or, set, take, refl, ap, sym, ◌∙◌, subst, arith, eqb, append_assoc}
use Rattle.std.specs.Prelude.{Contains, slice_get, flat_map, option_to_list, if◌then◌else◌}
use Rattle.std.proofs.lemmas.Bool.{false≢true, cases_Bool, or_cases, or_left, or_right, and_parts, eqb-true, eq-eqb}
use Rattle.std.proofs.lemmas.List.{get_or-set_same, get_or-set_other, length-set, length-map}
use Rattle.std.proofs.lemmas.List.Elements.{All-nil, All-cons, All-append}
use Rattle.std.proofs.lemmas.List.Folds.{list_any-append}
use Rattle.std.proofs.lemmas.Option.{slice_get_within}
use Rattle.name_tables.specs.PlaceLaws.{contains_none, contains_cases}
use Rattle.channel_types.specs.declared.esi_type.EsiType.{EsiType}
use Rattle.design_tree.specs.declared.leaves.Name.{Name}
use Rattle.design_tree.specs.declared.leaves.Reference.{Reference}
use Rattle.design_tree.specs.declared.leaves.Reference.TheVariants as R
use Rattle.design_tree.specs.declared.statements.Operation.{Operation}
use Rattle.design_tree.specs.declared.statements.Statement.{Statement}
use Rattle.design_tree.specs.declared.statements.Statement.TheVariants as S
use Rattle.element_order.specs.Orders.{AllBelow, among, all_among, needs_of}
use Rattle.element_order.specs.Laws.{IsSorted}
use Rattle.check_rules.specs.Scopes.{Scope, is_name}
use Rattle.check_rules.specs.References.{is_among, operation_sources, sources_of, channels_of}
use Rattle.check_rules.specs.Dependencies.{elements_of, makes}
use Rattle.body_order.specs.Makers.{maker_from, maker, needs_of_sources, first_needs}
use Rattle.netlist.specs.declared.part.Part.{Part}
use Rattle.channel_typing.specs.declared.typed_element.TypedElement.{TypedElement}
use Rattle.channel_typing.specs.Rules.{EachHas, HasType, MakesType}
use Rattle.channel_typing.specs.Typing.{Known, known_of, made_type, or_type, type_at, operation_made, refusals, width_in}
use Rattle.channel_typing.specs.Misfits.{misfits_of, made_by, known_with, known_after, misfits_along, elements_along}
use Rattle.element_parts.specs.Numbering.{parts_in, ordered_element}
use Rattle.element_parts.specs.Standing.{StandsFor}
use Rattle.listed_parts.proofs.Operations.{StandsAs, element_at, making_stands}
use Rattle.listed_parts.proofs.Resolved as F
use Rattle.listed_parts.proofs.Resolved.{IsFound}

none_left : (xs ys : List ℕ) → xs ++ ys ≡ [] → (xs ≡ []) × (ys ≡ [])
none_left [] ys e = (refl, e)
none_left (x ∷ xs) ys e = absurd (cc)

-- ---- numbers that stand in a list

among_front : (j : ℕ) (xs ys : List ℕ) → among j xs ≡ true → among j (xs ++ ys) ≡ true
among_front j xs ys e = list_any-append (eqb j) xs ys ∙ or_left (among j xs) (among j ys) e

among_back : (j : ℕ) (xs ys : List ℕ) → among j ys ≡ true → among j (xs ++ ys) ≡ true
among_back j xs ys e = list_any-append (eqb j) xs ys ∙ or_right (among j xs) (among j ys) e

among_one : (j : ℕ) → among j (j ∷ []) ≡ true
among_one j = or_left (eqb j j) false (eq-eqb j j refl)

among_last : (j n : ℕ) (before : List ℕ) → among j (before ++ n ∷ []) ≡ true → (j ≡ n) ⊎ (among j before ≡ true)
among_last j n before e =
    elim (or_cases (among j before) (among j (n ∷ [])) (sym (list_any-append (eqb j) before (n ∷ [])) ∙ e)) [
      | inl old ↦ inr old
      | inr new ↦ elim (or_cases (eqb j n) false new) [ inl t ↦ inl (eqb-true j n t) | inr f ↦ absurd (false≢true f) ]
    ]

all_among_one : (j : ℕ) (ds placed : List ℕ) → all_among ds placed ≡ true → among j ds ≡ true → among j placed ≡ true
all_among_one j [] placed a e = absurd (false≢true e)
all_among_one j (d ∷ ds) placed a e =
    let parts = and_parts (among d placed) (all_among ds placed) a in
    elim (or_cases (eqb j d) (among j ds) e) [ inl t ↦ subst (λ k. among k placed ≡ true) (sym (eqb-true j d t)) parts.0 | inr t ↦ all_among_one j ds placed parts.1 t ]

-- ---- an order as a walk: each element needs only those before it

abbrev pub Follows : List (List ℕ) → List ℕ → List ℕ → Type 0
Follows needs before [] = Unit {0}
Follows needs before (n ∷ rest) = (all_among (needs_of needs n) before ≡ true) × Follows needs (before ++ n ∷ []) rest

get_or_here : (before rest : List ℕ) (n : ℕ) → get_or (before ++ n ∷ rest) (length before) 0 ≡ n
get_or_here [] rest n = refl
get_or_here (x ∷ xs) rest n = get_or_here xs rest n

take_front : (before rest : List ℕ) → take (length before) (before ++ rest) ≡ before
take_front [] rest = refl
take_front (x ∷ xs) rest = ap (λ l. x ∷ l) (take_front xs rest)

within_front : (before rest : List ℕ) (n : ℕ) → length before < length (before ++ n ∷ rest)
within_front [] rest n = omega arith
within_front (x ∷ xs) rest n = let more = within_front xs rest n in omega arith

pub follows_from : (needs : List (List ℕ)) (before rest placed : List ℕ) → placed ≡ before ++ rest → IsSorted needs placed → Follows needs before rest
follows_from needs before [] placed e s = tt
follows_from needs before (n ∷ rest) placed e s =
    let at : get_or placed (length before) 0 ≡ n = ap (λ p. get_or p (length before) 0) e ∙ get_or_here before rest n in
    let front : take (length before) placed ≡ before = ap (take (length before)) e ∙ take_front before (n ∷ rest) in
    let within : length before < length placed = subst (λ p. length before < length p) (sym e) (within_front before rest n) in
    let needed : all_among (needs_of needs n) before ≡ true =
    subst (λ l. all_among (needs_of needs n) l ≡ true) front (subst (λ q. all_among (needs_of needs q) (take (length before) placed) ≡ true) at (s.sources (length before) within)) in
    (needed, follows_from needs (before ++ n ∷ []) rest placed (e ∙ sym (append_assoc before (n ∷ []) rest)) s)

-- ---- what elements need are elements

maker_low : (r : Reference) (i k : ℕ) (es : List Statement) → maker_from r i es ≡ Some k → k < i + length es
maker_low r i k [] e = absurd (cc)
maker_low r i k (s ∷ es) e =
    elim (cases_Bool (makes r s)) [
      | inl t ↦ let same : Some i ≡ Some k = sym (ap (λ b. if b then Some i else maker_from r (i + 1) es) t) ∙ e in let is : i ≡ k = cc in omega arith
      | inr f ↦ let more = maker_low r (i + 1) k es (sym (ap (λ b. if b then Some i else maker_from r (i + 1) es) f) ∙ e) in omega arith
    ]

option_below : (n : ℕ) (found : Option ℕ) → ((k : ℕ) → found ≡ Some k → k < n) → AllBelow n (option_to_list found)
option_below n None low = All-nil (λ d. d < n)
option_below n (Some k) low = All-cons (λ d. d < n) k [] (low k refl) (All-nil (λ d. d < n))

sources_below : (es : List Statement) (rs : List Reference) → AllBelow (length es) (needs_of_sources es rs)
sources_below es [] = All-nil (λ d. d < length es)
sources_below es (r ∷ rs) =
    All-append (λ d. d < length es) (option_to_list (maker es r)) (needs_of_sources es rs) (option_below (length es) (maker es r) (λ k e. let low = maker_low r 0 k es e in omega arith)) (sources_below es rs)

each_below : (all es : List Statement) → All (AllBelow (length all)) (map (λ element. needs_of_sources all (sources_of element)) es)
each_below all [] = All-nil (AllBelow (length all))
each_below all (e ∷ es) = All-cons (AllBelow (length all)) (needs_of_sources all (sources_of e)) (map (λ element. needs_of_sources all (sources_of element)) es) (sources_below all (sources_of e)) (each_below all es)

pub needs_below : (es : List Statement) → All (AllBelow (length (first_needs es))) (first_needs es)
needs_below es = subst (λ n. All (AllBelow n) (first_needs es)) (sym (length-map es (λ element. needs_of_sources es (sources_of element)))) (each_below es es)

needs_at : (f : Statement → List ℕ) (es : List Statement) (n : ℕ) (s : Statement) → slice_get es n ≡ Some s → get_or (map f es) n [] ≡ f s
needs_at f [] n s e = absurd (cc)
needs_at f (x ∷ es) zero s e = let same : x ≡ s = cc in ap f same
needs_at f (x ∷ es) (suc n) s e = needs_at f es n s e

source_needed : (es : List Statement) (rs : List Reference) (r : Reference) (j : ℕ) → Contains rs r → maker es r ≡ Some j → among j (needs_of_sources es rs) ≡ true
source_needed es [] r j c e = absurd (contains_none r c)
source_needed es (x ∷ rs) r j c e = elim (contains_cases x rs r c) [
  | inl same ↦
      among_front j (option_to_list (maker es x)) (needs_of_sources es rs)
      (subst (λ o. among j (option_to_list o) ≡ true) (sym (ap (maker es) same ∙ e)) (among_one j))
  | inr later ↦ among_back j (option_to_list (maker es x)) (needs_of_sources es rs) (source_needed es rs r j later e)
]

-- a channel that an operation of the body makes
record HasMaker (name : Name) (i : ℕ) (es : List Statement) : Type 0 where
  number : ℕ
  at : ℕ
  names : List Name
  operation : Operation
  found : maker_from (R.Channel name) i es ≡ Some (i + number)
  stands : slice_get es number ≡ Some (S.Channels at names operation)

further : (name : Name) (i : ℕ) (s : Statement) (es : List Statement) → makes (R.Channel name) s ≡ false → HasMaker name (i + 1) es → HasMaker name i (s ∷ es)
further name i s es other m = record {
  number = suc m.number;
  at = m.at;
  names = m.names;
  operation = m.operation;
  found = ap (λ b. if b then Some i else maker_from (R.Channel name) (i + 1) es) other ∙ m.found ∙ ap (λ n. Some n) (omega arith);
  stands = m.stands;
}

has_maker : (name : Name) (i : ℕ) (ss : List Statement) → is_among name (flat_map channels_of ss) ≡ true → HasMaker name i (elements_of ss)
has_maker name i [] e = absurd (false≢true e)
has_maker name i (S.Request at service port id ∷ ss) e = has_maker name i ss e
has_maker name i (S.Instance at id body bindings ∷ ss) e = further name i (S.Instance at id body bindings) (elements_of ss) refl (has_maker name (i + 1) ss e)
has_maker name i (S.Drive at sink source ∷ ss) e = has_maker name i ss e
has_maker name i (S.Channels at names operation ∷ ss) e =
    elim (cases_Bool (is_among name names)) [
      | inl t ↦ record {
        number = 0;
        at = at;
        names = names;
        operation = operation;
        found = ap (λ b. if b then Some i else maker_from (R.Channel name) (i + 1) (elements_of ss)) t ∙ ap (λ n. Some n) (omega arith);
        stands = refl;
      }
      | inr f ↦ further name i (S.Channels at names operation) (elements_of ss) f
          (has_maker name (i + 1) ss (elim (or_cases (is_among name names) (is_among name (flat_map channels_of ss)) (sym (list_any-append (is_name name) names (flat_map channels_of ss)) ∙ e)) [
            | inl t ↦ absurd (false≢true (sym f ∙ t))
            | inr later ↦ later
          ]))
    ]

-- ---- the walk

-- The element is a part that stands for the operation, with types of its sources by the rules.
pub record ElementStands (scope : Scope) (names : List Name) (operation : Operation) (element : TypedElement) : Type 0 where
  pub types : List EsiType
  pub known : EachHas (HasType scope) (operation_sources operation) types
  pub part : Part
  pub own : parts_in element ≡ part ∷ []
  pub count : ℕ
  pub width : ℕ
  pub numbered : (index number : ℕ) → ordered_element index number element ≡ element_at index number count width
  pub stands : StandsFor (length names) operation types part count width
  pub ty : EsiType
  pub makes : MakesType operation types ty
  pub word : width ≡ width_in ty

-- where the element of the number is an operation, a part stands for it
abbrev pub Stands : Scope → List Statement → ℕ → TypedElement → Type 0
Stands scope elements n element = (at : ℕ) (names : List Name) (operation : Operation) → slice_get elements n ≡ Some (S.Channels at names operation) → ElementStands scope names operation element

-- for each number of an order and its element
abbrev pub EachStands : Scope → List Statement → List ℕ → List TypedElement → Type 0
EachStands scope elements [] typed = Unit {0}
EachStands scope elements (n ∷ order) [] = Unit {0}
EachStands scope elements (n ∷ order) (element ∷ typed) = Stands scope elements n element × EachStands scope elements order typed

each_at : (scope : Scope) (of : Reference → Option EsiType) → ((r : Reference) (ty : EsiType) → of r ≡ Some ty → HasType scope r ty) → (rs : List Reference) (types : List EsiType)
    → EachHas (λ r ty. of r ≡ Some ty) rs types → EachHas (HasType scope) rs types
each_at scope of has [] [] k = tt
each_at scope of has [] (ty ∷ types) k = absurd k
each_at scope of has (r ∷ rs) [] k = absurd k
each_at scope of has (r ∷ rs) (ty ∷ types) k = (has r ty k.0, each_at scope of has rs types k.1)

-- a type is known of each operation among these numbers
abbrev IsReady : List Statement → List ℕ → Known → Type 0
IsReady elements before known =
    (j at : ℕ) (names : List Name) (operation : Operation) → among j before ≡ true → slice_get elements j ≡ Some (S.Channels at names operation) → (ty : EsiType) × (get_or known j None ≡ Some ty)

-- whatever is typed further, types are those of the rules
abbrev IsSound : Scope → List Statement → Known → Type 0
IsSound scope elements known = (order : List ℕ) (r : Reference) (ty : EsiType) → type_at scope elements (known_after scope elements known order) r ≡ Some ty → HasType scope r ty

module _ (scope : Scope) (found : (at : ℕ) (names : List Name) (operation : Operation) (number : ℕ) → slice_get (elements_of scope.statements) number ≡ Some (S.Channels at names operation)
    → (r : Reference) → Contains (operation_sources operation) r → IsFound scope r) where
  -- what an element takes is typed
  taken_typed : (before : List ℕ) (known : Known) → IsReady (elements_of scope.statements) before known → (n at : ℕ) (names : List Name) (operation : Operation)
      → slice_get (elements_of scope.statements) n ≡ Some (S.Channels at names operation) → all_among (needs_of (first_needs (elements_of scope.statements)) n) before ≡ true
      → {r : Reference} → Contains (operation_sources operation) r → IsFound scope r → (ty : EsiType) × (type_at scope (elements_of scope.statements) known r ≡ Some ty)
  taken_typed before known ready n at names operation e all c (F.declared r ty own) = (ty, ap (λ d. or_type d (made_type (elements_of scope.statements) known r)) own)
  taken_typed before known ready n at names operation e all c (F.made name own named) =
      let elements : List Statement = elements_of scope.statements in
      let m = has_maker name 0 scope.statements named in
      let z : 0 + m.number ≡ m.number = omega arith in
      let maker_is : maker elements (R.Channel name) ≡ Some m.number = m.found ∙ ap (λ k. Some k) z in
      let needed : among m.number (needs_of (first_needs elements) n) ≡ true =
      subst (λ l. among m.number l ≡ true) (sym (needs_at (λ element. needs_of_sources elements (sources_of element)) elements n (S.Channels at names operation) e))
      (source_needed elements (operation_sources operation) (R.Channel name) m.number c maker_is) in
      let t = ready m.number m.at m.names m.operation (all_among_one m.number (needs_of (first_needs elements) n) before all needed) m.stands in
      (t.0, ap (λ d. or_type d (made_type elements known (R.Channel name))) own ∙ ap (λ m. known_of known m) maker_is ∙ t.1)

  -- what is made of an operation
  made_here : (before : List ℕ) (known : Known) → IsReady (elements_of scope.statements) before known → (n at : ℕ) (names : List Name) (operation : Operation)
      → slice_get (elements_of scope.statements) n ≡ Some (S.Channels at names operation) → all_among (needs_of (first_needs (elements_of scope.statements)) n) before ≡ true
      → misfits_of scope (elements_of scope.statements) known (slice_get (elements_of scope.statements) n) ≡ []
      → StandsAs (type_at scope (elements_of scope.statements) known) (length names) operation (made_by scope (elements_of scope.statements) known (slice_get (elements_of scope.statements) n))
  made_here before known ready n at names operation e all kept =
      let elements : List Statement = elements_of scope.statements in
      let of : Reference → Option EsiType = type_at scope elements known in
      let fits : refusals (operation_made of (length names) operation) ≡ [] = sym (ap (misfits_of scope elements known) e) ∙ kept in
      subst (λ (o : Option Statement). StandsAs of (length names) operation (made_by scope elements known o)) (sym e)
      (making_stands of (length names) operation (λ r c. taken_typed before known ready n at names operation e all c (found at names operation n e r c)) (operation_made of (length names) operation) refl fits)

  pub walked : (before : List ℕ) (known : Known) → IsReady (elements_of scope.statements) before known → length known ≡ length (elements_of scope.statements) → IsSound scope (elements_of scope.statements) known
      → (order : List ℕ) → Follows (first_needs (elements_of scope.statements)) before order → misfits_along scope (elements_of scope.statements) known order ≡ []
      → EachStands scope (elements_of scope.statements) order (elements_along scope (elements_of scope.statements) known order)
  walked before known ready long sound [] follows kept = tt
  walked before known ready long sound (n ∷ order) follows kept =
      let elements : List Statement = elements_of scope.statements in
      let k = none_left (misfits_of scope elements known (slice_get elements n)) (misfits_along scope elements (known_with scope elements known n) order) kept in
      (here k.0, walked (before ++ n ∷ []) (known_with scope elements known n) (next k.0) (length-set known n (made_by scope elements known (slice_get elements n)).ty ∙ long) (λ order r ty e. sound (n ∷ order) r ty e) order follows.1 k.1)
    where
      here : misfits_of scope (elements_of scope.statements) known (slice_get (elements_of scope.statements) n) ≡ []
          → Stands scope (elements_of scope.statements) n (made_by scope (elements_of scope.statements) known (slice_get (elements_of scope.statements) n)).element
      here fits at names operation e =
          let m = made_here before known ready n at names operation e follows.0 fits in
          record {
            types = m.types;
            known = each_at scope (type_at scope (elements_of scope.statements) known) (λ r ty f. sound [] r ty f) (operation_sources operation) m.types m.known;
            part = m.part;
            own = m.own;
            count = m.count;
            width = m.width;
            numbered = m.numbered;
            stands = m.stands;
            ty = m.ty;
            makes = m.makes;
            word = m.word;
          }

      next : misfits_of scope (elements_of scope.statements) known (slice_get (elements_of scope.statements) n) ≡ [] → IsReady (elements_of scope.statements) (before ++ n ∷ []) (known_with scope (elements_of scope.statements) known n)
      next fits j at names operation a e = newest (cases_Bool (eqb j n))
        where
          own : Option EsiType
          own = (made_by scope (elements_of scope.statements) known (slice_get (elements_of scope.statements) n)).ty

          newest : ((eqb j n ≡ true) ⊎ (eqb j n ≡ false)) → (ty : EsiType) × (get_or (set known n own) j None ≡ Some ty)
          newest (inl t) =
              let is : j ≡ n = eqb-true j n t in
              let e' : slice_get (elements_of scope.statements) n ≡ Some (S.Channels at names operation) = ap (slice_get (elements_of scope.statements)) (sym is) ∙ e in
              let m = made_here before known ready n at names operation e' follows.0 fits in
              let low : n < length known = (let within = slice_get_within (elements_of scope.statements) n (S.Channels at names operation) e' in omega arith) in
              (m.ty, ap (λ q. get_or (set known n own) q None) is ∙ get_or-set_same known n own None low ∙ m.has)
          newest (inr f) =
              let old : among j before ≡ true = elim (among_last j n before a) [ inl is ↦ absurd (false≢true (sym f ∙ eq-eqb j n is)) | inr old ↦ old ] in
              let t = ready j at names operation old e in
              (t.0, get_or-set_other known n j own None (λ is. false≢true (sym f ∙ eq-eqb j n is)) ∙ t.1)

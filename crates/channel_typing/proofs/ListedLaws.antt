-- All types and misfits of the rules are found along an order in which all elements stand.
use Rattle.std.proofs.Common.{◌≡◌, ℕ, zero, suc, ◌+◌, ◌<◌, ◌||◌, Bool, true, false, inl, inr, List, [], ◌∷◌, ◌++◌, Option, Some, None, length, map, get_or, set, take, refl, ap, sym, ◌∙◌, subst, arith, eqb, append_assoc}
use Rattle.std.specs.Prelude.{Contains, slice_get, option_to_list, if◌then◌else◌}
use Rattle.std.specs.List.{IsDistinct, AllByRecursion}
use Rattle.std.proofs.lemmas.Bool.{false≢true, cases_Bool, or_cases, or_left, or_right, and_parts, eqb-true, eq-eqb, ne_eqb}
use Rattle.std.proofs.lemmas.Map.Keys.{IsDistinct-head, IsDistinct-tail}
use Rattle.std.proofs.lemmas.List.{get_or-set_same, get_or-set_other, length-set, length-replicate}
use Rattle.std.proofs.lemmas.List.Elements.{Contains-append_left, Contains-append_right}
use Rattle.std.proofs.lemmas.Option.{slice_get_within}
use Rattle.name_tables.specs.Labels.{Label, same_label}
use Rattle.name_tables.specs.Lists.{stands}
use Rattle.name_tables.specs.ListLaws.{stands-append}
use Rattle.name_tables.specs.LabelLaws.{same_label-one}
use Rattle.name_tables.specs.PlaceLaws.{contains_none, contains_here, contains_later, contains_cases}
use Rattle.channel_types.specs.declared.esi_type.EsiType.{EsiType}
use Rattle.channel_types.specs.SameTypes.{same_types}
use Rattle.channel_types.specs.SameTypesLaws.{is_test}
use Rattle.design_tree.specs.declared.leaves.Name.{Name}
use Rattle.design_tree.specs.declared.leaves.Reference.{Reference}
use Rattle.design_tree.specs.declared.leaves.Reference.TheVariants as R
use Rattle.design_tree.specs.declared.statements.Statement.{Statement}
use Rattle.design_tree.specs.declared.statements.Statement.TheVariants as S
use Rattle.design_scopes.specs.Flat.{flat_contains}
use Rattle.element_order.specs.Orders.{among, all_among, needs_of}
use Rattle.element_order.specs.Laws.{IsSorted}
use Rattle.check_rules.specs.Scopes.{Scope, is_name, find_module}
use Rattle.check_rules.specs.References.{is_among, operation_sources, sources_of, channels_of, binding_source, reference_place}
use Rattle.check_rules.specs.Dependencies.{is_element, elements_of, makes}
use Rattle.body_order.specs.Cycles.{AreApart, AreOnce}
use Rattle.body_order.specs.Makers.{maker_from, maker, needs_of_sources, first_needs, name_label, channel_labels}
use Rattle.channel_typing.specs.DeclaredTypes.{declared_type, port_type}
use Rattle.channel_typing.specs.Rules as M
use Rattle.channel_typing.specs.Rules.{EachHas, HasType, IsMisfit}
use Rattle.channel_typing.specs.Typing.{Known, Making, known_of, made_type, or_type, type_at, refusals, made_or, unless_same, bound_misfits, element_misfits, drive_misfit}
use Rattle.channel_typing.specs.Misfits.{misfits_of, made_by, known_with, known_after, misfits_along, nothing_known, known_in, type_in_body, drive_misfits, body_misfits, order_of}
use Rattle.channel_typing.specs.OperationLaws.{operation_complete, misfit_complete}
use Rattle.channel_typing.specs.Listed.{IsWhole, EachTypeListed, EachMisfitListed}

-- ---- numbers that stand in a list

among_front : (j : ℕ) (xs ys : List ℕ) → among j xs ≡ true → among j (xs ++ ys) ≡ true
among_front j [] ys e = absurd (false≢true e)
among_front j (x ∷ xs) ys e = elim (or_cases (eqb j x) (among j xs) e) [ inl t ↦ or_left (eqb j x) (among j (xs ++ ys)) t | inr t ↦ or_right (eqb j x) (among j (xs ++ ys)) (among_front j xs ys t) ]

among_back : (j : ℕ) (xs ys : List ℕ) → among j ys ≡ true → among j (xs ++ ys) ≡ true
among_back j [] ys e = e
among_back j (x ∷ xs) ys e = or_right (eqb j x) (among j (xs ++ ys)) (among_back j xs ys e)

among_one : (j : ℕ) → among j (j ∷ []) ≡ true
among_one j = or_left (eqb j j) false (eq-eqb j j refl)

all_among_one : (j : ℕ) (ds placed : List ℕ) → all_among ds placed ≡ true → among j ds ≡ true → among j placed ≡ true
all_among_one j [] placed a e = absurd (false≢true e)
all_among_one j (d ∷ ds) placed a e =
    let parts = and_parts (among d placed) (all_among ds placed) a in
    elim (or_cases (eqb j d) (among j ds) e) [ inl t ↦ subst (λ k. among k placed ≡ true) (sym (eqb-true j d t)) parts.0 | inr t ↦ all_among_one j ds placed parts.1 t ]

-- ---- an order as a walk

-- the rest of an order, after the elements that are placed: each needs only those before it, and stands once
abbrev IsWalk : List (List ℕ) → List ℕ → List ℕ → Type 0
IsWalk needs before [] = Unit {0}
IsWalk needs before (n ∷ rest) = (all_among (needs_of needs n) before ≡ true) × (among n before ≡ false) × IsWalk needs (before ++ n ∷ []) rest

get_or_here : (before rest : List ℕ) (n : ℕ) → get_or (before ++ n ∷ rest) (length before) 0 ≡ n
get_or_here [] rest n = refl
get_or_here (x ∷ xs) rest n = get_or_here xs rest n

take_front : (before rest : List ℕ) → take (length before) (before ++ rest) ≡ before
take_front [] rest = refl
take_front (x ∷ xs) rest = ap (λ l. x ∷ l) (take_front xs rest)

within_front : (before rest : List ℕ) (n : ℕ) → length before < length (before ++ n ∷ rest)
within_front [] rest n = omega arith
within_front (x ∷ xs) rest n = let more = within_front xs rest n in omega arith

at_middle : (x n : ℕ) (xs rest : List ℕ) → AllByRecursion (λ y. eqb x y ≡ false) (xs ++ n ∷ rest) → eqb x n ≡ false
at_middle x n [] rest h = h.0
at_middle x n (y ∷ xs) rest h = at_middle x n xs rest h.1

other_way : (a b : ℕ) → eqb b a ≡ false → eqb a b ≡ false
other_way a b e = ne_eqb a b (λ is. false≢true (sym e ∙ eq-eqb b a (sym is)))

fresh : (before rest : List ℕ) (n : ℕ) → IsDistinct eqb (before ++ n ∷ rest) → among n before ≡ false
fresh [] rest n d = refl
fresh (x ∷ xs) rest n d = λ i. other_way n x (at_middle x n xs rest (IsDistinct-head eqb x (xs ++ n ∷ rest) d)) i || fresh xs rest n (IsDistinct-tail eqb x (xs ++ n ∷ rest) d) i

walk_from : (needs : List (List ℕ)) (before rest placed : List ℕ) → placed ≡ before ++ rest → IsSorted needs placed → IsWalk needs before rest
walk_from needs before [] placed e s = tt
walk_from needs before (n ∷ rest) placed e s =
    let at : get_or placed (length before) 0 ≡ n = ap (λ p. get_or p (length before) 0) e ∙ get_or_here before rest n in
    let front : take (length before) placed ≡ before = ap (take (length before)) e ∙ take_front before (n ∷ rest) in
    let within : length before < length placed = subst (λ p. length before < length p) (sym e) (within_front before rest n) in
    let needed : all_among (needs_of needs n) before ≡ true =
    subst (λ l. all_among (needs_of needs n) l ≡ true) front (subst (λ q. all_among (needs_of needs q) (take (length before) placed) ≡ true) at (s.sources (length before) within)) in
    (needed, fresh before rest n (subst (IsDistinct eqb) e s.distinct), walk_from needs (before ++ n ∷ []) rest placed (e ∙ sym (append_assoc before (n ∷ []) rest)) s)

-- ---- elements and their makers

-- an element of a number
record IsNumbered (es : List Statement) (s : Statement) : Type 0 where
  number : ℕ
  stands : slice_get es number ≡ Some s

filter_index : (ss : List Statement) (s : Statement) → is_element s ≡ true → Contains ss s → IsNumbered (elements_of ss) s
filter_index [] s is c = absurd (contains_none s c)
filter_index (x ∷ ss) s is c =
    elim (contains_cases x ss s c) [
      | inl same ↦
          let kept : is_element x ≡ true = subst (λ y. is_element y ≡ true) (sym same) is in
          record { number = 0; stands = ap (λ b. slice_get (if b then x ∷ elements_of ss else elements_of ss) 0) kept ∙ ap (λ y. Some y) same }
      | inr later ↦ let more = filter_index ss s is later in elim (cases_Bool (is_element x)) [
        | inl t ↦ record { number = suc more.number; stands = ap (λ b. slice_get (if b then x ∷ elements_of ss else elements_of ss) (suc more.number)) t ∙ more.stands }
        | inr f ↦ record { number = more.number; stands = ap (λ b. slice_get (if b then x ∷ elements_of ss else elements_of ss) more.number) f ∙ more.stands }
      ]
    ]

-- no two elements make one channel
abbrev AreMadeOnce : List Statement → Type 0
AreMadeOnce es = (name : Name) (i k : ℕ) (s t : Statement) → slice_get es i ≡ Some s → slice_get es k ≡ Some t → makes (R.Channel name) s ≡ true → makes (R.Channel name) t ≡ true → i ≡ k

name_stands : (name : Name) (names : List Name) → is_among name names ≡ stands (name_label name) (map name_label names)
name_stands name [] = refl
name_stands name (x ∷ xs) = ap (λ b. is_name name x || b) (name_stands name xs)

made_stands : (name : Name) (s : Statement) → makes (R.Channel name) s ≡ stands (name_label name) (map name_label (channels_of s))
made_stands name (S.Request at service port id) = refl
made_stands name (S.Instance at id body bindings) = refl
made_stands name (S.Channels at names operation) = name_stands name names
made_stands name (S.Drive at sink source) = refl

later_stands : (label : Label) (es : List Statement) (k : ℕ) (t : Statement) → slice_get es k ≡ Some t → stands label (map name_label (channels_of t)) ≡ true → stands label (channel_labels es) ≡ true
later_stands label [] k t e h = absurd (cc)
later_stands label (x ∷ es) zero t e h =
    let same : x ≡ t = cc in
    stands-append label (map name_label (channels_of x)) (channel_labels es) ∙ or_left (stands label (map name_label (channels_of x))) (stands label (channel_labels es)) (subst (λ y. stands label (map name_label (channels_of y)) ≡ true) (sym same) h)
later_stands label (x ∷ es) (suc k) t e h =
    stands-append label (map name_label (channels_of x)) (channel_labels es) ∙ or_right (stands label (map name_label (channels_of x))) (stands label (channel_labels es)) (later_stands label es k t e h)

apart_from : (label : Label) (xs ys : List Label) → AreApart (xs ++ ys) → stands label xs ≡ true → stands label ys ≡ true → ⊥
apart_from label [] ys a x y = false≢true x
apart_from label (z ∷ xs) ys a x y = elim (or_cases (same_label label z) (stands label xs) x) [
  | inl t ↦
      let one : label ≡ z = same_label-one label z t in
      false≢true (sym a.0 ∙ stands-append z xs ys ∙ or_right (stands z xs) (stands z ys) (subst (λ l. stands l ys ≡ true) one y))
  | inr later ↦ apart_from label xs ys a.1 later y
]

apart_rest : (xs ys : List Label) → AreApart (xs ++ ys) → AreApart ys
apart_rest [] ys a = a
apart_rest (x ∷ xs) ys a = apart_rest xs ys a.1

made_once : (es : List Statement) → AreApart (channel_labels es) → AreMadeOnce es
made_once [] a name i k s t e f m n = absurd (cc)
made_once (x ∷ es) a name zero zero s t e f m n = refl
made_once (x ∷ es) a name zero (suc k) s t e f m n =
    let same : x ≡ s = cc in
    absurd (apart_from (name_label name) (map name_label (channels_of x)) (channel_labels es) a (subst (λ y. stands (name_label name) (map name_label (channels_of y)) ≡ true) (sym same) (sym (made_stands name s) ∙ m))
    (later_stands (name_label name) es k t f (sym (made_stands name t) ∙ n)))
made_once (x ∷ es) a name (suc i) zero s t e f m n =
    let same : x ≡ t = cc in
    absurd (apart_from (name_label name) (map name_label (channels_of x)) (channel_labels es) a (subst (λ y. stands (name_label name) (map name_label (channels_of y)) ≡ true) (sym same) (sym (made_stands name t) ∙ n))
    (later_stands (name_label name) es i s e (sym (made_stands name s) ∙ m)))
made_once (x ∷ es) a name (suc i) (suc k) s t e f m n = ap (λ j. suc j) (made_once es (apart_rest (map name_label (channels_of x)) (channel_labels es) a) name i k s t e f m n)

maker_one : (r : Reference) (i k : ℕ) (es : List Statement) (s : Statement) → slice_get es k ≡ Some s → makes r s ≡ true
    → ((j : ℕ) (t : Statement) → slice_get es j ≡ Some t → makes r t ≡ true → j ≡ k) → maker_from r i es ≡ Some (i + k)
maker_one r i k [] s e m one = absurd (cc)
maker_one r i zero (x ∷ es) s e m one =
    let same : x ≡ s = cc in
    ap (λ b. if b then Some i else maker_from r (i + 1) es) (subst (λ y. makes r y ≡ true) (sym same) m) ∙ ap (λ n. Some n) (omega arith)
maker_one r i (suc k) (x ∷ es) s e m one = elim (cases_Bool (makes r x)) [
  | inl t ↦ let no : 0 ≡ suc k = one 0 x refl t in absurd (omega arith)
  | inr f ↦
      ap (λ b. if b then Some i else maker_from r (i + 1) es) f
      ∙ maker_one r (i + 1) k es s e m (λ j t at made. let up : suc j ≡ suc k = one (suc j) t at made in omega arith) ∙ ap (λ n. Some n) (omega arith)
]

-- ---- what an element needs

needs_at : (f : Statement → List ℕ) (es : List Statement) (n : ℕ) (s : Statement) → slice_get es n ≡ Some s → get_or (map f es) n [] ≡ f s
needs_at f [] n s e = absurd (cc)
needs_at f (x ∷ es) zero s e = let same : x ≡ s = cc in ap f same
needs_at f (x ∷ es) (suc n) s e = needs_at f es n s e

source_needed : (es : List Statement) (rs : List Reference) (r : Reference) (j : ℕ) → Contains rs r → maker es r ≡ Some j → among j (needs_of_sources es rs) ≡ true
source_needed es [] r j c e = absurd (contains_none r c)
source_needed es (x ∷ rs) r j c e = elim (contains_cases x rs r c) [
  | inl same ↦
      among_front j (option_to_list (maker es x)) (needs_of_sources es rs)
      (subst (λ o. among j (option_to_list o) ≡ true) (sym (ap (maker es) same ∙ e)) (among_one j))
  | inr later ↦ among_back j (option_to_list (maker es x)) (needs_of_sources es rs) (source_needed es rs r j later e)
]

-- ---- a moment of the walk

module _ (scope : Scope) (elements : List Statement) where
  stable : (before rest : List ℕ) → IsWalk (first_needs elements) before rest → (j : ℕ) → among j before ≡ true → (known : Known) → get_or (known_after scope elements known rest) j None ≡ get_or known j None
  stable before [] w j a known = refl
  stable before (n ∷ rest) w j a known =
      stable (before ++ n ∷ []) rest w.2 j (among_front j before (n ∷ []) a) (known_with scope elements known n)
      ∙ get_or-set_other known n j (made_by scope elements known (slice_get elements n)).ty None (λ is. false≢true (sym w.1 ∙ subst (λ k. among k before ≡ true) is a))

  -- where an element is walked: what is known then, and what comes of it
  record IsMoment (k : ℕ) (known : Known) (order : List ℕ) : Type 0 where
    before : List ℕ
    rest : List ℕ
    at : Known
    walk : IsWalk (first_needs elements) before (k ∷ rest)
    long : length at ≡ length elements
    final : known_after scope elements known order ≡ known_after scope elements at (k ∷ rest)
    listed : (place : ℕ) → Contains (misfits_of scope elements at (slice_get elements k)) place → Contains (misfits_along scope elements known order) place

  moment : (before order : List ℕ) (known : Known) → IsWalk (first_needs elements) before order → length known ≡ length elements → (k : ℕ) → among k order ≡ true → IsMoment k known order
  moment before [] known w long k e = absurd (false≢true e)
  moment before (n ∷ rest) known w long k e = elim (or_cases (eqb k n) (among k rest) e) [
    | inl t ↦ subst (λ q. IsMoment q known (n ∷ rest)) (sym (eqb-true k n t)) (record {
      before = before;
      rest = rest;
      at = known;
      walk = w;
      long = long;
      final = refl;
      listed = λ place c. Contains-append_left (misfits_of scope elements known (slice_get elements n)) (misfits_along scope elements (known_with scope elements known n) rest) place c;
    })
    | inr later ↦
        let m = moment (before ++ n ∷ []) rest (known_with scope elements known n) w.2 (length-set known n (made_by scope elements known (slice_get elements n)).ty ∙ long) k later in
        record {
          before = m.before;
          rest = m.rest;
          at = m.at;
          walk = m.walk;
          long = m.long;
          final = m.final;
          listed = λ place c. Contains-append_right (misfits_of scope elements known (slice_get elements n)) (misfits_along scope elements (known_with scope elements known n) rest) place (m.listed place c);
        }
  ]

  -- the sources of an element have then the types that they have at the end
  module _ (before rest : List ℕ) (k : ℕ) (known : Known) (w : IsWalk (first_needs elements) before (k ∷ rest)) (s : Statement) (stands_there : slice_get elements k ≡ Some s) where
    same_made : (r : Reference) → Contains (sources_of s) r → (m : Option ℕ) → maker elements r ≡ m → known_of known m ≡ known_of (known_after scope elements known (k ∷ rest)) m
    same_made r c None e = refl
    same_made r c (Some j) e =
        let needed : among j (needs_of (first_needs elements) k) ≡ true =
        subst (λ l. among j l ≡ true) (sym (needs_at (λ element. needs_of_sources elements (sources_of element)) elements k s stands_there)) (source_needed elements (sources_of s) r j c e) in
        sym (stable before (k ∷ rest) w j (all_among_one j (needs_of (first_needs elements) k) before w.0 needed) known)

    same_type : (r : Reference) → Contains (sources_of s) r → type_at scope elements known r ≡ type_at scope elements (known_after scope elements known (k ∷ rest)) r
    same_type (R.Member id name) c = refl
    same_type (R.Channel name) c = ap (λ t. or_type (declared_type scope (R.Channel name)) t) (same_made (R.Channel name) c (maker elements (R.Channel name)) refl)

  -- what is known of an element once it was walked
  value_after : (before rest : List ℕ) (k : ℕ) (known : Known) → IsWalk (first_needs elements) before (k ∷ rest) → k < length known
      → get_or (known_after scope elements known (k ∷ rest)) k None ≡ (made_by scope elements known (slice_get elements k)).ty
  value_after before rest k known w low =
      stable (before ++ k ∷ []) rest w.2 k (among_back k before (k ∷ []) (among_one k)) (known_with scope elements known k)
      ∙ get_or-set_same known k (made_by scope elements known (slice_get elements k)).ty None low

-- ---- the whole of a body

get_contains : {A : Type 0} (xs : List A) (k : ℕ) (x : A) → slice_get xs k ≡ Some x → Contains xs x
get_contains [] k x e = absurd (cc)
get_contains (y ∷ xs) zero x e = let same : y ≡ x = cc in subst (λ z. Contains (y ∷ xs) z) same (contains_here y xs)
get_contains (y ∷ xs) (suc k) x e = contains_later y xs x (get_contains xs k x e)

each_from : (P : Reference → EsiType → Type 0) (rs : List Reference) (types : List EsiType) → length types ≡ length rs
    → ((k : ℕ) (r : Reference) (a : EsiType) → slice_get rs k ≡ Some r → slice_get types k ≡ Some a → P r a) → EachHas P rs types
each_from P [] [] long h = tt
each_from P [] (a ∷ types) long h = absurd (omega arith)
each_from P (r ∷ rs) [] long h = absurd (omega arith)
each_from P (r ∷ rs) (a ∷ types) long h = (h 0 r a refl refl, each_from P rs types (omega arith) (λ k q b e f. h (suc k) q b e f))

each_with : (P Q : Reference → EsiType → Type 0) (rs : List Reference) (types : List EsiType) → ((r : Reference) (a : EsiType) → Contains rs r → P r a → Q r a) → EachHas P rs types → EachHas Q rs types
each_with P Q [] [] h e = tt
each_with P Q [] (a ∷ types) h e = e
each_with P Q (r ∷ rs) [] h e = e
each_with P Q (r ∷ rs) (a ∷ types) h e = (h r a (contains_here r rs) e.0, each_with P Q rs types (λ q b c p. h q b (contains_later r rs q c) p) e.1)

contains_map : {A B : Type 0} (f : A → B) (xs : List A) (x : A) → Contains xs x → Contains (map f xs) (f x)
contains_map f [] x c = absurd (contains_none x c)
contains_map {B = B} f (y ∷ xs) x c = elim (contains_cases y xs x c) [
  | inl same ↦ subst (λ (z : B). Contains (f y ∷ map f xs) z) (ap f same) (contains_here (f y) (map f xs))
  | inr later ↦ contains_later (f y) (map f xs) (f x) (contains_map f xs x later)
]

differs : (place : ℕ) (asked ty : EsiType) (of_asked of_source : Option EsiType) → of_asked ≡ Some asked → of_source ≡ Some ty → (ty ≡ asked → ⊥) → Contains (unless_same place of_asked of_source) place
differs place asked ty of_asked of_source a b other =
    let no : same_types ty asked ≡ false = elim (cases_Bool (same_types ty asked)) [ inl s ↦ absurd (other ((is_test ty asked).0 s)) | inr f ↦ f ] in
    subst (λ l. Contains l place) (sym ((λ i. unless_same place (a i) (b i)) ∙ ap (λ v. if v then [] else place ∷ []) no)) (contains_here place [])

module _ (scope : Scope) (once : AreOnce (elements_of scope.statements)) (order : List ℕ) (whole : IsWhole (elements_of scope.statements) order) where
  walked : IsWalk (first_needs (elements_of scope.statements)) [] order
  walked = walk_from (first_needs (elements_of scope.statements)) [] order order refl whole.sorted

  at_moment : (k : ℕ) (s : Statement) → slice_get (elements_of scope.statements) k ≡ Some s → IsMoment scope (elements_of scope.statements) k (nothing_known (elements_of scope.statements)) order
  at_moment k s e =
      moment scope (elements_of scope.statements) [] order (nothing_known (elements_of scope.statements)) walked (length-replicate (length (elements_of scope.statements)) None) k
      (whole.all k (slice_get_within (elements_of scope.statements) k s e))

  type_then : (k : ℕ) (s : Statement) (e : slice_get (elements_of scope.statements) k ≡ Some s) (r : Reference) → Contains (sources_of s) r
      → type_at scope (elements_of scope.statements) (at_moment k s e).at r ≡ type_in_body scope (elements_of scope.statements) order r
  type_then k s e r c =
      let m = at_moment k s e in
      same_type scope (elements_of scope.statements) m.before m.rest k m.at m.walk s e r c ∙ ap (λ (known : Known). type_at scope (elements_of scope.statements) known r) (sym m.final)

  type_listed : {r : Reference} {ty : EsiType} → HasType scope r ty → type_in_body scope (elements_of scope.statements) order r ≡ Some ty
  type_listed (M.of_declaration r ty own) = ap (λ d. or_type d (made_type (elements_of scope.statements) (known_in scope (elements_of scope.statements) order) r)) own
  type_listed (M.of_operation name at names operation types ty own inside named long sources made) =
      let s = S.Channels at names operation in
      let n = filter_index scope.statements s refl inside in
      let m = at_moment n.number s n.stands in
      let of = type_at scope (elements_of scope.statements) m.at in
      let known : EachHas (λ r a. of r ≡ Some a) (operation_sources operation) types =
      each_from (λ r a. of r ≡ Some a) (operation_sources operation) types long
      (λ k r a e f. type_then n.number s n.stands r (get_contains (operation_sources operation) k r e) ∙ type_listed (sources k r a e f)) in
      let c = operation_complete of (length names) made known in
      let worked : (made_by scope (elements_of scope.statements) m.at (slice_get (elements_of scope.statements) n.number)).ty ≡ Some ty =
      ap (λ (o : Option Statement). (made_by scope (elements_of scope.statements) m.at o).ty) n.stands ∙ ap (λ (k : Making). (made_or k).ty) c.is ∙ c.has in
      let low : n.number < length m.at = (let w = slice_get_within (elements_of scope.statements) n.number s n.stands in let l = m.long in omega arith) in
      let value : get_or (known_in scope (elements_of scope.statements) order) n.number None ≡ Some ty =
      ap (λ (known : Known). get_or known n.number None) m.final ∙ value_after scope (elements_of scope.statements) m.before m.rest n.number m.at m.walk low ∙ worked in
      let maker_is : maker (elements_of scope.statements) (R.Channel name) ≡ Some n.number =
      maker_one (R.Channel name) 0 n.number (elements_of scope.statements) s n.stands named
      (λ j t e makes_it. made_once (elements_of scope.statements) once.channels name j n.number t s e n.stands makes_it named)
      ∙ ap (λ k. Some k) (omega arith) in
      ap (λ d. or_type d (made_type (elements_of scope.statements) (known_in scope (elements_of scope.statements) order) (R.Channel name))) own
      ∙ ap (λ m. known_of (known_in scope (elements_of scope.statements) order) m) maker_is ∙ value

  -- ---- misfits

  element_listed : (k : ℕ) (s : Statement) (e : slice_get (elements_of scope.statements) k ≡ Some s) (place : ℕ)
      → Contains (element_misfits scope (type_at scope (elements_of scope.statements) (at_moment k s e).at) s) place → Contains (body_misfits scope (elements_of scope.statements) order) place
  element_listed k s e place c =
      let m = at_moment k s e in
      Contains-append_left (misfits_along scope (elements_of scope.statements) (nothing_known (elements_of scope.statements)) order)
      (drive_misfits (type_in_body scope (elements_of scope.statements) order) scope.statements) place
      (m.listed place (subst (λ o. Contains (misfits_of scope (elements_of scope.statements) m.at o) place) (sym e) c))

  misfit_listed : {s : Statement} {place : ℕ} → Contains scope.statements s → IsMisfit scope s place → Contains (body_misfits scope (elements_of scope.statements) order) place
  misfit_listed inside (M.misfitting at names operation types place each misfit) =
      let s = S.Channels at names operation in
      let n = filter_index scope.statements s refl inside in
      let m = at_moment n.number s n.stands in
      let of = type_at scope (elements_of scope.statements) m.at in
      let known : EachHas (λ r a. of r ≡ Some a) (operation_sources operation) types =
      each_with (HasType scope) (λ r a. of r ≡ Some a) (operation_sources operation) types (λ r a c has. type_then n.number s n.stands r c ∙ type_listed has) each in
      element_listed n.number s n.stands place
      (subst (λ (made : Making). Contains (refusals made) place) (sym (misfit_complete of (length names) misfit known)) (contains_here place []))
  misfit_listed inside (M.misbound at id body bindings bound asked ty there port has other) =
      let s = S.Instance at id body bindings in
      let n = filter_index scope.statements s refl inside in
      let m = at_moment n.number s n.stands in
      let of = type_at scope (elements_of scope.statements) m.at in
      let source : of bound.source ≡ Some ty = type_then n.number s n.stands bound.source (contains_map binding_source bindings bound there) ∙ type_listed has in
      element_listed n.number s n.stands (reference_place bound.source)
      (flat_contains (bound_misfits scope of body) bindings bound (reference_place bound.source) there
      (differs (reference_place bound.source) asked ty (port_type bound.port (find_module body scope.modules)) (of bound.source) port source other))
  misfit_listed inside (M.misdriven at sink source asked ty has_sink has_source other) =
      let of = type_in_body scope (elements_of scope.statements) order in
      Contains-append_right (misfits_along scope (elements_of scope.statements) (nothing_known (elements_of scope.statements)) order) (drive_misfits of scope.statements) (reference_place source)
      (flat_contains (drive_misfit of) scope.statements (S.Drive at sink source) (reference_place source) inside
      (differs (reference_place source) asked ty (of sink) (of source) (type_listed has_sink) (type_listed has_source) other))

-- ---- the laws

pub each_type_listed : EachTypeListed
each_type_listed scope order once whole r ty has = type_listed scope once order whole has

pub each_misfit_listed : EachMisfitListed
each_misfit_listed scope once whole at m = misfit_listed scope once (order_of scope) whole m.there m.misfits

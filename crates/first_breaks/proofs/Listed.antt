-- The places at which a rule is broken are those of its list.
use Rattle.std.proofs.Common.{◌≡◌, ℕ, zero, suc, ◌+◌, Bool, true, false, List, [], ◌∷◌, refl, sym, subst, inl, inr, arith}
use Rattle.std.specs.Prelude.{Some, flat_map, slice_get, nat_lt, Contains, if◌then◌else◌}
use Rattle.std.proofs.lemmas.List.Elements.{Contains-append_left, Contains-append_right, Contains-append_cases}
use Rattle.design_tree.specs.declared.statements.Statement.{Statement}
use Rattle.design_tree.specs.declared.top.Top.{Top}
use Rattle.name_tables.specs.Labels.{Occurrence}
use Rattle.name_tables.specs.Lists.{repeats}
use Rattle.name_tables.specs.ListLaws.{repeats_are, are_repeats, missing_are, are_missing}
use Rattle.name_tables.specs.PlaceLaws.{contains_none, contains_one, contains_here, contains_cases}
use Rattle.check_rules.specs.Scopes.{Scope}
use Rattle.check_rules.specs.References.{statement_place}
use Rattle.check_rules.specs.DeclaredTwice.{IsRepeatInOne}
use Rattle.check_rules.specs.Uses.{scope_due, BreaksUnused}
use Rattle.check_rules.specs.Dependencies.{elements_of, needs, BreaksDependencies}
use Rattle.check_rules.specs.Totals.{Exceeds}
use Rattle.first_breaks.specs.Dependence.{depends_on}
use Rattle.first_breaks.specs.Places.{missing_of, unused, cycles_from, scope_cycles, on_cycles, above}
use Rattle.first_breaks.proofs.Depending.{each_depends}

-- ---- lists joined end to end

in_all : {A B : Type 0} (f : A → List B) (xs : List A) (x : A) (y : B) → Contains xs x → Contains (f x) y → Contains (flat_map f xs) y
in_all f [] x y one here = absurd (contains_none x one)
in_all f (a ∷ xs) x y one here = elim (contains_cases a xs x one) [
  | inl e ↦ Contains-append_left (f a) (flat_map f xs) y (subst (λ q. Contains (f q) y) (sym e) here)
  | inr later ↦ Contains-append_right (f a) (flat_map f xs) y (in_all f xs x y later here)
]

record IsInOne {A B : Type 0} (f : A → List B) (xs : List A) (y : B) : Type 0 where
  x : A
  one : Contains xs x
  here : Contains (f x) y

in_one : {A B : Type 0} (f : A → List B) (xs : List A) (y : B) → Contains (flat_map f xs) y → IsInOne f xs y
in_one f [] y c = absurd (contains_none y c)
in_one f (a ∷ xs) y c = elim (Contains-append_cases (f a) (flat_map f xs) y c) [
  | inl now ↦ record { x = a; one = contains_here a xs; here = now }
  | inr later ↦ let h = in_one f xs y later in record { x = h.x; one = Contains-append_right (a ∷ []) xs h.x h.one; here = h.here }
]

-- ---- names that stand twice

pub repeats_sound : (lists : List (List Occurrence)) (at : ℕ) → Contains (flat_map repeats lists) at → IsRepeatInOne lists at
repeats_sound lists at c = let h = in_one repeats lists at c in record { names = h.x; one = h.one; twice = repeats_are h.x at h.here }

pub repeats_complete : (lists : List (List Occurrence)) (at : ℕ) → IsRepeatInOne lists at → Contains (flat_map repeats lists) at
repeats_complete lists at h = in_all repeats lists h.names at h.one (are_repeats h.names at h.twice)

-- ---- what is not used

pub unused_sound : (bodies : List Scope) (at : ℕ) → Contains (unused bodies) at → BreaksUnused bodies at
unused_sound bodies at c = let h = in_one missing_of (flat_map scope_due bodies) at c in record { names = h.x; one = h.one; missing = missing_are h.x.used h.x.due at h.here }

pub unused_complete : (bodies : List Scope) (at : ℕ) → BreaksUnused bodies at → Contains (unused bodies) at
unused_complete bodies at h = in_all missing_of (flat_map scope_due bodies) h.names at h.one (are_missing h.names.used h.names.due at h.missing)

-- ---- elements that depend on themselves

-- one of the elements, which are numbered from `i` on, depends on itself, and its statement stands at the place
record IsOnCycleFrom (ns : List (List ℕ)) (i : ℕ) (es : List Statement) (at : ℕ) : Type 0 where
  element : Statement
  number : ℕ
  numbered : slice_get es number ≡ Some element
  itself : depends_on ns (i + number) (i + number) ≡ true
  stands : statement_place element ≡ at

cycles_later : (ns : List (List ℕ)) (i : ℕ) (e : Statement) (es : List Statement) (at : ℕ) → IsOnCycleFrom ns (i + 1) es at → IsOnCycleFrom ns i (e ∷ es) at
cycles_later ns i e es at h = record {
  element = h.element;
  number = suc h.number;
  numbered = h.numbered;
  itself = let same : (i + 1) + h.number ≡ i + suc h.number = omega arith in subst (λ m. depends_on ns m m ≡ true) same h.itself;
  stands = h.stands;
}

cycles_sound : (ns : List (List ℕ)) (i : ℕ) (es : List Statement) (at : ℕ) → Contains (cycles_from ns i es) at → IsOnCycleFrom ns i es at
cycles_sound ns i [] at c = absurd (contains_none at c)
cycles_sound ns i (e ∷ es) at c = elim (Contains-append_cases (if depends_on ns i i then statement_place e ∷ [] else []) (cycles_from ns (i + 1) es) at c) [
  | inl here ↦ first (depends_on ns i i) refl here
  | inr later ↦ cycles_later ns i e es at (cycles_sound ns (i + 1) es at later)
]
  where
    first : (b : Bool) → depends_on ns i i ≡ b → Contains (if b then statement_place e ∷ [] else []) at → IsOnCycleFrom ns i (e ∷ es) at
    first true is h = record {
      element = e;
      number = zero;
      numbered = refl;
      itself = let same : i ≡ i + zero = omega arith in subst (λ m. depends_on ns m m ≡ true) same is;
      stands = contains_one (statement_place e) at h;
    }
    first false is h = absurd (contains_none at h)

-- the element with the number depends on itself
cycles_complete : (ns : List (List ℕ)) (i : ℕ) (es : List Statement) (number : ℕ) (element : Statement) → slice_get es number ≡ Some element → depends_on ns (i + number) (i + number) ≡ true
    → Contains (cycles_from ns i es) (statement_place element)
cycles_complete ns i [] number element found is = absurd (cc)
cycles_complete ns i (e ∷ es) zero element found is =
    let one : e ≡ element = cc in
    let same : i + zero ≡ i = omega arith in
    let here : depends_on ns i i ≡ true = subst (λ m. depends_on ns m m ≡ true) same is in
    subst (λ s. Contains (cycles_from ns i (e ∷ es)) (statement_place s)) one
    (Contains-append_left (if depends_on ns i i then statement_place e ∷ [] else []) (cycles_from ns (i + 1) es) (statement_place e)
    (subst (λ b. Contains (if b then statement_place e ∷ [] else []) (statement_place e)) (sym here) (contains_here (statement_place e) [])))
cycles_complete ns i (e ∷ es) (suc number) element found is =
    let same : i + suc number ≡ (i + 1) + number = omega arith in
    Contains-append_right (if depends_on ns i i then statement_place e ∷ [] else []) (cycles_from ns (i + 1) es) (statement_place element)
    (cycles_complete ns (i + 1) es number element found (subst (λ m. depends_on ns m m ≡ true) same is))

pub dependencies_sound : (bodies : List Scope) (at : ℕ) → Contains (on_cycles bodies) at → BreaksDependencies bodies at
dependencies_sound bodies at c =
    let h = in_one scope_cycles bodies at c in
    let e = cycles_sound (needs (elements_of h.x.statements)) 0 (elements_of h.x.statements) at h.here in
    record {
      scope = h.x;
      one = h.one;
      element = e.element;
      number = e.number;
      numbered = e.numbered;
      itself = (each_depends (needs (elements_of h.x.statements)) e.number e.number).0 (counted (needs (elements_of h.x.statements)) e.number e.itself);
      stands = e.stands;
    }
  where
    counted : (ns : List (List ℕ)) (n : ℕ) → depends_on ns (0 + n) (0 + n) ≡ true → depends_on ns n n ≡ true
    counted ns n is = let same : 0 + n ≡ n = omega arith in subst (λ m. depends_on ns m m ≡ true) same is

pub dependencies_complete : (bodies : List Scope) (at : ℕ) → BreaksDependencies bodies at → Contains (on_cycles bodies) at
dependencies_complete bodies at h =
    in_all scope_cycles bodies h.scope at h.one
    (subst (λ n. Contains (scope_cycles h.scope) n) h.stands
    (cycles_complete (needs (elements_of h.scope.statements)) 0 (elements_of h.scope.statements) h.number h.element h.numbered
    (counted (needs (elements_of h.scope.statements)) h.number ((each_depends (needs (elements_of h.scope.statements)) h.number h.number).1 h.itself))))
  where
    counted : (ns : List (List ℕ)) (n : ℕ) → depends_on ns n n ≡ true → depends_on ns (0 + n) (0 + n) ≡ true
    counted ns n is = let same : n ≡ 0 + n = omega arith in subst (λ m. depends_on ns m m ≡ true) same is

-- ---- more than a limit

pub above_sound : (limit count : ℕ) (top : Top) (at : ℕ) → Contains (above limit count top.name.at) at → Exceeds limit count top at
above_sound limit count top at c = tested (nat_lt limit count) refl c
  where
    tested : (b : Bool) → nat_lt limit count ≡ b → Contains (if b then top.name.at ∷ [] else []) at → Exceeds limit count top at
    tested true e h = record { above = grind arith; stands = contains_one top.name.at at h }
    tested false e h = absurd (contains_none at h)

pub above_complete : (limit count : ℕ) (top : Top) (at : ℕ) → Exceeds limit count top at → Contains (above limit count top.name.at) at
above_complete limit count top at h = subst (λ n. Contains (above limit count top.name.at) n) h.stands (tested (nat_lt limit count) refl)
  where
    tested : (b : Bool) → nat_lt limit count ≡ b → Contains (if b then top.name.at ∷ [] else []) top.name.at
    tested true e = contains_here top.name.at []
    tested false e = absurd (let low = h.above in grind arith)

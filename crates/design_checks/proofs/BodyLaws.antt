-- What is broken in one body more.
use Rattle.std.proofs.Common.{◌≡◌, ℕ, ◌<◌, ◌+◌, length, get_or, take, map, List, [], ◌∷◌, ◌++◌, ap, sym, subst, refl, min, arith, ◌⊎◌, inl, inr, ◌∙◌}
use Rattle.std.specs.Prelude.{Option, Some, None, Result, Ok, Err, Contains}
use Rattle.std.specs.List.{flat_map}
use Rattle.std.proofs.lemmas.Grind.{flat_map-append}
use Rattle.std.proofs.lemmas.List.{append-nil, map-append, take_more}
use Rattle.std.proofs.lemmas.List.Elements.{Contains-append_left, Contains-append_right, Contains-push_cases}
use Rattle.name_tables.specs.FirstPlaces.{Reports}
use Rattle.name_tables.specs.PlaceLaws.{contains_here, contains_none}
use Rattle.channel_typing.specs.Misfits.{misfits, scope_misfits}
use Rattle.channel_typing.specs.Walk.{first_or}
use Rattle.check_rules.specs.Scopes.{Scope}
use Rattle.check_rules.specs.Dependencies.{elements_of}
use Rattle.body_order.specs.BodyLaws.{BreaksInOne}
use Rattle.body_order.specs.Cycles.{BreaksCycle}
use Rattle.body_order.specs.Signals.{first_of, or_else}
use Rattle.design_checks.specs.declared.bodies.BodyBreaks.{BodyBreaks}
use Rattle.design_checks.specs.BodyBreaks.{sooner, body_signals, both, AreBreaksOf, AreBreaksOfBody}

-- ---- the first place of one rule or of another

abbrev pub Either : (ℕ → Type 0) → (ℕ → Type 0) → ℕ → Type 0
Either A B at = A at ⊎ B at

one_of : (A B : ℕ → Type 0) (x y : ℕ) → A x → B y → (min x y ≡ x) ⊎ (min x y ≡ y) → Either A B (min x y)
one_of A B x y a b (inl e) = inl (subst A (sym e) a)
one_of A B x y a b (inr e) = inr (subst B (sym e) b)

min_one : (a b : ℕ) → (min a b ≡ a) ⊎ (min a b ≡ b)
min_one a b = grind arith

sooner_reports : (A B : ℕ → Type 0) (first other : Option ℕ) → Reports A first → Reports B other → Reports (Either A B) (sooner first other)
sooner_reports A B None None a b = λ at e. elim e [ inl l ↦ a at l | inr r ↦ b at r ]
sooner_reports A B (Some x) None a b = record { here = inl a.here; first = λ at e. elim e [ inl l ↦ a.first at l | inr r ↦ absurd (b at r) ] }
sooner_reports A B None (Some y) a b = record { here = inr b.here; first = λ at e. elim e [ inl l ↦ absurd (a at l) | inr r ↦ b.first at r ] }
sooner_reports A B (Some x) (Some y) a b = record {
  here = one_of A B x y a.here b.here (min_one x y);
  first = λ at e. elim e [ inl l ↦ let low = a.first at l in omega arith | inr r ↦ let low = b.first at r in omega arith ];
}

-- the same places
reports_same : (A B : ℕ → Type 0) → ((at : ℕ) → A at → B at) → ((at : ℕ) → B at → A at) → (first : Option ℕ) → Reports A first → Reports B first
reports_same A B to from None a = λ at b. a at (from at b)
reports_same A B to from (Some x) a = record { here = to x a.here; first = λ at b. a.first at (from at b) }

-- ---- one body more

more_of : (bodies : List Scope) (scope : Scope) (at : ℕ) → Either (BreaksInOne bodies) (BreaksCycle (elements_of scope.statements)) at → BreaksInOne (bodies ++ scope ∷ []) at
more_of bodies scope at (inl b) = record { body = b.body; one = Contains-append_left bodies (scope ∷ []) b.body b.one; breaks = b.breaks }
more_of bodies scope at (inr b) = record { body = scope; one = Contains-append_right bodies (scope ∷ []) scope (contains_here scope []); breaks = b }

of_more : (bodies : List Scope) (scope : Scope) (at : ℕ) → BreaksInOne (bodies ++ scope ∷ []) at → Either (BreaksInOne bodies) (BreaksCycle (elements_of scope.statements)) at
of_more bodies scope at b = elim (Contains-push_cases bodies scope b.body b.one) [
  | inl old ↦ inl (record { body = b.body; one = old; breaks = b.breaks })
  | inr new ↦ inr (subst (λ (s : Scope). BreaksCycle (elements_of s.statements) at) (sym new) b.breaks)
]

first_joined : (xs ys : List ℕ) → or_else (first_of xs) (first_of ys) ≡ first_of (xs ++ ys)
first_joined [] ys = refl
first_joined (x ∷ xs) ys = refl

one_more_list : (F : Scope → List ℕ) (bodies : List Scope) (scope : Scope) → or_else (first_of (flat_map F bodies)) (first_of (F scope)) ≡ first_of (flat_map F (bodies ++ scope ∷ []))
one_more_list F bodies scope =
    first_joined (flat_map F bodies) (F scope)
    ∙ ap first_of (ap (λ l. flat_map F bodies ++ l) (sym (append-nil (F scope))) ∙ sym (flat_map-append F bodies (scope ∷ [])))

pub with_one_more : (bodies : List Scope) (scope : Scope) (before more : BodyBreaks) → AreBreaksOf misfits bodies before → AreBreaksOfBody scope more
    → AreBreaksOf misfits (bodies ++ scope ∷ []) (both before more)
with_one_more bodies scope before more b m = record {
  cycle = reports_same (Either (BreaksInOne bodies) (BreaksCycle (elements_of scope.statements))) (BreaksInOne (bodies ++ scope ∷ [])) (more_of bodies scope) (of_more bodies scope)
      (sooner before.cycle more.cycle) (sooner_reports (BreaksInOne bodies) (BreaksCycle (elements_of scope.statements)) before.cycle more.cycle b.cycle m.cycle);
  signal = (λ i. or_else (b.signal i) (m.signal i)) ∙ one_more_list body_signals bodies scope;
  misfit = (λ i. or_else (b.misfit i) (m.misfit i)) ∙ one_more_list scope_misfits bodies scope;
}

pub none_before : AreBreaksOf misfits [] (record { cycle = None; signal = None; misfit = None })
none_before = record { cycle = λ at b. contains_none b.body b.one; signal = refl; misfit = refl }

-- the bodies so far, and one more
pub one_further : {A : Type 0} (scope_of : A → Scope) (bodies : List A) (i : ℕ) (body : A) (before more : BodyBreaks) → i < length bodies → body ≡ get_or bodies i body
    → AreBreaksOf misfits (map scope_of (take i bodies)) before → AreBreaksOfBody (scope_of body) more → AreBreaksOf misfits (map scope_of (take (i + 1) bodies)) (both before more)
one_further {A = A} scope_of bodies i body before more within is b m =
    subst (λ (scopes : List Scope). AreBreaksOf misfits scopes (both before more)) (sym joined) (with_one_more (map scope_of (take i bodies)) (scope_of body) before more b m)
  where
    joined : map scope_of (take (i + 1) bodies) ≡ map scope_of (take i bodies) ++ scope_of body ∷ []
    joined = ap (map scope_of) (take_more bodies i body within) ∙ map-append scope_of (take i bodies) (get_or bodies i body ∷ []) ∙ ap (λ (x : A). map scope_of (take i bodies) ++ scope_of x ∷ []) (sym is)

-- ---- the first of some places, as the walk of types answers it

abbrev refused_at : {A : Type 0} → Result A ℕ → Option ℕ
refused_at (Ok value) = None
refused_at (Err at) = Some at

shown : {A : Type 0} (places : List ℕ) (value : A) → refused_at (first_or places value) ≡ first_of places
shown [] value = refl
shown (x ∷ more) value = refl

pub first_refused : {A : Type 0} (places : List ℕ) (value : A) (at : ℕ) → first_or places value ≡ Err at → Some at ≡ first_of places
first_refused places value at e = sym (ap refused_at e) ∙ shown places value

pub none_refused : {A : Type 0} (places : List ℕ) (value other : A) → first_or places value ≡ Ok other → None ≡ first_of places
none_refused places value other e = sym (ap refused_at e) ∙ shown places value

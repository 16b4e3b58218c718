-- The table of parts, one element and one body further.
use Rattle.std.proofs.Common.{◌≡◌, ℕ, suc, ◌+◌, ◌<◌, List, [], ◌∷◌, ◌++◌, map, drop, get_or, length, refl, ap, sym, ◌∙◌, arith, drop-cons}
use Rattle.std.specs.Prelude.{Result, Ok, Err}
use Rattle.esi_base.specs.Answers.{◌>>=◌, StopsAs}
use Rattle.esi_base.specs.declared.stop.Stop.{Stop}
use Rattle.esi_base.specs.declared.stop.Stop.TheVariants.{Refused, NoMemory}
use Rattle.check_rules.specs.Scopes.{Scope}
use Rattle.check_rules.specs.Dependencies.{elements_of}
use Rattle.channel_typing.specs.declared.typed_element.TypedElement.{TypedElement}
use Rattle.channel_typing.specs.Misfits.{misfits, scope_misfits, elements_typed, order_of}
use Rattle.channel_typing.specs.Walk.{first_or}
use Rattle.design_scopes.specs.declared.body.Body.{Body}
use Rattle.design_scopes.specs.declared.declared.Declared.{Declared}
use Rattle.design_scopes.specs.Resolving.{scope_in}
use Rattle.element_parts.specs.declared.design_parts.DesignParts.{DesignParts}
use Rattle.element_parts.specs.Numbering.{BodyParts, with_element, numbered_along}
use Rattle.element_parts.specs.Listing.{with_body, parts_along}
use Rattle.element_parts.specs.Walk.{typed_added, body_added, bodies_added}

cut : {A : Type 0} (xs : List A) (i : ℕ) (x : A) → i < length xs → x ≡ get_or xs i x → drop i xs ≡ x ∷ drop (i + 1) xs
cut xs i x low is = let one : suc i ≡ i + 1 = omega arith in drop-cons xs i x low ∙ ap (λ y. y ∷ drop (suc i) xs) (sym is) ∙ ap (λ k. x ∷ drop k xs) one

-- ---- elements

pub numbered_more : (b after : BodyParts) (order : List ℕ) (i number : ℕ) (element : TypedElement) (left rest : List TypedElement) → i < length order → number ≡ get_or order i number
    → left ≡ element ∷ rest → after ≡ with_element b number element → numbered_along after (drop (i + 1) order) rest ≡ numbered_along b (drop i order) left
numbered_more b after order i number element left rest low is next e =
    ap (λ a. numbered_along a (drop (i + 1) order) rest) e
    ∙ ap (λ ns. numbered_along b ns (element ∷ rest)) (sym (cut order i number low is))
    ∙ ap (λ ts. numbered_along b (drop i order) ts) (sym next)

pub nothing_typed : (b : BodyParts) (order : List ℕ) → numbered_along b order [] ≡ b
nothing_typed b [] = refl
nothing_typed b (number ∷ order) = refl

none_left : {A : Type 0} (xs : List A) (n : ℕ) → n ≡ 0 → n ≡ length xs → xs ≡ []
none_left [] n none len = refl
none_left (x ∷ xs) n none len = absurd (omega arith)

-- no element is left
pub numbered_none : (b start : BodyParts) (numbers order : List ℕ) (left first typed : List TypedElement) (n : ℕ) → n ≡ 0 → n ≡ length left
    → numbered_along b numbers left ≡ numbered_along start order first → first ≡ typed → b ≡ numbered_along start order typed
numbered_none b start numbers order left first typed n none len same is =
    sym (nothing_typed b numbers) ∙ ap (λ ts. numbered_along b numbers ts) (sym (none_left left n none len)) ∙ same ∙ ap (λ ts. numbered_along start order ts) is

-- ---- one body

pub typed_fits : {A : Type 0} (m : Result A ℕ) (next : A → Result DesignParts ℕ) (typed : A) (after : DesignParts) → m ≡ Ok typed → next typed ≡ Ok after → m >>= next ≡ Ok after
typed_fits m next typed after e f = ap (λ r. r >>= next) e ∙ f

pub typed_stops : {A : Type 0} (m : Result A ℕ) (next : A → Result DesignParts ℕ) (at : ℕ) → m ≡ Err at → m >>= next ≡ Err at
typed_stops m next at e = ap (λ r. r >>= next) e

-- ---- bodies

pub bodies_more : (d : Declared) (bodies : List Body) (i : ℕ) (b : Body) (before after : DesignParts) → i < length bodies → b ≡ get_or bodies i b → body_added before (scope_in d b) ≡ Ok after
    → bodies_added after (map (scope_in d) (drop (i + 1) bodies)) ≡ bodies_added before (map (scope_in d) (drop i bodies))
bodies_more d bodies i b before after low is e =
    sym (ap (λ r. r >>= (λ next. bodies_added next (map (scope_in d) (drop (i + 1) bodies)))) e) ∙ ap (λ bs. bodies_added before (map (scope_in d) bs)) (sym (cut bodies i b low is))

pub bodies_stop : (d : Declared) (bodies : List Body) (i : ℕ) (b : Body) (before : DesignParts) (at : ℕ) → i < length bodies → b ≡ get_or bodies i b → body_added before (scope_in d b) ≡ Err at
    → bodies_added before (map (scope_in d) (drop i bodies)) ≡ Err at
bodies_stop d bodies i b before at low is e =
    ap (λ bs. bodies_added before (map (scope_in d) bs)) (cut bodies i b low is) ∙ ap (λ r. r >>= (λ next. bodies_added next (map (scope_in d) (drop (i + 1) bodies)))) e

one_then : {A : Type 0} (xs ys : List ℕ) (typed : A) (add : A → Result DesignParts ℕ) (added : DesignParts) (next : DesignParts → Result DesignParts ℕ) (last : DesignParts)
    → add typed ≡ Ok added → next added ≡ first_or ys last → (first_or xs typed >>= add) >>= next ≡ first_or (xs ++ ys) last
one_then [] ys typed add added next last is e = ap (λ r. r >>= next) is ∙ e
one_then (x ∷ xs) ys typed add added next last is e = refl

-- bodies are listed, unless a type does not fit: then it is refused at the first such place
pub bodies_exact : (before : DesignParts) (scopes : List Scope) → bodies_added before scopes ≡ first_or (misfits scopes) (parts_along before scopes)
bodies_exact before [] = refl
bodies_exact before (scope ∷ more) =
    one_then (scope_misfits scope) (misfits more) (elements_typed scope (elements_of scope.statements) (order_of scope)) (typed_added before (order_of scope)) (with_body before scope)
    (λ next. bodies_added next more) (parts_along before (scope ∷ more)) refl (bodies_exact (with_body before scope) more)

-- the same, for any stop
pub bodies_stops : (d : Declared) (bodies : List Body) (i : ℕ) (b : Body) (before : DesignParts) (stop : Stop ℕ) (all : Result DesignParts ℕ) → i < length bodies → b ≡ get_or bodies i b
    → StopsAs (body_added before (scope_in d b)) stop → bodies_added before (map (scope_in d) (drop i bodies)) ≡ all → StopsAs all stop
bodies_stops d bodies i b before (Refused at) all low is e left = sym left ∙ bodies_stop d bodies i b before at low is e
bodies_stops d bodies i b before NoMemory all low is e left = tt

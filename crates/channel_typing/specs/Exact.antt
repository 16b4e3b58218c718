-- A body is typed exactly where nothing in it misfits; else the first misfit is the answer.
use Rattle.std.proofs.Common.{◌≡◌, ℕ, List, [], ◌∷◌, ◌++◌, Option, Some, None, set, refl, ap, sym, ◌∙◌, append_assoc}
use Rattle.std.specs.Prelude.{Result, Ok, Err, slice_get}
use Rattle.esi_base.specs.Answers.{◌>>=◌}
use Rattle.channel_types.specs.declared.esi_type.EsiType.{EsiType}
use Rattle.design_tree.specs.declared.leaves.Reference.{Reference}
use Rattle.design_tree.specs.declared.statements.Statement.{Statement}
use Rattle.design_tree.specs.declared.statements.Statement.TheVariants as S
use Rattle.check_rules.specs.Scopes.{Scope}
use Rattle.channel_typing.specs.declared.typed_element.TypedElement.{TypedElement}
use Rattle.channel_typing.specs.Typing.{Known, Made, Making, type_at, refusals, made_or, element_misfits, statement_made}
use Rattle.channel_typing.specs.Misfits.{misfits_of, made_by, known_with, known_after, misfits_along, elements_along, nothing_known, drive_misfits, body_misfits, elements_typed}
use Rattle.channel_typing.specs.Walk.{first_or, statement_typed, number_typed, stepped, typed_along, drives_typed, body_typed}

made_exact : (m : Making) → m ≡ first_or (refusals m) (made_or m)
made_exact (Ok made) = refl
made_exact (Err at) = refl

statement_exact : (scope : Scope) (of : Reference → Option EsiType) (s : Statement) → statement_typed scope of s ≡ first_or (element_misfits scope of s) (statement_made of s)
statement_exact scope of (S.Request at service port id) = refl
statement_exact scope of (S.Instance at id body bindings) = refl
statement_exact scope of (S.Channels at names operation) = made_exact _
statement_exact scope of (S.Drive at sink source) = refl

number_exact : (scope : Scope) (elements : List Statement) (known : Known) (s : Option Statement) → number_typed scope elements known s ≡ first_or (misfits_of scope elements known s) (made_by scope elements known s)
number_exact scope elements known None = refl
number_exact scope elements known (Some s) = statement_exact scope (type_at scope elements known) s

-- one after the other
first_then : {A B : Type 0} (xs ys : List ℕ) (value : A) (next : A → Result B ℕ) (last : B) → next value ≡ first_or ys last → first_or xs value >>= next ≡ first_or (xs ++ ys) last
first_then [] ys value next last e = e
first_then (x ∷ xs) ys value next last e = refl

step_then : {B : Type 0} (known : Known) (number : ℕ) (xs : List ℕ) (made : Made) (next : TypedElement × Known → Result B ℕ)
    → (first_or xs made >>= stepped known number) >>= next ≡ first_or xs made >>= (λ m. next (m.element, set known number m.ty))
step_then known number [] made next = refl
step_then known number (x ∷ xs) made next = refl

along_exact : (scope : Scope) (elements : List Statement) (known : Known) (done : List TypedElement) (order : List ℕ)
    → typed_along scope elements known done order ≡ first_or (misfits_along scope elements known order) (done ++ elements_along scope elements known order, known_after scope elements known order)
along_exact scope elements known done [] = ap (λ (xs : List TypedElement). let r : Result (List TypedElement × Known) ℕ = Ok (xs, known) in r) (sym (append_nil done))
  where
    append_nil : (xs : List TypedElement) → xs ++ [] ≡ xs
    append_nil [] = refl
    append_nil (x ∷ xs) = ap (λ ys. x ∷ ys) (append_nil xs)
along_exact scope elements known done (number ∷ order) =
    let s = slice_get elements number in
    let made = made_by scope elements known s in
    let next : TypedElement × Known → Result (List TypedElement × Known) ℕ = λ next. typed_along scope elements next.1 (done ++ next.0 ∷ []) order in
    ap (λ (m : Making). (m >>= stepped known number) >>= next) (number_exact scope elements known s)
    ∙ step_then known number (misfits_of scope elements known s) made next
    ∙ first_then (misfits_of scope elements known s) (misfits_along scope elements (known_with scope elements known number) order) made
    (λ m. next (m.element, set known number m.ty))
    (done ++ elements_along scope elements known (number ∷ order), known_after scope elements known (number ∷ order))
    (along_exact scope elements (known_with scope elements known number) (done ++ made.element ∷ []) order
    ∙ ap (λ (xs : List TypedElement). first_or (misfits_along scope elements (known_with scope elements known number) order) (xs, known_after scope elements known (number ∷ order)))
    (append_assoc done (made.element ∷ []) (elements_along scope elements (known_with scope elements known number) order)))

-- A body has an element for each of its order, unless something in it misfits: then it has the first misfit.
pub body_exact : (scope : Scope) (elements : List Statement) (order : List ℕ) → body_typed scope elements order ≡ first_or (body_misfits scope elements order) (elements_typed scope elements order)
body_exact scope elements order =
    ap (λ (m : Result (List TypedElement × Known) ℕ). m >>= drives_typed scope elements) (along_exact scope elements (nothing_known elements) [] order)
    ∙ first_then (misfits_along scope elements (nothing_known elements) order) (drive_misfits (type_at scope elements (known_after scope elements (nothing_known elements) order)) scope.statements)
    (elements_typed scope elements order, known_after scope elements (nothing_known elements) order) (drives_typed scope elements) (elements_typed scope elements order) refl

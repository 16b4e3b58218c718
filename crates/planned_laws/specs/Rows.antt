-- The rows of ordered elements, one for each body: their numbers are those of its element order.
use Rattle.std.proofs.Common.{◌≡◌, ℕ, zero, suc, ◌+◌, List, [], ◌∷◌, ◌++◌, Option, Some, map, length, refl, ap, sym, ◌∙◌, subst, arith}
use Rattle.std.specs.Prelude.{slice_get, unwrap_or}
use Rattle.std.proofs.lemmas.List.{append_assoc, append-nil, length-append, map-append}
use Rattle.std.proofs.lemmas.Option.{same_Some}
use Rattle.design_tree.specs.declared.statements.Statement.{Statement}
use Rattle.check_rules.specs.Scopes.{Scope}
use Rattle.check_rules.specs.Dependencies.{elements_of}
use Rattle.channel_typing.specs.declared.typed_element.TypedElement.{TypedElement}
use Rattle.channel_typing.specs.declared.typed_element.TypedElement.TheVariants as E
use Rattle.channel_typing.specs.Typing.{Known}
use Rattle.channel_typing.specs.Misfits.{known_with, nothing_known, elements_along, elements_typed, order_of}
use Rattle.netlist.specs.declared.part.Part.{Part}
use Rattle.body_plans.specs.declared.ordered.OrderedElement.{OrderedElement}
use Rattle.design_plans.specs.Planning.{elements_in}
use Rattle.element_parts.specs.declared.design_parts.DesignParts.{DesignParts}
use Rattle.element_parts.specs.Numbering.{BodyParts, body_parts, parts_in, ordered_element, with_element, numbered_along}
use Rattle.element_parts.specs.Listing.{no_parts, with_body, parts_along, parts_of}
use Rattle.once_laws.specs.Accepted.{number_of, AreInOrder}

-- ---- one body

-- each number of an order has its element
pub typed_count : (scope : Scope) (elements : List Statement) (known : Known) (order : List ℕ) → length (elements_along scope elements known order) ≡ length order
typed_count scope elements known [] = refl
typed_count scope elements known (number ∷ order) = ap suc (typed_count scope elements (known_with scope elements known number) order)

pub own_number : (index number : ℕ) (element : TypedElement) → number_of (ordered_element index number element) ≡ number
own_number index number (E.Stages count width) = refl
own_number index number (E.Part part width) = refl
own_number index number E.Instance = refl
own_number index number E.Unknown = refl

pub numbers_along : (b : BodyParts) (order : List ℕ) (typed : List TypedElement) → length typed ≡ length order → map number_of (numbered_along b order typed).elements ≡ map number_of b.elements ++ order
numbers_along b [] typed same = sym (append-nil (map number_of b.elements))
numbers_along b (number ∷ order) [] same = absurd (omega arith)
numbers_along b (number ∷ order) (element ∷ typed) same =
    let own : OrderedElement = ordered_element (length b.parts) number element in
    numbers_along (with_element b number element) order typed (omega arith)
    ∙ ap (λ ns. ns ++ order) (map-append number_of b.elements (own ∷ []))
    ∙ append_assoc (map number_of b.elements) (number_of own ∷ []) order
    ∙ ap (λ n. map number_of b.elements ++ n ∷ order) (own_number (length b.parts) number element)

-- ---- all bodies

pub get_front : {A : Type 0} (xs ys : List A) (i : ℕ) (x : A) → slice_get xs i ≡ Some x → slice_get (xs ++ ys) i ≡ Some x
get_front [] ys i x e = absurd (cc)
get_front (y ∷ xs) ys zero x e = e
get_front (y ∷ xs) ys (suc i) x e = get_front xs ys i x e

get_last : {A : Type 0} (xs : List A) (x : A) → slice_get (xs ++ x ∷ []) (length xs) ≡ Some x
get_last [] x = refl
get_last (y ∷ xs) x = get_last xs x

-- a row stays where it stands
pub row_stays : (before : DesignParts) (scopes : List Scope) (i : ℕ) (row : List OrderedElement) → slice_get before.ordered i ≡ Some row → slice_get (parts_along before scopes).ordered i ≡ Some row
row_stays before [] i row e = e
row_stays before (scope ∷ more) i row e = row_stays (with_body before scope) more i row (get_front before.ordered ((numbered_along (body_parts before.parts []) (order_of scope) (elements_typed scope (elements_of scope.statements) (order_of scope))).elements ∷ []) i row e)

-- the row of a body
abbrev pub row_of : DesignParts → Scope → List OrderedElement
row_of before scope = (numbered_along (body_parts before.parts []) (order_of scope) (elements_typed scope (elements_of scope.statements) (order_of scope))).elements

-- a part stays where it stands
pub part_stays : (b : BodyParts) (order : List ℕ) (typed : List TypedElement) (i : ℕ) (part : Part) → slice_get b.parts i ≡ Some part → slice_get (numbered_along b order typed).parts i ≡ Some part
part_stays b [] typed i part e = e
part_stays b (number ∷ order) [] i part e = e
part_stays b (number ∷ order) (element ∷ typed) i part e = part_stays (with_element b number element) order typed i part (get_front b.parts (parts_in element) i part e)

pub part_kept : (before : DesignParts) (scopes : List Scope) (i : ℕ) (part : Part) → slice_get before.parts i ≡ Some part → slice_get (parts_along before scopes).parts i ≡ Some part
part_kept before [] i part e = e
part_kept before (scope ∷ more) i part e =
    part_kept (with_body before scope) more i part (part_stays (body_parts before.parts []) (order_of scope) (elements_typed scope (elements_of scope.statements) (order_of scope)) i part e)

-- the row of body number k, over the table as it was before that body
pub record HasRow (before : DesignParts) (scopes : List Scope) (k : ℕ) (scope : Scope) : Type 0 where
  pub front : DesignParts
  pub row : slice_get (parts_along before scopes).ordered (length before.ordered + k) ≡ Some (row_of front scope)
  pub kept : (i : ℕ) (part : Part) → slice_get (with_body front scope).parts i ≡ Some part → slice_get (parts_along before scopes).parts i ≡ Some part

pub row_there : (before : DesignParts) (scopes : List Scope) (k : ℕ) (scope : Scope) → slice_get scopes k ≡ Some scope → HasRow before scopes k scope
row_there before [] k scope e = absurd (cc)
row_there before (s ∷ more) zero scope e =
    let is : s ≡ scope = same_Some s scope e in
    let z : length before.ordered + 0 ≡ length before.ordered = omega arith in
    record {
      front = before;
      row = subst (λ q. slice_get (parts_along before (s ∷ more)).ordered (length before.ordered + 0) ≡ Some (row_of before q)) is
          (ap (slice_get (parts_along before (s ∷ more)).ordered) z ∙ row_stays (with_body before s) more (length before.ordered) (row_of before s) (get_last before.ordered (row_of before s)));
      kept = subst (λ q. (i : ℕ) (part : Part) → slice_get (with_body before q).parts i ≡ Some part → slice_get (parts_along before (s ∷ more)).parts i ≡ Some part) is
          (λ i part e. part_kept (with_body before s) more i part e);
    }
row_there before (s ∷ more) (suc k) scope e =
    let later = row_there (with_body before s) more k scope e in
    let longer : length (with_body before s).ordered ≡ length before.ordered + 1 = length-append before.ordered (row_of before s ∷ []) in
    let place : length before.ordered + suc k ≡ length (with_body before s).ordered + k = omega arith in
    record { front = later.front; row = ap (slice_get (parts_along before (s ∷ more)).ordered) place ∙ later.row; kept = later.kept }

row_numbers : (before : DesignParts) (scope : Scope) → map number_of (row_of before scope) ≡ order_of scope
row_numbers before scope =
    numbers_along (body_parts before.parts []) (order_of scope) (elements_typed scope (elements_of scope.statements) (order_of scope))
    (typed_count scope (elements_of scope.statements) (nothing_known (elements_of scope.statements)) (order_of scope))

pub rows_in_order : (scopes : List Scope) → AreInOrder scopes (parts_of scopes).ordered
rows_in_order scopes = record { each = one }
  where
    one : (k : ℕ) (body : Scope) → slice_get scopes k ≡ Some body → map number_of (elements_in (parts_of scopes).ordered k) ≡ order_of body
    one k body e =
        let there = row_there no_parts scopes k body e in
        let z : 0 + k ≡ k = omega arith in
        let row : slice_get (parts_of scopes).ordered k ≡ Some (row_of there.front body) = ap (slice_get (parts_of scopes).ordered) (sym z) ∙ there.row in
        ap (λ (o : Option (List OrderedElement)). map number_of (unwrap_or o [])) row ∙ row_numbers there.front body

-- The part of each element stands in the table where its number says.
use Rattle.std.proofs.Common.{◌≡◌, ℕ, zero, suc, ◌+◌, Bool, true, false, ◌⊎◌, inl, inr, List, [], ◌∷◌, ◌++◌, Option, Some, None, length, refl, ap, sym, ◌∙◌, subst, arith}
use Rattle.std.specs.Prelude.{Contains, cond, slice_get, unwrap_or}
use Rattle.std.proofs.lemmas.Bool.{false≢true}
use Rattle.std.proofs.lemmas.List.{length-replicate}
use Rattle.std.proofs.lemmas.List.Elements.{Contains-append_cases}
use Rattle.std.proofs.lemmas.Option.{same_Some}
use Rattle.name_tables.specs.PlaceLaws.{contains_none, contains_one, contains_here, contains_later, contains_cases}
use Rattle.design_tree.specs.declared.leaves.Name.{Name}
use Rattle.design_tree.specs.declared.leaves.Reference.{Reference}
use Rattle.design_tree.specs.declared.statements.Operation.{Operation}
use Rattle.design_tree.specs.declared.statements.Statement.{Statement}
use Rattle.design_tree.specs.declared.statements.Statement.TheVariants as S
use Rattle.design_tree.specs.declared.design.DesignTree.TheVariants as F
use Rattle.netlist.specs.declared.part.Part.{Part}
use Rattle.element_order.specs.Laws.{AllOrders}
use Rattle.check_rules.specs.Scopes.{Scope, scopes}
use Rattle.check_rules.specs.References.{operation_sources}
use Rattle.check_rules.specs.Dependencies.{is_element, elements_of}
use Rattle.body_order.specs.Makers.{first_needs}
use Rattle.body_plans.specs.declared.ordered.OrderedElement.{OrderedElement}
use Rattle.design_plans.specs.Planning.{elements_in}
use Rattle.channel_typing.specs.declared.typed_element.TypedElement.{TypedElement}
use Rattle.channel_typing.specs.BodyLaws.{each_type_found}
use Rattle.channel_typing.specs.Misfits.{misfits, scope_misfits, misfits_along, nothing_known, elements_typed, drive_misfits, type_in_body, order_of}
use Rattle.element_parts.specs.Listing.{no_parts, parts_of}
use Rattle.element_parts.specs.Numbering.{BodyParts, body_parts, parts_in, ordered_element, with_element, numbered_along}
use Rattle.planned_laws.specs.Rows.{own_number, part_stays, row_of, HasRow, row_there, rows_in_order}
use Rattle.planned_laws.specs.TypesFit.{types_fit}
use Rattle.listed_parts.specs.Listed.{IsListed, EachListed}
use Rattle.listed_parts.proofs.Operations.{element_at}
use Rattle.listed_parts.proofs.Resolved.{IsFound, nil_parts, flat_nil, body_looked_up, source_found}
use Rattle.listed_parts.proofs.Walk.{Stands, EachStands, follows_from, needs_below, walked}

-- where the element is an operation, it is listed
abbrev WhereListed : Scope → List Statement → List Part → OrderedElement → Type 0
WhereListed scope elements parts o = (at : ℕ) (names : List Name) (operation : Operation) → slice_get elements o.number ≡ Some (S.Channels at names operation) → IsListed scope parts names operation o

get_last : {A : Type 0} (xs : List A) (x : A) → slice_get (xs ++ x ∷ []) (length xs) ≡ Some x
get_last [] x = refl
get_last (y ∷ xs) x = get_last xs x

module _ (scope : Scope) (elements : List Statement) where
  own_there : (b : BodyParts) (element : TypedElement) (part : Part) → parts_in element ≡ part ∷ [] → slice_get (b.parts ++ parts_in element) (length b.parts) ≡ Some part
  own_there b element part own = ap (λ ps. slice_get (b.parts ++ ps) (length b.parts)) own ∙ get_last b.parts part

  listed_here : (b : BodyParts) (n : ℕ) (element : TypedElement) (order : List ℕ) (typed : List TypedElement) → Stands scope elements n element
      → WhereListed scope elements (numbered_along (with_element b n element) order typed).parts (ordered_element (length b.parts) n element)
  listed_here b n element order typed stands at names operation e =
      let m = stands at names operation (ap (slice_get elements) (sym (own_number (length b.parts) n element)) ∙ e) in
      let is : ordered_element (length b.parts) n element ≡ element_at (length b.parts) n m.count m.width = m.numbered (length b.parts) n in
      subst (λ (o : OrderedElement). IsListed scope (numbered_along (with_element b n element) order typed).parts names operation o) (sym is) (record {
        types = m.types;
        known = m.known;
        part = m.part;
        there = part_stays (with_element b n element) order typed (length b.parts) m.part (own_there b element m.part m.own);
        stands = m.stands;
        ty = m.ty;
        makes = m.makes;
        word = m.word;
      })

  -- an element of the list was there before, or is listed
  along_listed : (b : BodyParts) (order : List ℕ) (typed : List TypedElement) → EachStands scope elements order typed → (o : OrderedElement) → Contains (numbered_along b order typed).elements o
      → Contains b.elements o ⊎ WhereListed scope elements (numbered_along b order typed).parts o
  along_listed b [] typed stand o c = inl c
  along_listed b (n ∷ order) [] stand o c = inl c
  along_listed b (n ∷ order) (element ∷ typed) stand o c =
      elim (along_listed (with_element b n element) order typed stand.1 o c) [
        | inl before ↦
            elim (Contains-append_cases b.elements (ordered_element (length b.parts) n element ∷ []) o before) [
              | inl old ↦ inl old
              | inr new ↦ inr (subst (λ (q : OrderedElement). WhereListed scope elements (numbered_along (with_element b n element) order typed).parts q) (contains_one (ordered_element (length b.parts) n element) o new)
                  (listed_here b n element order typed stand.0))
            ]
        | inr later ↦ inr later
      ]

-- in a greater table
more_listed : (scope : Scope) (fewer parts : List Part) (names : List Name) (operation : Operation) (o : OrderedElement) → ((i : ℕ) (part : Part) → slice_get fewer i ≡ Some part → slice_get parts i ≡ Some part)
    → IsListed scope fewer names operation o → IsListed scope parts names operation o
more_listed scope fewer parts names operation o keeps l = record { types = l.types; known = l.known; part = l.part; there = keeps o.part l.part l.there; stands = l.stands; ty = l.ty; makes = l.makes; word = l.word }

-- ---- a body

get_contains : {A : Type 0} (xs : List A) (i : ℕ) (x : A) → slice_get xs i ≡ Some x → Contains xs x
get_contains [] i x e = absurd (cc)
get_contains (y ∷ ys) zero x e = subst (λ q. Contains (y ∷ ys) q) (same_Some y x e) (contains_here y ys)
get_contains (y ∷ ys) (suc i) x e = contains_later y ys x (get_contains ys i x e)

element_within : (ss : List Statement) (s : Statement) → Contains (elements_of ss) s → Contains ss s
element_within [] s c = c
element_within (x ∷ ss) s c = here (is_element x) c (element_within ss s)
  where
    here : (b : Bool) → Contains (cond b (x ∷ elements_of ss) (elements_of ss)) s → (Contains (elements_of ss) s → Contains ss s) → Contains (x ∷ ss) s
    here true d more = elim (contains_cases x (elements_of ss) s d) [ inl is ↦ subst (λ q. Contains (x ∷ ss) q) is (contains_here x ss) | inr later ↦ contains_later x ss s (more later) ]
    here false d more = contains_later x ss s (more d)

pub each_listed : AllOrders → EachListed
each_listed orders declarations top accepts k scope e = record {
  numbers = (rows_in_order (scopes declarations top)).each k scope e;
  each = λ o c at names operation f. one o (subst (λ (os : List OrderedElement). Contains os o) row_is c) at names operation f;
}
  where
    there : HasRow no_parts (scopes declarations top) k scope
    there = row_there no_parts (scopes declarations top) k scope e

    row_is : elements_in (parts_of (scopes declarations top)).ordered k ≡ row_of there.front scope
    row_is =
        let z : 0 + k ≡ k = omega arith in
        ap (λ (o : Option (List OrderedElement)). unwrap_or o []) (ap (slice_get (parts_of (scopes declarations top)).ordered) (sym z) ∙ there.row)

    inside : Contains (scopes declarations top) scope
    inside = get_contains (scopes declarations top) k scope e

    found : (at : ℕ) (names : List Name) (operation : Operation) (number : ℕ) → slice_get (elements_of scope.statements) number ≡ Some (S.Channels at names operation)
        → (r : Reference) → Contains (operation_sources operation) r → IsFound scope r
    found at names operation number f r c =
        let s : Statement = S.Channels at names operation in
        source_found scope (body_looked_up misfits declarations top accepts scope inside) s (element_within scope.statements s (get_contains (elements_of scope.statements) number s f)) r c

    fits : misfits_along scope (elements_of scope.statements) (nothing_known (elements_of scope.statements)) (order_of scope) ≡ []
    fits =
        (nil_parts (misfits_along scope (elements_of scope.statements) (nothing_known (elements_of scope.statements)) (order_of scope)) (drive_misfits (type_in_body scope (elements_of scope.statements) (order_of scope)) scope.statements)
        (flat_nil scope_misfits (scopes declarations top) scope inside (types_fit (F.Modules declarations top) accepts))).0

    all_stand : EachStands scope (elements_of scope.statements) (order_of scope) (elements_typed scope (elements_of scope.statements) (order_of scope))
    all_stand =
        walked scope found [] (nothing_known (elements_of scope.statements)) (λ j at names operation a f. absurd (false≢true a)) (length-replicate (length (elements_of scope.statements)) None)
        (λ order r ty f. each_type_found scope order r ty f) (order_of scope)
        (follows_from (first_needs (elements_of scope.statements)) [] (order_of scope) (order_of scope) refl (orders (first_needs (elements_of scope.statements)) (needs_below (elements_of scope.statements))).sorted) fits

    one : (o : OrderedElement) → Contains (row_of there.front scope) o → (at : ℕ) (names : List Name) (operation : Operation) → slice_get (elements_of scope.statements) o.number ≡ Some (S.Channels at names operation)
        → IsListed scope (parts_of (scopes declarations top)).parts names operation o
    one o c at names operation f =
        elim (along_listed scope (elements_of scope.statements) (body_parts there.front.parts []) (order_of scope) (elements_typed scope (elements_of scope.statements) (order_of scope)) all_stand o c) [
          | inl none ↦ absurd (contains_none o none)
          | inr listed ↦
              more_listed scope (numbered_along (body_parts there.front.parts []) (order_of scope) (elements_typed scope (elements_of scope.statements) (order_of scope))).parts (parts_of (scopes declarations top)).parts names operation o
              there.kept (listed at names operation f)
        ]

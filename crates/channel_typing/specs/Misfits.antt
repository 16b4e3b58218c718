-- What does not fit in a body, and what its elements are: along its element order, with the types known so far, and after
-- that its drives.
use Rattle.std.specs.Prelude.{ℕ, Option, Some, None, List, [], ◌∷◌, ◌++◌, flat_map, length, replicate, set, slice_get}
use Rattle.channel_types.specs.declared.esi_type.EsiType.{EsiType}
use Rattle.design_tree.specs.declared.leaves.Reference.{Reference}
use Rattle.design_tree.specs.declared.statements.Statement.{Statement}
use Rattle.element_order.specs.Orders.{ordered}
use Rattle.check_rules.specs.Scopes.{Scope}
use Rattle.check_rules.specs.Dependencies.{elements_of}
use Rattle.body_order.specs.Makers.{first_needs}
use Rattle.channel_typing.specs.declared.typed_element.TypedElement.{TypedElement}
use Rattle.channel_typing.specs.Typing.{Known, Made, unknown, type_at, element_misfits, drive_misfit, statement_made}

-- ---- along an order of elements

-- the element of a number
abbrev pub misfits_of : Scope → List Statement → Known → Option Statement → List ℕ
misfits_of scope elements known None = []
misfits_of scope elements known (Some s) = element_misfits scope (type_at scope elements known) s

abbrev pub made_by : Scope → List Statement → Known → Option Statement → Made
made_by scope elements known None = unknown
made_by scope elements known (Some s) = statement_made (type_at scope elements known) s

-- what is known once the element of a number is typed too
abbrev pub known_with : Scope → List Statement → Known → ℕ → Known
known_with scope elements known number = set known number (made_by scope elements known (slice_get elements number)).ty

abbrev pub known_after : Scope → List Statement → Known → List ℕ → Known
known_after scope elements known [] = known
known_after scope elements known (number ∷ order) = known_after scope elements (known_with scope elements known number) order

abbrev pub misfits_along : Scope → List Statement → Known → List ℕ → List ℕ
misfits_along scope elements known [] = []
misfits_along scope elements known (number ∷ order) =
    misfits_of scope elements known (slice_get elements number) ++ misfits_along scope elements (known_with scope elements known number) order

-- what the elements are
abbrev pub elements_along : Scope → List Statement → Known → List ℕ → List TypedElement
elements_along scope elements known [] = []
elements_along scope elements known (number ∷ order) =
    (made_by scope elements known (slice_get elements number)).element ∷ elements_along scope elements (known_with scope elements known number) order

-- ---- a body

-- nothing is known of any element
abbrev pub nothing_known : List Statement → Known
nothing_known elements = replicate (length elements) None

-- what is known of all elements
abbrev pub known_in : Scope → List Statement → List ℕ → Known
known_in scope elements order = known_after scope elements (nothing_known elements) order

-- the type of what a reference of a body is to
abbrev pub type_in_body : Scope → List Statement → List ℕ → Reference → Option EsiType
type_in_body scope elements order = type_at scope elements (known_in scope elements order)

-- what does not fit of the drives among some statements
abbrev pub drive_misfits : (Reference → Option EsiType) → List Statement → List ℕ
drive_misfits of = flat_map (drive_misfit of)

-- All places of a body that do not fit, over its elements in an order, then over its drives in the order of the text.
abbrev pub body_misfits : Scope → List Statement → List ℕ → List ℕ
body_misfits scope elements order =
    misfits_along scope elements (nothing_known elements) order ++ drive_misfits (type_in_body scope elements order) scope.statements

-- what its elements are, in the order
abbrev pub elements_typed : Scope → List Statement → List ℕ → List TypedElement
elements_typed scope elements order = elements_along scope elements (nothing_known elements) order

-- ---- a design

-- the element order of a body
abbrev pub order_of : Scope → List ℕ
order_of scope = ordered (first_needs (elements_of scope.statements))

-- The places of a body at which a type does not fit, in the order in which they are checked.
abbrev pub scope_misfits : Scope → List ℕ
scope_misfits scope = body_misfits scope (elements_of scope.statements) (order_of scope)

-- The places of a design at which a type does not fit, body after body.
abbrev pub misfits : List Scope → List ℕ
misfits = flat_map scope_misfits

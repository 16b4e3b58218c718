-- What stands for the elements of a design, body after body.
use Rattle.std.specs.Prelude.{ℕ, List, [], ◌∷◌, ◌++◌}
use Rattle.check_rules.specs.Scopes.{Scope}
use Rattle.check_rules.specs.Dependencies.{elements_of}
use Rattle.channel_typing.specs.declared.typed_element.TypedElement.{TypedElement}
use Rattle.channel_typing.specs.Misfits.{elements_typed, order_of}
use Rattle.element_parts.specs.declared.design_parts.DesignParts.{DesignParts}
use Rattle.element_parts.specs.Numbering.{BodyParts, body_parts, numbered_along}

abbrev pub no_parts : DesignParts
no_parts = record { parts = []; ordered = [] }

abbrev pub with_elements : DesignParts → BodyParts → DesignParts
with_elements before b = record { parts = b.parts; ordered = before.ordered ++ b.elements ∷ [] }

-- with the elements of a body, in an order of their numbers
abbrev pub with_typed : DesignParts → List ℕ → List TypedElement → DesignParts
with_typed before order typed = with_elements before (numbered_along (body_parts before.parts []) order typed)

-- with the elements of a body in its element order
abbrev pub with_body : DesignParts → Scope → DesignParts
with_body before scope = with_typed before (order_of scope) (elements_typed scope (elements_of scope.statements) (order_of scope))

-- with the elements of bodies, one body after the other
abbrev pub parts_along : DesignParts → List Scope → DesignParts
parts_along before [] = before
parts_along before (scope ∷ more) = parts_along (with_body before scope) more

-- What stands for the elements of the bodies of a design.
abbrev pub parts_of : List Scope → DesignParts
parts_of scopes = parts_along no_parts scopes

-- What stands for the elements of a body, numbered in a table of parts.
use Rattle.std.specs.Prelude.{ℕ, List, [], ◌∷◌, ◌++◌, length}
use Rattle.netlist.specs.declared.part.Part.{Part}
use Rattle.netlist.specs.declared.part.Part.TheVariants as P
use Rattle.channel_typing.specs.declared.typed_element.TypedElement.{TypedElement}
use Rattle.channel_typing.specs.declared.typed_element.TypedElement.TheVariants as E
use Rattle.body_plans.specs.declared.ordered.OrderedElement.{OrderedElement}

-- the part that stands for an element; an instance has none
abbrev pub parts_in : TypedElement → List Part
parts_in (E.Stages count width) = P.Stage width ∷ []
parts_in (E.Part part width) = part ∷ []
parts_in E.Instance = []
parts_in E.Unknown = []

-- an element of a number, for which the part of an index stands
abbrev pub ordered_element : ℕ → ℕ → TypedElement → OrderedElement
ordered_element index number (E.Stages count width) = record { number = number; part = index; count = count; width = width }
ordered_element index number (E.Part part width) = record { number = number; part = index; count = 1; width = width }
ordered_element index number E.Instance = record { number = number; part = index; count = 1; width = 0 }
ordered_element index number E.Unknown = record { number = number; part = index; count = 1; width = 0 }

-- a table, and the elements of a body so far
pub record BodyParts : Type 0 where
  pub parts : List Part
  pub elements : List OrderedElement

abbrev pub body_parts : List Part → List OrderedElement → BodyParts
body_parts parts elements = record { parts = parts; elements = elements }

-- with one more element, whose part is the next one of the table
abbrev pub with_element : BodyParts → ℕ → TypedElement → BodyParts
with_element b number element = body_parts (b.parts ++ parts_in element) (b.elements ++ ordered_element (length b.parts) number element ∷ [])

-- with elements in an order of their numbers
abbrev pub numbered_along : BodyParts → List ℕ → List TypedElement → BodyParts
numbered_along b [] typed = b
numbered_along b (number ∷ order) [] = b
numbered_along b (number ∷ order) (element ∷ typed) = numbered_along (with_element b number element) order typed

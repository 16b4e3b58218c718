-- The same, step by step, up to the first place at which a type does not fit.
use Rattle.std.specs.Prelude.{ℕ, Result, Ok, List, [], ◌∷◌}
use Rattle.esi_base.specs.Answers.{◌>>=◌}
use Rattle.design_tree.specs.declared.statements.Statement.{Statement}
use Rattle.check_rules.specs.Scopes.{Scope}
use Rattle.check_rules.specs.Dependencies.{elements_of}
use Rattle.channel_typing.specs.declared.typed_element.TypedElement.{TypedElement}
use Rattle.channel_typing.specs.Misfits.{body_misfits, elements_typed, order_of}
use Rattle.channel_typing.specs.Walk.{first_or}
use Rattle.element_parts.specs.declared.design_parts.DesignParts.{DesignParts}
use Rattle.element_parts.specs.Listing.{with_typed}

-- a table with what was typed along an order
abbrev pub typed_added : DesignParts → List ℕ → List TypedElement → Result DesignParts ℕ
typed_added before order typed = Ok (with_typed before order typed)

-- the elements of a body, in an order
abbrev pub elements_added : DesignParts → Scope → List Statement → List ℕ → Result DesignParts ℕ
elements_added before scope elements order = first_or (body_misfits scope elements order) (elements_typed scope elements order) >>= typed_added before order

abbrev pub body_added : DesignParts → Scope → Result DesignParts ℕ
body_added before scope = elements_added before scope (elements_of scope.statements) (order_of scope)

abbrev pub bodies_added : DesignParts → List Scope → Result DesignParts ℕ
bodies_added before [] = Ok before
bodies_added before (scope ∷ more) = body_added before scope >>= (λ next. bodies_added next more)

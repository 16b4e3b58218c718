-- Channels whose signalling is not the one that is taken.
use Rattle.std.specs.Prelude.{ℕ, Bool, true, false, not, Option, List, [], ◌∷◌, ◌++◌, flat_map, filter, slice_get, if◌then◌else◌}
use Rattle.std.specs.Option.{option_to_list}
use Rattle.design_tree.specs.declared.leaves.Name.{Name}
use Rattle.design_tree.specs.declared.leaves.Reference.{Reference}
use Rattle.design_tree.specs.declared.leaves.Reference.TheVariants as R
use Rattle.design_tree.specs.declared.statements.Operation.{Operation}
use Rattle.design_tree.specs.declared.statements.Operation.TheVariants as O
use Rattle.design_tree.specs.declared.statements.Statement.{Statement}
use Rattle.design_tree.specs.declared.statements.Statement.TheVariants as S
use Rattle.check_rules.specs.Scopes.{Scope}
use Rattle.check_rules.specs.References.{is_among, sources_of, reference_place}
use Rattle.element_order.specs.Orders.{ordered}
use Rattle.check_rules.specs.Dependencies.{elements_of, needs}

-- the operations whose channel has FIFO signalling
abbrev pub gives_fifo : Operation → Bool
gives_fifo (O.Fifo depth source) = true
gives_fifo (O.AsFifo source) = true
gives_fifo other = false

-- the statements that take it; all others take valid-ready
abbrev pub takes_fifo : Statement → Bool
takes_fifo (S.Channels at names (O.AsVr source)) = true
takes_fifo other = false

abbrev pub named_fifo : Name → List Statement → Bool
named_fifo name [] = false
named_fifo name (S.Channels at names operation ∷ rest) = if is_among name names then gives_fifo operation else named_fifo name rest
named_fifo name (other ∷ rest) = named_fifo name rest

-- whether a reference is to a channel of FIFO signalling
abbrev pub is_fifo : Scope → Reference → Bool
is_fifo scope (R.Channel name) = named_fifo name scope.statements
is_fifo scope (R.Member id name) = false

abbrev pub differ : Bool → Bool → Bool
differ true b = not b
differ false b = b

abbrev pub wrong_signalling : Scope → Statement → List ℕ
wrong_signalling scope statement =
    flat_map (λ r. if differ (is_fifo scope r) (takes_fifo statement) then reference_place r ∷ [] else []) (sources_of statement)

abbrev pub is_drive : Statement → Bool
is_drive (S.Drive at sink source) = true
is_drive other = false

-- the elements of a body in their order, and after them its drives in the order of the text
abbrev pub in_order : Scope → List Statement
in_order scope = flat_map (λ i. option_to_list (slice_get (elements_of scope.statements) i)) (ordered (needs (elements_of scope.statements))) ++ filter is_drive scope.statements

-- The references that are taken with another signalling than they have, in the order in which they are checked.
abbrev pub signalling_breaks : List Scope → List ℕ
signalling_breaks scopes = flat_map (λ scope. flat_map (wrong_signalling scope) (in_order scope)) scopes

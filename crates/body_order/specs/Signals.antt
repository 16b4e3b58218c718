-- Channels of a body that are taken with another signalling than they have.
use Rattle.std.specs.Prelude.{ℕ, Bool, true, false, Option, Some, None, List, [], ◌∷◌, ◌++◌, flat_map, filter, slice_get, option_to_list, if◌then◌else◌}
use Rattle.design_tree.specs.declared.leaves.Reference.{Reference}
use Rattle.design_tree.specs.declared.leaves.Reference.TheVariants as R
use Rattle.design_tree.specs.declared.statements.Operation.{Operation}
use Rattle.design_tree.specs.declared.statements.Operation.TheVariants as O
use Rattle.design_tree.specs.declared.statements.Statement.{Statement}
use Rattle.design_tree.specs.declared.statements.Statement.TheVariants as S
use Rattle.check_rules.specs.References.{sources_of, reference_place}
use Rattle.check_rules.specs.Signalling.{gives_fifo, takes_fifo, named_fifo, differ, is_drive}

-- the first of a list
abbrev pub first_of : List ℕ → Option ℕ
first_of [] = None
first_of (x ∷ xs) = Some x

abbrev pub or_else : Option ℕ → Option ℕ → Option ℕ
or_else None other = other
or_else (Some x) other = Some x

-- whether a reference is to a channel of FIFO signalling that one of the elements makes
abbrev pub has_fifo : List Statement → Reference → Bool
has_fifo elements (R.Channel name) = named_fifo name elements
has_fifo elements (R.Member id name) = false

-- whether an operation takes it
abbrev pub takes_fifo_in : Operation → Bool
takes_fifo_in (O.AsVr source) = true
takes_fifo_in other = false

-- the place of the reference, where it is taken with the other signalling
abbrev pub wrong_source : List Statement → Bool → Reference → List ℕ
wrong_source elements takes r = if differ (has_fifo elements r) takes then reference_place r ∷ [] else []

abbrev pub wrong_sources : List Statement → Statement → List ℕ
wrong_sources elements statement = flat_map (wrong_source elements (takes_fifo statement)) (sources_of statement)

-- the elements with these numbers
abbrev pub numbered : List Statement → List ℕ → List Statement
numbered elements numbers = flat_map (λ i. option_to_list (slice_get elements i)) numbers

-- All of them, over the elements in an order, then over the drives among the statements.
abbrev pub wrong_signals : List Statement → List ℕ → List Statement → List ℕ
wrong_signals elements order statements = flat_map (wrong_sources elements) (numbered elements order ++ filter is_drive statements)

-- what the element of a number makes
abbrev pub fifo_of : Option Statement → Bool
fifo_of None = false
fifo_of (Some (S.Request at service port id)) = false
fifo_of (Some (S.Instance at id body bindings)) = false
fifo_of (Some (S.Channels at names operation)) = gives_fifo operation
fifo_of (Some (S.Drive at sink source)) = false

abbrev pub fifo_at : List Statement → Option ℕ → Bool
fifo_at elements None = false
fifo_at elements (Some number) = fifo_of (slice_get elements number)

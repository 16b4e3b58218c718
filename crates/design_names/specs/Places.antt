-- The places at which the rules on names are broken, as lists over the walks' bodies.
use Rattle.std.specs.Prelude.{ℕ, List, [], ◌∷◌, ◌++◌, map, flat_map}
use Rattle.design_tree.specs.declared.statements.Binding.{Binding}
use Rattle.design_tree.specs.declared.statements.Statement.{Statement}
use Rattle.design_tree.specs.declared.statements.Statement.TheVariants as S
use Rattle.design_tree.specs.declared.declarations.Declaration.{Declaration}
use Rattle.name_tables.specs.Labels.{Occurrence}
use Rattle.name_tables.specs.Lists.{repeats}
use Rattle.check_rules.specs.References.{named, channels_of, operation_sources, reference_named}
use Rattle.check_rules.specs.DeclaredTwice.{declaration_spaces, statement_spaces, port_named, ids_of}
use Rattle.check_rules.specs.Uses.{bound_in}
use Rattle.design_scopes.specs.declared.body.Body.{Body}

-- ---- names that are declared twice

-- the places of a name that stood before in the same one of some lists
abbrev pub repeats_in : List (List Occurrence) → List ℕ
repeats_in = flat_map repeats

abbrev pub declaration_repeats : Declaration → List ℕ
declaration_repeats d = repeats_in (declaration_spaces d)

abbrev pub statement_repeats : Statement → List ℕ
statement_repeats s = repeats_in (statement_spaces s)

-- the ports of a module, and the channels of its body
abbrev pub own_named : Body → List Occurrence
own_named b = map port_named b.ports.now ++ flat_map (λ s. map named (channels_of s.now)) b.statements

abbrev pub body_ids : Body → List Occurrence
body_ids b = flat_map (λ s. ids_of s.now) b.statements

abbrev pub body_repeats : Body → List ℕ
body_repeats b = repeats (own_named b) ++ (repeats (body_ids b) ++ (repeats (map (λ n. named n.now) b.implements) ++ flat_map (λ s. statement_repeats s.now) b.statements))

-- ---- what is used twice

-- the references of a statement, at their places
abbrev pub binding_used : Binding → Occurrence
binding_used b = reference_named b.source

abbrev pub statement_used : Statement → List Occurrence
statement_used (S.Request at service port id) = []
statement_used (S.Instance at id body bindings) = map binding_used bindings
statement_used (S.Channels at names operation) = map reference_named (operation_sources operation)
statement_used (S.Drive at sink source) = reference_named sink ∷ reference_named source ∷ []

abbrev pub body_used : Body → List Occurrence
body_used b = flat_map (λ s. statement_used s.now) b.statements

abbrev pub statement_bound : Statement → List ℕ
statement_bound s = repeats_in (bound_in s)

abbrev pub body_uses : Body → List ℕ
body_uses b = repeats (body_used b) ++ flat_map (λ s. statement_bound s.now) b.statements

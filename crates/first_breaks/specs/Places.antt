-- The places at which a rule is broken, as lists. Those of names that are not declared, of counts, of directions and of
-- signalling are lists by their definitions.
use Rattle.std.specs.Prelude.{ℕ, ◌+◌, nat_lt, List, [], ◌∷◌, ◌++◌, flat_map, if◌then◌else◌}
use Rattle.design_tree.specs.declared.statements.Statement.{Statement}
use Rattle.design_tree.specs.declared.declarations.Declaration.{Declaration}
use Rattle.name_tables.specs.Lists.{repeats, missing}
use Rattle.check_rules.specs.Scopes.{Scope}
use Rattle.check_rules.specs.References.{statement_place}
use Rattle.check_rules.specs.DeclaredTwice.{name_spaces}
use Rattle.check_rules.specs.Uses.{Due, scope_uses, scope_due}
use Rattle.check_rules.specs.Dependencies.{elements_of, needs}
use Rattle.first_breaks.specs.Dependence.{depends_on}

-- names that stand twice in one of the spaces of names
abbrev pub declared_twice : List Declaration → List Scope → List ℕ
declared_twice declarations scopes = flat_map repeats (name_spaces declarations scopes)

-- references to what was used before, and ports that an instance has bound before
abbrev pub used_twice : List Scope → List ℕ
used_twice scopes = flat_map repeats (flat_map scope_uses scopes)

abbrev pub missing_of : Due → List ℕ
missing_of names = missing names.used names.due

-- what has to be used and is not
abbrev pub unused : List Scope → List ℕ
unused scopes = flat_map missing_of (flat_map scope_due scopes)

-- the statements of those elements, from `i` on, that depend on themselves
abbrev pub cycles_from : List (List ℕ) → ℕ → List Statement → List ℕ
cycles_from ns i [] = []
cycles_from ns i (element ∷ more) = (if depends_on ns i i then statement_place element ∷ [] else []) ++ cycles_from ns (i + 1) more

abbrev pub scope_cycles : Scope → List ℕ
scope_cycles scope = cycles_from (needs (elements_of scope.statements)) 0 (elements_of scope.statements)

-- the elements that depend on themselves
abbrev pub on_cycles : List Scope → List ℕ
on_cycles scopes = flat_map scope_cycles scopes

-- the place, where there are more than the limit
abbrev pub above : ℕ → ℕ → ℕ → List ℕ
above limit count at = if nat_lt limit count then at ∷ [] else []

-- Numbers of stages, depths and counts of channels that are out of their range.
use Rattle.std.specs.Prelude.{ℕ, nat_lt, ◌||◌, List, [], ◌∷◌, ◌++◌, length, flat_map, Contains, if◌then◌else◌}
use Rattle.design_tree.specs.declared.leaves.Number.{Number}
use Rattle.design_tree.specs.declared.statements.Operation.{Operation}
use Rattle.design_tree.specs.declared.statements.Operation.TheVariants as O
use Rattle.design_tree.specs.declared.statements.Statement.{Statement}
use Rattle.design_tree.specs.declared.statements.Statement.TheVariants as S
use Rattle.check_rules.specs.declared.limits.TheConstants.{MIN_STAGES, MAX_STAGES, MIN_DEPTH, MAX_DEPTH, MIN_BRANCHES, MAX_BRANCHES}
use Rattle.check_rules.specs.Scopes.{Scope}

-- the place of a count that is out of its range
abbrev pub outside : ℕ → ℕ → ℕ → ℕ → List ℕ
outside low high count at = if nat_lt count low || nat_lt high count then at ∷ [] else []

-- a number of stages, of a pipe or of a buffer
abbrev pub stages_outside : Number → List ℕ
stages_outside stages = outside MIN_STAGES MAX_STAGES stages.value stages.at

abbrev pub depth_outside : Number → List ℕ
depth_outside depth = outside MIN_DEPTH MAX_DEPTH depth.value depth.at

-- a fork makes several channels, and any other operation makes one
abbrev pub operation_counts : ℕ → ℕ → Operation → List ℕ
operation_counts at channels (O.Buffer stages source) = stages_outside stages ++ outside 1 1 channels at
operation_counts at channels (O.Fifo depth source) = depth_outside depth ++ outside 1 1 channels at
operation_counts at channels (O.Fork source) = outside MIN_BRANCHES MAX_BRANCHES channels at
operation_counts at channels other = outside 1 1 channels at

abbrev pub statement_counts : Statement → List ℕ
statement_counts (S.Channels at names operation) = operation_counts at (length names) operation
statement_counts other = []

abbrev pub scope_counts : Scope → List ℕ
scope_counts scope = flat_map statement_counts scope.statements

-- At the place stands a number that is out of its range, or a statement with a wrong count of channels.
abbrev pub BreaksCounts : List Scope → ℕ → Type 0
BreaksCounts scopes at = Contains (flat_map scope_counts scopes) at

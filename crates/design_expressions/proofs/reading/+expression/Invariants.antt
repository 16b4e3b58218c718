use Rattle.std.proofs.Common.{◌+◌, ◌*◌, [], ◌∷◌, length}
use Rattle.ll1_grammar.specs.Loops.{Turning}
use Rattle.design_grammar.specs.declared.kind.Kind.TheVariants.{Comma}
use Rattle.design_grammar.specs.Kinds.{code}
use Rattle.design_grammar.specs.Lists.{one_more, after_comma}
use Rattle.design_grammar.specs.Rules.{designs}
use Rattle.design_expressions.specs.ExpressionReading as spec
use Rattle.design_expressions.proofs.reading.+expression.Given as goal

abbrev pub decreases-expression_at : goal.decreases-expression_at
decreases-expression_at l = 11 * l.levels

abbrev pub decreases-one_more : goal.decreases-one_more
decreases-one_more l = 11 * l.levels + 1

abbrev pub decreases-parts : goal.decreases-parts
decreases-parts l = 11 * l.levels + 2

abbrev pub decreases-operand : goal.decreases-operand
decreases-operand l = 11 * l.levels + 1

abbrev pub decreases-pair : goal.decreases-pair
decreases-pair l = 11 * l.levels + 2

abbrev pub decreases-make : goal.decreases-make
decreases-make l = 11 * l.levels + 3

abbrev pub decreases-cast : goal.decreases-cast
decreases-cast l = 11 * l.levels + 3

abbrev pub decreases-zext : goal.decreases-zext
decreases-zext l = 11 * l.levels + 3

abbrev pub decreases-slice : goal.decreases-slice
decreases-slice l = 11 * l.levels + 3

abbrev pub decreases-not : goal.decreases-not
decreases-not l = 11 * l.levels + 3

abbrev pub decreases-two : goal.decreases-two
decreases-two l = 11 * l.levels + 3

abbrev pub decreases-mux : goal.decreases-mux
decreases-mux l = 11 * l.levels + 3

abbrev pub decreases-inside : goal.decreases-inside
decreases-inside l = 11 * l.levels + 4

abbrev pub decreases-in_parentheses : goal.decreases-in_parentheses
decreases-in_parentheses l = 11 * l.levels + 5

abbrev pub decreases-application : goal.decreases-application
decreases-application l = 11 * l.levels + 6

abbrev pub decreases-operation : goal.decreases-operation
decreases-operation l = 11 * l.levels + 7

abbrev pub decreases-binary : goal.decreases-binary
decreases-binary l = 11 * l.levels + 7

abbrev pub decreases-of_bits : goal.decreases-of_bits
decreases-of_bits l = 11 * l.levels + 8

abbrev pub decreases-base : goal.decreases-base
decreases-base l = 11 * l.levels + 9

abbrev pub decreases-level : goal.decreases-level
decreases-level l = 11 * l.levels + 10

abbrev pub invariant-parts-loop-alloc : goal.invariant-parts-loop-alloc
invariant-parts-loop-alloc l = Turning designs (code Comma ∷ []) (one_more (after_comma (spec.expression_at l.levels))) [] l.initial.cursor l.parts l.cursor

abbrev pub decreases-parts-loop-alloc : goal.decreases-parts-loop-alloc
decreases-parts-loop-alloc l = length l.cursor

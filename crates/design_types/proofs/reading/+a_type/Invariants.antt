use Rattle.std.proofs.Common.{◌+◌, ◌*◌, [], ◌∷◌, length}
use Rattle.ll1_grammar.specs.Loops.{Turning}
use Rattle.design_grammar.specs.declared.kind.Kind.TheVariants.{Comma}
use Rattle.design_grammar.specs.Kinds.{code}
use Rattle.design_grammar.specs.Rules.{designs}
use Rattle.design_grammar.specs.Lists.{one_more, after_comma}
use Rattle.design_types.specs.TypeReading as spec
use Rattle.design_types.proofs.reading.+a_type.Given as goal

abbrev pub decreases-type_at : goal.decreases-type_at
decreases-type_at l = 6 * l.levels

abbrev pub decreases-level : goal.decreases-level
decreases-level l = 6 * l.levels + 5

abbrev pub decreases-struct_type : goal.decreases-struct_type
decreases-struct_type l = 6 * l.levels + 4

abbrev pub decreases-array_type : goal.decreases-array_type
decreases-array_type l = 6 * l.levels + 4

abbrev pub decreases-more_fields : goal.decreases-more_fields
decreases-more_fields l = 6 * l.levels + 3

abbrev pub decreases-one_more : goal.decreases-one_more
decreases-one_more l = 6 * l.levels + 2

abbrev pub decreases-field : goal.decreases-field
decreases-field l = 6 * l.levels + 1

abbrev pub invariant-more_fields-loop-alloc : goal.invariant-more_fields-loop-alloc
invariant-more_fields-loop-alloc l =
    Turning designs (code Comma ∷ []) (one_more (after_comma (spec.field (spec.type_at l.levels)))) (l.fn.first ∷ []) l.initial.cursor l.fields l.cursor

abbrev pub decreases-more_fields-loop-alloc : goal.decreases-more_fields-loop-alloc
decreases-more_fields-loop-alloc l = length l.cursor

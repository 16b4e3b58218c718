use Rattle.std.proofs.Common.{sym, ◌∙◌, arith}
use Rattle.expression_types.specs.WidthLaws.{value_has}
use Rattle.expression_types.proofs.pieces.part_typed.Goals as goal

pub overflow_add-result : goal.overflow_add-result
overflow_add-result c =
    let wide = value_has c.in-Some-piece_of.piece.ty.now c.in-Some-value_width.piece_width (sym c.value_width.ensures ∙ c.in-Some-value_width.is) in
    omega (arith, wide.low, wide.high, c.in-Some-piece_of.ensures.low)

pub overflow_sub-result : goal.overflow_sub-result
overflow_sub-result c =
    let wide = value_has c.in-Some-piece_of.piece.ty.now c.in-Some-value_width.piece_width (sym c.value_width.ensures ∙ c.in-Some-value_width.is) in
    omega (arith, wide.low)

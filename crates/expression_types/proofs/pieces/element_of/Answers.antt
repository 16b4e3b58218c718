use Rattle.std.proofs.Common.{◌*◌, ◌≤◌, sym, subst}
use Rattle.design_lex.specs.declared.limits.TheConstants.{WIDEST_TYPE}
use Rattle.channel_types.specs.Types.{width_of}
use Rattle.expression_types.specs.WidthLaws.{array_width}
use Rattle.expression_types.proofs.pieces.element_of.Goals as goal

pub element_piece-requires : goal.element_piece-requires
element_piece-requires c = subst (λ item. c.in-Array.count * width_of item ≤ WIDEST_TYPE) (sym c.get.ensures) (array_width c.args.ty.now c.in-Array.item c.in-Array.count c.in-Array.is c.requires)

use Rattle.std.proofs.Common.{sym, ap, ◌∙◌}
use Rattle.expression_types.specs.Views.{type_in}
use Rattle.expression_types.specs.Typing.{piece_of}
use Rattle.expression_types.specs.WidthLaws.{no_piece}
use Rattle.expression_types.proofs.pieces.piece_of.Goals as goal

pub returns-in-Number-clause-piece : goal.returns-in-Number-clause-piece
returns-in-Number-clause-piece c =
    no_piece c.in-Number.field-0.class c.in-Number.field-0.width c.args.suffix.now ∙ ap (λ ty. piece_of (type_in ty) c.args.suffix.now) (sym c.in-Number.is)

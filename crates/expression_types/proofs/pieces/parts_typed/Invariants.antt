use Rattle.std.proofs.Common.{◌≡◌, drop}
use Rattle.expression_types.specs.Views.{typed_in}
use Rattle.expression_types.specs.Typing.{parts_of}
use Rattle.expression_types.proofs.pieces.parts_typed.Given as goal

abbrev pub invariant-loop-suffix : goal.invariant-loop-suffix
invariant-loop-suffix l = parts_of (drop l.suffix-index l.suffixes) (typed_in l.part) ≡ parts_of l.suffixes (typed_in l.initial.part)

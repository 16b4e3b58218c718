use Rattle.std.proofs.Common.{sym, subst}
use Rattle.esi_base.specs.Answers.{AnswersAs}
use Rattle.channel_types.specs.declared.esi_type.EsiType.{EsiType}
use Rattle.expression_types.specs.declared.value_type.ValueType.{ValueType}
use Rattle.expression_types.specs.Views.{type_in}
use Rattle.channel_typing.specs.Typing.{scan_over}
use Rattle.channel_typing.specs.Views.{made_in}
use Rattle.channel_typing.proofs.operations.scan_over_value.Goals as goal

pub returns-in-Given : goal.returns-in-Given
returns-in-Given c = λ known.
    subst (λ (v : ValueType). AnswersAs (made_in known) (scan_over c.args.state.now c.args.ty.now c.args.variable.now c.args.body.now c.args.word (type_in v)) c.scan_over.result) (sym c.in-Given.is)
    (c.scan_over.ensures known)

pub returns-in-Number : goal.returns-in-Number
returns-in-Number c = λ known.
    subst (λ (v : ValueType). AnswersAs (made_in known) (scan_over c.args.state.now c.args.ty.now c.args.variable.now c.args.body.now c.args.word (type_in v)) c.scan_over-in-Number.result) (sym c.in-Number.is)
    (subst (λ (u : EsiType). AnswersAs (made_in known) (scan_over c.args.state.now c.args.ty.now c.args.variable.now c.args.body.now c.args.word u) c.scan_over-in-Number.result) c.ty-own.ensures
    (c.scan_over-in-Number.ensures known))

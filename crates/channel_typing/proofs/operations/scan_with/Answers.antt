use Rattle.std.proofs.Common.{sym, subst}
use Rattle.esi_base.specs.Answers.{AnswersAs}
use Rattle.channel_typing.specs.declared.source_type.SourceType.{SourceType}
use Rattle.channel_typing.specs.Typing.{scan_over}
use Rattle.channel_typing.specs.Views.{source_in, made_in}
use Rattle.channel_typing.proofs.operations.scan_with.Goals as goal

pub returns-in-Value : goal.returns-in-Value
returns-in-Value c = λ known.
    subst (λ (s : SourceType). AnswersAs (made_in known) (scan_over c.args.state.now c.args.ty.now c.args.variable.now c.args.body.now c.args.word (source_in s)) c.scan_over_value.result) (sym c.in-Value.is)
    (c.scan_over_value.ensures known)

pub returns-in-Made : goal.returns-in-Made
returns-in-Made c = λ known.
    subst (λ (s : SourceType). AnswersAs (made_in known) (scan_over c.args.state.now c.args.ty.now c.args.variable.now c.args.body.now c.args.word (source_in s)) c.scan_over.result) (sym c.in-Made.is)
    (c.scan_over.ensures known)

use Rattle.std.proofs.Common.{Option, subst}
use Rattle.esi_base.specs.Answers.{AnswersAs}
use Rattle.channel_types.specs.declared.esi_type.EsiType.{EsiType}
use Rattle.expression_types.specs.Typing.{literal_word}
use Rattle.channel_typing.specs.Typing.{over, scan_from}
use Rattle.channel_typing.specs.Views.{made_in}
use Rattle.channel_typing.proofs.operations.scan_of.Goals as goal

pub returns : goal.returns
returns c =
    subst
    (λ (o : Option EsiType). AnswersAs (made_in c.args.known.now) (over o (λ a. scan_from c.args.state.now c.args.ty.now c.args.variable.now c.args.body.now a (literal_word c.args.ty.now c.args.initial))) c.scan_made.result)
    c.type_of.ensures (c.scan_made.ensures c.args.known.now)

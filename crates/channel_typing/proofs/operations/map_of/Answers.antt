use Rattle.std.proofs.Common.{Option, subst}
use Rattle.esi_base.specs.Answers.{AnswersAs}
use Rattle.channel_types.specs.declared.esi_type.EsiType.{EsiType}
use Rattle.channel_typing.specs.Typing.{over, map_over}
use Rattle.channel_typing.specs.Views.{made_in}
use Rattle.channel_typing.proofs.operations.map_of.Goals as goal

pub returns : goal.returns
returns c =
    subst (λ (o : Option EsiType). AnswersAs (made_in c.args.known.now) (over o (map_over c.args.variable.now c.args.body.now)) c.map_made.result) c.type_of.ensures (c.map_made.ensures c.args.known.now)

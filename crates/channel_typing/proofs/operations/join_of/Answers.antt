use Rattle.std.proofs.Common.{◌≡◌, Option, Some, ap, sym, ◌∙◌, subst}
use Rattle.std.specs.Option.{option_map}
use Rattle.esi_base.specs.Answers.{AnswersAs}
use Rattle.channel_types.specs.declared.esi_type.EsiType.{EsiType}
use Rattle.channel_typing.specs.Typing.{over, joined, type_at}
use Rattle.channel_typing.specs.Views.{source_in, made_in}
use Rattle.channel_typing.proofs.operations.join_of.Goals as goal

pub returns : goal.returns
returns c =
    let one : Some (source_in c.in-Some.one) ≡ type_at c.args.scope.now c.args.elements.now c.args.known.now c.args.left.now
    = sym (ap (option_map source_in) c.in-Some.is) ∙ c.type_of.ensures in
    let other : Some (source_in c.in-Some-type_of.other) ≡ type_at c.args.scope.now c.args.elements.now c.args.known.now c.args.right.now
    = sym (ap (option_map source_in) c.in-Some-type_of.is) ∙ c.type_of-2.ensures in
    subst (λ (o : Option EsiType). AnswersAs (made_in c.args.known.now) (over o (λ a. over (type_at c.args.scope.now c.args.elements.now c.args.known.now c.args.right.now) (joined c.args.left.now a))) c.join_made.result) one
    (subst (λ (o : Option EsiType). AnswersAs (made_in c.args.known.now) (over o (joined c.args.left.now (source_in c.in-Some.one))) c.join_made.result) other (c.join_made.ensures c.args.known.now))

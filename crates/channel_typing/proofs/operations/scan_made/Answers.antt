use Rattle.std.proofs.Common.{Option, ap, sym, ◌∙◌, subst}
use Rattle.std.specs.Option.{option_map}
use Rattle.esi_base.specs.Answers.{AnswersAs}
use Rattle.channel_types.specs.declared.esi_type.EsiType.{EsiType}
use Rattle.netlist.specs.Nets.{Bits}
use Rattle.expression_types.specs.Typing.{literal_word}
use Rattle.channel_typing.specs.Typing.{over, scan_from}
use Rattle.channel_typing.specs.Views.{source_in, made_in}
use Rattle.channel_typing.proofs.operations.scan_made.Goals as goal

pub returns-in-Some-literal_word : goal.returns-in-Some-literal_word
returns-in-Some-literal_word c = λ known.
    subst
    (λ (o : Option EsiType). AnswersAs (made_in known) (over o (λ a. scan_from c.args.state.now c.args.ty.now c.args.variable.now c.args.body.now a (literal_word c.args.ty.now c.args.initial))) c.scan_with.result)
    (sym (ap (option_map source_in) c.in-Some.is))
    (subst
    (λ (w : Option Bits). AnswersAs (made_in known) (scan_from c.args.state.now c.args.ty.now c.args.variable.now c.args.body.now (source_in c.in-Some.input) w) c.scan_with.result)
    (sym c.in-Some-literal_word.is ∙ c.literal_word.ensures)
    (c.scan_with.ensures known))

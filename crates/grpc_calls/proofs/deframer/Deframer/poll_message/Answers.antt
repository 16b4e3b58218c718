use Rattle.std.proofs.Common.{sym, ap, ◌∙◌}
use Rattle.grpc_calls.specs.AnswerLaws.{holds_message, hands_out_message}
use Rattle.grpc_calls.specs.Front.{front_of}
use Rattle.grpc_calls.proofs.deframer.Deframer.poll_message.Goals as goal

pub returns-in-Whole-clause-message : goal.returns-in-Whole-clause-message
returns-in-Whole-clause-message c =
    hands_out_message c.args.self.now c.take_message.new.self c.in-Whole.count c.take_message.result
    (ap (λ d. front_of d.limit d.unread) (sym c.self.view_is) ∙ ap (λ o. front_of c.self.inside.limit o) (sym c.as_slice.ensures) ∙ sym c.read_front.ensures ∙ c.in-Whole.is)
    c.take_message.ensures.message c.take_message.ensures.taken

pub returns-in-Whole-clause-no_memory : goal.returns-in-Whole-clause-no_memory
returns-in-Whole-clause-no_memory c = λ e.
    holds_message c.args.self.now.limit c.args.self.now.unread c.in-Whole.count
    (ap (λ d. front_of d.limit d.unread) (sym c.self.view_is) ∙ ap (λ o. front_of c.self.inside.limit o) (sym c.as_slice.ensures) ∙ sym c.read_front.ensures ∙ c.in-Whole.is)

use Rattle.std.proofs.Common.{ℕ, List, subst}
use Rattle.std.specs.Prelude.{Result}
use Rattle.esi_base.specs.Answers.{Reads}
use Rattle.channel_typing.specs.declared.typed_element.TypedElement.{TypedElement}
use Rattle.channel_typing.specs.Exact.{body_exact}
use Rattle.channel_typing.proofs.body.type_body.Goals as goal

pub returns : goal.returns
returns c = subst (λ (m : Result (List TypedElement) ℕ). Reads m c.typed_body.result) (body_exact c.args.scope.now c.args.elements.now c.args.order.now) c.typed_body.ensures

use Rattle.std.proofs.Common.{List, subst}
use Rattle.esi_base.specs.Answers.{AnswersAs}
use Rattle.design_tree.specs.declared.statements.Statement.{Statement}
use Rattle.element_order.specs.Orders.{ordered}
use Rattle.body_order.specs.Makers.{first_needs}
use Rattle.element_parts.specs.Walk.{elements_added}
use Rattle.element_parts.proofs.body.add_named.Goals as goal

pub returns : goal.returns
returns c =
    subst (λ (es : List Statement). AnswersAs (λ _. c.add_in_scope.new.found) (elements_added c.args.found.now c.args.scope.now es (ordered (first_needs es))) c.add_in_scope.result) c.requires c.add_in_scope.ensures

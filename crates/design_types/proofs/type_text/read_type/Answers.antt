use Rattle.std.proofs.Common.{sym, subst}
use Rattle.design_types.specs.TypeMeaning.{at_found, at_refused, at_one, at_none, meant_refused, only_value}
use Rattle.channel_types.specs.TypeAnswers.{StopsToBeType}
use Rattle.design_types.specs.GoodTypes.{at_good}
use Rattle.design_types.proofs.type_text.read_type.Goals as goal

pub returns-in-Ok-clause-found : goal.returns-in-Ok-clause-found
returns-in-Ok-clause-found c = at_found c.args.text.now c.args.at c.in-Ok.found c.in-Ok.ensures

pub returns-in-Ok-clause-only : goal.returns-in-Ok-clause-only
returns-in-Ok-clause-only c = λ found o. only_value c.in-Ok.found found (at_one c.args.text.now c.args.at c.in-Ok.found found c.in-Ok.ensures o)

pub returns-in-Err-Refused-clause-only : goal.returns-in-Err-Refused-clause-only
returns-in-Err-Refused-clause-only c = λ found o.
    absurd (at_none c.args.text.now c.args.at _ found (meant_refused _ c.in-Err-Refused.field-0 c.in-Err-Refused.refusal c.in-Err-Refused.ensures c.in-Err-Refused.field-0-is) o)

pub returns-in-Err-Refused-clause-refused : goal.returns-in-Err-Refused-clause-refused
returns-in-Err-Refused-clause-refused c =
    subst (λ r. StopsToBeType c.args.text.now c.args.at r) (sym c.refusal_at.ensures)
    (at_refused c.args.text.now c.args.at _ (meant_refused _ c.in-Err-Refused.field-0 c.in-Err-Refused.refusal c.in-Err-Refused.ensures c.in-Err-Refused.field-0-is))

pub returns-in-Ok-clause-good : goal.returns-in-Ok-clause-good
returns-in-Ok-clause-good c = at_good c.args.text.now c.args.at c.in-Ok.found (at_found c.args.text.now c.args.at c.in-Ok.found c.in-Ok.ensures)

use Rattle.std.proofs.Common.{sym, subst}
use Rattle.channel_types.specs.TypeAnswers.{StopsToBeType}
use Rattle.design_types.specs.TypeMeaning.{text_found, text_refused, text_one, text_none, meant_refused, only_value}
use Rattle.design_types.specs.GoodTypes.{text_good}
use Rattle.channel_types.specs.PrintedTypes.{printed_is_type}
use Rattle.channel_types.specs.TypeAnswers.{IsTypeText}
use Rattle.design_types.proofs.type_text.parse_type.Goals as goal

pub returns-in-Ok-clause-found : goal.returns-in-Ok-clause-found
returns-in-Ok-clause-found c = text_found c.args.text.now _ c.in-Ok.ensures

pub returns-in-Ok-clause-only : goal.returns-in-Ok-clause-only
returns-in-Ok-clause-only c = λ ty o. only_value c.in-Ok.ty ty (text_one c.args.text.now _ ty c.in-Ok.ensures o)

pub returns-in-Err-Refused-clause-only : goal.returns-in-Err-Refused-clause-only
returns-in-Err-Refused-clause-only c = λ ty o.
    absurd (text_none c.args.text.now _ ty (meant_refused _ c.in-Err-Refused.field-0 c.in-Err-Refused.refusal c.in-Err-Refused.ensures c.in-Err-Refused.field-0-is) o)

pub returns-in-Err-Refused-clause-refused : goal.returns-in-Err-Refused-clause-refused
returns-in-Err-Refused-clause-refused c =
    subst (λ r. StopsToBeType c.args.text.now 0 r) (sym c.refusal_at.ensures)
    (text_refused c.args.text.now _ (meant_refused _ c.in-Err-Refused.field-0 c.in-Err-Refused.refusal c.in-Err-Refused.ensures c.in-Err-Refused.field-0-is))

pub returns-in-Ok-clause-good : goal.returns-in-Ok-clause-good
returns-in-Ok-clause-good c = text_good c.args.text.now c.in-Ok.ty (text_found c.args.text.now _ c.in-Ok.ensures)

pub returns-in-Ok-clause-again : goal.returns-in-Ok-clause-again
returns-in-Ok-clause-again c = λ ty good e.
    only_value c.in-Ok.ty ty (text_one c.args.text.now _ ty c.in-Ok.ensures (subst (λ z. IsTypeText z ty) (sym e) (printed_is_type ty good)))

pub returns-in-Err-Refused-clause-again : goal.returns-in-Err-Refused-clause-again
returns-in-Err-Refused-clause-again c = λ ty good e.
    absurd (text_none c.args.text.now _ ty (meant_refused _ c.in-Err-Refused.field-0 c.in-Err-Refused.refusal c.in-Err-Refused.ensures c.in-Err-Refused.field-0-is)
    (subst (λ z. IsTypeText z ty) (sym e) (printed_is_type ty good)))

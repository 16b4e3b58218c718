use Rattle.channel_lower.specs.Fitted.{fitting_lists_do_fit}
use Rattle.channel_lower.proofs.laws.fitting_lists_can_be_lowered.Goals as goal

pub returns : goal.returns
returns c = fitting_lists_do_fit

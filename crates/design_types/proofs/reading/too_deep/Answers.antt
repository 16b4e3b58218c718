use Rattle.std.proofs.Common.{sym, ap, ◌∙◌}
use Rattle.esi_base.specs.declared.stop.Stop.TheVariants.{Refused}
use Rattle.design_types.specs.TypeSteps.{too_deep_refused}
use Rattle.design_types.proofs.reading.too_deep.Goals as goal

pub returns : goal.returns
returns c = c.refuse.ensures ∙ ap Refused (sym (too_deep_refused c.args.cursor.now (cc)))

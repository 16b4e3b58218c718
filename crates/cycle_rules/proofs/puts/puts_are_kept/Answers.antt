use Rattle.cycle_rules.specs.PutsLemmas.{loses_none}
use Rattle.cycle_rules.proofs.puts.puts_are_kept.Goals as goal

pub returns : goal.returns
returns g c = λ circuit actions sim channel channels here. loses_none circuit channel here actions sim channels

use Rattle.cycle_rules.specs.ChannelsLemmas.{channels_after}
use Rattle.cycle_rules.proofs.channels.channels_stay.Goals as goal

pub returns : goal.returns
returns g c = λ circuit actions sim channels. channels_after circuit actions sim channels

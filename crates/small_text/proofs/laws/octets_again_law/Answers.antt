use Rattle.small_text.specs.HexadecimalLaws.{octets_again}
use Rattle.small_text.proofs.laws.octets_again_law.Goals as goal

pub returns : goal.returns
returns c = octets_again

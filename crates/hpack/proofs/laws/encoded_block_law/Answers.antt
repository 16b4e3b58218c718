use Rattle.hpack.proofs.BlockBack.{block_kept}
use Rattle.hpack.proofs.laws.encoded_block_law.Goals as goal

pub returns-clause-goes_on : goal.returns-clause-goes_on
returns-clause-goes_on c old headers is = block_kept old headers is

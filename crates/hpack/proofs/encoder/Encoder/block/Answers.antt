use Rattle.std.proofs.Common.{subst}
use Rattle.hpack.specs.Encoding.{Writing, IsWriting}
use Rattle.hpack.proofs.BlockBack.{block_back}
use Rattle.hpack.proofs.encoder.Encoder.block.Goals as goal

pub returns-then-not-is_told-clause-read_back : goal.returns-then-not-is_told-clause-read_back
returns-then-not-is_told-clause-read_back c texts =
    block_back c.args.self.now c.args.headers.now (subst (λ (w : Writing). IsWriting w) c.self.view_is c.self.invariant) texts c.requires

pub returns-in-Ok-clause-read_back : goal.returns-in-Ok-clause-read_back
returns-in-Ok-clause-read_back c texts =
    block_back c.args.self.now c.args.headers.now (subst (λ (w : Writing). IsWriting w) c.self.view_is c.self.invariant) texts c.requires

pub returns-in-Err-clause-read_back : goal.returns-in-Err-clause-read_back
returns-in-Err-clause-read_back c texts =
    block_back c.args.self.now c.args.headers.now (subst (λ (w : Writing). IsWriting w) c.self.view_is c.self.invariant) texts c.requires

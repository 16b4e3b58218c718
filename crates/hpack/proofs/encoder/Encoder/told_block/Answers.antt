use Rattle.std.proofs.lemmas.List.{take_rest}
use Rattle.hpack.specs.declared.limits.TheConstants.{MAX_HEADER_LIST_SIZE}
use Rattle.hpack.proofs.IndexLaws.{rest_small}
use Rattle.hpack.proofs.encoder.Encoder.told_block.Goals as goal

pub changing_block-requires : goal.changing_block-requires
changing_block-requires c = rw (take_rest c.args.headers.now c.in_ok-known.known) (rest_small c.args.headers.now c.in_ok-known.known MAX_HEADER_LIST_SIZE c.requires.small)

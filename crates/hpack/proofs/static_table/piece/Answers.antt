use Rattle.std.proofs.Common.{refl}
use Rattle.hpack.specs.StaticPieces.{piece}
use Rattle.hpack.proofs.StaticLemmas.{in_order, within}
use Rattle.hpack.proofs.static_table.piece.Goals as goal

pub slice_bounds-result-count : goal.slice_bounds-result-count
slice_bounds-result-count c = in_order c.args.at c.requires

pub slice_bounds-result-start : goal.slice_bounds-result-start
slice_bounds-result-start c = in_order c.args.at c.requires

pub slice_bounds-result-end : goal.slice_bounds-result-end
slice_bounds-result-end c = within c.args.at c.requires

pub returns : goal.returns
unfolding piece
returns c = refl

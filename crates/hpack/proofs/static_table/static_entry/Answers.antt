use Rattle.hpack.proofs.StaticLemmas.{static_pair}
use Rattle.hpack.proofs.static_table.static_entry.Goals as goal

pub returns : goal.returns
returns c =
    let e = static_pair c.args.at c.requires in
    cc (e, c.piece.ensures, c.piece-2.ensures, c.in_ok-from_slice.ensures, c.in_ok-from_slice-2.ensures)

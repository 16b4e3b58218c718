-- What the chain found is the index of the stream's windows, or there are none.
use Rattle.std.proofs.Common.{rules, tests, ◌≡◌}
use Rattle.std.specs.List.{position}
use Rattle.std.proofs.lemmas.Iterator.{YieldsList-from_slice}
use Rattle.std.proofs.lemmas.Iterator.Search.{position_from_yields_List}
use Rattle.h2_flow.specs.KeyedRows.{is_row_of}
use Rattle.stream_table.specs.Rows.{stream_of}
use Rattle.h2_flow.specs.KeyedIndexLaws.{index_says}
use Rattle.stream_table.proofs.table.index_of.Goals as goal

pub returns : goal.returns
returns c =
    let rows = c.args.rows.now in
    let found : c.position.result ≡ position (is_row_of stream_of c.args.stream) rows =
    position_from_yields_List (is_row_of stream_of c.args.stream) _ _ c.position.result c.position.ensures.ran (YieldsList-from_slice rows cc) (λ x b q k. search (rules, tests)) in
    let says = index_says stream_of c.args.stream rows c.position.result found in
    record { closed = says.0; index = says.1 }

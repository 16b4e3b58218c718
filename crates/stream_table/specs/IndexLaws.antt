-- A stream is open where its row has an index.
use Rattle.std.proofs.Common.{◌≡◌, ℕ, IfSome, IfNone, is_some, Option, List}
use Rattle.stream_table.specs.declared.open_stream.OpenStream.{OpenStream}
use Rattle.h2_flow.specs.KeyedIndexLaws.{found_by_index}
use Rattle.h2_flow.specs.KeyedRows.{IsAbsent, IsIndexOf}
use Rattle.stream_table.specs.Rows.{stream_of, row_of}

pub open_by_index : (stream : ℕ) (rows : List OpenStream) (index : Option ℕ) → IfNone index (IsAbsent stream_of stream rows) → IfSome index (IsIndexOf stream_of stream rows) → is_some index ≡ is_some (row_of stream rows)
open_by_index = found_by_index stream_of

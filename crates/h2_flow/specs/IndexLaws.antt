-- A stream is open where its windows have an index.
use Rattle.std.proofs.Common.{◌≡◌, ℕ, IfSome, IfNone, is_some, Option, List}
use Rattle.h2_flow.specs.declared.stream_windows.StreamWindows.{StreamWindows}
use Rattle.h2_flow.specs.KeyedIndexLaws.{found_by_index}
use Rattle.h2_flow.specs.KeyedRows.{IsAbsent, IsIndexOf}
use Rattle.h2_flow.specs.Streams.{stream_of, windows_on}

pub open_by_index : (stream : ℕ) (rows : List StreamWindows) (index : Option ℕ) → IfNone index (IsAbsent stream_of stream rows) → IfSome index (IsIndexOf stream_of stream rows) → is_some index ≡ is_some (windows_on stream rows)
open_by_index = found_by_index stream_of

-- The static table as the code has it: one text, and where its pieces begin.
use Rattle.std.specs.Prelude.{ℕ, ◌+◌, List, slice_range, slice_index}
use Rattle.hpack.specs.declared.static_table.TheConstants.{TEXT, ENDS}

unfoldable pub piece : ℕ → List ℕ
piece at = slice_range TEXT (slice_index ENDS at) (slice_index ENDS (at + 1))

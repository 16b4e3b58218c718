-- What holds of tables and header blocks, whatever reads them.
use Rattle.std.specs.Prelude.{◌≡◌, ℕ, ◌≤◌, List, ◌++◌, length}
use Rattle.hpack.specs.declared.limits.TheConstants.{MAX_HEADER_LIST_SIZE}
use Rattle.hpack.specs.declared.stop.BlockRule.{BlockRule}
use Rattle.hpack.specs.declared.header.Header.{Header}
use Rattle.hpack.specs.Tables.{Table, list_size}
use Rattle.hpack.specs.Blocks.{IsBlock, BreaksBlock}

-- the longest prefix of a list whose size is at most `room`
pub record IsLongestFront (room : ℕ) (all front : List Header) : Type 0 where
  pub rest : List Header
  pub whole : all ≡ front ++ rest
  pub fits : list_size front ≤ room
  pub longest : (other more : List Header) → all ≡ other ++ more → list_size other ≤ room → length other ≤ length front

-- the octets are a header block of headers, of a size of at most 16,384
pub record IsSmallBlock (before : Table) (octets : List ℕ) (headers : List Header) (after : Table) : Type 0 where
  pub is_block : IsBlock before octets headers after
  pub small : list_size headers ≤ MAX_HEADER_LIST_SIZE

-- some headers are those of the block
pub record HasReading (before : Table) (octets : List ℕ) : Type 0 where
  pub headers : List Header
  pub after : Table
  pub reading : IsSmallBlock before octets headers after

-- some rule is broken
pub record IsRefusal (before : Table) (octets : List ℕ) : Type 0 where
  pub rule : BlockRule
  pub broken : BreaksBlock rule before octets

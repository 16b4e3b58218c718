use Rattle.std.proofs.Common.{◌≡◌, ◌+◌, take}
use Rattle.hpack.specs.Tables.{list_size}
use Rattle.hpack.specs.declared.limits.TheConstants.{MAX_HEADER_LIST_SIZE}
use Rattle.header_cases.proofs.header_lists.is_small.Given as goal

-- the size of the headers so far and the room that is left are the greatest size
abbrev pub invariant-loop-header : goal.invariant-loop-header
invariant-loop-header l = list_size (take l.header-index l.headers) + l.room ≡ MAX_HEADER_LIST_SIZE

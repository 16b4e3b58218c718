use Rattle.std.proofs.Common.{◌≡◌, ◌++◌, ◌≤◌, length}
use Rattle.hpack.specs.declared.limits.TheConstants.{MAX_HEADER_LIST_SIZE}
use Rattle.hpack.specs.Extends.{Extends}
use Rattle.hpack.specs.Tables.{list_size}
use Rattle.hpack.specs.Encoding.{encoded_fields, table_with_fields}
use Rattle.hpack.proofs.fields.write_fields.Given as goal

-- what is written, with what is left, is all, and the table after what is left is that after all
abbrev pub invariant-loop-rest : goal.invariant-loop-rest
invariant-loop-rest l = record {
  written : l.out ++ encoded_fields l.table l.rest ≡ l.fn.out ++ encoded_fields l.fn.table l.fn.headers;
  after : table_with_fields l.table l.rest ≡ table_with_fields l.fn.table l.fn.headers;
  small : list_size l.rest ≤ MAX_HEADER_LIST_SIZE;
  extends : Extends l.fn.out l.out;
}

abbrev pub decreases-loop-rest : goal.decreases-loop-rest
decreases-loop-rest l = length l.rest

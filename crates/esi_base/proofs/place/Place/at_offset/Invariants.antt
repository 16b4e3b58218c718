-- The line and the column so far are those of the octet that comes next.
use Rattle.std.proofs.Common.{◌≡◌, ◌≤◌, ◌+◌}
use Rattle.esi_base.specs.Places.{line_at, column_at}
use Rattle.esi_base.proofs.place.Place.at_offset.Given as goal

abbrev pub invariant-loop-octet : goal.invariant-loop-octet
invariant-loop-octet l = record {
  line_is : l.line ≡ line_at l.text l.octet-index;
  column_is : l.column ≡ column_at l.text l.octet-index;
  line_small : l.line ≤ 1 + l.octet-index;
  column_small : l.column ≤ 1 + l.octet-index;
}

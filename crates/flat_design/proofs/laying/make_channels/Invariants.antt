use Rattle.std.proofs.Common.{◌≡◌, ◌++◌, drop, take, length}
use Rattle.flat_design.specs.Laying.{count_from}
use Rattle.flat_design.proofs.laying.make_channels.Given as goal

abbrev pub invariant-loop-width : goal.invariant-loop-width
invariant-loop-width l = record {
  made : l.made ++ count_from (length l.channels) (drop l.width-index l.widths) ≡ count_from (length l.fn.channels) l.widths;
  widths : l.channels ≡ l.fn.channels ++ take l.width-index l.widths;
}

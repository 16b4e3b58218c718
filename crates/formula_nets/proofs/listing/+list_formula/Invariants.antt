use Rattle.std.proofs.Common.{◌≡◌, map, drop, None}
use Rattle.formula_nets.specs.Posting.{listing, join_all}
use Rattle.formula_nets.proofs.listing.+list_formula.Given as goal

abbrev pub invariant-loop-part : goal.invariant-loop-part
invariant-loop-part l =
    join_all l.base l.so_far l.joined (map (listing l.variables l.base) (drop l.part-index l.part-items)) l.nets ≡ join_all l.base l.so_far None (map (listing l.variables l.base) l.part-items) l.initial.nets

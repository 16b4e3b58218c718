use Rattle.std.proofs.Common.{bit_and, ap, ◌∙◌}
use Rattle.std.proofs.lemmas.Nat.{and_mask}
use Rattle.netlist.proofs.narrow.lowest_bits.Goals as goal

pub returns : goal.returns
returns c = ap (λ m. bit_and c.args.number m) c.ones.ensures ∙ and_mask c.args.number c.args.width

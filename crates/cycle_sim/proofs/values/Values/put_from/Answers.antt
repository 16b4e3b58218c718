use Rattle.std.proofs.Common.{◌<◌, ◌^◌, length, set, subst, sym, ap, ◌∙◌}
use Rattle.esi_base.specs.Bits.{number_of}
use Rattle.esi_base.specs.BitLists.{number_of-below}
use Rattle.netlist.specs.Nets.{word_at}
use Rattle.cycle_sim.specs.Stored.{word_as_number}
use Rattle.cycle_sim.proofs.values.Values.put_from.Goals as goal

pub put_number-requires-clause-fits : goal.put_number-requires-clause-fits
put_number-requires-clause-fits c =
    let word = word_at c.args.others.now c.args.at in
    subst (λ n. n < 2 ^ length (word_at c.args.self.now c.args.place)) (sym c.number.ensures)
    (subst (λ m. number_of word < 2 ^ m) (c.requires.width ∙ sym c.requires.same) (number_of-below word))

pub returns-then-width-le-MAX_NUMBER_WIDTH : goal.returns-then-width-le-MAX_NUMBER_WIDTH
returns-then-width-le-MAX_NUMBER_WIDTH c =
    c.put_number.ensures
    ∙ ap (set c.args.self.now c.args.place)
    (word_as_number (word_at c.args.others.now c.args.at) (length (word_at c.args.self.now c.args.place)) c.number.result (c.requires.width ∙ sym c.requires.same) c.number.ensures)

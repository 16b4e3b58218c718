use Rattle.std.proofs.Common.{◌≡◌, ◌<◌, ◌^◌, set, subst, sym, ap, ◌∙◌}
use Rattle.esi_base.specs.Bits.{number_of, bits_of}
use Rattle.esi_base.specs.BitLists.{number_of-below}
use Rattle.netlist.specs.Nets.{Bits, word_at, width_at}
use Rattle.netlist.specs.Plans.{Plan, is_register_at}
use Rattle.netlist.specs.SettledLaws.{widths_at}
use Rattle.cycle_sim.specs.Changes.{marks_put}
use Rattle.cycle_sim.specs.Stored.{word_as_number}
use Rattle.cycle_sim.specs.Wired.{users_at, is_other_at}
use Rattle.cycle_sim.proofs.clock.put_held.Goals as goal

pub put_number-requires-clause-fits : goal.put_number-requires-clause-fits
put_number-requires-clause-fits c =
    let plan : Plan = c.args.wiring.now.net in
    let word = word_at c.args.held.now c.args.net in
    subst (λ n. n < 2 ^ width_at plan.widths c.args.net) (sym c.number.ensures)
    (subst (λ m. number_of word < 2 ^ m) (widths_at plan.widths c.args.held.now c.args.net c.requires.held.wide) (number_of-below word))

pub returns-then-width-le-MAX_NUMBER_WIDTH-clause-values : goal.returns-then-width-le-MAX_NUMBER_WIDTH-clause-values
returns-then-width-le-MAX_NUMBER_WIDTH-clause-values c =
    let plan : Plan = c.args.wiring.now.net in
    let net = c.args.net in
    let word = word_at c.args.held.now net in
    let is : bits_of (width_at plan.widths net) c.number.result ≡ word =
    word_as_number word (width_at plan.widths net) c.number.result (widths_at plan.widths c.args.held.now net c.requires.held.wide) c.number.ensures in
    c.put_number.ensures.values ∙ ap (set c.args.state.now.values net) is

pub returns-then-width-le-MAX_NUMBER_WIDTH-clause-marks : goal.returns-then-width-le-MAX_NUMBER_WIDTH-clause-marks
returns-then-width-le-MAX_NUMBER_WIDTH-clause-marks c =
    let plan : Plan = c.args.wiring.now.net in
    let net = c.args.net in
    let word = word_at c.args.held.now net in
    let is : bits_of (width_at plan.widths net) c.number.result ≡ word =
    word_as_number word (width_at plan.widths net) c.number.result (widths_at plan.widths c.args.held.now net c.requires.held.wide) c.number.ensures in
    c.put_number.ensures.marks
    ∙ ap (λ (w : Bits). marks_put (is_other_at plan.nets) (users_at c.args.wiring.now.users net) (word_at c.args.state.now.values net) w c.args.state.now.marks) is

pub returns-then-width-le-MAX_NUMBER_WIDTH-clause-waiting : goal.returns-then-width-le-MAX_NUMBER_WIDTH-clause-waiting
returns-then-width-le-MAX_NUMBER_WIDTH-clause-waiting c =
    let plan : Plan = c.args.wiring.now.net in
    let net = c.args.net in
    let word = word_at c.args.held.now net in
    let is : bits_of (width_at plan.widths net) c.number.result ≡ word =
    word_as_number word (width_at plan.widths net) c.number.result (widths_at plan.widths c.args.held.now net c.requires.held.wide) c.number.ensures in
    c.put_number.ensures.waiting
    ∙ ap (λ (w : Bits). marks_put (is_register_at plan.nets) (users_at c.args.wiring.now.users net) (word_at c.args.state.now.values net) w c.args.state.now.waiting) is

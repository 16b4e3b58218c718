use Rattle.std.proofs.Common.{◌≡◌, ◌<◌, ◌^◌, set, subst, sym, ap, ◌∙◌}
use Rattle.esi_base.specs.Bits.{number_of, bits_of}
use Rattle.esi_base.specs.BitLists.{number_of-below}
use Rattle.netlist.specs.declared.limits.TheConstants.{MAX_NUMBER_WIDTH}
use Rattle.netlist.specs.Nets.{Bits, word_at, width_at}
use Rattle.netlist.specs.Plans.{Plan, is_register_at}
use Rattle.cycle_sim.specs.Changes.{marks_put}
use Rattle.cycle_sim.specs.Stored.{word_as_number}
use Rattle.cycle_sim.specs.Wired.{users_at, is_other_at}
use Rattle.cycle_sim.proofs.putting.put.Goals as goal

pub put_number-requires-clause-fits : goal.put_number-requires-clause-fits
put_number-requires-clause-fits c =
    let plan : Plan = c.args.wiring.now.net in
    subst (λ n. n < 2 ^ width_at plan.widths c.args.net) (sym c.word_number.ensures)
    (subst (λ m. number_of c.args.word < 2 ^ m) c.requires.width (number_of-below c.args.word))

pub returns-then-width-le-MAX_NUMBER_WIDTH-clause-values : goal.returns-then-width-le-MAX_NUMBER_WIDTH-clause-values
returns-then-width-le-MAX_NUMBER_WIDTH-clause-values c =
    let plan : Plan = c.args.wiring.now.net in
    let net = c.args.net in
    let is : bits_of (width_at plan.widths net) c.word_number.result ≡ c.args.word = word_as_number c.args.word (width_at plan.widths net) c.word_number.result c.requires.width c.word_number.ensures in
    c.put_number.ensures.values ∙ ap (set c.args.state.now.values net) is

pub returns-then-width-le-MAX_NUMBER_WIDTH-clause-marks : goal.returns-then-width-le-MAX_NUMBER_WIDTH-clause-marks
returns-then-width-le-MAX_NUMBER_WIDTH-clause-marks c =
    let plan : Plan = c.args.wiring.now.net in
    let net = c.args.net in
    let is : bits_of (width_at plan.widths net) c.word_number.result ≡ c.args.word = word_as_number c.args.word (width_at plan.widths net) c.word_number.result c.requires.width c.word_number.ensures in
    c.put_number.ensures.marks
    ∙ ap (λ (w : Bits). marks_put (is_other_at plan.nets) (users_at c.args.wiring.now.users net) (word_at c.args.state.now.values net) w c.args.state.now.marks) is

pub returns-then-width-le-MAX_NUMBER_WIDTH-clause-waiting : goal.returns-then-width-le-MAX_NUMBER_WIDTH-clause-waiting
returns-then-width-le-MAX_NUMBER_WIDTH-clause-waiting c =
    let plan : Plan = c.args.wiring.now.net in
    let net = c.args.net in
    let is : bits_of (width_at plan.widths net) c.word_number.result ≡ c.args.word = word_as_number c.args.word (width_at plan.widths net) c.word_number.result c.requires.width c.word_number.ensures in
    c.put_number.ensures.waiting
    ∙ ap (λ (w : Bits). marks_put (is_register_at plan.nets) (users_at c.args.wiring.now.users net) (word_at c.args.state.now.values net) w c.args.state.now.waiting) is

use Rattle.std.proofs.Common.{◌≡◌, ◌-◌, [], ℕ, List, true, set, subst, sym, ap, ◌∙◌}
use Rattle.std.proofs.lemmas.List.{set-get_or}
use Rattle.esi_base.specs.Bits.{bits_of}
use Rattle.netlist.specs.declared.net.Net.{Net}
use Rattle.netlist.specs.Nets.{word_at, width_at}
use Rattle.netlist.specs.Plans.{Plan, is_register_at}
use Rattle.netlist.specs.SettledLaws.{widths_at}
use Rattle.cycle_sim.specs.Changes.{is_changed, with_marks}
use Rattle.cycle_sim.specs.Narrow.{number_changes, number_stays, marks_changed, marks_same}
use Rattle.cycle_sim.specs.Wired.{users_at, is_other_at}
use Rattle.cycle_sim.proofs.putting.store_number.Goals as goal

pub returns-then-number-clause-marks : goal.returns-then-number-clause-marks
returns-then-number-clause-marks c =
    let plan : Plan = c.args.wiring.now.net in
    let net = c.args.net in
    let old = word_at c.args.state.now.values net in
    let width = width_at plan.widths net in
    let new = bits_of width c.args.number in
    let changed : is_changed old new ≡ true = number_changes old width c.args.number c.requires.fits (λ e. c.if-number.true (c.number.ensures ∙ e)) in
    let marks = c.args.state.now.marks in
    c.mark_users.ensures.marks
    ∙ ap (λ (ns : List Net). with_marks (is_other_at ns) c.of.result.now marks) (c.as_slice.ensures ∙ c.nets.ensures.nets)
    ∙ ap (λ (us : List ℕ). with_marks (is_other_at plan.nets) us marks) c.of.ensures
    ∙ marks_changed (is_other_at plan.nets) (users_at c.args.wiring.now.users net) old new marks changed

pub returns-then-number-clause-waiting : goal.returns-then-number-clause-waiting
returns-then-number-clause-waiting c =
    let plan : Plan = c.args.wiring.now.net in
    let net = c.args.net in
    let old = word_at c.args.state.now.values net in
    let width = width_at plan.widths net in
    let new = bits_of width c.args.number in
    let changed : is_changed old new ≡ true = number_changes old width c.args.number c.requires.fits (λ e. c.if-number.true (c.number.ensures ∙ e)) in
    let waiting = c.args.state.now.waiting in
    c.mark_users.ensures.waiting
    ∙ ap (λ (ns : List Net). with_marks (is_register_at ns) c.of.result.now waiting) (c.as_slice.ensures ∙ c.nets.ensures.nets)
    ∙ ap (λ (us : List ℕ). with_marks (is_register_at plan.nets) us waiting) c.of.ensures
    ∙ marks_changed (is_register_at plan.nets) (users_at c.args.wiring.now.users net) old new waiting changed

pub returns-else-number-clause-values : goal.returns-else-number-clause-values
returns-else-number-clause-values c =
    let plan : Plan = c.args.wiring.now.net in
    let net = c.args.net in
    let old = word_at c.args.state.now.values net in
    let width = width_at plan.widths net in
    let new = bits_of width c.args.number in
    let same : old ≡ new = number_stays old width c.args.number (widths_at plan.widths c.args.state.now.values net c.requires.state.wide) (sym c.number.ensures ∙ c.if-number.false) in
    subst (λ w. c.args.state.now.values ≡ set c.args.state.now.values net w) same (sym (set-get_or c.args.state.now.values net []))

pub returns-else-number-clause-marks : goal.returns-else-number-clause-marks
returns-else-number-clause-marks c =
    let plan : Plan = c.args.wiring.now.net in
    let net = c.args.net in
    let old = word_at c.args.state.now.values net in
    let width = width_at plan.widths net in
    let new = bits_of width c.args.number in
    let same : old ≡ new = number_stays old width c.args.number (widths_at plan.widths c.args.state.now.values net c.requires.state.wide) (sym c.number.ensures ∙ c.if-number.false) in
    marks_same (is_other_at plan.nets) (users_at c.args.wiring.now.users net) old new c.args.state.now.marks same

pub returns-else-number-clause-waiting : goal.returns-else-number-clause-waiting
returns-else-number-clause-waiting c =
    let plan : Plan = c.args.wiring.now.net in
    let net = c.args.net in
    let old = word_at c.args.state.now.values net in
    let width = width_at plan.widths net in
    let new = bits_of width c.args.number in
    let same : old ≡ new = number_stays old width c.args.number (widths_at plan.widths c.args.state.now.values net c.requires.state.wide) (sym c.number.ensures ∙ c.if-number.false) in
    marks_same (is_register_at plan.nets) (users_at c.args.wiring.now.users net) old new c.args.state.now.waiting same

use Rattle.std.proofs.Common.{◌≡◌, ◌-◌, [], false, List, set, subst, sym, ◌∙◌}
use Rattle.netlist.specs.Nets.{word_at}
use Rattle.cycle_sim.proofs.putting.store.Goals as goal
use Rattle.std.proofs.lemmas.List.{set-get_or}
use Rattle.cycle_sim.specs.ChangeLaws.{unchanged_same}

pub returns-else-ne-clause-values : goal.returns-else-ne-clause-values
returns-else-ne-clause-values c =
    let same : word_at c.args.state.now.values c.args.net ≡ c.args.word = sym c.word.ensures ∙ unchanged_same c.word.result c.args.word (sym c.ne.ensures ∙ c.if-ne.false) in
    subst (λ w. c.args.state.now.values ≡ set c.args.state.now.values c.args.net w) same (sym (set-get_or c.args.state.now.values c.args.net []))

use Rattle.std.proofs.Common.{◌∙◌, ◌-◌, ap, sym, arith}
use Rattle.hpack.proofs.TableLemmas.{fitting_all, evicted}
use Rattle.hpack.proofs.dynamic_table.evict.Goals as goal

pub loop-size-preserved : goal.loop-size-preserved
loop-size-preserved c =
    let e = evicted c.loop-size.entries.items c.pop_back.new.self.items c.in-Some.oldest c.loop-size.size c.args.limit c.in-Some.ensures.items c.loop-size.invariant.0 c.loop-size-test.true in
    (ap (λ s. c.loop-size.size - s) c.size-size.ensures ∙ e.0, e.1 ∙ c.loop-size.invariant.1)

pub returns-clause-entries : goal.returns-clause-entries
returns-clause-entries c = sym (fitting_all c.args.limit c.loop-size.entries.items (omega arith)) ∙ c.loop-size.invariant.1

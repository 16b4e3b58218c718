use Rattle.std.proofs.Common.{rules, ◌≡◌, ◌<◌, ◌+◌, ◌++◌, ◌∷◌, [], length, ℕ, arith, subst, sym, ap, ◌∙◌}
use Rattle.netlist.specs.Nets.{width_at, word_at}
use Rattle.netlist.specs.Settled.{equation, input_place}
use Rattle.netlist.specs.Plans.{Plan, net_at, IsPlan}
use Rattle.netlist.proofs.sealed.Sealed.settled.Goals as goal
use Rattle.std.specs.Prelude.{if◌then◌else◌}
use Rattle.netlist.specs.Nets.{is_input}
use Rattle.netlist.specs.InputPlaces.{input_place_next}
use Rattle.netlist.specs.PlanLaws.{stands_at}
use Rattle.netlist.specs.SettledLaws.{SettledBelow, below_more, all_settled}
use Rattle.netlist.specs.Reading.{net_read}
use Rattle.netlist.proofs.SettlingLemmas.{wide_more}

pub loop-at-preserved : goal.loop-at-preserved
loop-at-preserved c =
    let plan : Plan = c.args.self.now in
    let at = c.loop-at.at in
    let words = c.loop-at.words in
    let word = c.settled_word-word.result in
    let same : c.netlist-netlist.result.now ≡ plan = c.netlist-netlist.ensures in
    let kept : IsPlan plan = subst IsPlan same c.len-count.ensures.kept in
    let lt : at < length plan.nets = subst (λ (p : Plan). at < length p.nets) same (omega arith) in
    let pushed : c.push.new.self ≡ words ++ word ∷ [] = search rules in
    let is : word ≡ equation (net_at plan.nets at) (word_at c.args.inputs.now (input_place plan.nets at)) (word_at c.args.held.now at) words =
    c.settled_word-word.ensures
    ∙ ap (λ (p : Plan). equation (net_at p.nets at) (word_at c.args.inputs.now c.loop-at.given) (word_at c.args.held.now at) c.as_slice.result.now) same
    ∙ ap (λ g. equation (net_at plan.nets at) (word_at c.args.inputs.now g) (word_at c.args.held.now at) c.as_slice.result.now) c.loop-at.invariant.given
    ∙ ap (λ ws. equation (net_at plan.nets at) (word_at c.args.inputs.now (input_place plan.nets at)) (word_at c.args.held.now at) ws) c.as_slice.ensures in
    let nets : c.as_slice-in-loop-at.result.now ≡ plan.nets = c.as_slice-in-loop-at.ensures ∙ c.nets.ensures.nets ∙ ap (λ (p : Plan). p.nets) same in
    let net : c.index-as_slice-at.result ≡ net_at plan.nets at =
    net_read c.as_slice-in-loop-at.result.now at c.index-as_slice-at.result (subst (λ ns. at < length ns) (sym nets) lt) c.index-as_slice-at.is ∙ ap (λ ns. net_at ns at) nets in
    record {
      given =
          c.given_behind-given.ensures
          ∙ ap (λ n. if is_input n then c.loop-at.given + 1 else c.loop-at.given) net
          ∙ ap (λ g. if is_input (net_at plan.nets at) then g + 1 else g) c.loop-at.invariant.given
          ∙ sym (input_place_next plan.nets at lt);
      below = subst (λ ws. SettledBelow plan c.args.inputs.now c.args.held.now (at + 1) ws) (sym pushed)
          (below_more plan c.args.inputs.now c.args.held.now at words (net_at plan.nets at) word kept c.loop-at.invariant.below (stands_at plan.nets at lt) is);
      wide = subst (λ ws. (j : ℕ) → j < at + 1 → length (word_at ws j) ≡ width_at plan.widths j) (sym pushed)
          (wide_more plan c.args.inputs.now c.args.held.now words word at kept c.requires.inputs c.requires.held lt c.loop-at.invariant.below.count c.loop-at.invariant.wide is);
    }

pub returns : goal.returns
returns c =
    let plan : Plan = c.args.self.now in
    let end : c.loop-at.at ≡ length plan.nets = omega (arith, c.len-count.ensures.count, ap (λ (p : Plan). length p.nets) c.netlist-netlist.ensures) in
    all_settled plan c.args.inputs.now c.args.held.now c.loop-at.words (subst (λ n. SettledBelow plan c.args.inputs.now c.args.held.now n c.loop-at.words) end c.loop-at.invariant.below)

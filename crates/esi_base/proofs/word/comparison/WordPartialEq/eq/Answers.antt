use Rattle.std.proofs.Common.{◌≡◌, eqb, sym, ◌∙◌}
use Rattle.std.specs.Bool.{one_answer}
use Rattle.std.specs.Cmp.Lexicographic.{bytes_decides}
use Rattle.std.proofs.lemmas.Bool.{eqb-true}
use Rattle.esi_base.specs.Bits.{same_bits}
use Rattle.esi_base.specs.BitLists.{same_bits-true}
use Rattle.esi_base.proofs.SameWords.{same_words}
use Rattle.esi_base.proofs.word.comparison.WordPartialEq.eq.Goals as goal

pub returns-then-self-other-clause-same : goal.returns-then-self-other-clause-same
returns-then-self-other-clause-same c =
    let a = c.self.inside in
    let b = c.other.inside in
    same_words a b c.args.self.now c.args.other.now c.eq.result c.self.invariant c.other.invariant c.self.view_is c.other.view_is
    (λ t. ((bytes_decides a.limbs b.limbs).0 (sym c.eq.ensures ∙ t), c.if-self-other.true))
    (λ e f. c.eq.ensures ∙ (bytes_decides a.limbs b.limbs).1 e)

pub returns-then-self-other-clause-test : goal.returns-then-self-other-clause-test
returns-then-self-other-clause-test c =
    let xs = c.args.self.now in
    let ys = c.args.other.now in
    one_answer {P = xs ≡ ys} c.eq.result (same_bits xs ys) (returns-then-self-other-clause-same c) (same_bits-true xs ys)

pub returns-else-self-other-clause-same : goal.returns-else-self-other-clause-same
returns-else-self-other-clause-same c =
    let a = c.self.inside in
    let b = c.other.inside in
    same_words a b c.args.self.now c.args.other.now (eqb a.width b.width) c.self.invariant c.other.invariant c.self.view_is c.other.view_is
    (λ t. absurd (c.if-self-other.false (eqb-true a.width b.width t)))
    (λ e f. absurd (c.if-self-other.false f))

pub returns-else-self-other-clause-test : goal.returns-else-self-other-clause-test
returns-else-self-other-clause-test c =
    let xs = c.args.self.now in
    let ys = c.args.other.now in
    one_answer {P = xs ≡ ys} (eqb c.self.inside.width c.other.inside.width) (same_bits xs ys) (returns-else-self-other-clause-same c) (same_bits-true xs ys)

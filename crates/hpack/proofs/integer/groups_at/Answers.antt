use Rattle.std.proofs.Common.{◌+◌, ◌*◌, Ok, ap, sym, ◌∙◌, refl, get_or}
use Rattle.std.proofs.lemmas.List.{take_rest}
use Rattle.hpack.specs.IntegerReading.{weights_of_groups}
use Rattle.hpack.proofs.IntegerLoop.{more_cut, more_many, more_large, more_last, more_on}
use Rattle.hpack.proofs.integer.groups_at.Goals as goal

pub returns-in_default : goal.returns-in_default
returns-in_default c =
    sym c.loop-i.invariant.0 ∙ more_cut weights_of_groups c.args.octets.now c.loop-i.i c.loop-i.sum c.in_default.ensures.lookup.3

pub returns-then-sum-ge-INTEGER_VALUES : goal.returns-then-sum-ge-INTEGER_VALUES
returns-then-sum-ge-INTEGER_VALUES c =
    let here = c.in-Some.ensures.lookup.3 in
    sym c.loop-i.invariant.0 ∙ more_large weights_of_groups c.args.octets.now c.loop-i.i c.loop-i.sum c.in-Some.octet.now c.from.result _ c.loop-i-test.true here.0 (here.1 0) c.from.ensures refl c.if-sum-ge-INTEGER_VALUES.true

pub returns-then-octet-lt128 : goal.returns-then-octet-lt128
returns-then-octet-lt128 c =
    let here = c.in-Some.ensures.lookup.3 in
    sym c.loop-i.invariant.0
    ∙ more_last weights_of_groups c.args.octets.now c.loop-i.i c.loop-i.sum c.in-Some.octet.now c.from.result _ c.loop-i-test.true here.0 (here.1 0) c.from.ensures refl c.if-sum-ge-INTEGER_VALUES.false c.if-octet-lt128.true
    ∙ ap (λ rest. Ok (c.loop-i.sum + c.from.result * get_or weights_of_groups c.loop-i.i 0, rest)) (sym (take_rest c.args.octets.now (c.loop-i.i + 1)))

pub loop-i-preserved : goal.loop-i-preserved
loop-i-preserved c =
    let here = c.in-Some.ensures.lookup.3 in
    (sym (more_on weights_of_groups c.args.octets.now c.loop-i.i c.loop-i.sum c.in-Some.octet.now c.from.result _ c.loop-i-test.true here.0 (here.1 0) c.from.ensures refl c.if-sum-ge-INTEGER_VALUES.false c.if-octet-lt128.false) ∙ c.loop-i.invariant.0, c.if-sum-ge-INTEGER_VALUES.false)

pub returns : goal.returns
returns c = sym c.loop-i.invariant.0 ∙ more_many weights_of_groups c.args.octets.now c.loop-i.i c.loop-i.sum c.loop-i-test.false

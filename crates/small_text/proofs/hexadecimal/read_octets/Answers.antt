use Rattle.std.proofs.Common.{◌≡◌, ◌<◌, ◌++◌, ◌∷◌, [], length, arith}
use Rattle.std.proofs.lemmas.Bool.Decides.{nat_tests}
use Rattle.std.proofs.lemmas.Grind.{common_steps}
use Rattle.small_text.proofs.Digits.{octets_step, octets_stop, octets_end, octets_odd}
use Rattle.small_text.proofs.hexadecimal.read_octets.Goals as goal

pub loop-rest-preserved : goal.loop-rest-preserved
loop-rest-preserved c =
    let pushed : c.add.new.self ≡ c.loop-rest.octets ++ c.in-Some.octet ∷ [] = grind (arith, common_steps) in
    rw pushed (octets_step c.loop-rest.octets c.loop-rest.rest.now c.args.part.now _ c.in-Some.octet (omega arith) c.split_at.ensures.back c.in-Some.ensures c.loop-rest.invariant)

pub returns-in-None : goal.returns-in-None
returns-in-None c =
    let some : 0 < length c.args.part.now = grind (arith, nat_tests) in
    octets_stop c.loop-rest.octets c.loop-rest.rest.now c.args.part.now some (omega arith) c.in-None.ensures c.loop-rest.invariant

pub returns-then-is_empty-2 : goal.returns-then-is_empty-2
returns-then-is_empty-2 c =
    let some : 0 < length c.args.part.now = grind (arith, nat_tests) in
    let none : length c.loop-rest.rest.now ≡ 0 = grind (arith, nat_tests) in
    octets_end c.loop-rest.octets c.loop-rest.rest.now c.args.part.now some none c.loop-rest.invariant

pub returns-else-is_empty-2 : goal.returns-else-is_empty-2
returns-else-is_empty-2 c =
    let some : 0 < length c.args.part.now = grind (arith, nat_tests) in
    let one : length c.loop-rest.rest.now ≡ 1 = grind (arith, nat_tests) in
    octets_odd c.loop-rest.octets c.loop-rest.rest.now c.args.part.now some one c.loop-rest.invariant

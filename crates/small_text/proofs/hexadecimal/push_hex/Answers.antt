use Rattle.std.proofs.Common.{arith}
use Rattle.std.proofs.lemmas.Grind.{common_steps}
use Rattle.small_text.proofs.Digits.{hex_of-none, hex_of-more}
use Rattle.small_text.proofs.hexadecimal.push_hex.Goals as goal

pub loop-octet-init : goal.loop-octet-init
loop-octet-init c = (hex_of-none c.args.out.now, c.len-len.ensures)

pub loop-octet-preserved : goal.loop-octet-preserved
loop-octet-preserved c =
    (let more = hex_of-more c.args.octets.now c.args.out.now c.loop-octet.octet-index c.loop-octet-test.true in grind (arith, common_steps), c.loop-octet.invariant.1)

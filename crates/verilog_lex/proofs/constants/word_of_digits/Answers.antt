use Rattle.std.proofs.Common.{arith, ◌∙◌}
use Rattle.std.proofs.lemmas.List.{length-set}
use Rattle.verilog_lex.specs.NumberSteps.{octets_more}
use Rattle.verilog_lex.proofs.constants.word_of_digits.Goals as goal

pub loop-at-preserved : goal.loop-at-preserved
loop-at-preserved c = record {
  sized = length-set c.loop-at.octets c.loop-at.at c.octet_before-octet.result ∙ c.loop-at.invariant.sized;
  same = octets_more c.args.digits.now c.loop-at.octets c.loop-at.at c.octet_before-octet.result (omega (arith, c.loop-at.invariant.sized)) (omega arith) c.octet_before-octet.ensures c.loop-at.invariant.same;
}

use Rattle.channel_types.proofs.Decimals.{ArePut}
use Rattle.channel_types.proofs.printing.put_digits.Given as goal

abbrev pub invariant-loop-rest : goal.invariant-loop-rest
invariant-loop-rest l = ArePut l.number l.rest l.at l.digits

abbrev pub decreases-loop-rest : goal.decreases-loop-rest
decreases-loop-rest l = l.rest

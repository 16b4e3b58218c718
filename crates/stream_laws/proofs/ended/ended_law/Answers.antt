use Rattle.stream_laws.proofs.BrokenLaws.{stands_code, step_code}
use Rattle.stream_laws.proofs.EndedLaws.{run_ended}
use Rattle.stream_laws.proofs.ended.ended_law.Goals as goal

pub returns-clause-silent : goal.returns-clause-silent
returns-clause-silent c = λ calls code old entries new no_sends ended run. (run_ended calls code old entries new no_sends ended run).silent

pub returns-clause-ended : goal.returns-clause-ended
returns-clause-ended c = λ calls code old entries new no_sends ended run. (run_ended calls code old entries new no_sends ended run).ended

pub returns-clause-by_goaway : goal.returns-clause-by_goaway
returns-clause-by_goaway c = stands_code

pub returns-clause-code : goal.returns-clause-code
returns-clause-code c = step_code

use Rattle.hpack.proofs.LawProofs.{one_reading, one_refusal, never_both, one_of_both}
use Rattle.hpack.proofs.RuleLemmas.{six_rules, own_number}
use Rattle.hpack.proofs.laws.one_answer_law.Goals as goal

pub returns-clause-one_reading : goal.returns-clause-one_reading
returns-clause-one_reading c = one_reading

pub returns-clause-one_refusal : goal.returns-clause-one_refusal
returns-clause-one_refusal c = one_refusal

pub returns-clause-never_both : goal.returns-clause-never_both
returns-clause-never_both c = never_both

pub returns-clause-one_of_both : goal.returns-clause-one_of_both
returns-clause-one_of_both c = one_of_both

pub returns-clause-six_rules : goal.returns-clause-six_rules
returns-clause-six_rules c = six_rules

pub returns-clause-own_number : goal.returns-clause-own_number
returns-clause-own_number c = own_number

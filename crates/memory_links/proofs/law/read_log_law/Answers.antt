use Rattle.memory_links.proofs.ReadLogs.{text_sized, text_few}
use Rattle.memory_links.proofs.law.read_log_law.Goals as goal

pub returns-clause-sized : goal.returns-clause-sized
returns-clause-sized c = text_sized

pub returns-clause-few : goal.returns-clause-few
returns-clause-few c = text_few

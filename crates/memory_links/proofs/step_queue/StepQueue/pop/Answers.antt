use Rattle.memory_links.proofs.StepsLeft.{left_more}
use Rattle.memory_links.proofs.step_queue.StepQueue.pop.Goals as goal

pub returns-clause-left : goal.returns-clause-left
returns-clause-left c = rw (c.set-step.ensures.put, ← c.self.view_is) (left_more c.self.inside.steps c.self.inside.given _)

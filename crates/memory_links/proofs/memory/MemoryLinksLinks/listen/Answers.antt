use Rattle.memory_links.proofs.memory.MemoryLinksLinks.listen.Goals as goal

pub returns-clause-cause : goal.returns-clause-cause
returns-clause-cause c = record { later = λ address. c.listen.ensures.later; fault = c.listen.ensures.rose }

pub returns-clause-nexts : goal.returns-clause-nexts
returns-clause-nexts c = c.listen.ensures.later

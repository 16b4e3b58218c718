use Rattle.command_runs.proofs.status_line.write_end_line.Goals as goal

pub returns-in-PeerFault-clause-line : goal.returns-in-PeerFault-clause-line
returns-in-PeerFault-clause-line g c = rw (c.in-PeerFault.is, ← c.from.ensures) c.write_numbered_line.ensures.line

pub returns-in-PeerStatus-clause-line : goal.returns-in-PeerStatus-clause-line
returns-in-PeerStatus-clause-line g c = rw c.in-PeerStatus.is c.write_peer_status_line.ensures.line

pub returns-in-Unfinished-clause-line : goal.returns-in-Unfinished-clause-line
returns-in-Unfinished-clause-line g c = rw c.in-Unfinished.is c.write_numbered_line-in-Unfinished.ensures.line

pub returns-in-TurnsSpent-clause-line : goal.returns-in-TurnsSpent-clause-line
returns-in-TurnsSpent-clause-line g c = rw (c.in-TurnsSpent.is, ← c.from-in-TurnsSpent.ensures) c.write_numbered_line-in-TurnsSpent.ensures.line

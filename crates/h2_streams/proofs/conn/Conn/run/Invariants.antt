use Rattle.h2_history.specs.History.{Reaches}
use Rattle.h2_history.specs.Turns.{turns_left}
use Rattle.h2_streams.proofs.conn.Conn.run.Given as goal

-- the turns so far reported nothing
abbrev pub invariant-turns : goal.invariant-turns
invariant-turns l = Reaches l.fn.self l.self

abbrev pub decreases-turns : goal.decreases-turns
decreases-turns l = turns_left l.self

use Rattle.h2_history.specs.Turns.{turn_falls, reaches_more}
use Rattle.h2_streams.proofs.conn.Conn.run.Goals as goal

pub turns-smaller : goal.turns-smaller
turns-smaller c = turn_falls c.turns.self c.turn.new.self (rw c.in-Ok-Goes.field-0-is at c.in-Ok-Goes.ensures)

pub turns-preserved : goal.turns-preserved
turns-preserved c = reaches_more _ c.turns.self c.turn.new.self c.turns.invariant (rw c.in-Ok-Goes.field-0-is at c.in-Ok-Goes.ensures)

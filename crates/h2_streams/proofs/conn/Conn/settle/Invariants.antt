use Rattle.std.proofs.Common.{◌≡◌, None, length}
use Rattle.h2_history.specs.Settings.{settled}
use Rattle.h2_streams.proofs.conn.Conn.settle.Given as goal

-- what is left, from here, comes to what all comes to, and the connection goes on
abbrev pub invariant-loop-rest : goal.invariant-loop-rest
invariant-loop-rest l = record {
  same : settled l.rest l.self ≡ settled l.settings l.fn.self;
  going : l.self.broken ≡ None;
}

abbrev pub decreases-loop-rest : goal.decreases-loop-rest
decreases-loop-rest l = length l.rest

-- The first part of a cycle: for each to-server channel in order, the values that wait are put into its ring, first come first.
use Rattle.std.specs.Prelude.{ℕ, zero, suc, ◌+◌, nat_le, Bool, true, false, Option, Some, None, List, ◌∷◌, length}
use Rattle.cycle_rules.specs.Lists.{first}
use Rattle.cycle_rules.specs.declared.limits.TheConstants.{SESSION_VALUES}
use Rattle.serve_acts.specs.Acts.{Act}
use Rattle.serve_acts.specs.Acts.Act.{Ends, Takes, Refuses}
use Rattle.serve_acts.specs.Calls.{taken, waiting}
use Rattle.serve_acts.specs.Served.{Served, Replies}
use Rattle.serve_acts.specs.declared.call.Call.{Call}
use Rattle.serve_rule.specs.Connection.{is_off}
use Rattle.serve_rule.specs.Moves.{Moves}
use Rattle.serve_rule.specs.Performing.{performed}
use Rattle.serve_rule.specs.Polls.{polled}

-- the value is taken, its call is answered, and its stream is polled
abbrev pub accepted : Replies → Call → List Act → List Act
accepted replies call t = polled replies call.conn call.stream (performed replies call.conn (Takes call) t)

-- a call whose stream is cut is withdrawn in place of any answer
abbrev pub unless_off : Bool → Call → (List Act → List Act) → List Act → List Act
unless_off true call answered t = Ends call.conn call.stream ∷ t
unless_off false call answered t = answered t

abbrev pub taken_if : Bool → Replies → Call → (List Act → List Act) → List Act → List Act
taken_if true replies call next t = next (unless_off (is_off replies call.conn call.stream t) call (accepted replies call) t)
taken_if false replies call next t = t

-- where the session's values were taken, a call that waits is answered so, whether its ring has room or not
abbrev pub full_or : Bool → {S : Type 0} → (served : Served S) → Moves served → ℕ → Call → (List Act → List Act) → List Act → List Act
full_or true served moves channel call next t = next (unless_off (is_off served.replies call.conn call.stream t) call (performed served.replies call.conn (Refuses call)) t)
full_or false served moves channel call next t = taken_if (moves.takes channel t) served.replies call next t

abbrev pub take_step : {S : Type 0} → (served : Served S) → Moves served → ℕ → Option Call → (List Act → List Act) → List Act → List Act
take_step served moves channel None next t = t
take_step served moves channel (Some call) next t = full_or (nat_le SESSION_VALUES (length (taken t))) served moves channel call next t

-- so many calls of a channel, while they are answered
unfoldable pub taken_by : {S : Type 0} → ℕ → (served : Served S) → Moves served → ℕ → List Act → List Act
taken_by zero served moves channel t = t
taken_by (suc calls) served moves channel t = take_step served moves channel (first (waiting channel t)) (taken_by calls served moves channel) t

-- so many channels, from this one on
unfoldable pub taken_from : {S : Type 0} → ℕ → (served : Served S) → Moves served → ℕ → List Act → List Act
taken_from zero served moves channel t = t
taken_from (suc count) served moves channel t = taken_from count served moves (channel + 1) (taken_by (length (waiting channel t)) served moves channel t)

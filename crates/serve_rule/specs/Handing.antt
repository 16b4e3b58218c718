-- The last part of a cycle: for each to-client channel in order, at most one value leaves its ring.
use Rattle.std.specs.Prelude.{ℕ, zero, suc, ◌+◌, Bool, true, false, Option, Some, None, List, [], ◌∷◌}
use Rattle.cycle_rules.specs.Circuit.{Bits}
use Rattle.serve_acts.specs.Acts.{Act}
use Rattle.serve_acts.specs.Acts.Act.{Hands}
use Rattle.serve_acts.specs.Attachments.{Attachment, newest}
use Rattle.serve_acts.specs.Served.{Served, Replies}
use Rattle.serve_acts.specs.Streams.{Held, held}
use Rattle.serve_rule.specs.Connection.{is_off}
use Rattle.serve_rule.specs.Moves.{Moves}
use Rattle.serve_rule.specs.Polls.{polled}

-- the value's message is given to the stream, which is polled
abbrev pub handed_unless : Bool → Replies → ℕ → Attachment → Bits → List Act → List Act
handed_unless true replies channel to word t = t
handed_unless false replies channel to word t = polled replies to.conn to.stream (Hands channel to.conn to.stream word ∷ t)

-- the ring is not empty; the stream is open
abbrev pub word_step : Replies → ℕ → Attachment → Option Bits → List Act → List Act
word_step replies channel to None t = t
word_step replies channel to (Some word) t = handed_unless (is_off replies to.conn to.stream t) replies channel to word t

-- it holds no octet that was not put
abbrev pub idle_step : {S : Type 0} → (served : Served S) → Moves served → ℕ → Attachment → List ℕ → Bool → List Act → List Act
idle_step served moves channel to [] false t = word_step served.replies channel to (moves.hands channel t) t
idle_step served moves channel to unsent ends t = t

abbrev pub held_step : {S : Type 0} → (served : Served S) → Moves served → ℕ → Attachment → Option Held → List Act → List Act
held_step served moves channel to None t = t
held_step served moves channel to (Some reply) t = idle_step served moves channel to reply.unsent reply.ends t

-- the channel is attached
abbrev pub hand_step : {S : Type 0} → (served : Served S) → Moves served → ℕ → Option Attachment → List Act → List Act
hand_step served moves channel None t = t
hand_step served moves channel (Some to) t = held_step served moves channel to (held served.replies to.conn to.stream t) t

-- so many channels, from this one on
unfoldable pub handed_from : {S : Type 0} → ℕ → (served : Served S) → Moves served → ℕ → List Act → List Act
handed_from zero served moves channel t = t
handed_from (suc count) served moves channel t = handed_from count served moves (channel + 1) (hand_step served moves channel (newest channel t) t)

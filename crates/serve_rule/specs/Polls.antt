-- A poll of a stream: DATA is put as the windows and the room let through, and then trailers where they are due.
use Rattle.std.specs.Prelude.{ℕ, zero, suc, ◌+◌, min, Bool, true, false, Option, Some, None, List, [], ◌∷◌, length, take}
use Rattle.h2_history.specs.Standing.{may_put}
use Rattle.h2_layouts.specs.declared.limit.TheConstants.{LONGEST_PAYLOAD}
use Rattle.serve_acts.specs.Acts.{Act}
use Rattle.serve_acts.specs.Acts.Act.{Puts, Finishes}
use Rattle.serve_acts.specs.Connections.{connections}
use Rattle.serve_acts.specs.Served.{Replies}
use Rattle.serve_acts.specs.Streams.{Held, held}
use Rattle.serve_rule.specs.Connection.{stands, open_streams}
use Rattle.serve_rule.specs.Performing.{performed}

-- ---- one step of it

abbrev pub finished_if : Bool → Replies → ℕ → ℕ → List Act → List Act
finished_if true replies c stream t = performed replies c (Finishes c stream) t
finished_if false replies c stream t = t

-- nothing where nothing may be put, else one frame of DATA, and on
abbrev pub data_step : ℕ → ℕ → ℕ → List ℕ → (List Act → List Act) → List Act → List Act
data_step zero c stream octets next t = t
data_step (suc room) c stream octets next t = next (Puts c stream (take (min (suc room) LONGEST_PAYLOAD) octets) ∷ t)

abbrev pub reply_step : Replies → ℕ → ℕ → List ℕ → Bool → (List Act → List Act) → List Act → List Act
reply_step replies c stream [] ends next t = finished_if ends replies c stream t
reply_step replies c stream (octet ∷ octets) ends next t = data_step (may_put stream (stands replies c t)) c stream (octet ∷ octets) next t

abbrev pub poll_step : Replies → ℕ → ℕ → Option Held → (List Act → List Act) → List Act → List Act
poll_step replies c stream None next t = t
poll_step replies c stream (Some reply) next t = reply_step replies c stream reply.unsent reply.ends next t

-- ---- all of it: each frame has at least one octet, so there are no more steps than octets, and one for trailers

unfoldable pub polled_by : ℕ → Replies → ℕ → ℕ → List Act → List Act
polled_by zero replies c stream t = t
polled_by (suc steps) replies c stream t = poll_step replies c stream (held replies c stream t) (polled_by steps replies c stream) t

abbrev pub steps_of : Option Held → ℕ
steps_of None = 0
steps_of (Some reply) = length reply.unsent + 1

unfoldable pub polled : Replies → ℕ → ℕ → List Act → List Act
polled replies c stream t = polled_by (steps_of (held replies c stream t)) replies c stream t

-- ---- all streams, in order of connection and stream

unfoldable pub polled_streams : Replies → ℕ → List ℕ → List Act → List Act
polled_streams replies c [] t = t
polled_streams replies c (stream ∷ streams) t = polled_streams replies c streams (polled replies c stream t)

unfoldable pub polled_connections : Replies → List ℕ → List Act → List Act
polled_connections replies [] t = t
polled_connections replies (c ∷ others) t = polled_connections replies others (polled_streams replies c (open_streams replies c t) t)

unfoldable pub polled_all : Replies → List Act → List Act
polled_all replies t = polled_connections replies (connections t) t

-- What a server has to send on each stream to which it replies.
use Rattle.std.specs.Prelude.{ℕ, ◌==◌, ◌&&◌, Bool, true, false, Option, Some, None, List, [], ◌∷◌, ◌++◌, length, drop, if◌then◌else◌}
use Rattle.serve_acts.specs.Acts.{Act}
use Rattle.serve_acts.specs.Acts.Act.{Ends, Takes, Declines, Lists, Attaches, Hands, Puts, Finishes}
use Rattle.serve_acts.specs.Served.{Replies}

-- a reply that was begun and not ended: its octets that were not put, and whether trailers follow them
pub record Held : Type 0 where
  pub unsent : List ℕ
  pub ends : Bool

abbrev pub is_stream : ℕ → ℕ → ℕ → ℕ → Bool
is_stream conn stream c s = (conn == c) && (stream == s)

abbrev pub without_first : ℕ → Option Held → Option Held
without_first octets None = None
without_first octets (Some there) = Some (record { unsent = drop octets there.unsent; ends = there.ends })

-- a stream's reply
abbrev pub held : Replies → ℕ → ℕ → List Act → Option Held
held replies c s [] = None
held replies c s (Takes call ∷ t) = if is_stream call.conn call.stream c s then Some (record { unsent = replies.taken; ends = true }) else held replies c s t
held replies c s (Lists conn stream flow text ∷ t) = if is_stream conn stream c s then Some (record { unsent = text; ends = true }) else held replies c s t
held replies c s (Attaches channel conn stream flow ∷ t) = if is_stream conn stream c s then Some (record { unsent = []; ends = false }) else held replies c s t
held replies c s (Hands channel conn stream word ∷ t) = if is_stream conn stream c s then Some (record { unsent = replies.message channel word; ends = false }) else held replies c s t
held replies c s (Puts conn stream octets ∷ t) = if is_stream conn stream c s then without_first (length octets) (held replies c s t) else held replies c s t
held replies c s (Finishes conn stream ∷ t) = if is_stream conn stream c s then None else held replies c s t
held replies c s (Ends conn stream ∷ t) = if is_stream conn stream c s then None else held replies c s t
held replies c s (act ∷ t) = held replies c s t

-- the octets that were given to a stream to send, joined
abbrev pub given : Replies → ℕ → ℕ → List Act → List ℕ
given replies c s [] = []
given replies c s (Takes call ∷ t) = if is_stream call.conn call.stream c s then given replies c s t ++ replies.taken else given replies c s t
given replies c s (Lists conn stream flow text ∷ t) = if is_stream conn stream c s then given replies c s t ++ text else given replies c s t
given replies c s (Hands channel conn stream word ∷ t) = if is_stream conn stream c s then given replies c s t ++ replies.message channel word else given replies c s t
given replies c s (act ∷ t) = given replies c s t

-- the octets of DATA that were put on it, joined
abbrev pub data_put : ℕ → ℕ → List Act → List ℕ
data_put c s [] = []
data_put c s (Puts conn stream octets ∷ t) = if is_stream conn stream c s then data_put c s t ++ octets else data_put c s t
data_put c s (act ∷ t) = data_put c s t

-- a reply was begun on the stream, or its call was answered by a header list alone
abbrev pub is_replied : ℕ → ℕ → List Act → Bool
is_replied c s [] = false
is_replied c s (Takes call ∷ t) = if is_stream call.conn call.stream c s then true else is_replied c s t
is_replied c s (Lists conn stream flow text ∷ t) = if is_stream conn stream c s then true else is_replied c s t
is_replied c s (Attaches channel conn stream flow ∷ t) = if is_stream conn stream c s then true else is_replied c s t
is_replied c s (Declines conn stream flow decline ∷ t) = if is_stream conn stream c s then true else is_replied c s t
is_replied c s (act ∷ t) = is_replied c s t

-- its trailers were put
abbrev pub is_finished : ℕ → ℕ → List Act → Bool
is_finished c s [] = false
is_finished c s (Finishes conn stream ∷ t) = if is_stream conn stream c s then true else is_finished c s t
is_finished c s (act ∷ t) = is_finished c s t

-- The calls of SendToServer: in the order in which they arrived, which of them were taken, were answered that the session is
-- full, were withdrawn, and which wait.
use Rattle.std.specs.Prelude.{ℕ, ◌==◌, ◌&&◌, ◌||◌, not, Bool, false, List, [], ◌∷◌, ◌++◌, drop, filter, if◌then◌else◌}
use Rattle.std.specs.List.{list_any}
use Rattle.serve_acts.specs.Acts.{Act}
use Rattle.serve_acts.specs.Acts.Act.{Arrives, Ends, Takes, Refuses}
use Rattle.serve_acts.specs.declared.call.Call.{Call}

abbrev pub is_on : ℕ → Call → Bool
is_on channel call = call.channel == channel

abbrev pub is_of : ℕ → ℕ → Call → Bool
is_of conn stream call = (call.conn == conn) && (call.stream == stream)

-- all valid calls, in order of arrival
abbrev pub calls : List Act → List Call
calls [] = []
calls (Arrives call ∷ t) = calls t ++ call ∷ []
calls (act ∷ t) = calls t

-- those whose value was taken, in that order
abbrev pub taken : List Act → List Call
taken [] = []
taken (Takes call ∷ t) = taken t ++ call ∷ []
taken (act ∷ t) = taken t

abbrev pub is_taken : ℕ → ℕ → List Act → Bool
is_taken conn stream t = list_any (is_of conn stream) (taken t)

-- where a stream ends on which nothing was taken, its calls go
abbrev pub kept_by : ℕ → ℕ → Bool → List Call → List Call
kept_by conn stream was_taken others = if was_taken then others else filter (λ call. not (is_of conn stream call)) others

-- those that were answered that the session is full, and not withdrawn since
abbrev pub refused : List Act → List Call
refused [] = []
refused (Refuses call ∷ t) = refused t ++ call ∷ []
refused (Ends conn stream ∷ t) = kept_by conn stream (is_taken conn stream t) (refused t)
refused (act ∷ t) = refused t

-- the calls that wait on a channel, the one that came first at the front
abbrev pub without_front : ℕ → Call → List Call → List Call
without_front channel call others = if is_on channel call then drop 1 others else others

abbrev pub waiting : ℕ → List Act → List Call
waiting channel [] = []
waiting channel (Arrives call ∷ t) = waiting channel t ++ filter (is_on channel) (call ∷ [])
waiting channel (Takes call ∷ t) = without_front channel call (waiting channel t)
waiting channel (Refuses call ∷ t) = without_front channel call (waiting channel t)
waiting channel (Ends conn stream ∷ t) = kept_by conn stream (is_taken conn stream t) (waiting channel t)
waiting channel (act ∷ t) = waiting channel t

-- a call is withdrawn where its stream ends before its value is taken
abbrev pub is_withdrawn : List Act → Call → Bool
is_withdrawn [] call = false
is_withdrawn (Ends conn stream ∷ t) call = if is_taken conn stream t then is_withdrawn t call else is_of conn stream call || is_withdrawn t call
is_withdrawn (act ∷ t) call = is_withdrawn t call

-- a channel's calls that were not withdrawn, in order of arrival
abbrev pub kept : ℕ → List Act → List Call
kept channel t = filter (λ call. not (is_withdrawn t call)) (filter (is_on channel) (calls t))

-- Which connections are open.
use Rattle.std.specs.Prelude.{ℕ, ◌+◌, ◌==◌, ◌&&◌, ◌||◌, not, nat_lt, Bool, false, List, [], ◌∷◌, ◌++◌, length, filter, if◌then◌else◌}
use Rattle.std.specs.List.{list_any}
use Rattle.esi_links.specs.declared.links.Event.{Event}
use Rattle.esi_links.specs.declared.links.Event.TheVariants.{Opened, Closed}
use Rattle.serve_acts.specs.Acts.{Act}
use Rattle.serve_acts.specs.Acts.Act.{Happens, Drops}
use Rattle.serve_acts.specs.declared.limits.TheConstants.{OPEN_CONNECTIONS}

-- one more, where this number is due
abbrev pub counted : ℕ → Event → ℕ
counted number (Opened conn) = if conn == number then number + 1 else number
counted number event = number

-- how many connections have opened: they are numbered from 0, and an event with another number is ignored
abbrev pub opened : List Act → ℕ
opened [] = 0
opened (Happens event ∷ t) = counted (opened t) event
opened (act ∷ t) = opened t

-- there is room for one more
abbrev pub admits : List ℕ → Bool
admits conns = nat_lt (length conns) OPEN_CONNECTIONS

abbrev pub without : ℕ → List ℕ → List ℕ
without conn conns = filter (λ other. not (other == conn)) conns

abbrev pub after_event : ℕ → Event → List ℕ → List ℕ
after_event number (Opened conn) conns = if (conn == number) && admits conns then conns ++ conn ∷ [] else conns
after_event number (Closed conn) conns = without conn conns
after_event number event conns = conns

-- the open connections, in the order in which they opened
abbrev pub connections : List Act → List ℕ
connections [] = []
connections (Happens event ∷ t) = after_event (opened t) event (connections t)
connections (Drops conn ∷ t) = without conn (connections t)
connections (act ∷ t) = connections t

abbrev pub is_connected : ℕ → List Act → Bool
is_connected conn t = list_any (λ other. other == conn) (connections t)

-- a connection that opened where there was no room for it, and was not yet dropped
abbrev pub turned_away_by : ℕ → Event → List ℕ → Bool
turned_away_by number (Opened conn) conns = (conn == number) && not (admits conns)
turned_away_by number event conns = false

abbrev pub is_opened : ℕ → Event → Bool
is_opened conn (Opened other) = other == conn
is_opened conn event = false

abbrev pub is_turned_away : ℕ → List Act → Bool
is_turned_away conn [] = false
is_turned_away conn (Happens event ∷ t) = (is_opened conn event && turned_away_by (opened t) event (connections t)) || is_turned_away conn t
is_turned_away conn (Drops other ∷ t) = not (other == conn) && is_turned_away conn t
is_turned_away conn (act ∷ t) = is_turned_away conn t

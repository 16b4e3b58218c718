-- A turn of the server: an event is processed, then the cycles of a turn run, then each open connection with unsent output
-- offers the whole of it.
use Rattle.std.specs.Prelude.{ℕ, Bool, true, false, List, [], ◌∷◌, take}
use Rattle.esi_links.specs.declared.links.Entry.{Entry as LogEntry}
use Rattle.esi_links.specs.declared.links.Entry.TheVariants.{Happened, Sent, Dropped}
use Rattle.esi_links.specs.declared.links.Event.{Event}
use Rattle.esi_links.specs.declared.links.Event.TheVariants.{Opened}
use Rattle.serve_acts.specs.Acts.{Act}
use Rattle.serve_acts.specs.Acts.Act.{Sends, Drops}
use Rattle.serve_acts.specs.Connections.{connections, is_connected, is_turned_away}
use Rattle.serve_acts.specs.Served.{Served, Replies}
use Rattle.serve_acts.specs.declared.limits.TheConstants.{TURN_CYCLES}
use Rattle.serve_rule.specs.Connection.{stands, is_over}
use Rattle.serve_rule.specs.Cycle.{after_cycles}
use Rattle.serve_rule.specs.Moves.{Moves}
use Rattle.serve_rule.specs.Reading.{Reader, told, heard}

-- what comes from outside in a turn: its event, and how many octets each connection takes of what it is offered
pub record Turn : Type 0 where
  pub event : Event
  pub takes : ℕ → ℕ

-- the event and the cycles
unfoldable pub worked : {S : Type 0} → (served : Served S) → Reader served → Moves served → Event → List Act → List Act
worked served reader moves event t = after_cycles TURN_CYCLES served moves (heard served reader event (told served.replies event t))

-- ---- what is sent

abbrev pub offered : Bool → ℕ → List ℕ → ℕ → List Act → List Act
offered true c (octet ∷ octets) count t = Sends c (take count (octet ∷ octets)) ∷ t
offered connected c octets count t = t

-- a connection with an error is dropped after its offer
abbrev pub dropped_if : Bool → ℕ → List Act → List Act
dropped_if true c t = Drops c ∷ t
dropped_if false c t = t

abbrev pub without_over : Replies → ℕ → List Act → List Act
without_over replies c t = dropped_if (is_over replies c t) c t

unfoldable pub all_offered : Replies → (ℕ → ℕ) → List ℕ → List Act → List Act
all_offered replies takes [] t = t
all_offered replies takes (c ∷ others) t = all_offered replies takes others (without_over replies c (offered (is_connected c t) c (stands replies c t).output (takes c) t))

-- a connection that opened, and found no room, is dropped before
abbrev pub turned_away : Event → List Act → List Act
turned_away (Opened conn) t = dropped_if (is_turned_away conn t) conn t
turned_away event t = t

unfoldable pub sent_to_all : Replies → (ℕ → ℕ) → List Act → List Act
sent_to_all replies takes t = all_offered replies takes (connections t) t

abbrev pub finished : Replies → Turn → List Act → List Act
finished replies turn t = sent_to_all replies turn.takes (turned_away turn.event t)

-- ---- the turn, and a session of turns, the newest first

abbrev pub after_turn : {S : Type 0} → (served : Served S) → Reader served → Moves served → Turn → List Act → List Act
after_turn served reader moves turn t = finished served.replies turn (worked served reader moves turn.event t)

unfoldable pub session : {S : Type 0} → (served : Served S) → Reader served → Moves served → List Turn → List Act
session served reader moves [] = []
session served reader moves (turn ∷ turns) = after_turn served reader moves turn (session served reader moves turns)

-- ---- the same from a log: an event begins a turn, and what was taken of each offer, and each drop, are as it says

unfoldable pub played : {S : Type 0} → (served : Served S) → Reader served → Moves served → List LogEntry → List Act → List Act
played served reader moves [] t = t
played served reader moves (Happened event ∷ entries) t = played served reader moves entries (worked served reader moves event t)
played served reader moves (Sent conn offered octets ∷ entries) t = played served reader moves entries (Sends conn octets ∷ t)
played served reader moves (Dropped conn ∷ entries) t = played served reader moves entries (Drops conn ∷ t)

abbrev pub session_of : {S : Type 0} → (served : Served S) → Reader served → Moves served → List LogEntry → List Act
session_of served reader moves entries = played served reader moves entries []

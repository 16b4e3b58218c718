-- The connections of links that play a log, and what changes them.
use Rattle.std.specs.Prelude.{ℕ, zero, suc, ◌-◌, true, false, if◌then◌else◌, List, [], ◌∷◌, ◌++◌, length, Option, Some, None, slice_get}
use Rattle.esi_links.specs.Held.{at_most}
use Rattle.memory_links.specs.declared.conn.Conn.{Conn}

-- a place for a connection that is still to open
abbrev pub unopened : Conn
unopened = record { is_open = false; room = None; sent = [] }

-- it opens, and takes all
abbrev pub opened : Conn → Conn
opened conn = record conn { is_open = true; room = None }

-- it is not open any more
abbrev pub shut : Conn → Conn
shut conn = record conn { is_open = false }

-- the sends to it take so many octets from here on
abbrev pub with_room : ℕ → Conn → Conn
with_room octets conn = record conn { room = Some octets }

-- the room that is left behind a send that took so many octets
abbrev pub room_left : Option ℕ → ℕ → Option ℕ
room_left None count = None
room_left (Some room) count = Some (room - count)

-- How much of a send it takes: the least of the piece, its room and what is offered, and nothing where it is not open.
abbrev pub send_count : Option ℕ → Conn → ℕ → ℕ
send_count piece conn offered = if conn.is_open then at_most piece (at_most conn.room offered) else 0

-- it after a send of which it took these octets
abbrev pub after_send : List ℕ → Conn → Conn
after_send octets conn = if conn.is_open then record conn { room = room_left conn.room (length octets); sent = conn.sent ++ octets } else conn

-- what the connection with a number takes of a send, nothing where there is none
abbrev pub count_in : Option ℕ → Option Conn → ℕ → ℕ
count_in piece None offered = 0
count_in piece (Some conn) offered = send_count piece conn offered

abbrev pub count_at : Option ℕ → List Conn → ℕ → ℕ → ℕ
count_at piece conns conn offered = count_in piece (slice_get conns conn) offered

-- the octets that the sends to the connection with a number took, none where there is none
abbrev pub sent_in : Option Conn → List ℕ
sent_in None = []
sent_in (Some conn) = conn.sent

abbrev pub sent_at : List Conn → ℕ → List ℕ
sent_at conns conn = sent_in (slice_get conns conn)

-- the connection with a number is changed, and no other
abbrev pub changed : ℕ → (Conn → Conn) → List Conn → List Conn
changed at change [] = []
changed zero change (conn ∷ conns) = change conn ∷ conns
changed (suc at) change (conn ∷ conns) = conn ∷ changed at change conns

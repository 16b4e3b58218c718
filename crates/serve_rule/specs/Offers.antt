-- What a turn sends and drops, as its part of the log says it.
use Rattle.std.specs.Prelude.{ℕ, Bool, true, false, List, [], ◌∷◌, ◌++◌, length, take}
use Rattle.esi_links.specs.declared.links.Entry.{Entry}
use Rattle.esi_links.specs.declared.links.Entry.TheVariants.{Sent, Dropped}
use Rattle.esi_links.specs.declared.links.Event.{Event}
use Rattle.esi_links.specs.declared.links.Event.TheVariants.{Opened}
use Rattle.serve_acts.specs.Acts.{Act}
use Rattle.serve_acts.specs.Connections.{connections, is_turned_away}
use Rattle.serve_acts.specs.Histories.{unsent, is_broken}
use Rattle.serve_acts.specs.Served.{Replies}
use Rattle.serve_rule.specs.Turns.{Turn, turned_away}

-- one offer of all that waits, where anything does
abbrev pub offer_entry : ℕ → List ℕ → ℕ → List Entry
offer_entry c [] count = []
offer_entry c (octet ∷ octets) count = Sent c (length (octet ∷ octets)) (take count (octet ∷ octets)) ∷ []

abbrev pub drop_entry : Bool → ℕ → List Entry
drop_entry true c = Dropped c ∷ []
drop_entry false c = []

-- for each of these connections in order its one offer, and its drop where it has ended by an error
abbrev pub offers : Replies → (ℕ → ℕ) → List ℕ → List Act → List Entry
offers replies takes [] t = []
offers replies takes (c ∷ conns) t = (offer_entry c (unsent replies c t) (takes c) ++ drop_entry (is_broken replies c t) c) ++ offers replies takes conns t

-- the drop of a connection that opened and found no room
abbrev pub away_entry : Event → List Act → List Entry
away_entry (Opened conn) t = drop_entry (is_turned_away conn t) conn
away_entry event t = []

-- all of it, behind the event and the cycles: first the drop of a connection that found no room, then the offers to the open
-- ones
abbrev pub turn_entries : Replies → Turn → List Act → List Entry
turn_entries replies turn t = away_entry turn.event t ++ offers replies turn.takes (connections (turned_away turn.event t)) (turned_away turn.event t)

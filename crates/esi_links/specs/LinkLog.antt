-- What stands in the log of links.
use Rattle.std.specs.Prelude.{◌≡◌, ℕ, ◌+◌, List, [], ◌∷◌, ◌++◌, Option, Bool, true, false, ◌&&◌, ◌==◌, IsTrue, nat_lt, nat_le, length, sum_by}
use Rattle.std.specs.Option.{option_map}
use Rattle.esi_links.specs.declared.limits.TheConstants.{LONGEST_BYTES}
use Rattle.esi_links.specs.declared.links.Entry.{Entry}
use Rattle.esi_links.specs.declared.links.Entry.TheVariants.{Happened, Sent, Dropped}
use Rattle.esi_links.specs.declared.links.Event.{Event}
use Rattle.esi_links.specs.declared.links.Event.TheVariants.{Opened, Bytes, Writable, Closed, Idle}

-- the log told grows by one entry, and is told where it was told
pub record LogGrows (before now : Option (List Entry)) (entry : Entry) : Type 0 where
  pub told : now ≡ option_map (λ old. old ++ entry ∷ []) before

-- octets come 1 to `LONGEST_BYTES` at a time
abbrev pub is_sized : Event → Bool
is_sized (Opened conn) = true
is_sized (Bytes conn octets) = nat_lt 0 (length octets) && nat_le (length octets) LONGEST_BYTES
is_sized (Writable conn) = true
is_sized (Closed conn) = true
is_sized Idle = true

-- one for a connection that opened, 0 for all else
abbrev pub opening : Event → ℕ
opening (Opened conn) = 1
opening (Bytes conn octets) = 0
opening (Writable conn) = 0
opening (Closed conn) = 0
opening Idle = 0

-- one for an entry that says that a connection opened, 0 for all else
abbrev pub opening_of : Entry → ℕ
opening_of (Happened event) = opening event
opening_of (Sent conn offered taken) = 0
opening_of (Dropped conn) = 0

-- how many connections opened
abbrev pub opened_count : List Entry → ℕ
opened_count entries = sum_by opening_of entries

-- a connection that opens has this number
abbrev pub is_numbered : ℕ → Event → Bool
is_numbered number (Opened conn) = conn == number
is_numbered number (Bytes conn octets) = true
is_numbered number (Writable conn) = true
is_numbered number (Closed conn) = true
is_numbered number Idle = true

-- a connection that opens gets the number of those that opened before it
abbrev pub IsNext : Event → List Entry → Type 0
IsNext event entries = IsTrue (is_numbered (opened_count entries) event)

-- the connections that open are numbered on from a number without gaps
abbrev pub are_numbered : ℕ → List Event → Bool
are_numbered number [] = true
are_numbered number (event ∷ rest) = is_numbered number event && are_numbered (number + opening event) rest

-- the first of the events that are still to come, Idle where there is none
abbrev pub next_event : List Event → Event
next_event [] = Idle
next_event (event ∷ rest) = event

-- links that are not started have an empty log
abbrev pub is_fresh : Bool → List Entry → Bool
is_fresh true entries = true
is_fresh false [] = true
is_fresh false (entry ∷ rest) = false

-- What links that play a log hold, and what each call makes of it.
use Rattle.std.specs.Prelude.{◌≡◌, ℕ, ◌+◌, ◌==◌, nat_lt, nat_le, ◌&&◌, Bool, true, false, if◌then◌else◌, List, [], ◌∷◌, ◌++◌, length, drop, sum_by, count_by, Option, Some, None, slice_get, refl}
use Rattle.std.specs.List.{flat_map}
use Rattle.esi_links.specs.declared.calls.Calls.{Calls}
use Rattle.esi_links.specs.declared.limits.TheConstants.{LONGEST_BYTES}
use Rattle.esi_links.specs.declared.links.Entry.{Entry}
use Rattle.esi_links.specs.declared.links.Entry.TheVariants.{Happened, Sent, Dropped}
use Rattle.esi_links.specs.declared.links.Event.{Event}
use Rattle.esi_links.specs.declared.links.Event.TheVariants as event
use Rattle.esi_links.specs.FailingCalls.{new_calls, is_due, after_pass, after_fault}
use Rattle.esi_links.specs.LinkLog.{opening}
use Rattle.link_log.specs.declared.step.LogStep.{LogStep}
use Rattle.link_log.specs.declared.step.LogStep.TheVariants.{Opened, Bytes, Writable, Closed, Idle, Fail, Room}
use Rattle.memory_links.specs.declared.conn.Conn.{Conn}
use Rattle.memory_links.specs.Conns.{unopened, opened, shut, with_room, after_send, changed, count_at}

-- What they hold: the steps that are to come; the connections, with a place for each that is still to open; the log of
-- these links; how many connections opened by a step; the calls of `listen`, `connect` and `next`, and those of them that are
-- to fail; whether they are started; and how many octets one send takes at most, None: any number.
pub record Play : Type 0 where
  pub steps : List LogStep
  pub conns : List Conn
  pub log : List Entry
  pub opened : ℕ
  pub calls : Calls
  pub started : Bool
  pub piece : Option ℕ

-- ---- the steps

-- `bytes` brings as many octets as an event may
abbrev pub is_sized_step : LogStep → Bool
is_sized_step Opened = true
is_sized_step (Bytes conn octets) = nat_lt 0 (length octets) && nat_le (length octets) LONGEST_BYTES
is_sized_step (Writable conn) = true
is_sized_step (Closed conn) = true
is_sized_step Idle = true
is_sized_step Fail = true
is_sized_step (Room conn octets) = true

-- one for a step by which a connection opens, 0 for all else
abbrev pub opening_step : LogStep → ℕ
opening_step Opened = 1
opening_step (Bytes conn octets) = 0
opening_step (Writable conn) = 0
opening_step (Closed conn) = 0
opening_step Idle = 0
opening_step Fail = 0
opening_step (Room conn octets) = 0

-- how many connections open by steps
abbrev pub openings : List LogStep → ℕ
openings steps = sum_by opening_step steps

-- all steps but `room` are events
abbrev pub is_event : LogStep → Bool
is_event Opened = true
is_event (Bytes conn octets) = true
is_event (Writable conn) = true
is_event (Closed conn) = true
is_event Idle = true
is_event Fail = true
is_event (Room conn octets) = false

-- how many events there are
abbrev pub event_count : List LogStep → ℕ
event_count steps = count_by is_event steps

-- the steps from the next event on
abbrev pub from_event : List LogStep → List LogStep
from_event [] = []
from_event (Opened ∷ rest) = Opened ∷ rest
from_event (Bytes conn octets ∷ rest) = Bytes conn octets ∷ rest
from_event (Writable conn ∷ rest) = Writable conn ∷ rest
from_event (Closed conn ∷ rest) = Closed conn ∷ rest
from_event (Idle ∷ rest) = Idle ∷ rest
from_event (Fail ∷ rest) = Fail ∷ rest
from_event (Room conn octets ∷ rest) = from_event rest

-- the connections behind the `room` steps that stand before the next event
abbrev pub after_rooms : List LogStep → List Conn → List Conn
after_rooms [] conns = conns
after_rooms (Opened ∷ rest) conns = conns
after_rooms (Bytes conn octets ∷ rest) conns = conns
after_rooms (Writable conn ∷ rest) conns = conns
after_rooms (Closed conn ∷ rest) conns = conns
after_rooms (Idle ∷ rest) conns = conns
after_rooms (Fail ∷ rest) conns = conns
after_rooms (Room conn octets ∷ rest) conns = after_rooms rest (changed conn (with_room octets) conns)

-- The event that a step tells, where so many connections opened before: `Idle` where no step is left, and none at `fail`.
abbrev pub step_event : ℕ → Option LogStep → Option Event
step_event number None = Some event.Idle
step_event number (Some Opened) = Some (event.Opened number)
step_event number (Some (Bytes conn octets)) = Some (event.Bytes conn octets)
step_event number (Some (Writable conn)) = Some (event.Writable conn)
step_event number (Some (Closed conn)) = Some (event.Closed conn)
step_event number (Some Idle) = Some event.Idle
step_event number (Some Fail) = None
step_event number (Some (Room conn octets)) = Some event.Idle

-- the connections after an event
abbrev pub after_event : Event → List Conn → List Conn
after_event (event.Opened conn) conns = changed conn opened conns
after_event (event.Bytes conn octets) conns = conns
after_event (event.Writable conn) conns = conns
after_event (event.Closed conn) conns = changed conn shut conns
after_event event.Idle conns = conns

-- ---- the calls

-- links that are new and are to play these steps
abbrev pub new_play : List Conn → List LogStep → Play
new_play conns steps = record { steps = steps; conns = conns; log = []; opened = 0; calls = new_calls []; started = false; piece = None }

-- The event that `next` tells; none where it fails, since its number is among those that are to fail or the next event is `fail`.
abbrev pub event_next : Play → Option Event
event_next play = if is_due play.calls then None else step_event play.opened (slice_get (from_event play.steps) 0)

-- after `next` told an event
abbrev pub after_told : Event → Play → Play
after_told told play =
    record {
      steps = drop 1 (from_event play.steps);
      conns = after_event told (after_rooms play.steps play.conns);
      log = play.log ++ Happened told ∷ [];
      opened = play.opened + opening told;
      calls = after_pass play.calls;
      started = play.started;
      piece = play.piece;
    }

-- after a call that failed since its number was chosen: it changes nothing else
abbrev pub failed : Play → Play
failed play = record play { calls = after_fault play.calls }

-- after `next` failed: a call whose number was not chosen passed a `fail` step
abbrev pub after_failed : Play → Play
after_failed play =
    if is_due play.calls then failed play
    else record play { steps = drop 1 (from_event play.steps); conns = after_rooms play.steps play.conns; calls = after_fault play.calls }

-- after `listen`, which fails where its number was chosen
abbrev pub after_listen : Play → Play
after_listen play = if is_due play.calls then failed play else record play { started = true; calls = after_pass play.calls }

-- after `connect`, which fails where its number was chosen, and else opens connection 0
abbrev pub after_connect : Play → Play
after_connect play =
    if is_due play.calls then failed play
    else record play { started = true; conns = changed 0 opened play.conns; calls = after_pass play.calls }

-- with other calls that are to fail
abbrev pub with_failing : List ℕ → Play → Play
with_failing failing play = record play { calls = record { failing = failing; made = play.calls.made; faults = play.calls.faults } }

-- with a number of octets that one send takes at most
abbrev pub with_piece : ℕ → Play → Play
with_piece piece play = record play { piece = Some piece }

-- how many octets of those offered a send takes
abbrev pub send_takes : Play → ℕ → ℕ → ℕ
send_takes play conn offered = count_at play.piece play.conns conn offered

-- after a send that took these octets
abbrev pub after_sent : ℕ → ℕ → List ℕ → Play → Play
after_sent conn offered taken play =
    record play { conns = changed conn (after_send taken) play.conns; log = play.log ++ Sent conn offered taken ∷ [] }

-- after a drop
abbrev pub after_drop : ℕ → Play → Play
after_drop conn play = record play { conns = changed conn shut play.conns; log = play.log ++ Dropped conn ∷ [] }

-- a place for each connection that opens by steps
abbrev pub places : LogStep → List Conn
places Opened = unopened ∷ []
places (Bytes conn octets) = []
places (Writable conn) = []
places (Closed conn) = []
places Idle = []
places Fail = []
places (Room conn octets) = []

-- a place for `connect`, and one for each connection that opens by the steps
abbrev pub new_conns : List LogStep → List Conn
new_conns steps = unopened ∷ flat_map places steps

-- after a step was added behind the last one
abbrev pub after_add : LogStep → Play → Play
after_add step play = record play { steps = play.steps ++ step ∷ []; conns = play.conns ++ places step }

-- ---- the log

-- the octets that an entry of the log says were sent to a connection
abbrev pub sent_by : ℕ → Entry → List ℕ
sent_by conn (Happened told) = []
sent_by conn (Sent other offered taken) = if other == conn then taken else []
sent_by conn (Dropped other) = []

-- the octets that the sends to a connection took, in their order
abbrev pub sent_to : ℕ → List Entry → List ℕ
sent_to conn entries = flat_map (sent_by conn) entries

-- what a call of `next` adds to the log
abbrev pub entries_of : Option Event → List Entry
entries_of None = []
entries_of (Some told) = Happened told ∷ []

-- A room of 4 lets a send of 9 octets take 4, a piece of 3 lets it take 3, and a room of 3 lets it take 1 behind a send
-- that took 2; a connection that is not open takes nothing. What was sent to a connection is what the sends to it took.
pub play_examples :
    (count_at None (after_rooms (Room 0 4 ∷ Idle ∷ []) (opened unopened ∷ [])) 0 9 ≡ 4)
    × (count_at (Some 3) (opened unopened ∷ []) 0 9 ≡ 3)
    × (count_at None (changed 0 (after_send (1 ∷ 2 ∷ [])) (with_room 3 (opened unopened) ∷ [])) 0 9 ≡ 1)
    × (count_at None (shut (opened unopened) ∷ []) 0 9 ≡ 0)
    × (from_event (Room 0 4 ∷ Fail ∷ Idle ∷ []) ≡ Fail ∷ Idle ∷ [])
    × (sent_to 0 (Sent 0 3 (7 ∷ []) ∷ Sent 1 1 (8 ∷ []) ∷ Dropped 0 ∷ []) ≡ 7 ∷ [])
play_examples = (refl, refl, refl, refl, refl, refl)

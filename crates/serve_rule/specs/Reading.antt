-- An event is processed: frames are read, and the calls that they complete are answered, or begin to wait.
use Rattle.std.specs.Prelude.{◌≡◌, ◌<◌, ℕ, zero, suc, ◌+◌, ◌&&◌, not, is_none, Bool, true, false, List, [], ◌∷◌, length}
use Rattle.std.specs.List.{list_any}
use Rattle.cycle_rules.specs.Circuit.{Bits}
use Rattle.esi_links.specs.declared.links.Event.{Event}
use Rattle.esi_links.specs.declared.links.Event.TheVariants.{Bytes, Closed}
use Rattle.h2_history.specs.History.{Entry, turn_entries}
use Rattle.h2_layouts.specs.declared.code.TheConstants.{NO_ERROR}
use Rattle.serve_acts.specs.Acts.{Act}
use Rattle.serve_acts.specs.Acts.Act.{Happens, Reads, Arrives, Declines, Lists, Attaches, Resets, Returns}
use Rattle.serve_acts.specs.Attachments.{newest}
use Rattle.serve_acts.specs.Calls.{is_of, calls, is_withdrawn}
use Rattle.serve_acts.specs.Connections.{is_connected}
use Rattle.serve_acts.specs.Served.{Served, Replies, is_failure}
use Rattle.serve_acts.specs.Streams.{is_replied}
use Rattle.serve_acts.specs.declared.call.Call.{Call}
use Rattle.serve_acts.specs.declared.decline.Decline.{Decline}
use Rattle.serve_acts.specs.declared.decline.Decline.TheVariants.{Status}
use Rattle.serve_acts.specs.declared.limits.TheConstants.{RESOURCE_EXHAUSTED, ALREADY_EXISTS}
use Rattle.serve_rule.specs.Connection.{stands, is_off, goes_on, open_streams, no_more}
use Rattle.serve_rule.specs.Performing.{performed}
use Rattle.serve_rule.specs.Polls.{polled}

-- ---- what reading asks of a server

-- what a call asks for: a value to be put on a to-server channel, the list of channels (with the octets of its message), a
-- to-client channel to be attached; or it fails
pub data Asking : Type 0 where
  Value : (channel : ℕ) (word : Bits) → Asking
  Listing : (text : List ℕ) → Asking
  Attaching : (channel : ℕ) → Asking
  Failing : (decline : Decline) → Asking

-- what a frame brings: nothing that concerns a call, a call that is complete, or a request that is longer than a request may be;
-- `flow` is how many octets of DATA the request took of the windows
pub data Brought : Type 0 where
  Nothing : Brought
  Completed : (stream flow : ℕ) (asking : Asking) → Brought
  Overlong : (stream flow : ℕ) → Brought

-- channels that there are, words of the channel, statuses that say that the call failed
abbrev pub IsAsking : {S : Type 0} → Served S → Asking → Type 0
IsAsking served (Value channel word) = (channel < served.circuit.to_server_count) × (served.is_value channel word ≡ true)
IsAsking served (Listing text) = Unit {0}
IsAsking served (Attaching channel) = channel < served.circuit.to_client_count
IsAsking served (Failing decline) = is_failure decline ≡ true

-- `brings` tells what the next frame of a connection brings, and `keeps` how many octets of DATA of a stream's request were not
-- given back
pub record Reader {S : Type 0} (served : Served S) : Type 0 where
  pub brings : ℕ → List Act → Brought
  pub keeps : ℕ → ℕ → List Act → ℕ
  pub asks : (conn stream flow : ℕ) (asking : Asking) (t : List Act) → brings conn t ≡ Completed stream flow asking → IsAsking served asking

-- ---- octets that are given back

abbrev pub returned_octets : ℕ → Replies → ℕ → ℕ → List Act → List Act
returned_octets zero replies c stream t = t
returned_octets (suc octets) replies c stream t = performed replies c (Returns c stream (suc octets)) t

abbrev pub returned_if : Bool → ℕ → Replies → ℕ → ℕ → List Act → List Act
returned_if true octets replies c stream t = returned_octets octets replies c stream t
returned_if false octets replies c stream t = t

-- of each stream that was reset, where its connection goes on
unfoldable pub returned : {S : Type 0} → (served : Served S) → Reader served → ℕ → List ℕ → List Act → List Act
returned served reader c [] t = t
returned served reader c (stream ∷ streams) t =
    returned served reader c streams (returned_if (goes_on served.replies c t && is_off served.replies c stream t) (reader.keeps c stream t) served.replies c stream t)

-- ---- what a call is answered

-- no call came on the stream yet, and no reply was begun
abbrev pub is_fresh : ℕ → ℕ → List Act → Bool
is_fresh c stream t = not (list_any (is_of c stream) (calls t)) && not (is_replied c stream t)

abbrev pub arrived_unless : Bool → Call → List Act → List Act
arrived_unless true call t = t
arrived_unless false call t = Arrives call ∷ t

abbrev pub arrived : Call → List Act → List Act
arrived call t = arrived_unless (is_withdrawn t call) call t

-- a channel is attached once in a session
abbrev pub attached_if : Bool → Replies → ℕ → ℕ → ℕ → ℕ → List Act → List Act
attached_if true replies channel c stream flow t = performed replies c (Attaches channel c stream flow) t
attached_if false replies channel c stream flow t = performed replies c (Declines c stream flow (Status ALREADY_EXISTS)) t

abbrev pub answered : Replies → ℕ → ℕ → ℕ → Asking → List Act → List Act
answered replies c stream flow (Value channel word) t = arrived (record { channel = channel; conn = c; stream = stream; flow = flow; word = word }) t
answered replies c stream flow (Listing text) t = polled replies c stream (performed replies c (Lists c stream flow text) t)
answered replies c stream flow (Attaching channel) t = attached_if (is_none (newest channel t)) replies channel c stream flow t
answered replies c stream flow (Failing decline) t = performed replies c (Declines c stream flow decline) t

-- a request that is too long is answered so, and its stream is reset
abbrev pub reset_unless : Bool → Replies → ℕ → ℕ → List Act → List Act
reset_unless true replies c stream t = t
reset_unless false replies c stream t = performed replies c (Resets c stream NO_ERROR) t

abbrev pub refused_and_reset : Replies → ℕ → ℕ → List Act → List Act
refused_and_reset replies c stream t = reset_unless (is_off replies c stream t) replies c stream t

abbrev pub overlong_if : Bool → Replies → ℕ → ℕ → ℕ → List Act → List Act
overlong_if true replies c stream flow t = refused_and_reset replies c stream (performed replies c (Declines c stream flow (Status RESOURCE_EXHAUSTED)) t)
overlong_if false replies c stream flow t = t

abbrev pub answered_if : Bool → Replies → ℕ → ℕ → ℕ → Asking → List Act → List Act
answered_if true replies c stream flow asking t = answered replies c stream flow asking t
answered_if false replies c stream flow asking t = t

-- a stream has one call, which is answered once
abbrev pub reacted : Replies → ℕ → Brought → List Act → List Act
reacted replies c Nothing t = t
reacted replies c (Completed stream flow asking) t = answered_if (is_fresh c stream t) replies c stream flow asking t
reacted replies c (Overlong stream flow) t = overlong_if (is_fresh c stream t) replies c stream flow t

-- ---- frames, one after another

-- what is owed for the frame at once is put as it is read; then octets of streams that it reset are given back
abbrev pub after_reading : {S : Type 0} → (served : Served S) → Reader served → ℕ → List ℕ → Brought → List Act → List Act
after_reading served reader c before brought read = reacted served.replies c brought (returned served reader c (no_more before (open_streams served.replies c read)) read)

unfoldable pub read_frame : {S : Type 0} → (served : Served S) → Reader served → ℕ → List Act → List Act
read_frame served reader c t =
    after_reading served reader c (open_streams served.replies c t) (reader.brings c t) (performed served.replies c (Reads c) t)

abbrev pub read_step : {S : Type 0} → List Entry → (served : Served S) → Reader served → ℕ → (List Act → List Act) → List Act → List Act
read_step [] served reader c next t = t
read_step (entry ∷ entries) served reader c next t = next (read_frame served reader c t)

-- so many frames, while something is to be read
unfoldable pub read_by : {S : Type 0} → ℕ → (served : Served S) → Reader served → ℕ → List Act → List Act
read_by zero served reader c t = t
read_by (suc frames) served reader c t = read_step (turn_entries (stands served.replies c t)) served reader c (read_by frames served reader c) t

-- ---- the event

-- a connection that is gone ends its streams
unfoldable pub told : Replies → Event → List Act → List Act
told replies (Closed conn) t = performed replies conn (Happens (Closed conn)) t
told replies event t = Happens event ∷ t

abbrev pub read_if : Bool → {S : Type 0} → (served : Served S) → Reader served → ℕ → List Act → List Act
read_if true served reader c t = read_by (length (stands served.replies c t).reading.unread + 1) served reader c t
read_if false served reader c t = t

-- octets of a connection that is open are read
unfoldable pub heard : {S : Type 0} → (served : Served S) → Reader served → Event → List Act → List Act
heard served reader (Bytes conn octets) t = read_if (is_connected conn t) served reader conn t
heard served reader event t = t

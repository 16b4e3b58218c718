-- What each act asks for, after the acts before it.
use Rattle.std.specs.Prelude.{◌≡◌, ◌≢◌, ℕ, ◌<◌, ◌≤◌, ◌⊎◌, true, false, Some, List, [], ◌∷◌, length}
use Rattle.std.specs.List.{list_any}
use Rattle.cycle_rules.specs.Circuit.{Bits}
use Rattle.cycle_rules.specs.Lists.{first}
use Rattle.cycle_rules.specs.Rings.{ring_at, front_of, has_room}
use Rattle.cycle_rules.specs.declared.limits.TheConstants.{SESSION_VALUES}
use Rattle.h2_history.specs.Standing.{may_put}
use Rattle.serve_acts.specs.Acts.{Act}
use Rattle.serve_acts.specs.Acts.Act.{Sends, Drops, Arrives, Ends, Takes, Refuses, Declines, Lists, Attaches, Hands, Puts, Finishes, Settles, Cycles}
use Rattle.serve_acts.specs.Attachments.{Attachment, newest, is_free}
use Rattle.serve_acts.specs.Calls.{is_of, calls, taken, waiting, is_withdrawn}
use Rattle.serve_acts.specs.Connections.{is_connected, is_turned_away}
use Rattle.serve_acts.specs.Histories.{standing, unsent, is_broken, is_cut}
use Rattle.serve_acts.specs.Machines.{machine, is_settled, has_handed}
use Rattle.serve_acts.specs.Prefixes.{Begins}
use Rattle.serve_acts.specs.Served.{Served, is_failure}
use Rattle.serve_acts.specs.Streams.{Held, held, is_replied}
use Rattle.serve_acts.specs.declared.call.Call.{Call}
use Rattle.serve_acts.specs.declared.decline.Decline.{Decline}

-- no call came on the stream yet, and no reply was begun
pub record IsNew (conn stream : ℕ) (t : List Act) : Type 0 where
  pub no_call : list_any (is_of conn stream) (calls t) ≡ false
  pub no_reply : is_replied conn stream t ≡ false

-- a value is due: the call waits, before all others of its channel, and its stream is not cut
pub record IsDue {S : Type 0} (served : Served S) (call : Call) (t : List Act) : Type 0 where
  pub front : first (waiting call.channel t) ≡ Some call
  pub uncut : is_cut served.replies call.conn call.stream t ≡ false
  pub before : is_settled t ≡ false

-- a call waits whose stream has not ended, for a channel that there is
pub record MayArrive {S : Type 0} (served : Served S) (call : Call) (t : List Act) : Type 0 where
  pub is_new : IsNew call.conn call.stream t
  pub channel : call.channel < served.circuit.to_server_count
  pub stands : is_withdrawn t call ≡ false
  pub value : served.is_value call.channel call.word ≡ true

-- a value is taken while fewer than the session's are, into a ring with room, before the transfers of its cycle
pub record MayTake {S : Type 0} (served : Served S) (call : Call) (t : List Act) : Type 0 where
  pub due : IsDue served call t
  pub fewer : length (taken t) < SESSION_VALUES
  pub channel : call.channel < served.circuit.to_server_count
  pub room : has_room (ring_at (machine served t).to_server call.channel) ≡ true

-- a call is answered that the session is full only where it is
pub record MayRefuse {S : Type 0} (served : Served S) (call : Call) (t : List Act) : Type 0 where
  pub due : IsDue served call t
  pub full : SESSION_VALUES ≤ length (taken t)

-- a call of a new stream is answered by a status that says that it failed
pub record MayDecline (conn stream : ℕ) (decline : Decline) (t : List Act) : Type 0 where
  pub is_new : IsNew conn stream t
  pub failed : is_failure decline ≡ true

-- a stream is attached to a channel to which no other is
pub record MayAttach {S : Type 0} (served : Served S) (channel conn stream : ℕ) (t : List Act) : Type 0 where
  pub is_new : IsNew conn stream t
  pub channel_is : channel < served.circuit.to_client_count
  pub free : is_free served.replies channel t ≡ true

-- a value is handed, the oldest of its ring and the only one of its channel in this cycle, after its transfers, to the stream
-- that is attached to it, where that is not cut and has no octet that was not put
pub record MayHand {S : Type 0} (served : Served S) (channel conn stream : ℕ) (word : Bits) (t : List Act) : Type 0 where
  pub there : Attachment
  pub is_newest : newest channel t ≡ Some there
  pub conn_is : there.conn ≡ conn
  pub stream_is : there.stream ≡ stream
  pub idle : held served.replies conn stream t ≡ Some (record { unsent = []; ends = false })
  pub uncut : is_cut served.replies conn stream t ≡ false
  pub front : front_of (machine served t).to_client channel ≡ Some word
  pub channel_is : channel < served.circuit.to_client_count
  pub after : is_settled t ≡ true
  pub once : has_handed channel t ≡ false

-- of what the stream has to send the first octets are put, as many as the windows and the room let through
pub record MayPut {S : Type 0} (served : Served S) (conn stream : ℕ) (octets : List ℕ) (t : List Act) : Type 0 where
  pub there : Held
  pub is_held : held served.replies conn stream t ≡ Some there
  pub begins : Begins octets there.unsent
  pub within : length octets ≤ may_put stream (standing served.replies conn t)

-- of what waits on an open connection the first octets are taken
pub record MaySend {S : Type 0} (served : Served S) (conn : ℕ) (octets : List ℕ) (t : List Act) : Type 0 where
  pub connected : is_connected conn t ≡ true
  pub waits : unsent served.replies conn t ≢ []
  pub begins : Begins octets (unsent served.replies conn t)

-- a connection is dropped for its error, or since there was no room for it
abbrev pub MayDrop : {S : Type 0} → Served S → ℕ → List Act → Type 0
MayDrop served conn t = ((is_connected conn t ≡ true) × (is_broken served.replies conn t ≡ true)) ⊎ (is_turned_away conn t ≡ true)

-- what the act asks for; those that are not named ask for nothing
abbrev pub Allowed : {S : Type 0} → Served S → Act → List Act → Type 0
Allowed served (Arrives call) t = MayArrive served call t
Allowed served (Ends conn stream) t = is_cut served.replies conn stream t ≡ true
Allowed served (Takes call) t = MayTake served call t
Allowed served (Refuses call) t = MayRefuse served call t
Allowed served (Declines conn stream flow decline) t = MayDecline conn stream decline t
Allowed served (Lists conn stream flow text) t = IsNew conn stream t
Allowed served (Attaches channel conn stream flow) t = MayAttach served channel conn stream t
Allowed served (Hands channel conn stream word) t = MayHand served channel conn stream word t
Allowed served (Puts conn stream octets) t = MayPut served conn stream octets t
Allowed served (Finishes conn stream) t = held served.replies conn stream t ≡ Some (record { unsent = []; ends = true })
Allowed served (Sends conn octets) t = MaySend served conn octets t
Allowed served (Drops conn) t = MayDrop served conn t
Allowed served Settles t = is_settled t ≡ false
Allowed served Cycles t = is_settled t ≡ true
Allowed served act t = Unit {0}

-- each act is what the acts before it allow
abbrev pub IsLegal : {S : Type 0} → Served S → List Act → Type 0
IsLegal served [] = Unit {0}
IsLegal served (act ∷ t) = Allowed served act t × IsLegal served t

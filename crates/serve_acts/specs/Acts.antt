-- What a server does, one act at a time.
use Rattle.std.specs.Prelude.{ℕ, List}
use Rattle.cycle_rules.specs.Circuit.{Bits}
use Rattle.esi_links.specs.declared.links.Event.{Event}
use Rattle.serve_acts.specs.declared.call.Call.{Call}
use Rattle.serve_acts.specs.declared.decline.Decline.{Decline}

-- A session is the list of the server's acts, the newest first, so that what was done before an act is the rest of the list.
-- `flow` is how many octets of DATA a request took of the windows.
pub data Act : Type 0 where
  -- the links: an event was told; the octets that wait on a connection were offered, whole, and these of them were taken; a
  -- connection was dropped
  Happens : (event : Event) → Act
  Sends : (conn : ℕ) (octets : List ℕ) → Act
  Drops : (conn : ℕ) → Act
  -- a connection read on: its next frame, or that its octets break a rule
  Reads : (conn : ℕ) → Act
  -- a call of SendToServer is completed and waits; a stream has ended before its reply was whole
  Arrives : (call : Call) → Act
  Ends : (conn stream : ℕ) → Act
  -- a value is taken into its channel's ring, and its call is answered OK; a call that waits is answered since the session is
  -- full
  Takes : (call : Call) → Act
  Refuses : (call : Call) → Act
  -- a call is answered at once: by a header list alone, by the list of channels, by attaching its stream to a channel
  Declines : (conn stream flow : ℕ) (decline : Decline) → Act
  Lists : (conn stream flow : ℕ) (text : List ℕ) → Act
  Attaches : (channel conn stream flow : ℕ) → Act
  -- a channel's oldest value leaves its ring, and is the attached stream's to send
  Hands : (channel conn stream : ℕ) (word : Bits) → Act
  -- DATA of a reply is put; a reply ends with its trailers
  Puts : (conn stream : ℕ) (octets : List ℕ) → Act
  Finishes : (conn stream : ℕ) → Act
  -- this end resets a stream; octets of DATA of a stream that was reset are given back
  Resets : (conn stream code : ℕ) → Act
  Returns : (conn stream octets : ℕ) → Act
  -- all nets settle and all transfers move; a cycle is over
  Settles : Act
  Cycles : Act

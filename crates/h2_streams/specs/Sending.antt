-- What the calls that put something answer.
use Rattle.std.specs.Prelude.{◌≡◌, ℕ, ◌≤◌, ◌<◌, min, false, List, length, take, Result, Ok, Err}
use Rattle.esi_base.specs.declared.poll.Poll.{Poll}
use Rattle.esi_base.specs.declared.poll.Poll.TheVariants.{Ready, Pending}
use Rattle.hpack.specs.declared.header.Header.{Header}
use Rattle.h2_history.specs.Puts.{out, offered}
use Rattle.h2_history.specs.Puts.Put.{Plain, Headers}
use Rattle.h2_history.specs.Sending.{next_stream}
use Rattle.h2_history.specs.Standing.{Standing, may_put, stream_limit}
use Rattle.h2_layouts.specs.declared.frame.Frame.TheVariants.{Content}
use Rattle.h2_layouts.specs.declared.limit.TheConstants.{LONGEST_PAYLOAD}
use Rattle.h2_streams.specs.declared.sending.OpenStop.{OpenStop}
use Rattle.h2_streams.specs.declared.sending.OpenStop.TheVariants.{TooMany, NoMemory}

-- so many octets were put, as one DATA frame
pub record IsSent (stream : ℕ) (octets : List ℕ) (old : Standing) (count : ℕ) (new : Standing) : Type 0 where
  pub some : 0 < may_put stream old
  pub count_is : count ≡ min (min (may_put stream old) (length octets)) LONGEST_PAYLOAD
  pub put : new ≡ out (Plain (Content stream false (take count octets) count)) old

-- nothing may be put, and nothing has changed
pub record IsShut (stream : ℕ) (old new : Standing) : Type 0 where
  pub none : may_put stream old ≡ 0
  pub unchanged : new ≡ old

abbrev pub Sends : ℕ → List ℕ → Standing → Poll ℕ → Standing → Type 0
Sends stream octets old (Ready count) new = IsSent stream octets old count new
Sends stream octets old Pending new = IsShut stream old new

-- the next stream was opened
pub record IsOpened (headers : List Header) (old : Standing) (stream : ℕ) (new : Standing) : Type 0 where
  pub few : length old.streams < stream_limit old
  pub next : stream ≡ next_stream old
  pub put : new ≡ offered (Headers stream false headers) old

-- as many streams are open as may be, and nothing has changed
pub record IsFull (old new : Standing) : Type 0 where
  pub many : stream_limit old ≤ length old.streams
  pub unchanged : new ≡ old

abbrev pub Opens : List Header → Standing → Result ℕ OpenStop → Standing → Type 0
Opens headers old (Ok stream) new = IsOpened headers old stream new
Opens headers old (Err TooMany) new = IsFull old new
Opens headers old (Err NoMemory) new = new ≡ old

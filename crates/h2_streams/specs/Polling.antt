-- What the calls of reading answer.
use Rattle.std.specs.Prelude.{◌≡◌, Bool, true, false, Result, Ok, Err}
use Rattle.esi_base.specs.declared.poll.Poll.{Poll}
use Rattle.esi_base.specs.declared.poll.Poll.TheVariants.{Ready, Pending}
use Rattle.esi_base.specs.declared.stop.NoMemory.{NoMemory}
use Rattle.h2_history.specs.declared.event.CallEvent.{CallEvent}
use Rattle.h2_history.specs.History.{turn_of, IsReported, IsAtRest}
use Rattle.h2_history.specs.History.Turn.{Rests as at_rest, Goes as goes_on, Reports as reports_of}
use Rattle.h2_history.specs.Standing.{Standing}
use Rattle.h2_streams.specs.declared.reading.Turn.{Turn}
use Rattle.h2_streams.specs.declared.reading.Turn.TheVariants.{Rests, Goes, Reports}

-- one turn led from the one to the other
abbrev pub Turns : Standing → Turn → Standing → Type 0
Turns old Rests new = (turn_of old ≡ at_rest) × (new ≡ old)
Turns old Goes new = turn_of old ≡ goes_on new
Turns old (Reports event) new = turn_of old ≡ reports_of new event

abbrev pub Answer : Type 0
Answer = Poll (Result CallEvent NoMemory)

-- turns led from the one to the other, and the last of them is answered
abbrev pub Runs : Standing → Answer → Standing → Type 0
Runs old (Ready (Ok event)) new = IsReported old new event
Runs old (Ready (Err stop)) new = Unit {0}
Runs old Pending new = IsAtRest old new

abbrev pub IsOutOfMemory : Answer → Type 0
IsOutOfMemory (Ready (Ok event)) = ⊥
IsOutOfMemory (Ready (Err stop)) = Unit {0}
IsOutOfMemory Pending = ⊥

-- memory may run out, and then the connection keeps it
abbrev pub PollsLive : Standing → Answer → Standing → Type 0
PollsLive old (Ready (Ok event)) new = IsReported old new event
PollsLive old (Ready (Err stop)) new = new.failed ≡ true
PollsLive old Pending new = IsAtRest old new

-- out of memory is reported again
abbrev pub PollsBy : Bool → Standing → Answer → Standing → Type 0
PollsBy true old answer new = IsOutOfMemory answer × (new ≡ old)
PollsBy false old answer new = PollsLive old answer new

abbrev pub Polls : Standing → Answer → Standing → Type 0
Polls old answer new = PollsBy old.failed old answer new

-- Requests, as a connection's history has them: the header list and the DATA of each stream.
use Rattle.std.specs.Prelude.{ℕ, ◌+◌, ◌==◌, nat_lt, if◌then◌else◌, Bool, true, false, List, [], ◌∷◌, ◌++◌, length}
use Rattle.h2_history.specs.declared.event.CallEvent.{CallEvent}
use Rattle.h2_history.specs.declared.event.CallEvent.TheVariants as events
use Rattle.h2_history.specs.History.{Turn, turn_of}
use Rattle.h2_history.specs.History.Turn.{Rests, Goes, Reports}
use Rattle.h2_history.specs.Standing.{Standing}
use Rattle.hpack.specs.declared.header.Header.{Header}
use Rattle.serve_acts.specs.Acts.{Act}
use Rattle.serve_acts.specs.Acts.Act.{Reads}
use Rattle.serve_acts.specs.Served.{Replies}
use Rattle.serve_reader.specs.declared.limits.TheConstants.{LONGEST_REQUEST}
use Rattle.serve_rule.specs.Connection.{stands}

-- what has come of it: whether its header list has, that list, its octets of DATA, and how many octets they took of the windows
pub record Request : Type 0 where
  pub begun : Bool
  pub headers : List Header
  pub octets : List ℕ
  pub flow : ℕ

abbrev pub no_request : Request
no_request = record { begun = false; headers = []; octets = []; flow = 0 }

-- the first header list of a stream is the request's; a later one is its trailers, which say nothing
abbrev pub with_list : List Header → Request → Request
with_list headers old = if old.begun then old else record { begun = true; headers = headers; octets = old.octets; flow = old.flow }

abbrev pub with_part : List ℕ → ℕ → Request → Request
with_part octets flow old = record { begun = old.begun; headers = old.headers; octets = old.octets ++ octets; flow = old.flow + flow }

-- what an event adds to a stream's request
abbrev pub with_event : ℕ → CallEvent → Request → Request
with_event s (events.Head stream headers end) old = if stream == s then with_list headers old else old
with_event s (events.Part stream octets flow end) old = if stream == s then with_part octets flow old else old
with_event s event old = old

-- what reading the next frame adds to it
abbrev pub with_turn : ℕ → Turn → Request → Request
with_turn s Rests old = old
with_turn s (Goes left) old = old
with_turn s (Reports left event) old = with_event s event old

abbrev pub with_frame : ℕ → Standing → Request → Request
with_frame s standing old = with_turn s (turn_of standing) old

-- a stream's request after a session's acts
abbrev pub request_of : Replies → ℕ → ℕ → List Act → Request
request_of replies c s [] = no_request
request_of replies c s (Reads conn ∷ t) = if conn == c then with_frame s (stands replies c t) (request_of replies c s t) else request_of replies c s t
request_of replies c s (act ∷ t) = request_of replies c s t

-- it is longer than a request may be
abbrev pub is_overlong : Request → Bool
is_overlong request = nat_lt LONGEST_REQUEST (length request.octets)

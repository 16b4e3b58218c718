-- What the small server reads, by the connection's own history: a call is HEADERS and one frame of DATA that ends the stream,
-- of which the first octet says what is asked.
use Rattle.std.proofs.Common.{◌≡◌, ℕ, ◌==◌, if◌then◌else◌, Bool, true, false, List, [], ◌∷◌, refl, ap, subst, arith}
use Rattle.h2_history.specs.declared.event.CallEvent.{CallEvent}
use Rattle.h2_history.specs.declared.event.CallEvent.TheVariants as events
use Rattle.h2_history.specs.History.{Turn, turn_of}
use Rattle.h2_history.specs.History.Turn.{Rests, Goes, Reports}
use Rattle.h2_history.specs.Standing.{Standing}
use Rattle.serve_acts.specs.Acts.{Act}
use Rattle.serve_acts.specs.Calls.{is_of, calls}
use Rattle.serve_acts.specs.Streams.{is_replied}
use Rattle.serve_acts.specs.declared.call.Call.{Call}
use Rattle.serve_acts.specs.declared.decline.Decline.TheVariants.{Status}
use Rattle.serve_cases.specs.SmallServer.{small, small_replies, octet_bits}
use Rattle.serve_rule.specs.Connection.{stands}
use Rattle.serve_rule.specs.Reading.{Asking, Brought, IsAsking, Reader}
use Rattle.serve_rule.specs.Reading.Asking.{Value, Listing, Attaching, Failing}
use Rattle.serve_rule.specs.Reading.Brought.{Nothing, Completed, Overlong}

-- ---- what is asked: `a` to attach the channel, `v` to put the value of the next octet, `l` for the list of channels

abbrev first_or : ℕ → List ℕ → ℕ
first_or other [] = other
first_or other (octet ∷ octets) = octet

abbrev asking_if : Bool → Bool → Bool → List ℕ → Asking
asking_if true value list octets = Attaching 0
asking_if false true list octets = Value 0 (octet_bits (first_or 0 octets))
asking_if false false true octets = Listing (0 ∷ 0 ∷ 0 ∷ 0 ∷ 0 ∷ [])
asking_if false false false octets = Failing (Status 12)

abbrev asking_of : List ℕ → Asking
asking_of [] = Failing (Status 3)
asking_of (kind ∷ octets) = asking_if (kind == 97) (kind == 118) (kind == 108) octets

-- ---- what a frame brings, by what the connection reports of it; a second frame of DATA is more than a request may have

abbrev brought_by_event : CallEvent → Brought
brought_by_event (events.Head stream headers true) = Completed stream 0 (Failing (Status 3))
brought_by_event (events.Part stream octets flow true) = Completed stream flow (asking_of octets)
brought_by_event (events.Part stream octets flow false) = Overlong stream flow
brought_by_event event = Nothing

abbrev brought_in : Turn → Brought
brought_in Rests = Nothing
brought_in (Goes left) = Nothing
brought_in (Reports left event) = brought_by_event event

abbrev pub brought_by : Standing → Brought
brought_by s = brought_in (turn_of s)

-- ---- octets of DATA are given back as a call is answered, so only those of a call that waits are not

abbrev flow_of : ℕ → ℕ → List Call → ℕ
flow_of c s [] = 0
flow_of c s (call ∷ others) = if is_of c s call then call.flow else flow_of c s others

abbrev kept_octets : ℕ → ℕ → List Act → ℕ
kept_octets c s t = if is_replied c s t then 0 else flow_of c s (calls t)

-- ---- what is asked is in range

if_asks : (attach value list : Bool) (octets : List ℕ) → IsAsking small (asking_if attach value list octets)
if_asks true value list octets = omega arith
if_asks false true list octets = (omega arith, refl)
if_asks false false true octets = tt
if_asks false false false octets = refl

asks_of : (octets : List ℕ) → IsAsking small (asking_of octets)
asks_of [] = refl
asks_of (kind ∷ octets) = if_asks (kind == 97) (kind == 118) (kind == 108) octets

abbrev asked_in : Asking → Brought → Asking
asked_in other (Completed stream flow asking) = asking
asked_in other brought = other

event_asks : (event : CallEvent) (stream flow : ℕ) (asking : Asking) → brought_by_event event ≡ Completed stream flow asking → IsAsking small asking
event_asks (events.Head at headers true) stream flow asking is = subst (λ (a : Asking). IsAsking small a) (ap (asked_in asking) is) refl
event_asks (events.Part at octets count true) stream flow asking is = subst (λ (a : Asking). IsAsking small a) (ap (asked_in asking) is) (asks_of octets)
event_asks (events.Part at octets count false) stream flow asking is = cc
event_asks event stream flow asking is = cc

pub turn_asks : (turn : Turn) (stream flow : ℕ) (asking : Asking) → brought_in turn ≡ Completed stream flow asking → IsAsking small asking
turn_asks Rests stream flow asking is = cc
turn_asks (Goes left) stream flow asking is = cc
turn_asks (Reports left event) stream flow asking is = event_asks event stream flow asking is

-- a reader over the history of each connection
abbrev pub small_reader : Reader small
small_reader = record {
  brings = λ conn t. brought_by (stands small_replies conn t);
  keeps = λ conn stream t. kept_octets conn stream t;
  asks = λ conn stream flow asking t is. turn_asks (turn_of (stands small_replies conn t)) stream flow asking is;
}

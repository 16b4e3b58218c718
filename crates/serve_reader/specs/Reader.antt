-- What reading a frame gives, by the connection's own history: a call is complete where its stream is ended by the peer.
use Rattle.std.proofs.Common.{◌≡◌, ℕ, if◌then◌else◌, Bool, true, false, List, ap, subst}
use Rattle.h2_history.specs.declared.event.CallEvent.{CallEvent}
use Rattle.h2_history.specs.declared.event.CallEvent.TheVariants as events
use Rattle.h2_history.specs.History.{Turn, turn_of}
use Rattle.h2_history.specs.History.Turn.{Rests, Goes, Reports}
use Rattle.hpack.specs.declared.header.Header.{Header}
use Rattle.serve_acts.specs.Acts.{Act}
use Rattle.serve_acts.specs.Served.{Served}
use Rattle.serve_acts.specs.Streams.{is_replied}
use Rattle.serve_reader.specs.Requests.{Request, with_event, request_of, is_overlong}
use Rattle.serve_rule.specs.Connection.{stands}
use Rattle.serve_rule.specs.Reading.{Asking, Brought, IsAsking, Reader}
use Rattle.serve_rule.specs.Reading.Brought.{Nothing, Completed, Overlong}

-- `asked` is what a call asks for, by its header list and its octets: always something that is in range
pub record Content {S : Type 0} (served : Served S) : Type 0 where
  pub asked : List Header → List ℕ → Asking
  pub in_range : (headers : List Header) (octets : List ℕ) → IsAsking served (asked headers octets)

module _ {S : Type 0} (served : Served S) (content : Content served) where
  -- a request that is longer than one may be; one that its peer has ended, which is complete; one that goes on
  abbrev pub brought_if : Bool → Bool → ℕ → Request → Brought
  brought_if true end s request = Overlong s request.flow
  brought_if false true s request = Completed s request.flow (content.asked request.headers request.octets)
  brought_if false false s request = Nothing

  abbrev pub brought_by : Bool → ℕ → Request → Brought
  brought_by end s request = brought_if (is_overlong request) end s request

  -- by what is reported, where the stream's request was so before
  abbrev pub brought_in : CallEvent → (ℕ → Request) → Brought
  brought_in (events.Head s headers end) before = brought_by end s (with_event s (events.Head s headers end) (before s))
  brought_in (events.Part s octets flow end) before = brought_by end s (with_event s (events.Part s octets flow end) (before s))
  brought_in event before = Nothing

  abbrev pub brought_at : Turn → (ℕ → Request) → Brought
  brought_at Rests before = Nothing
  brought_at (Goes left) before = Nothing
  brought_at (Reports left event) before = brought_in event before

  -- DATA is given back when its call is answered
  abbrev pub kept_flow : ℕ → ℕ → List Act → ℕ
  kept_flow c s t = if is_replied c s t then 0 else (request_of served.replies c s t).flow

  abbrev asking_in : Asking → Brought → Asking
  asking_in other (Completed s flow asking) = asking
  asking_in other brought = other

  asks_if : (long end : Bool) (s : ℕ) (request : Request) (stream flow : ℕ) (asking : Asking) → brought_if long end s request ≡ Completed stream flow asking → IsAsking served asking
  asks_if true end s request stream flow asking is = cc
  asks_if false true s request stream flow asking is =
      subst (λ (a : Asking). IsAsking served a) (ap (asking_in asking) is) (content.in_range request.headers request.octets)
  asks_if false false s request stream flow asking is = cc

  asks_in : (event : CallEvent) (before : ℕ → Request) (stream flow : ℕ) (asking : Asking) → brought_in event before ≡ Completed stream flow asking → IsAsking served asking
  asks_in (events.Head s headers end) before stream flow asking is =
      asks_if (is_overlong (with_event s (events.Head s headers end) (before s))) end s (with_event s (events.Head s headers end) (before s)) stream flow asking is
  asks_in (events.Part s octets count end) before stream flow asking is =
      asks_if (is_overlong (with_event s (events.Part s octets count end) (before s))) end s (with_event s (events.Part s octets count end) (before s)) stream flow asking is
  asks_in event before stream flow asking is = cc

  pub asks_at : (turn : Turn) (before : ℕ → Request) (stream flow : ℕ) (asking : Asking) → brought_at turn before ≡ Completed stream flow asking → IsAsking served asking
  asks_at Rests before stream flow asking is = cc
  asks_at (Goes left) before stream flow asking is = cc
  asks_at (Reports left event) before stream flow asking is = asks_in event before stream flow asking is

  -- the reader over the history of each connection
  abbrev pub reader_of : Reader served
  reader_of = record {
    brings = λ c t. brought_at (turn_of (stands served.replies c t)) (λ s. request_of served.replies c s t);
    keeps = λ c s t. kept_flow c s t;
    asks = λ c stream flow asking t is. asks_at (turn_of (stands served.replies c t)) (λ s. request_of served.replies c s t) stream flow asking is;
  }

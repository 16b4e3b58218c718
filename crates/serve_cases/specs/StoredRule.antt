-- The rule of a server's turn again, word for word, on acts with the answers kept beside them. Its moves are the server's own.
use Rattle.std.specs.Prelude.{◌≡◌, ℕ, zero, suc, ◌+◌, ◌&&◌, ◌||◌, not, is_none, is_some, min, nat_le, Bool, true, false, Option, Some, None, List, [], ◌∷◌, length, take}
use Rattle.std.specs.List.{list_any}
use Rattle.cycle_rules.specs.Circuit.{Bits}
use Rattle.cycle_rules.specs.Lists.{first}
use Rattle.cycle_rules.specs.Rings.{ring_at, front_of, has_room}
use Rattle.cycle_rules.specs.declared.limits.TheConstants.{SESSION_VALUES}
use Rattle.esi_links.specs.declared.links.Event.{Event}
use Rattle.esi_links.specs.declared.links.Event.TheVariants.{Opened, Bytes, Closed}
use Rattle.h2_history.specs.History.{Entry, turn_entries}
use Rattle.h2_history.specs.Standing.{may_put}
use Rattle.h2_layouts.specs.declared.code.TheConstants.{NO_ERROR}
use Rattle.h2_layouts.specs.declared.limit.TheConstants.{LONGEST_PAYLOAD}
use Rattle.serve_acts.specs.Acts.{Act}
use Rattle.serve_acts.specs.Acts.Act.{Happens, Sends, Drops, Reads, Arrives, Ends, Takes, Refuses, Declines, Lists, Attaches, Hands, Puts, Finishes, Resets, Returns, Settles, Cycles}
use Rattle.serve_acts.specs.Attachments.{Attachment, newest}
use Rattle.serve_acts.specs.Calls.{is_of, calls, taken, waiting, is_withdrawn}
use Rattle.serve_acts.specs.Connections.{connections, is_connected, is_turned_away}
use Rattle.serve_acts.specs.Served.{Served}
use Rattle.serve_acts.specs.Streams.{Held, is_replied}
use Rattle.serve_acts.specs.declared.call.Call.{Call}
use Rattle.serve_acts.specs.declared.decline.Decline.TheVariants.{Status}
use Rattle.serve_acts.specs.declared.limits.TheConstants.{RESOURCE_EXHAUSTED, ALREADY_EXISTS, TURN_CYCLES}
use Rattle.serve_cases.specs.Stored.{Stored, stored, with_one, held_at, stands_at, is_off_at, goes_on_at, is_over_at, streams_at}
use Rattle.serve_rule.specs.Connection.{no_more, stands}
use Rattle.serve_rule.specs.Polls.{steps_of}
use Rattle.serve_rule.specs.Reading.{Asking, Brought, Reader, is_fresh}
use Rattle.serve_rule.specs.Reading.Asking.{Value, Listing, Attaching, Failing}
use Rattle.serve_rule.specs.Reading.Brought.{Nothing, Completed, Overlong}
use Rattle.serve_rule.specs.Turns.{Turn}
use Rattle.h2_history.specs.Standing.{Standing}

-- a reader that looks at how the connection stands alone
pub record ByStanding {S : Type 0} (served : Served S) (reader : Reader served) : Type 0 where
  pub brings : Standing → Brought
  pub is : (c : ℕ) (t : List Act) → reader.brings c t ≡ brings (stands served.replies c t)

module _ {S : Type 0} (served : Served S) where
  -- ---- an act, and what follows from it at once

  abbrev pub is_pending : ℕ → ℕ → Stored S → Bool
  is_pending c s v = is_some (held_at served c s v) || (list_any (is_of c s) (calls v.acts) && not (is_replied c s v.acts))

  abbrev pub ended_if : Bool → ℕ → ℕ → Stored S → Stored S
  ended_if true c s v = with_one served (Ends c s) v
  ended_if false c s v = v

  abbrev pub ended_streams : ℕ → List ℕ → Stored S → Stored S
  ended_streams c [] v = v
  ended_streams c (s ∷ others) v = ended_streams c others (ended_if (is_off_at served c s v && is_pending c s v) c s v)

  abbrev pub performed_from : ℕ → List ℕ → Stored S → Stored S
  performed_from c before v = ended_streams c (no_more before (streams_at served c v)) v

  abbrev pub performed : ℕ → Act → Stored S → Stored S
  performed c act v = performed_from c (streams_at served c v) (with_one served act v)

  -- ---- polls

  abbrev pub finished_if : Bool → ℕ → ℕ → Stored S → Stored S
  finished_if true c s v = performed c (Finishes c s) v
  finished_if false c s v = v

  abbrev pub data_step : ℕ → ℕ → ℕ → List ℕ → (Stored S → Stored S) → Stored S → Stored S
  data_step zero c s octets next v = v
  data_step (suc room) c s octets next v = next (with_one served (Puts c s (take (min (suc room) LONGEST_PAYLOAD) octets)) v)

  abbrev pub reply_step : ℕ → ℕ → List ℕ → Bool → (Stored S → Stored S) → Stored S → Stored S
  reply_step c s [] ends next v = finished_if ends c s v
  reply_step c s (octet ∷ octets) ends next v = data_step (may_put s (stands_at served c v)) c s (octet ∷ octets) next v

  abbrev pub poll_step : ℕ → ℕ → Option Held → (Stored S → Stored S) → Stored S → Stored S
  poll_step c s None next v = v
  poll_step c s (Some reply) next v = reply_step c s reply.unsent reply.ends next v

  abbrev pub polled_by : ℕ → ℕ → ℕ → Stored S → Stored S
  polled_by zero c s v = v
  polled_by (suc steps) c s v = poll_step c s (held_at served c s v) (polled_by steps c s) v

  abbrev pub polled : ℕ → ℕ → Stored S → Stored S
  polled c s v = polled_by (steps_of (held_at served c s v)) c s v

  abbrev pub polled_streams : ℕ → List ℕ → Stored S → Stored S
  polled_streams c [] v = v
  polled_streams c (s ∷ others) v = polled_streams c others (polled c s v)

  abbrev pub polled_connections : List ℕ → Stored S → Stored S
  polled_connections [] v = v
  polled_connections (c ∷ others) v = polled_connections others (polled_streams c (streams_at served c v) v)

  abbrev pub polled_all : Stored S → Stored S
  polled_all v = polled_connections (connections v.acts) v

  -- ---- takes

  abbrev pub accepted : Call → Stored S → Stored S
  accepted call v = polled call.conn call.stream (performed call.conn (Takes call) v)

  abbrev pub unless_off : Bool → Call → (Stored S → Stored S) → Stored S → Stored S
  unless_off true call answered v = with_one served (Ends call.conn call.stream) v
  unless_off false call answered v = answered v

  abbrev pub taken_if : Bool → Call → (Stored S → Stored S) → Stored S → Stored S
  taken_if true call next v = next (unless_off (is_off_at served call.conn call.stream v) call (accepted call) v)
  taken_if false call next v = v

  abbrev pub full_or : Bool → ℕ → Call → (Stored S → Stored S) → Stored S → Stored S
  full_or true channel call next v = next (unless_off (is_off_at served call.conn call.stream v) call (performed call.conn (Refuses call)) v)
  full_or false channel call next v = taken_if (has_room (ring_at v.machine.to_server channel)) call next v

  abbrev pub take_step : ℕ → Option Call → (Stored S → Stored S) → Stored S → Stored S
  take_step channel None next v = v
  take_step channel (Some call) next v = full_or (nat_le SESSION_VALUES (length (taken v.acts))) channel call next v

  abbrev pub taken_by : ℕ → ℕ → Stored S → Stored S
  taken_by zero channel v = v
  taken_by (suc count) channel v = take_step channel (first (waiting channel v.acts)) (taken_by count channel) v

  abbrev pub taken_from : ℕ → ℕ → Stored S → Stored S
  taken_from zero channel v = v
  taken_from (suc count) channel v = taken_from count (channel + 1) (taken_by (length (waiting channel v.acts)) channel v)

  -- ---- hands

  abbrev pub handed_unless : Bool → ℕ → Attachment → Bits → Stored S → Stored S
  handed_unless true channel to word v = v
  handed_unless false channel to word v = polled to.conn to.stream (with_one served (Hands channel to.conn to.stream word) v)

  abbrev pub word_step : ℕ → Attachment → Option Bits → Stored S → Stored S
  word_step channel to None v = v
  word_step channel to (Some word) v = handed_unless (is_off_at served to.conn to.stream v) channel to word v

  abbrev pub idle_step : ℕ → Attachment → List ℕ → Bool → Stored S → Stored S
  idle_step channel to [] false v = word_step channel to (front_of v.machine.to_client channel) v
  idle_step channel to unsent ends v = v

  abbrev pub held_step : ℕ → Attachment → Option Held → Stored S → Stored S
  held_step channel to None v = v
  held_step channel to (Some reply) v = idle_step channel to reply.unsent reply.ends v

  abbrev pub hand_step : ℕ → Option Attachment → Stored S → Stored S
  hand_step channel None v = v
  hand_step channel (Some to) v = held_step channel to (held_at served to.conn to.stream v) v

  abbrev pub handed_from : ℕ → ℕ → Stored S → Stored S
  handed_from zero channel v = v
  handed_from (suc count) channel v = handed_from count (channel + 1) (hand_step channel (newest channel v.acts) v)

  -- ---- cycles

  abbrev pub after_cycle : Stored S → Stored S
  after_cycle v = with_one served Cycles (handed_from served.circuit.to_client_count 0 (polled_all (with_one served Settles (taken_from served.circuit.to_server_count 0 v))))

  abbrev pub after_cycles : ℕ → Stored S → Stored S
  after_cycles zero v = v
  after_cycles (suc count) v = after_cycles count (after_cycle v)

  -- ---- what is sent

  abbrev pub offered : Bool → ℕ → List ℕ → ℕ → Stored S → Stored S
  offered true c (octet ∷ octets) count v = with_one served (Sends c (take count (octet ∷ octets))) v
  offered connected c octets count v = v

  abbrev pub dropped_if : Bool → ℕ → Stored S → Stored S
  dropped_if true c v = with_one served (Drops c) v
  dropped_if false c v = v

  abbrev pub without_over : ℕ → Stored S → Stored S
  without_over c v = dropped_if (is_over_at served c v) c v

  abbrev pub all_offered : (ℕ → ℕ) → List ℕ → Stored S → Stored S
  all_offered takes [] v = v
  all_offered takes (c ∷ others) v = all_offered takes others (without_over c (offered (is_connected c v.acts) c (stands_at served c v).output (takes c) v))

  abbrev pub turned_away : Event → Stored S → Stored S
  turned_away (Opened conn) v = dropped_if (is_turned_away conn v.acts) conn v
  turned_away event v = v

  abbrev pub sent_to_all : (ℕ → ℕ) → Stored S → Stored S
  sent_to_all takes v = all_offered takes (connections v.acts) v

  abbrev pub finished : Turn → Stored S → Stored S
  finished turn v = sent_to_all turn.takes (turned_away turn.event v)

  -- ---- answers of calls

  abbrev pub arrived_unless : Bool → Call → Stored S → Stored S
  arrived_unless true call v = v
  arrived_unless false call v = with_one served (Arrives call) v

  abbrev pub arrived : Call → Stored S → Stored S
  arrived call v = arrived_unless (is_withdrawn v.acts call) call v

  abbrev pub attached_if : Bool → ℕ → ℕ → ℕ → ℕ → Stored S → Stored S
  attached_if true channel c s flow v = performed c (Attaches channel c s flow) v
  attached_if false channel c s flow v = performed c (Declines c s flow (Status ALREADY_EXISTS)) v

  abbrev pub answered : ℕ → ℕ → ℕ → Asking → Stored S → Stored S
  answered c s flow (Value channel word) v = arrived (record { channel = channel; conn = c; stream = s; flow = flow; word = word }) v
  answered c s flow (Listing text) v = polled c s (performed c (Lists c s flow text) v)
  answered c s flow (Attaching channel) v = attached_if (is_none (newest channel v.acts)) channel c s flow v
  answered c s flow (Failing decline) v = performed c (Declines c s flow decline) v

  abbrev pub reset_unless : Bool → ℕ → ℕ → Stored S → Stored S
  reset_unless true c s v = v
  reset_unless false c s v = performed c (Resets c s NO_ERROR) v

  abbrev pub refused_and_reset : ℕ → ℕ → Stored S → Stored S
  refused_and_reset c s v = reset_unless (is_off_at served c s v) c s v

  abbrev pub overlong_if : Bool → ℕ → ℕ → ℕ → Stored S → Stored S
  overlong_if true c s flow v = refused_and_reset c s (performed c (Declines c s flow (Status RESOURCE_EXHAUSTED)) v)
  overlong_if false c s flow v = v

  abbrev pub answered_if : Bool → ℕ → ℕ → ℕ → Asking → Stored S → Stored S
  answered_if true c s flow asking v = answered c s flow asking v
  answered_if false c s flow asking v = v

  abbrev pub reacted : ℕ → Brought → Stored S → Stored S
  reacted c Nothing v = v
  reacted c (Completed s flow asking) v = answered_if (is_fresh c s v.acts) c s flow asking v
  reacted c (Overlong s flow) v = overlong_if (is_fresh c s v.acts) c s flow v

  -- ---- frames, one after another

  abbrev pub returned_octets : ℕ → ℕ → ℕ → Stored S → Stored S
  returned_octets zero c s v = v
  returned_octets (suc octets) c s v = performed c (Returns c s (suc octets)) v

  abbrev pub returned_if : Bool → ℕ → ℕ → ℕ → Stored S → Stored S
  returned_if true octets c s v = returned_octets octets c s v
  returned_if false octets c s v = v

  -- ---- the event

  abbrev pub told : Event → Stored S → Stored S
  told (Closed conn) v = performed conn (Happens (Closed conn)) v
  told event v = with_one served (Happens event) v

  module _ (reader : Reader served) (by : ByStanding served reader) where
    abbrev pub returned : ℕ → List ℕ → Stored S → Stored S
    returned c [] v = v
    returned c (s ∷ others) v = returned c others (returned_if (goes_on_at served c v && is_off_at served c s v) (reader.keeps c s v.acts) c s v)

    abbrev pub after_reading : ℕ → List ℕ → Brought → Stored S → Stored S
    after_reading c before brought v = reacted c brought (returned c (no_more before (streams_at served c v)) v)

    abbrev pub read_frame : ℕ → Stored S → Stored S
    read_frame c v = after_reading c (streams_at served c v) (by.brings (stands_at served c v)) (performed c (Reads c) v)

    abbrev pub read_step : List Entry → ℕ → (Stored S → Stored S) → Stored S → Stored S
    read_step [] c next v = v
    read_step (entry ∷ entries) c next v = next (read_frame c v)

    abbrev pub read_by : ℕ → ℕ → Stored S → Stored S
    read_by zero c v = v
    read_by (suc frames) c v = read_step (turn_entries (stands_at served c v)) c (read_by frames c) v

    abbrev pub read_if : Bool → ℕ → Stored S → Stored S
    read_if true c v = read_by (length (stands_at served c v).reading.unread + 1) c v
    read_if false c v = v

    abbrev pub heard : Event → Stored S → Stored S
    heard (Bytes conn octets) v = read_if (is_connected conn v.acts) conn v
    heard event v = v

    -- ---- turns

    abbrev pub worked : Event → Stored S → Stored S
    worked event v = after_cycles TURN_CYCLES (heard event (told event v))

    abbrev pub after_turn : Turn → Stored S → Stored S
    after_turn turn v = finished turn (worked turn.event v)

    unfoldable pub stored_session : List Turn → Stored S
    stored_session [] = stored served []
    stored_session (turn ∷ turns) = after_turn turn (stored_session turns)

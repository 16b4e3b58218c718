-- What each act within a part of a turn keeps, the processing of an event keeps.
use Rattle.std.proofs.Common.{◌≡◌, ℕ, zero, suc, ◌+◌, ◌<◌, ◌&&◌, not, is_none, Bool, true, false, Option, Some, None, List, [], ◌∷◌, length, refl}
use Rattle.std.specs.List.{list_any}
use Rattle.esi_links.specs.declared.links.Event.{Event}
use Rattle.esi_links.specs.declared.links.Event.TheVariants.{Bytes, Closed}
use Rattle.h2_history.specs.History.{Entry, turn_entries}
use Rattle.h2_layouts.specs.declared.code.TheConstants.{NO_ERROR}
use Rattle.serve_acts.specs.Acts.{Act}
use Rattle.serve_acts.specs.Acts.Act.{Happens, Reads, Arrives, Declines, Lists, Attaches, Resets, Returns}
use Rattle.serve_acts.specs.Attachments.{Attachment, newest, is_free_by}
use Rattle.serve_acts.specs.Calls.{is_of, calls, is_withdrawn}
use Rattle.serve_acts.specs.Connections.{is_connected}
use Rattle.serve_acts.specs.Legal.{IsNew}
use Rattle.serve_acts.specs.Served.{Served}
use Rattle.serve_acts.specs.Streams.{is_replied}
use Rattle.serve_acts.specs.declared.call.Call.{Call}
use Rattle.serve_acts.specs.declared.decline.Decline.{Decline}
use Rattle.serve_acts.specs.declared.decline.Decline.TheVariants.{Status}
use Rattle.serve_acts.specs.declared.limits.TheConstants.{RESOURCE_EXHAUSTED, ALREADY_EXISTS}
use Rattle.serve_rule.specs.Connection.{stands, is_off, goes_on, open_streams, no_more}
use Rattle.serve_rule.specs.Keeps.{Keeps, act_keeps, performed_keeps, polled_keeps}
use Rattle.serve_rule.specs.Performing.{performed}
use Rattle.serve_rule.specs.Reading.{Asking, Brought, IsAsking, Reader, returned_octets, returned_if, returned, is_fresh, arrived_unless, attached_if, answered, reset_unless, overlong_if, answered_if, reacted, read_frame, read_step, read_by, told, read_if, heard}
use Rattle.serve_rule.specs.Reading.Asking.{Value, Listing, Attaching, Failing}
use Rattle.serve_rule.specs.Reading.Brought.{Nothing, Completed, Overlong}

not_true : (b : Bool) → not b ≡ true → b ≡ false
not_true true e = cc
not_true false e = refl

left_true : (a b : Bool) → (a && b) ≡ true → a ≡ true
left_true true b e = refl
left_true false b e = cc

right_true : (a b : Bool) → (a && b) ≡ true → b ≡ true
right_true true b e = e
right_true false b e = cc

pub fresh_is_new : (c s : ℕ) (t : List Act) → is_fresh c s t ≡ true → IsNew c s t
fresh_is_new c s t e = record {
  no_call = not_true (list_any (is_of c s) (calls t)) (left_true (not (list_any (is_of c s) (calls t))) (not (is_replied c s t)) e);
  no_reply = not_true (is_replied c s t) (right_true (not (list_any (is_of c s) (calls t))) (not (is_replied c s t)) e);
}

module _ {S : Type 0} (served : Served S) (reader : Reader served) (P : List Act → Type 0) (k : Keeps served P) where
  -- ---- octets that are given back

  octets_keep : (octets c s : ℕ) (t : List Act) → P t → P (returned_octets octets served.replies c s t)
  octets_keep zero c s t p = p
  octets_keep (suc octets) c s t p = act_keeps served P k c (Returns c s (suc octets)) t refl tt p

  returned_if_keeps : (b : Bool) (octets c s : ℕ) (t : List Act) → P t → P (returned_if b octets served.replies c s t)
  returned_if_keeps true octets c s t p = octets_keep octets c s t p
  returned_if_keeps false octets c s t p = p

  returned_keeps : (c : ℕ) (streams : List ℕ) (t : List Act) → P t → P (returned served reader c streams t)
  unfolding returned
  returned_keeps c [] t p = p
  returned_keeps c (s ∷ streams) t p =
      returned_keeps c streams (returned_if (goes_on served.replies c t && is_off served.replies c s t) (reader.keeps c s t) served.replies c s t)
      (returned_if_keeps (goes_on served.replies c t && is_off served.replies c s t) (reader.keeps c s t) c s t p)

  -- ---- answers

  arrived_keeps : (b : Bool) (call : Call) (t : List Act) → is_withdrawn t call ≡ b → IsNew call.conn call.stream t → call.channel < served.circuit.to_server_count
      → served.is_value call.channel call.word ≡ true → P t → P (arrived_unless b call t)
  arrived_keeps true call t e new below value p = p
  arrived_keeps false call t e new below value p = k.by_act (Arrives call) t refl (record { is_new = new; channel = below; stands = e; value = value }) p

  unattached_free : (there : Option Attachment) (t : List Act) → is_none there ≡ true → is_free_by served.replies there t ≡ true
  unattached_free None t e = refl
  unattached_free (Some there) t e = cc

  attached_keeps : (b : Bool) (channel c s flow : ℕ) (t : List Act) → is_none (newest channel t) ≡ b → channel < served.circuit.to_client_count → IsNew c s t
      → P t → P (attached_if b served.replies channel c s flow t)
  attached_keeps true channel c s flow t e below new p =
      act_keeps served P k c (Attaches channel c s flow) t refl (record { is_new = new; channel_is = below; free = unattached_free (newest channel t) t e }) p
  attached_keeps false channel c s flow t e below new p =
      act_keeps served P k c (Declines c s flow (Status ALREADY_EXISTS)) t refl (record { is_new = new; failed = refl }) p

  answered_keeps : (c s flow : ℕ) (asking : Asking) (t : List Act) → IsAsking served asking → IsNew c s t → P t → P (answered served.replies c s flow asking t)
  answered_keeps c s flow (Value channel word) t asks new p =
      arrived_keeps (is_withdrawn t (record { channel = channel; conn = c; stream = s; flow = flow; word = word })) (record { channel = channel; conn = c; stream = s; flow = flow; word = word }) t refl new asks.0 asks.1 p
  answered_keeps c s flow (Listing text) t asks new p =
      polled_keeps served P k c s (performed served.replies c (Lists c s flow text) t) (act_keeps served P k c (Lists c s flow text) t refl new p)
  answered_keeps c s flow (Attaching channel) t asks new p = attached_keeps (is_none (newest channel t)) channel c s flow t refl asks new p
  answered_keeps c s flow (Failing decline) t asks new p = act_keeps served P k c (Declines c s flow decline) t refl (record { is_new = new; failed = asks }) p

  reset_keeps : (b : Bool) (c s : ℕ) (t : List Act) → P t → P (reset_unless b served.replies c s t)
  reset_keeps true c s t p = p
  reset_keeps false c s t p = act_keeps served P k c (Resets c s NO_ERROR) t refl tt p

  overlong_keeps : (b : Bool) (c s flow : ℕ) (t : List Act) → is_fresh c s t ≡ b → P t → P (overlong_if b served.replies c s flow t)
  overlong_keeps true c s flow t e p =
      let read : List Act = performed served.replies c (Declines c s flow (Status RESOURCE_EXHAUSTED)) t in
      reset_keeps (is_off served.replies c s read) c s read
      (act_keeps served P k c (Declines c s flow (Status RESOURCE_EXHAUSTED)) t refl (record { is_new = fresh_is_new c s t e; failed = refl }) p)
  overlong_keeps false c s flow t e p = p

  answered_if_keeps : (b : Bool) (c s flow : ℕ) (asking : Asking) (t : List Act) → is_fresh c s t ≡ b → IsAsking served asking → P t → P (answered_if b served.replies c s flow asking t)
  answered_if_keeps true c s flow asking t e asks p = answered_keeps c s flow asking t asks (fresh_is_new c s t e) p
  answered_if_keeps false c s flow asking t e asks p = p

  reacted_keeps : (c : ℕ) (brought : Brought) (old t : List Act) → reader.brings c old ≡ brought → P t → P (reacted served.replies c brought t)
  reacted_keeps c Nothing old t e p = p
  reacted_keeps c (Completed s flow asking) old t e p = answered_if_keeps (is_fresh c s t) c s flow asking t refl (reader.asks c s flow asking old e) p
  reacted_keeps c (Overlong s flow) old t e p = overlong_keeps (is_fresh c s t) c s flow t refl p

  -- ---- frames

  frame_keeps : (c : ℕ) (t : List Act) → P t → P (read_frame served reader c t)
  unfolding read_frame
  frame_keeps c t p =
      let read : List Act = performed served.replies c (Reads c) t in
      let gone : List ℕ = no_more (open_streams served.replies c t) (open_streams served.replies c read) in
      reacted_keeps c (reader.brings c t) t (returned served reader c gone read) refl
      (returned_keeps c gone read (act_keeps served P k c (Reads c) t refl tt p))

  step_keeps : (entries : List Entry) (c : ℕ) (next : List Act → List Act) (t : List Act) → ((u : List Act) → P u → P (next u)) → P t → P (read_step entries served reader c next t)
  step_keeps [] c next t onward p = p
  step_keeps (entry ∷ entries) c next t onward p = onward (read_frame served reader c t) (frame_keeps c t p)

  read_by_keeps : (frames c : ℕ) (t : List Act) → P t → P (read_by frames served reader c t)
  unfolding read_by
  read_by_keeps zero c t p = p
  read_by_keeps (suc frames) c t p = step_keeps (turn_entries (stands served.replies c t)) c (read_by frames served reader c) t (λ u q. read_by_keeps frames c u q) p

  read_if_keeps : (b : Bool) (c : ℕ) (t : List Act) → P t → P (read_if b served reader c t)
  read_if_keeps true c t p = read_by_keeps (length (stands served.replies c t).reading.unread + 1) c t p
  read_if_keeps false c t p = p

  pub told_keeps : (event : Event) (t : List Act) → P (Happens event ∷ t) → P (told served.replies event t)
  unfolding told
  told_keeps (Closed conn) t p = performed_keeps served P k conn (Happens (Closed conn)) t p
  told_keeps event t p = p

  pub heard_keeps : (event : Event) (t : List Act) → P t → P (heard served reader event t)
  unfolding heard
  heard_keeps (Bytes conn octets) t p = read_if_keeps (is_connected conn t) conn t p
  heard_keeps event t p = p

-- The rule on acts with the answers kept beside them is the rule.
use Rattle.std.proofs.Common.{◌≡◌, ℕ, zero, suc, ◌+◌, ◌&&◌, ◌||◌, not, is_none, is_some, min, nat_le, Bool, true, false, Option, Some, None, List, [], ◌∷◌, length, take, refl, ap, sym, ◌∙◌}
use Rattle.std.specs.List.{list_any}
use Rattle.cycle_rules.specs.Circuit.{Bits}
use Rattle.cycle_rules.specs.Lists.{first}
use Rattle.cycle_rules.specs.Rings.{ring_at, front_of, has_room}
use Rattle.cycle_rules.specs.declared.limits.TheConstants.{SESSION_VALUES}
use Rattle.esi_links.specs.declared.links.Event.{Event}
use Rattle.esi_links.specs.declared.links.Event.TheVariants.{Opened, Bytes, Closed}
use Rattle.h2_history.specs.History.{Entry, turn_entries}
use Rattle.h2_history.specs.Standing.{Standing, may_put}
use Rattle.h2_layouts.specs.declared.code.TheConstants.{NO_ERROR}
use Rattle.h2_layouts.specs.declared.limit.TheConstants.{LONGEST_PAYLOAD}
use Rattle.serve_acts.specs.Acts.{Act}
use Rattle.serve_acts.specs.Acts.Act.{Happens, Sends, Drops, Reads, Arrives, Ends, Takes, Refuses, Declines, Lists, Attaches, Hands, Puts, Finishes, Resets, Returns, Settles, Cycles}
use Rattle.serve_acts.specs.Attachments.{Attachment, newest}
use Rattle.serve_acts.specs.Calls.{is_of, calls, taken, waiting, is_withdrawn}
use Rattle.serve_acts.specs.Connections.{connections, is_connected, is_turned_away}
use Rattle.serve_acts.specs.Machines.{machine}
use Rattle.serve_acts.specs.Served.{Served}
use Rattle.serve_acts.specs.Streams.{Held, held, is_replied}
use Rattle.serve_acts.specs.declared.call.Call.{Call}
use Rattle.serve_acts.specs.declared.decline.Decline.TheVariants.{Status}
use Rattle.serve_acts.specs.declared.limits.TheConstants.{RESOURCE_EXHAUSTED, ALREADY_EXISTS, TURN_CYCLES}
use Rattle.serve_cases.specs.Stored.{Stored, stored, with_one, stands_at, is_off_at, goes_on_at, streams_at}
use Rattle.serve_cases.specs.StoredLaws.{one_more, held_is_at, stands_is_at, off_is_at, goes_is_at, over_is_at, streams_are_at}
use Rattle.serve_cases.specs.StoredRule as kept
use Rattle.serve_cases.specs.StoredRule.{ByStanding, stored_session}
use Rattle.serve_rule.specs.Connection.{stands, is_off, goes_on, is_over, open_streams, no_more}
use Rattle.serve_rule.specs.Cycle.{after_cycle, after_cycles}
use Rattle.serve_rule.specs.Handing.{handed_unless, word_step, idle_step, held_step, hand_step, handed_from}
use Rattle.serve_rule.specs.Moves.{own_moves}
use Rattle.serve_rule.specs.Performing.{is_pending, ended_if, ended_streams, performed}
use Rattle.serve_rule.specs.Polls.{finished_if, data_step, reply_step, poll_step, polled_by, steps_of, polled, polled_streams, polled_connections, polled_all}
use Rattle.serve_rule.specs.Reading.{Asking, Brought, Reader, returned_octets, returned_if, returned, is_fresh, arrived_unless, attached_if, answered, reset_unless, refused_and_reset, overlong_if, answered_if, reacted, after_reading, read_frame, read_step, read_by, told, read_if, heard}
use Rattle.serve_rule.specs.Reading.Asking.{Value, Listing, Attaching, Failing}
use Rattle.serve_rule.specs.Reading.Brought.{Nothing, Completed, Overlong}
use Rattle.serve_rule.specs.Taking.{accepted, unless_off, taken_if, full_or, take_step, taken_by, taken_from}
use Rattle.serve_rule.specs.Turns.{Turn, worked, offered, dropped_if, without_over, all_offered, turned_away, sent_to_all, finished, after_turn, session}

module _ {S : Type 0} (served : Served S) where
  -- what the one makes of what is kept beside acts is kept beside what the other makes of these acts
  abbrev Agrees : (Stored S → Stored S) → (List Act → List Act) → Type 0
  Agrees f g = (t : List Act) → f (stored served t) ≡ stored served (g t)

  -- one after the other
  then_is : (f next : Stored S → Stored S) (g more : List Act → List Act) → Agrees f g → Agrees next more → Agrees (λ v. next (f v)) (λ t. more (g t))
  then_is f next g more first_is next_is t = ap next (first_is t) ∙ next_is (g t)

  -- ---- an act, and what follows from it at once

  ended_if_is : (b : Bool) (c s : ℕ) → Agrees (kept.ended_if served b c s) (ended_if b c s)
  ended_if_is true c s t = one_more served (Ends c s) t
  ended_if_is false c s t = refl

  pending_is : (c s : ℕ) (t : List Act) → kept.is_pending served c s (stored served t) ≡ is_pending served.replies c s t
  pending_is c s t = ap (λ (there : Option Held). is_some there || (list_any (is_of c s) (calls t) && not (is_replied c s t))) (held_is_at served c s t)

  ending_is : (c s : ℕ) (t : List Act)
      → (is_off_at served c s (stored served t) && kept.is_pending served c s (stored served t)) ≡ (is_off served.replies c s t && is_pending served.replies c s t)
  ending_is c s t =
      ap (λ (b : Bool). b && kept.is_pending served c s (stored served t)) (off_is_at served c s t)
      ∙ ap (λ (b : Bool). is_off served.replies c s t && b) (pending_is c s t)

  ended_streams_are : (c : ℕ) (streams : List ℕ) → Agrees (kept.ended_streams served c streams) (ended_streams served.replies c streams)
  unfolding ended_streams
  ended_streams_are c [] t = refl
  ended_streams_are c (s ∷ others) t =
      ap (λ (b : Bool). kept.ended_streams served c others (kept.ended_if served b c s (stored served t))) (ending_is c s t)
      ∙ (ap (kept.ended_streams served c others) (ended_if_is (is_off served.replies c s t && is_pending served.replies c s t) c s t)
      ∙ ended_streams_are c others (ended_if (is_off served.replies c s t && is_pending served.replies c s t) c s t))

  performed_is : (c : ℕ) (act : Act) → Agrees (kept.performed served c act) (performed served.replies c act)
  unfolding performed
  performed_is c act t =
      ap (kept.performed_from served c (streams_at served c (stored served t))) (one_more served act t)
      ∙ (ap (λ (before : List ℕ). kept.performed_from served c before (stored served (act ∷ t))) (streams_are_at served c t)
      ∙ (ap (λ (after : List ℕ). kept.ended_streams served c (no_more (open_streams served.replies c t) after) (stored served (act ∷ t))) (streams_are_at served c (act ∷ t))
      ∙ ended_streams_are c (no_more (open_streams served.replies c t) (open_streams served.replies c (act ∷ t))) (act ∷ t)))

  -- ---- polls

  finished_if_is : (b : Bool) (c s : ℕ) → Agrees (kept.finished_if served b c s) (finished_if b served.replies c s)
  finished_if_is true c s t = performed_is c (Finishes c s) t
  finished_if_is false c s t = refl

  data_step_is : (room c s : ℕ) (octets : List ℕ) (next : Stored S → Stored S) (more : List Act → List Act) → Agrees next more
      → Agrees (kept.data_step served room c s octets next) (data_step room c s octets more)
  data_step_is zero c s octets next more is t = refl
  data_step_is (suc room) c s octets next more is t =
      ap next (one_more served (Puts c s (take (min (suc room) LONGEST_PAYLOAD) octets)) t) ∙ is (Puts c s (take (min (suc room) LONGEST_PAYLOAD) octets) ∷ t)

  reply_step_is : (c s : ℕ) (unsent : List ℕ) (ends : Bool) (next : Stored S → Stored S) (more : List Act → List Act) → Agrees next more
      → Agrees (kept.reply_step served c s unsent ends next) (reply_step served.replies c s unsent ends more)
  reply_step_is c s [] ends next more is t = finished_if_is ends c s t
  reply_step_is c s (octet ∷ octets) ends next more is t =
      ap (λ (n : Standing). kept.data_step served (may_put s n) c s (octet ∷ octets) next (stored served t)) (stands_is_at served c t)
      ∙ data_step_is (may_put s (stands served.replies c t)) c s (octet ∷ octets) next more is t

  poll_step_is : (c s : ℕ) (reply : Option Held) (next : Stored S → Stored S) (more : List Act → List Act) → Agrees next more
      → Agrees (kept.poll_step served c s reply next) (poll_step served.replies c s reply more)
  poll_step_is c s None next more is t = refl
  poll_step_is c s (Some reply) next more is t = reply_step_is c s reply.unsent reply.ends next more is t

  polled_by_is : (steps c s : ℕ) → Agrees (kept.polled_by served steps c s) (polled_by steps served.replies c s)
  unfolding polled_by
  polled_by_is zero c s t = refl
  polled_by_is (suc steps) c s t =
      ap (λ (there : Option Held). kept.poll_step served c s there (kept.polled_by served steps c s) (stored served t)) (held_is_at served c s t)
      ∙ poll_step_is c s (held served.replies c s t) (kept.polled_by served steps c s) (polled_by steps served.replies c s) (λ u. polled_by_is steps c s u) t

  polled_is : (c s : ℕ) → Agrees (kept.polled served c s) (polled served.replies c s)
  unfolding polled
  polled_is c s t =
      ap (λ (there : Option Held). kept.polled_by served (steps_of there) c s (stored served t)) (held_is_at served c s t)
      ∙ polled_by_is (steps_of (held served.replies c s t)) c s t

  polled_streams_are : (c : ℕ) (streams : List ℕ) → Agrees (kept.polled_streams served c streams) (polled_streams served.replies c streams)
  unfolding polled_streams
  polled_streams_are c [] t = refl
  polled_streams_are c (s ∷ others) t = ap (kept.polled_streams served c others) (polled_is c s t) ∙ polled_streams_are c others (polled served.replies c s t)

  polled_connections_are : (conns : List ℕ) → Agrees (kept.polled_connections served conns) (polled_connections served.replies conns)
  unfolding polled_connections
  polled_connections_are [] t = refl
  polled_connections_are (c ∷ others) t =
      ap (λ (streams : List ℕ). kept.polled_connections served others (kept.polled_streams served c streams (stored served t))) (streams_are_at served c t)
      ∙ (ap (kept.polled_connections served others) (polled_streams_are c (open_streams served.replies c t) t)
      ∙ polled_connections_are others (polled_streams served.replies c (open_streams served.replies c t) t))

  polled_all_is : Agrees (kept.polled_all served) (polled_all served.replies)
  unfolding polled_all
  polled_all_is t = polled_connections_are (connections t) t

  -- ---- takes

  accepted_is : (call : Call) → Agrees (kept.accepted served call) (accepted served.replies call)
  accepted_is call t =
      ap (kept.polled served call.conn call.stream) (performed_is call.conn (Takes call) t) ∙ polled_is call.conn call.stream (performed served.replies call.conn (Takes call) t)

  unless_off_is : (b : Bool) (call : Call) (answer : Stored S → Stored S) (more : List Act → List Act) → Agrees answer more
      → Agrees (kept.unless_off served b call answer) (unless_off b call more)
  unless_off_is true call answer more is t = one_more served (Ends call.conn call.stream) t
  unless_off_is false call answer more is t = is t

  -- a call that waits is answered so, where its stream is not cut, and then all that follows
  answered_then : (call : Call) (answer next : Stored S → Stored S) (reply more : List Act → List Act) → Agrees answer reply → Agrees next more
      → Agrees (λ v. next (kept.unless_off served (is_off_at served call.conn call.stream v) call answer v)) (λ t. more (unless_off (is_off served.replies call.conn call.stream t) call reply t))
  answered_then call answer next reply more answer_is is t =
      ap (λ (b : Bool). next (kept.unless_off served b call answer (stored served t))) (off_is_at served call.conn call.stream t)
      ∙ (ap next (unless_off_is (is_off served.replies call.conn call.stream t) call answer reply answer_is t)
      ∙ is (unless_off (is_off served.replies call.conn call.stream t) call reply t))

  taken_if_is : (b : Bool) (call : Call) (next : Stored S → Stored S) (more : List Act → List Act) → Agrees next more
      → Agrees (kept.taken_if served b call next) (taken_if b served.replies call more)
  taken_if_is true call next more is t = answered_then call (kept.accepted served call) next (accepted served.replies call) more (accepted_is call) is t
  taken_if_is false call next more is t = refl

  full_or_is : (b : Bool) (channel : ℕ) (call : Call) (next : Stored S → Stored S) (more : List Act → List Act) → Agrees next more
      → Agrees (kept.full_or served b channel call next) (full_or b served (own_moves served) channel call more)
  full_or_is true channel call next more is t =
      answered_then call (kept.performed served call.conn (Refuses call)) next (performed served.replies call.conn (Refuses call)) more (performed_is call.conn (Refuses call)) is t
  full_or_is false channel call next more is t = taken_if_is (has_room (ring_at (machine served t).to_server channel)) call next more is t

  take_step_is : (channel : ℕ) (waits : Option Call) (next : Stored S → Stored S) (more : List Act → List Act) → Agrees next more
      → Agrees (kept.take_step served channel waits next) (take_step served (own_moves served) channel waits more)
  take_step_is channel None next more is t = refl
  take_step_is channel (Some call) next more is t = full_or_is (nat_le SESSION_VALUES (length (taken t))) channel call next more is t

  taken_by_is : (count channel : ℕ) → Agrees (kept.taken_by served count channel) (taken_by count served (own_moves served) channel)
  unfolding taken_by
  taken_by_is zero channel t = refl
  taken_by_is (suc count) channel t =
      take_step_is channel (first (waiting channel t)) (kept.taken_by served count channel) (taken_by count served (own_moves served) channel) (λ u. taken_by_is count channel u) t

  taken_from_is : (count channel : ℕ) → Agrees (kept.taken_from served count channel) (taken_from count served (own_moves served) channel)
  unfolding taken_from
  taken_from_is zero channel t = refl
  taken_from_is (suc count) channel t =
      ap (kept.taken_from served count (channel + 1)) (taken_by_is (length (waiting channel t)) channel t)
      ∙ taken_from_is count (channel + 1) (taken_by (length (waiting channel t)) served (own_moves served) channel t)

  -- ---- hands

  handed_unless_is : (b : Bool) (channel : ℕ) (to : Attachment) (word : Bits) → Agrees (kept.handed_unless served b channel to word) (handed_unless b served.replies channel to word)
  handed_unless_is true channel to word t = refl
  handed_unless_is false channel to word t =
      ap (kept.polled served to.conn to.stream) (one_more served (Hands channel to.conn to.stream word) t) ∙ polled_is to.conn to.stream (Hands channel to.conn to.stream word ∷ t)

  word_step_is : (channel : ℕ) (to : Attachment) (word : Option Bits) → Agrees (kept.word_step served channel to word) (word_step served.replies channel to word)
  word_step_is channel to None t = refl
  word_step_is channel to (Some word) t =
      ap (λ (b : Bool). kept.handed_unless served b channel to word (stored served t)) (off_is_at served to.conn to.stream t)
      ∙ handed_unless_is (is_off served.replies to.conn to.stream t) channel to word t

  idle_step_is : (channel : ℕ) (to : Attachment) (unsent : List ℕ) (ends : Bool) → Agrees (kept.idle_step served channel to unsent ends) (idle_step served (own_moves served) channel to unsent ends)
  idle_step_is channel to [] false t = word_step_is channel to (front_of (machine served t).to_client channel) t
  idle_step_is channel to unsent ends t = refl

  held_step_is : (channel : ℕ) (to : Attachment) (reply : Option Held) → Agrees (kept.held_step served channel to reply) (held_step served (own_moves served) channel to reply)
  held_step_is channel to None t = refl
  held_step_is channel to (Some reply) t = idle_step_is channel to reply.unsent reply.ends t

  hand_step_is : (channel : ℕ) (to : Option Attachment) → Agrees (kept.hand_step served channel to) (hand_step served (own_moves served) channel to)
  hand_step_is channel None t = refl
  hand_step_is channel (Some to) t =
      ap (λ (there : Option Held). kept.held_step served channel to there (stored served t)) (held_is_at served to.conn to.stream t)
      ∙ held_step_is channel to (held served.replies to.conn to.stream t) t

  handed_from_is : (count channel : ℕ) → Agrees (kept.handed_from served count channel) (handed_from count served (own_moves served) channel)
  unfolding handed_from
  handed_from_is zero channel t = refl
  handed_from_is (suc count) channel t =
      ap (kept.handed_from served count (channel + 1)) (hand_step_is channel (newest channel t) t)
      ∙ handed_from_is count (channel + 1) (hand_step served (own_moves served) channel (newest channel t) t)

  -- ---- cycles

  after_cycle_is : Agrees (kept.after_cycle served) (after_cycle served (own_moves served))
  unfolding after_cycle
  after_cycle_is t =
      let to_server : ℕ = served.circuit.to_server_count in
      let to_client : ℕ = served.circuit.to_client_count in
      let in_rings : List Act = taken_from to_server served (own_moves served) 0 t in
      let all_polled : List Act = polled_all served.replies (Settles ∷ in_rings) in
      ap (λ v. with_one served Cycles (kept.handed_from served to_client 0 (kept.polled_all served (with_one served Settles v)))) (taken_from_is to_server 0 t)
      ∙ (ap (λ v. with_one served Cycles (kept.handed_from served to_client 0 (kept.polled_all served v))) (one_more served Settles in_rings)
      ∙ (ap (λ v. with_one served Cycles (kept.handed_from served to_client 0 v)) (polled_all_is (Settles ∷ in_rings))
      ∙ (ap (with_one served Cycles) (handed_from_is to_client 0 all_polled)
      ∙ one_more served Cycles (handed_from to_client served (own_moves served) 0 all_polled))))

  after_cycles_are : (count : ℕ) → Agrees (kept.after_cycles served count) (after_cycles count served (own_moves served))
  unfolding after_cycles
  after_cycles_are zero t = refl
  after_cycles_are (suc count) t = ap (kept.after_cycles served count) (after_cycle_is t) ∙ after_cycles_are count (after_cycle served (own_moves served) t)

  -- ---- what is sent

  offered_is : (b : Bool) (c : ℕ) (octets : List ℕ) (count : ℕ) → Agrees (kept.offered served b c octets count) (offered b c octets count)
  offered_is true c (octet ∷ octets) count t = one_more served (Sends c (take count (octet ∷ octets))) t
  offered_is b c octets count t = refl

  dropped_if_is : (b : Bool) (c : ℕ) → Agrees (kept.dropped_if served b c) (dropped_if b c)
  dropped_if_is true c t = one_more served (Drops c) t
  dropped_if_is false c t = refl

  without_over_is : (c : ℕ) → Agrees (kept.without_over served c) (without_over served.replies c)
  without_over_is c t = ap (λ (b : Bool). kept.dropped_if served b c (stored served t)) (over_is_at served c t) ∙ dropped_if_is (is_over served.replies c t) c t

  all_offered_are : (takes : ℕ → ℕ) (conns : List ℕ) → Agrees (kept.all_offered served takes conns) (all_offered served.replies takes conns)
  unfolding all_offered
  all_offered_are takes [] t = refl
  all_offered_are takes (c ∷ others) t =
      let offer : List Act = offered (is_connected c t) c (stands served.replies c t).output (takes c) t in
      ap (λ (n : Standing). kept.all_offered served takes others (kept.without_over served c (kept.offered served (is_connected c t) c n.output (takes c) (stored served t)))) (stands_is_at served c t)
      ∙ (ap (λ v. kept.all_offered served takes others (kept.without_over served c v)) (offered_is (is_connected c t) c (stands served.replies c t).output (takes c) t)
      ∙ (ap (kept.all_offered served takes others) (without_over_is c offer) ∙ all_offered_are takes others (without_over served.replies c offer)))

  turned_away_is : (event : Event) → Agrees (kept.turned_away served event) (turned_away event)
  turned_away_is (Opened conn) t = dropped_if_is (is_turned_away conn t) conn t
  turned_away_is event t = refl

  sent_to_all_is : (takes : ℕ → ℕ) → Agrees (kept.sent_to_all served takes) (sent_to_all served.replies takes)
  unfolding sent_to_all
  sent_to_all_is takes t = all_offered_are takes (connections t) t

  finished_is : (turn : Turn) → Agrees (kept.finished served turn) (finished served.replies turn)
  finished_is turn t = ap (kept.sent_to_all served turn.takes) (turned_away_is turn.event t) ∙ sent_to_all_is turn.takes (turned_away turn.event t)

  -- ---- answers of calls

  arrived_unless_is : (b : Bool) (call : Call) → Agrees (kept.arrived_unless served b call) (arrived_unless b call)
  arrived_unless_is true call t = refl
  arrived_unless_is false call t = one_more served (Arrives call) t

  attached_if_is : (b : Bool) (channel c s flow : ℕ) → Agrees (kept.attached_if served b channel c s flow) (attached_if b served.replies channel c s flow)
  attached_if_is true channel c s flow t = performed_is c (Attaches channel c s flow) t
  attached_if_is false channel c s flow t = performed_is c (Declines c s flow (Status ALREADY_EXISTS)) t

  answered_is : (c s flow : ℕ) (asking : Asking) → Agrees (kept.answered served c s flow asking) (answered served.replies c s flow asking)
  answered_is c s flow (Value channel word) t =
      let call : Call = record { channel = channel; conn = c; stream = s; flow = flow; word = word } in
      arrived_unless_is (is_withdrawn t call) call t
  answered_is c s flow (Listing text) t = ap (kept.polled served c s) (performed_is c (Lists c s flow text) t) ∙ polled_is c s (performed served.replies c (Lists c s flow text) t)
  answered_is c s flow (Attaching channel) t = attached_if_is (is_none (newest channel t)) channel c s flow t
  answered_is c s flow (Failing decline) t = performed_is c (Declines c s flow decline) t

  reset_unless_is : (b : Bool) (c s : ℕ) → Agrees (kept.reset_unless served b c s) (reset_unless b served.replies c s)
  reset_unless_is true c s t = refl
  reset_unless_is false c s t = performed_is c (Resets c s NO_ERROR) t

  refused_and_reset_is : (c s : ℕ) → Agrees (kept.refused_and_reset served c s) (refused_and_reset served.replies c s)
  refused_and_reset_is c s t = ap (λ (b : Bool). kept.reset_unless served b c s (stored served t)) (off_is_at served c s t) ∙ reset_unless_is (is_off served.replies c s t) c s t

  overlong_if_is : (b : Bool) (c s flow : ℕ) → Agrees (kept.overlong_if served b c s flow) (overlong_if b served.replies c s flow)
  overlong_if_is true c s flow t =
      let refusing : Act = Declines c s flow (Status RESOURCE_EXHAUSTED) in
      ap (kept.refused_and_reset served c s) (performed_is c refusing t) ∙ refused_and_reset_is c s (performed served.replies c refusing t)
  overlong_if_is false c s flow t = refl

  answered_if_is : (b : Bool) (c s flow : ℕ) (asking : Asking) → Agrees (kept.answered_if served b c s flow asking) (answered_if b served.replies c s flow asking)
  answered_if_is true c s flow asking t = answered_is c s flow asking t
  answered_if_is false c s flow asking t = refl

  reacted_is : (c : ℕ) (brought : Brought) → Agrees (kept.reacted served c brought) (reacted served.replies c brought)
  reacted_is c Nothing t = refl
  reacted_is c (Completed s flow asking) t = answered_if_is (is_fresh c s t) c s flow asking t
  reacted_is c (Overlong s flow) t = overlong_if_is (is_fresh c s t) c s flow t

  -- ---- frames, one after another

  returned_octets_are : (octets c s : ℕ) → Agrees (kept.returned_octets served octets c s) (returned_octets octets served.replies c s)
  returned_octets_are zero c s t = refl
  returned_octets_are (suc octets) c s t = performed_is c (Returns c s (suc octets)) t

  returned_if_is : (b : Bool) (octets c s : ℕ) → Agrees (kept.returned_if served b octets c s) (returned_if b octets served.replies c s)
  returned_if_is true octets c s t = returned_octets_are octets c s t
  returned_if_is false octets c s t = refl

  told_is : (event : Event) → Agrees (kept.told served event) (told served.replies event)
  unfolding told
  told_is (Closed conn) t = performed_is conn (Happens (Closed conn)) t
  told_is event t = one_more served (Happens event) t

  module _ (reader : Reader served) (by : ByStanding served reader) where
    giving_is : (c s : ℕ) (t : List Act)
        → (goes_on_at served c (stored served t) && is_off_at served c s (stored served t)) ≡ (goes_on served.replies c t && is_off served.replies c s t)
    giving_is c s t =
        ap (λ (b : Bool). b && is_off_at served c s (stored served t)) (goes_is_at served c t)
        ∙ ap (λ (b : Bool). goes_on served.replies c t && b) (off_is_at served c s t)

    returned_are : (c : ℕ) (streams : List ℕ) → Agrees (kept.returned served reader by c streams) (returned served reader c streams)
    unfolding returned
    returned_are c [] t = refl
    returned_are c (s ∷ others) t =
        let gives : Bool = goes_on served.replies c t && is_off served.replies c s t in
        ap (λ (b : Bool). kept.returned served reader by c others (kept.returned_if served b (reader.keeps c s t) c s (stored served t))) (giving_is c s t)
        ∙ (ap (kept.returned served reader by c others) (returned_if_is gives (reader.keeps c s t) c s t)
        ∙ returned_are c others (returned_if gives (reader.keeps c s t) served.replies c s t))

    after_reading_is : (c : ℕ) (before : List ℕ) (brought : Brought) → Agrees (kept.after_reading served reader by c before brought) (after_reading served reader c before brought)
    after_reading_is c before brought t =
        let cut : List ℕ = no_more before (open_streams served.replies c t) in
        ap (λ (streams : List ℕ). kept.reacted served c brought (kept.returned served reader by c (no_more before streams) (stored served t))) (streams_are_at served c t)
        ∙ (ap (kept.reacted served c brought) (returned_are c cut t) ∙ reacted_is c brought (returned served reader c cut t))

    read_frame_is : (c : ℕ) → Agrees (kept.read_frame served reader by c) (read_frame served reader c)
    unfolding read_frame
    read_frame_is c t =
        let before : List ℕ = open_streams served.replies c t in
        let read : List Act = performed served.replies c (Reads c) t in
        ap (λ (streams : List ℕ). kept.after_reading served reader by c streams (by.brings (stands_at served c (stored served t))) (kept.performed served c (Reads c) (stored served t))) (streams_are_at served c t)
        ∙ (ap (λ (n : Standing). kept.after_reading served reader by c before (by.brings n) (kept.performed served c (Reads c) (stored served t))) (stands_is_at served c t)
        ∙ (ap (λ (brought : Brought). kept.after_reading served reader by c before brought (kept.performed served c (Reads c) (stored served t))) (sym (by.is c t))
        ∙ (ap (kept.after_reading served reader by c before (reader.brings c t)) (performed_is c (Reads c) t)
        ∙ after_reading_is c before (reader.brings c t) read)))

    read_step_is : (entries : List Entry) (c : ℕ) (next : Stored S → Stored S) (more : List Act → List Act) → Agrees next more
        → Agrees (kept.read_step served reader by entries c next) (read_step entries served reader c more)
    read_step_is [] c next more is t = refl
    read_step_is (entry ∷ entries) c next more is t = ap next (read_frame_is c t) ∙ is (read_frame served reader c t)

    read_by_is : (frames c : ℕ) → Agrees (kept.read_by served reader by frames c) (read_by frames served reader c)
    unfolding read_by
    read_by_is zero c t = refl
    read_by_is (suc frames) c t =
        ap (λ (n : Standing). kept.read_step served reader by (turn_entries n) c (kept.read_by served reader by frames c) (stored served t)) (stands_is_at served c t)
        ∙ read_step_is (turn_entries (stands served.replies c t)) c (kept.read_by served reader by frames c) (read_by frames served reader c) (λ u. read_by_is frames c u) t

    read_if_is : (b : Bool) (c : ℕ) → Agrees (kept.read_if served reader by b c) (read_if b served reader c)
    read_if_is true c t =
        ap (λ (n : Standing). kept.read_by served reader by (length n.reading.unread + 1) c (stored served t)) (stands_is_at served c t)
        ∙ read_by_is (length (stands served.replies c t).reading.unread + 1) c t
    read_if_is false c t = refl

    heard_is : (event : Event) → Agrees (kept.heard served reader by event) (heard served reader event)
    unfolding heard
    heard_is (Bytes conn octets) t = read_if_is (is_connected conn t) conn t
    heard_is event t = refl

    -- ---- turns

    worked_is : (event : Event) → Agrees (kept.worked served reader by event) (worked served reader (own_moves served) event)
    unfolding worked
    worked_is event t =
        ap (λ v. kept.after_cycles served TURN_CYCLES (kept.heard served reader by event v)) (told_is event t)
        ∙ (ap (kept.after_cycles served TURN_CYCLES) (heard_is event (told served.replies event t))
        ∙ after_cycles_are TURN_CYCLES (heard served reader event (told served.replies event t)))

    after_turn_is : (turn : Turn) → Agrees (kept.after_turn served reader by turn) (after_turn served reader (own_moves served) turn)
    after_turn_is turn t =
        ap (kept.finished served turn) (worked_is turn.event t) ∙ finished_is turn (worked served reader (own_moves served) turn.event t)

    pub session_is : (turns : List Turn) → stored_session served reader by turns ≡ stored served (session served reader (own_moves served) turns)
    unfolding stored_session session
    session_is [] = refl
    session_is (turn ∷ turns) =
        ap (kept.after_turn served reader by turn) (session_is turns) ∙ after_turn_is turn (session served reader (own_moves served) turns)

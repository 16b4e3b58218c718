-- What each act within a part of a turn keeps, the parts of the rule keep.
use Rattle.std.proofs.Common.{◌≡◌, ℕ, zero, suc, ◌+◌, min, ◌<◌, ◌&&◌, nat_le, Bool, true, false, Option, Some, None, List, [], ◌∷◌, length, take, drop, refl, ap, sym, ◌∙◌, subst, arith, leb-true, leb-false, take-append-drop, length-take}
use Rattle.cycle_rules.specs.Circuit.{Bits}
use Rattle.cycle_rules.specs.Lists.{first}
use Rattle.cycle_rules.specs.Rings.{ring_at, has_room}
use Rattle.cycle_rules.specs.declared.limits.TheConstants.{SESSION_VALUES}
use Rattle.h2_history.specs.Standing.{Standing, may_put}
use Rattle.h2_layouts.specs.declared.limit.TheConstants.{LONGEST_PAYLOAD}
use Rattle.serve_acts.specs.Acts.{Act}
use Rattle.serve_acts.specs.Acts.Act.{Happens, Sends, Drops, Ends, Takes, Refuses, Hands, Puts, Finishes, Settles, Cycles}
use Rattle.serve_acts.specs.Attachments.{Attachment, newest}
use Rattle.serve_acts.specs.Calls.{taken, waiting}
use Rattle.serve_acts.specs.Connections.{connections}
use Rattle.serve_acts.specs.Histories.{standing, is_cut}
use Rattle.serve_acts.specs.Legal.{Allowed, MayHand, IsDue}
use Rattle.serve_acts.specs.Machines.{machine, is_settled, has_handed}
use Rattle.serve_acts.specs.Served.{Served}
use Rattle.serve_acts.specs.Streams.{Held, held}
use Rattle.serve_acts.specs.declared.call.Call.{Call}
use Rattle.serve_rule.specs.Connection.{stands, is_off, open_streams, no_more}
use Rattle.serve_rule.specs.ConnectionLaws.{stands_is, off_is}
use Rattle.serve_rule.specs.Cycle.{after_cycle, after_cycles}
use Rattle.serve_rule.specs.Handing.{handed_unless, word_step, idle_step, held_step, hand_step, handed_from}
use Rattle.serve_rule.specs.Moves.{Moves}
use Rattle.serve_rule.specs.Performing.{is_pending, ended_if, ended_streams, performed}
use Rattle.serve_rule.specs.Polls.{finished_if, data_step, reply_step, poll_step, polled_by, steps_of, polled, polled_streams, polled_connections, polled_all}
use Rattle.serve_rule.specs.Taking.{accepted, unless_off, taken_if, full_or, take_step, taken_by, taken_from}
use Rattle.serve_rule.specs.Waiting.{first_on}

-- acts other than an event, a hand, transfers, the end of a cycle, and what is sent
abbrev pub is_within : Act → Bool
is_within (Happens event) = false
is_within (Sends conn octets) = false
is_within (Drops conn) = false
is_within (Hands channel conn stream word) = false
is_within Settles = false
is_within Cycles = false
is_within act = true

pub record Keeps {S : Type 0} (served : Served S) (P : List Act → Type 0) : Type 0 where
  pub by_act : (act : Act) (t : List Act) → is_within act ≡ true → Allowed served act t → P t → P (act ∷ t)

both_true : (a b : Bool) → (a && b) ≡ true → a ≡ true
both_true true b e = refl
both_true false b e = cc

module _ {S : Type 0} (served : Served S) (P : List Act → Type 0) (k : Keeps served P) where
  -- ---- an act, and the ends of the streams that it cut

  ended_if_keeps : (b : Bool) (c s : ℕ) (t : List Act) → (b ≡ true → is_cut served.replies c s t ≡ true) → P t → P (ended_if b c s t)
  ended_if_keeps true c s t cut p = k.by_act (Ends c s) t refl (cut refl) p
  ended_if_keeps false c s t cut p = p

  ended_keep : (c : ℕ) (streams : List ℕ) (t : List Act) → P t → P (ended_streams served.replies c streams t)
  unfolding ended_streams
  ended_keep c [] t p = p
  ended_keep c (s ∷ streams) t p =
      ended_keep c streams (ended_if (is_off served.replies c s t && is_pending served.replies c s t) c s t)
      (ended_if_keeps (is_off served.replies c s t && is_pending served.replies c s t) c s t
      (λ e. sym (off_is served.replies c s t) ∙ both_true (is_off served.replies c s t) (is_pending served.replies c s t) e) p)

  pub performed_keeps : (c : ℕ) (act : Act) (t : List Act) → P (act ∷ t) → P (performed served.replies c act t)
  unfolding performed
  performed_keeps c act t p = ended_keep c (no_more (open_streams served.replies c t) (open_streams served.replies c (act ∷ t))) (act ∷ t) p

  pub act_keeps : (c : ℕ) (act : Act) (t : List Act) → is_within act ≡ true → Allowed served act t → P t → P (performed served.replies c act t)
  act_keeps c act t within allowed p = performed_keeps c act t (k.by_act act t within allowed p)

  -- ---- polls

  finished_keeps : (b : Bool) (c s : ℕ) (t : List Act) → held served.replies c s t ≡ Some (record { unsent = []; ends = b }) → P t → P (finished_if b served.replies c s t)
  finished_keeps true c s t is p = act_keeps c (Finishes c s) t refl is p
  finished_keeps false c s t is p = p

  data_keeps : (room c s : ℕ) (octets : List ℕ) (ends : Bool) (next : List Act → List Act) (t : List Act) → ((u : List Act) → P u → P (next u))
      → may_put s (standing served.replies c t) ≡ room → held served.replies c s t ≡ Some (record { unsent = octets; ends = ends }) → P t
      → P (data_step room c s octets next t)
  data_keeps zero c s octets ends next t onward is there p = p
  data_keeps (suc room) c s octets ends next t onward is there p =
      let part : List ℕ = take (min (suc room) LONGEST_PAYLOAD) octets in
      onward (Puts c s part ∷ t)
      (k.by_act (Puts c s part) t refl
      (record {
        there = record { unsent = octets; ends = ends };
        is_held = there;
        begins = record { rest = drop (min (suc room) LONGEST_PAYLOAD) octets; is = sym (take-append-drop (min (suc room) LONGEST_PAYLOAD) octets) };
        within = omega (arith, length-take (min (suc room) LONGEST_PAYLOAD) octets, is);
      }) p)

  reply_keeps : (c s : ℕ) (unsent : List ℕ) (ends : Bool) (next : List Act → List Act) (t : List Act) → ((u : List Act) → P u → P (next u))
      → held served.replies c s t ≡ Some (record { unsent = unsent; ends = ends }) → P t → P (reply_step served.replies c s unsent ends next t)
  reply_keeps c s [] ends next t onward there p = finished_keeps ends c s t there p
  reply_keeps c s (octet ∷ octets) ends next t onward there p =
      data_keeps (may_put s (stands served.replies c t)) c s (octet ∷ octets) ends next t onward (ap (λ (n : Standing). may_put s n) (sym (stands_is served.replies c t))) there p

  poll_keeps : (c s : ℕ) (reply : Option Held) (next : List Act → List Act) (t : List Act) → ((u : List Act) → P u → P (next u))
      → held served.replies c s t ≡ reply → P t → P (poll_step served.replies c s reply next t)
  poll_keeps c s None next t onward there p = p
  poll_keeps c s (Some reply) next t onward there p = reply_keeps c s reply.unsent reply.ends next t onward there p

  polled_by_keeps : (steps c s : ℕ) (t : List Act) → P t → P (polled_by steps served.replies c s t)
  unfolding polled_by
  polled_by_keeps zero c s t p = p
  polled_by_keeps (suc steps) c s t p =
      poll_keeps c s (held served.replies c s t) (polled_by steps served.replies c s) t (λ u q. polled_by_keeps steps c s u q) refl p

  pub polled_keeps : (c s : ℕ) (t : List Act) → P t → P (polled served.replies c s t)
  unfolding polled
  polled_keeps c s t p = polled_by_keeps (steps_of (held served.replies c s t)) c s t p

  polled_streams_keep : (c : ℕ) (streams : List ℕ) (t : List Act) → P t → P (polled_streams served.replies c streams t)
  unfolding polled_streams
  polled_streams_keep c [] t p = p
  polled_streams_keep c (s ∷ streams) t p = polled_streams_keep c streams (polled served.replies c s t) (polled_keeps c s t p)

  polled_connections_keep : (conns : List ℕ) (t : List Act) → P t → P (polled_connections served.replies conns t)
  unfolding polled_connections
  polled_connections_keep [] t p = p
  polled_connections_keep (c ∷ conns) t p =
      polled_connections_keep conns (polled_streams served.replies c (open_streams served.replies c t) t) (polled_streams_keep c (open_streams served.replies c t) t p)

  pub polled_all_keep : (t : List Act) → P t → P (polled_all served.replies t)
  unfolding polled_all
  polled_all_keep t p = polled_connections_keep (connections t) t p

  -- ---- takes

  module _ (moves : Moves served) (before : (t : List Act) → P t → is_settled t ≡ false) where
    -- what each answer of a call that waits asks for
    due : (channel : ℕ) (call : Call) (t : List Act) → first (waiting channel t) ≡ Some call → is_off served.replies call.conn call.stream t ≡ false → P t → IsDue served call t
    due channel call t is open_there p = record {
      front = ap (λ (n : ℕ). first (waiting n t)) (first_on channel call t is) ∙ is;
      uncut = sym (off_is served.replies call.conn call.stream t) ∙ open_there;
      before = before t p;
    }

    unless_keeps : (b : Bool) (call : Call) (answered : List Act → List Act) (t : List Act) → is_off served.replies call.conn call.stream t ≡ b
        → (is_off served.replies call.conn call.stream t ≡ false → P (answered t)) → P t → P (unless_off b call answered t)
    unless_keeps true call answered t e answer p = k.by_act (Ends call.conn call.stream) t refl (sym (off_is served.replies call.conn call.stream t) ∙ e) p
    unless_keeps false call answered t e answer p = answer e

    accepted_keeps : (channel : ℕ) (call : Call) (t : List Act) → channel < served.circuit.to_server_count → first (waiting channel t) ≡ Some call
        → length (taken t) < SESSION_VALUES → moves.takes channel t ≡ true → is_off served.replies call.conn call.stream t ≡ false → P t
        → P (accepted served.replies call t)
    accepted_keeps channel call t below is fewer takes open_there p =
        let same : call.channel ≡ channel = first_on channel call t is in
        polled_keeps call.conn call.stream (performed served.replies call.conn (Takes call) t)
        (act_keeps call.conn (Takes call) t refl
        (record {
          due = due channel call t is open_there p;
          fewer = fewer;
          channel = omega (arith, same, below);
          room = ap (λ (n : ℕ). has_room (ring_at (machine served t).to_server n)) same ∙ moves.room channel t takes;
        }) p)

    taken_if_keeps : (b : Bool) (channel : ℕ) (call : Call) (next : List Act → List Act) (t : List Act) → channel < served.circuit.to_server_count → ((u : List Act) → P u → P (next u))
        → first (waiting channel t) ≡ Some call → length (taken t) < SESSION_VALUES → moves.takes channel t ≡ b → P t → P (taken_if b served.replies call next t)
    taken_if_keeps true channel call next t below onward is fewer takes p =
        onward (unless_off (is_off served.replies call.conn call.stream t) call (accepted served.replies call) t)
        (unless_keeps (is_off served.replies call.conn call.stream t) call (accepted served.replies call) t refl (λ e. accepted_keeps channel call t below is fewer takes e p) p)
    taken_if_keeps false channel call next t below onward is fewer takes p = p

    full_keeps : (b : Bool) (channel : ℕ) (call : Call) (next : List Act → List Act) (t : List Act) → channel < served.circuit.to_server_count → ((u : List Act) → P u → P (next u))
        → first (waiting channel t) ≡ Some call → nat_le SESSION_VALUES (length (taken t)) ≡ b → P t → P (full_or b served moves channel call next t)
    full_keeps true channel call next t below onward is full p =
        onward (unless_off (is_off served.replies call.conn call.stream t) call (performed served.replies call.conn (Refuses call)) t)
        (unless_keeps (is_off served.replies call.conn call.stream t) call (performed served.replies call.conn (Refuses call)) t refl
        (λ e. act_keeps call.conn (Refuses call) t refl (record { due = due channel call t is e p; full = leb-true SESSION_VALUES (length (taken t)) full }) p) p)
    full_keeps false channel call next t below onward is full p =
        taken_if_keeps (moves.takes channel t) channel call next t below onward is (leb-false SESSION_VALUES (length (taken t)) full) refl p

    take_keeps : (channel : ℕ) (waits : Option Call) (next : List Act → List Act) (t : List Act) → channel < served.circuit.to_server_count → ((u : List Act) → P u → P (next u))
        → first (waiting channel t) ≡ waits → P t → P (take_step served moves channel waits next t)
    take_keeps channel None next t below onward is p = p
    take_keeps channel (Some call) next t below onward is p = full_keeps (nat_le SESSION_VALUES (length (taken t))) channel call next t below onward is refl p

    taken_by_keeps : (calls channel : ℕ) (t : List Act) → channel < served.circuit.to_server_count → P t → P (taken_by calls served moves channel t)
    unfolding taken_by
    taken_by_keeps zero channel t below p = p
    taken_by_keeps (suc calls) channel t below p =
        take_keeps channel (first (waiting channel t)) (taken_by calls served moves channel) t below (λ u q. taken_by_keeps calls channel u below q) refl p

    pub taken_from_keeps : (count channel : ℕ) (t : List Act) → channel + count ≡ served.circuit.to_server_count → P t → P (taken_from count served moves channel t)
    unfolding taken_from
    taken_from_keeps zero channel t all p = p
    taken_from_keeps (suc count) channel t all p =
        taken_from_keeps count (channel + 1) (taken_by (length (waiting channel t)) served moves channel t) (omega (arith, all))
        (taken_by_keeps (length (waiting channel t)) channel t (omega (arith, all)) p)

-- ---- hands: what holds while the channels from this one on have not handed

pub record KeepsHands {S : Type 0} (served : Served S) (P : ℕ → List Act → Type 0) : Type 0 where
  pub keeps : (channel : ℕ) → Keeps served (P channel)
  pub settled : (channel : ℕ) (t : List Act) → P channel t → is_settled t ≡ true
  pub unhanded : (channel : ℕ) (t : List Act) → P channel t → has_handed channel t ≡ false
  pub hands : (channel conn stream : ℕ) (word : Bits) (t : List Act) → MayHand served channel conn stream word t → P channel t → P (channel + 1) (Hands channel conn stream word ∷ t)
  pub passes : (channel : ℕ) (t : List Act) → P channel t → P (channel + 1) t

module _ {S : Type 0} (served : Served S) (moves : Moves served) (P : ℕ → List Act → Type 0) (k : KeepsHands served P) where
  -- what a hand asks for, but that the stream is open
  record MayBe (channel : ℕ) (to : Attachment) (t : List Act) : Type 0 where
    below : channel < served.circuit.to_client_count
    attached : newest channel t ≡ Some to
    idle : held served.replies to.conn to.stream t ≡ Some (record { unsent = []; ends = false })

  handed_keeps : (b : Bool) (channel : ℕ) (to : Attachment) (word : Bits) (t : List Act) → is_off served.replies to.conn to.stream t ≡ b → moves.hands channel t ≡ Some word
      → MayBe channel to t → P channel t → P (channel + 1) (handed_unless b served.replies channel to word t)
  handed_keeps true channel to word t e is may p = k.passes channel t p
  handed_keeps false channel to word t e is may p =
      polled_keeps served (P (channel + 1)) (k.keeps (channel + 1)) to.conn to.stream (Hands channel to.conn to.stream word ∷ t)
      (k.hands channel to.conn to.stream word t
      (record {
        there = to;
        is_newest = may.attached;
        conn_is = refl;
        stream_is = refl;
        idle = may.idle;
        uncut = sym (off_is served.replies to.conn to.stream t) ∙ e;
        front = moves.front channel word t is;
        channel_is = may.below;
        after = k.settled channel t p;
        once = k.unhanded channel t p;
      }) p)

  word_keeps : (channel : ℕ) (to : Attachment) (word : Option Bits) (t : List Act) → moves.hands channel t ≡ word
      → MayBe channel to t → P channel t → P (channel + 1) (word_step served.replies channel to word t)
  word_keeps channel to None t is may p = k.passes channel t p
  word_keeps channel to (Some word) t is may p = handed_keeps (is_off served.replies to.conn to.stream t) channel to word t refl is may p

  idle_keeps : (channel : ℕ) (to : Attachment) (unsent : List ℕ) (ends : Bool) (t : List Act) → channel < served.circuit.to_client_count → newest channel t ≡ Some to
      → held served.replies to.conn to.stream t ≡ Some (record { unsent = unsent; ends = ends }) → P channel t → P (channel + 1) (idle_step served moves channel to unsent ends t)
  idle_keeps channel to [] false t below attached there p = word_keeps channel to (moves.hands channel t) t refl (record { below = below; attached = attached; idle = there }) p
  idle_keeps channel to unsent ends t below attached there p = k.passes channel t p

  held_keeps : (channel : ℕ) (to : Attachment) (reply : Option Held) (t : List Act) → channel < served.circuit.to_client_count → newest channel t ≡ Some to
      → held served.replies to.conn to.stream t ≡ reply → P channel t → P (channel + 1) (held_step served moves channel to reply t)
  held_keeps channel to None t below attached there p = k.passes channel t p
  held_keeps channel to (Some reply) t below attached there p = idle_keeps channel to reply.unsent reply.ends t below attached there p

  hand_keeps : (channel : ℕ) (to : Option Attachment) (t : List Act) → channel < served.circuit.to_client_count → newest channel t ≡ to
      → P channel t → P (channel + 1) (hand_step served moves channel to t)
  hand_keeps channel None t below attached p = k.passes channel t p
  hand_keeps channel (Some to) t below attached p = held_keeps channel to (held served.replies to.conn to.stream t) t below attached refl p

  pub handed_from_keeps : (count channel : ℕ) (t : List Act) → channel + count ≡ served.circuit.to_client_count → P channel t
      → P served.circuit.to_client_count (handed_from count served moves channel t)
  unfolding handed_from
  handed_from_keeps zero channel t all p = subst (λ (n : ℕ). P n t) (omega (arith, all)) p
  handed_from_keeps (suc count) channel t all p =
      handed_from_keeps count (channel + 1) (hand_step served moves channel (newest channel t) t) (omega (arith, all))
      (hand_keeps channel (newest channel t) t (omega (arith, all)) refl p)

-- ---- a cycle: what holds before its transfers, and behind them

pub record KeepsCycle {S : Type 0} (served : Served S) (Early : List Act → Type 0) (Late : ℕ → List Act → Type 0) : Type 0 where
  pub early : Keeps served Early
  pub before : (t : List Act) → Early t → is_settled t ≡ false
  pub late : KeepsHands served Late
  pub settles : (t : List Act) → Early t → Late 0 (Settles ∷ t)
  pub cycles : (t : List Act) → Late served.circuit.to_client_count t → Early (Cycles ∷ t)

module _ {S : Type 0} (served : Served S) (moves : Moves served) (Early : List Act → Type 0) (Late : ℕ → List Act → Type 0) (k : KeepsCycle served Early Late) where
  cycle_keeps : (t : List Act) → Early t → Early (after_cycle served moves t)
  unfolding after_cycle
  cycle_keeps t p =
      let in_rings : List Act = taken_from served.circuit.to_server_count served moves 0 t in
      k.cycles (handed_from served.circuit.to_client_count served moves 0 (polled_all served.replies (Settles ∷ in_rings)))
      (handed_from_keeps served moves Late k.late served.circuit.to_client_count 0 (polled_all served.replies (Settles ∷ in_rings)) (omega arith)
      (polled_all_keep served (Late 0) (k.late.keeps 0) (Settles ∷ in_rings)
      (k.settles in_rings (taken_from_keeps served Early k.early moves k.before served.circuit.to_server_count 0 t (omega arith) p))))

  pub cycles_keep : (count : ℕ) (t : List Act) → Early t → Early (after_cycles count served moves t)
  unfolding after_cycles
  cycles_keep zero t p = p
  cycles_keep (suc count) t p = cycles_keep count (after_cycle served moves t) (cycle_keeps t p)

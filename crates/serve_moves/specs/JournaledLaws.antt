-- The journal of a session, played again by the rule on the same turns, makes the same session.
use Rattle.std.proofs.Common.{◌≡◌, ℕ, zero, suc, ◌+◌, nat_le, ◌&&◌, ◌||◌, if◌then◌else◌, Bool, true, false, Option, Some, None, List, [], ◌∷◌, length, refl, ap, ◌∙◌}
use Rattle.cycle_rules.specs.Circuit.{Bits}
use Rattle.cycle_rules.specs.Lists.{first}
use Rattle.cycle_rules.specs.Rings.{ring_at, front_of, has_room}
use Rattle.cycle_rules.specs.declared.limits.TheConstants.{SESSION_VALUES}
use Rattle.serve_acts.specs.Acts.{Act}
use Rattle.serve_acts.specs.Acts.Act.{Takes, Refuses, Hands, Settles, Cycles}
use Rattle.serve_acts.specs.Attachments.{Attachment, newest}
use Rattle.serve_acts.specs.Calls.{taken, waiting}
use Rattle.serve_acts.specs.Journal.{cycles, all_taken, all_handed}
use Rattle.serve_acts.specs.Machines.{machine}
use Rattle.serve_acts.specs.Served.{Served}
use Rattle.serve_acts.specs.Streams.{Held, held}
use Rattle.serve_acts.specs.declared.call.Call.{Call}
use Rattle.serve_acts.specs.declared.limits.TheConstants.{TURN_CYCLES}
use Rattle.serve_laws.specs.Replay.{hands_at}
use Rattle.serve_moves.specs.Growing.{tail_quiet, grows_taken_by, grows_taken_from, grows_handed_from, grows_polled_all, grows_cycles, grows_finished, grows_turn}
use Rattle.serve_moves.specs.Journaled.{is_next, is_cut_first, journal_moves}
use Rattle.serve_moves.specs.Quiet.{performed_quiet, polled_quiet}
use Rattle.serve_moves.specs.Tails.{IsTail, tail_self, tail_both, tail_behind, next_taken, next_handed}
use Rattle.serve_rule.specs.Connection.{is_off}
use Rattle.serve_rule.specs.Cycle.{after_cycle, after_cycles}
use Rattle.serve_rule.specs.Handing.{handed_unless, word_step, idle_step, held_step, hand_step, handed_from}
use Rattle.serve_rule.specs.Moves.{Moves, own_moves}
use Rattle.serve_rule.specs.Performing.{performed}
use Rattle.serve_rule.specs.Polls.{polled, polled_all}
use Rattle.serve_rule.specs.Reading.{Reader, told, heard}
use Rattle.serve_rule.specs.Taking.{accepted, unless_off, taken_if, full_or, take_step, taken_by, taken_from}
use Rattle.serve_rule.specs.Turns.{Turn, worked, finished, after_turn, session}
use Rattle.serve_rule.specs.Waiting.{first_on}

-- `s` is the whole session, whose journal is played again
module _ {S : Type 0} (served : Served S) (s : List Act) where
  abbrev own : Moves served
  own = own_moves served

  abbrev again : Moves served
  again = journal_moves served (all_taken s) (all_handed s)

  -- the first gives what the second gives, where this is a tail of the session
  abbrev Agree : (List Act → List Act) → (List Act → List Act) → Type 0
  Agree f g = (t : List Act) → IsTail (g t) s → f t ≡ g t

  abbrev Grows : (List Act → List Act) → Type 0
  Grows g = (base t : List Act) → IsTail base t → IsTail base (g t)

  -- ---- takes

  tail_of_take : (call : Call) (next : List Act → List Act) (t : List Act) → Grows next → IsTail (next (accepted served.replies call t)) s → IsTail (Takes call ∷ t) s
  tail_of_take call next t grows tail =
      let took : List Act = Takes call ∷ t in
      let answered : List Act = accepted served.replies call t in
      let put : IsTail took answered = polled_quiet served.replies (IsTail took) (tail_quiet took) call.conn call.stream (performed served.replies call.conn (Takes call) t)
      (performed_quiet served.replies (IsTail took) (tail_quiet took) call.conn (Takes call) t (tail_self took)) in
      tail_both took (next answered) s (grows took answered put) tail

  -- a stream that is not cut, and a ring with room: the value is taken, so the journal has it
  takes_by : (off : Bool) (channel : ℕ) (call : Call) (next more : List Act → List Act) (t : List Act) → is_off served.replies call.conn call.stream t ≡ off → call.channel ≡ channel → Agree next more → Grows more
      → IsTail (more (unless_off off call (accepted served.replies call) t)) s
      → taken_if (off || is_next (all_taken s) channel t) served.replies call next t ≡ more (unless_off off call (accepted served.replies call) t)
  takes_by true channel call next more t e same agree grows tail =
      ap (λ (b : Bool). next (unless_off b call (accepted served.replies call) t)) e ∙ agree (unless_off true call (accepted served.replies call) t) tail
  takes_by false channel call next more t e same agree grows tail =
      ap (λ (b : Bool). taken_if b served.replies call next t) (next_taken call channel t s same (tail_of_take call more t grows tail))
      ∙ (ap (λ (b : Bool). next (unless_off b call (accepted served.replies call) t)) e ∙ agree (unless_off false call (accepted served.replies call) t) tail)

  room_by : (room : Bool) (channel : ℕ) (call : Call) (next more : List Act → List Act) (t : List Act) → call.channel ≡ channel → Agree next more → Grows more
      → IsTail (taken_if room served.replies call more t) s
      → taken_if (room && (is_off served.replies call.conn call.stream t || is_next (all_taken s) channel t)) served.replies call next t ≡ taken_if room served.replies call more t
  room_by true channel call next more t same agree grows tail = takes_by (is_off served.replies call.conn call.stream t) channel call next more t refl same agree grows tail
  room_by false channel call next more t same agree grows tail = refl

  full_agrees : (b : Bool) (channel : ℕ) (call : Call) (next more : List Act → List Act) (t : List Act) → first (waiting channel t) ≡ Some call → Agree next more → Grows more
      → IsTail (full_or b served own channel call more t) s → full_or b served again channel call next t ≡ full_or b served own channel call more t
  full_agrees true channel call next more t is agree grows tail =
      agree (unless_off (is_off served.replies call.conn call.stream t) call (performed served.replies call.conn (Refuses call)) t) tail
  full_agrees false channel call next more t is agree grows tail =
      ap (λ (waits : Option Call). taken_if (has_room (ring_at (machine served t).to_server channel) && (is_cut_first served.replies waits t || is_next (all_taken s) channel t)) served.replies call next t) is
      ∙ room_by (has_room (ring_at (machine served t).to_server channel)) channel call next more t (first_on channel call t is) agree grows tail

  take_agrees : (waits : Option Call) (channel : ℕ) (next more : List Act → List Act) (t : List Act) → first (waiting channel t) ≡ waits → Agree next more → Grows more
      → IsTail (take_step served own channel waits more t) s → take_step served again channel waits next t ≡ take_step served own channel waits more t
  take_agrees None channel next more t is agree grows tail = refl
  take_agrees (Some call) channel next more t is agree grows tail = full_agrees (nat_le SESSION_VALUES (length (taken t))) channel call next more t is agree grows tail

  taken_by_agrees : (count channel : ℕ) → Agree (taken_by count served again channel) (taken_by count served own channel)
  unfolding taken_by
  taken_by_agrees zero channel t tail = refl
  taken_by_agrees (suc count) channel t tail =
      take_agrees (first (waiting channel t)) channel (taken_by count served again channel) (taken_by count served own channel) t refl (λ u p. taken_by_agrees count channel u p)
      (λ base u r. grows_taken_by served base own count channel u r) tail

  taken_from_agrees : (count channel : ℕ) → Agree (taken_from count served again channel) (taken_from count served own channel)
  unfolding taken_from
  taken_from_agrees zero channel t tail = refl
  taken_from_agrees (suc count) channel t tail =
      let now : List Act = taken_by (length (waiting channel t)) served own channel t in
      let now_tail : IsTail now s = tail_both now (taken_from count served own (channel + 1) now) s (grows_taken_from served now own count (channel + 1) now (tail_self now)) tail in
      ap (taken_from count served again (channel + 1)) (taken_by_agrees (length (waiting channel t)) channel t now_tail) ∙ taken_from_agrees count (channel + 1) now tail

  -- ---- hands

  -- nothing is handed to a stream that is cut, whatever the journal says
  none_handed : (hands : Bool) (channel : ℕ) (to : Attachment) (word : Bits) (t : List Act) → is_off served.replies to.conn to.stream t ≡ true
      → word_step served.replies channel to (if hands then Some word else None) t ≡ t
  none_handed true channel to word t e = ap (λ (b : Bool). handed_unless b served.replies channel to word t) e
  none_handed false channel to word t e = refl

  handed_by : (off : Bool) (channel : ℕ) (to : Attachment) (word : Bits) (t : List Act) → is_off served.replies to.conn to.stream t ≡ off
      → IsTail (handed_unless off served.replies channel to word t) s
      → word_step served.replies channel to (if hands_at (cycles t) channel (all_handed s) then Some word else None) t ≡ handed_unless off served.replies channel to word t
  handed_by true channel to word t e tail = none_handed (hands_at (cycles t) channel (all_handed s)) channel to word t e
  handed_by false channel to word t e tail =
      let handed : List Act = Hands channel to.conn to.stream word ∷ t in
      let there : IsTail handed s = tail_both handed (polled served.replies to.conn to.stream handed) s
      (polled_quiet served.replies (IsTail handed) (tail_quiet handed) to.conn to.stream handed (tail_self handed)) tail in
      ap (λ (b : Bool). word_step served.replies channel to (if b then Some word else None) t) (next_handed channel to.conn to.stream word t s there)
      ∙ ap (λ (b : Bool). handed_unless b served.replies channel to word t) e

  no_word : (hands : Bool) (channel : ℕ) (to : Attachment) (t : List Act) → word_step served.replies channel to (if hands then None else None) t ≡ t
  no_word true channel to t = refl
  no_word false channel to t = refl

  word_agrees : (front : Option Bits) (channel : ℕ) (to : Attachment) (t : List Act) → IsTail (word_step served.replies channel to front t) s
      → word_step served.replies channel to (if hands_at (cycles t) channel (all_handed s) then front else None) t ≡ word_step served.replies channel to front t
  word_agrees None channel to t tail = no_word (hands_at (cycles t) channel (all_handed s)) channel to t
  word_agrees (Some word) channel to t tail = handed_by (is_off served.replies to.conn to.stream t) channel to word t refl tail

  idle_agrees : (channel : ℕ) (to : Attachment) (unsent : List ℕ) (ends : Bool) → Agree (idle_step served again channel to unsent ends) (idle_step served own channel to unsent ends)
  idle_agrees channel to [] false t tail = word_agrees (front_of (machine served t).to_client channel) channel to t tail
  idle_agrees channel to unsent ends t tail = refl

  held_agrees : (channel : ℕ) (to : Attachment) (reply : Option Held) → Agree (held_step served again channel to reply) (held_step served own channel to reply)
  held_agrees channel to None t tail = refl
  held_agrees channel to (Some reply) t tail = idle_agrees channel to reply.unsent reply.ends t tail

  hand_agrees : (channel : ℕ) (to : Option Attachment) → Agree (hand_step served again channel to) (hand_step served own channel to)
  hand_agrees channel None t tail = refl
  hand_agrees channel (Some to) t tail = held_agrees channel to (held served.replies to.conn to.stream t) t tail

  handed_from_agrees : (count channel : ℕ) → Agree (handed_from count served again channel) (handed_from count served own channel)
  unfolding handed_from
  handed_from_agrees zero channel t tail = refl
  handed_from_agrees (suc count) channel t tail =
      let now : List Act = hand_step served own channel (newest channel t) t in
      let now_tail : IsTail now s = tail_both now (handed_from count served own (channel + 1) now) s (grows_handed_from served now own count (channel + 1) now (tail_self now)) tail in
      ap (handed_from count served again (channel + 1)) (hand_agrees channel (newest channel t) t now_tail) ∙ handed_from_agrees count (channel + 1) now tail

  -- ---- cycles

  cycle_agrees : Agree (after_cycle served again) (after_cycle served own)
  unfolding after_cycle
  cycle_agrees t tail =
      let to_server : ℕ = served.circuit.to_server_count in
      let to_client : ℕ = served.circuit.to_client_count in
      let in_rings : List Act = taken_from to_server served own 0 t in
      let moved : List Act = Settles ∷ in_rings in
      let all_polled : List Act = polled_all served.replies moved in
      let handed : List Act = handed_from to_client served own 0 all_polled in
      let handed_tail : IsTail handed s = tail_behind Cycles handed s tail in
      let moved_tail : IsTail moved s = tail_both moved handed s (grows_handed_from served moved own to_client 0 all_polled (grows_polled_all served moved own moved (tail_self moved))) handed_tail in
      ap (λ (u : List Act). Cycles ∷ handed_from to_client served again 0 (polled_all served.replies (Settles ∷ u))) (taken_from_agrees to_server 0 t (tail_behind Settles in_rings s moved_tail))
      ∙ ap (λ (u : List Act). Cycles ∷ u) (handed_from_agrees to_client 0 all_polled handed_tail)

  cycles_agree : (count : ℕ) → Agree (after_cycles count served again) (after_cycles count served own)
  unfolding after_cycles
  cycles_agree zero t tail = refl
  cycles_agree (suc count) t tail =
      let now : List Act = after_cycle served own t in
      let now_tail : IsTail now s = tail_both now (after_cycles count served own now) s (grows_cycles served now own count now (tail_self now)) tail in
      ap (after_cycles count served again) (cycle_agrees t now_tail) ∙ cycles_agree count now tail

  -- ---- turns

  module _ (reader : Reader served) where
    turn_agrees : (turn : Turn) → Agree (after_turn served reader again turn) (after_turn served reader own turn)
    unfolding worked
    turn_agrees turn t tail =
        let read : List Act = heard served reader turn.event (told served.replies turn.event t) in
        let now : List Act = after_cycles TURN_CYCLES served own read in
        let now_tail : IsTail now s = tail_both now (finished served.replies turn now) s (grows_finished served now own turn now (tail_self now)) tail in
        ap (finished served.replies turn) (cycles_agree TURN_CYCLES read now_tail)

    session_agrees : (turns : List Turn) → IsTail (session served reader own turns) s → session served reader again turns ≡ session served reader own turns
    unfolding session
    session_agrees [] tail = refl
    session_agrees (turn ∷ turns) tail =
        let old : List Act = session served reader own turns in
        let old_tail : IsTail old s = tail_both old (after_turn served reader own turn old) s (grows_turn served old own reader turn old (tail_self old)) tail in
        ap (after_turn served reader again turn) (session_agrees turns old_tail) ∙ turn_agrees turn old tail

-- the journal of a session, played again on the same turns, makes it again
pub journal_again : {S : Type 0} (served : Served S) (reader : Reader served) (turns : List Turn)
    → session served reader (journal_moves served (all_taken (session served reader (own_moves served) turns)) (all_handed (session served reader (own_moves served) turns))) turns
    ≡ session served reader (own_moves served) turns
journal_again served reader turns =
    let s : List Act = session served reader (own_moves served) turns in
    session_agrees served s reader turns (tail_self s)

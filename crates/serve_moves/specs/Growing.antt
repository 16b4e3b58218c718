-- What the rule makes of a list of acts stands in front of it, and what each act keeps, it keeps.
use Rattle.std.proofs.Common.{◌≡◌, ℕ, zero, suc, ◌+◌, nat_le, Bool, true, false, Option, Some, None, List, [], ◌∷◌, length, take, refl}
use Rattle.cycle_rules.specs.Circuit.{Bits}
use Rattle.cycle_rules.specs.Lists.{first}
use Rattle.cycle_rules.specs.declared.limits.TheConstants.{SESSION_VALUES}
use Rattle.esi_links.specs.declared.links.Event.{Event}
use Rattle.esi_links.specs.declared.links.Event.TheVariants.{Opened}
use Rattle.serve_acts.specs.Acts.{Act}
use Rattle.serve_acts.specs.Acts.Act.{Happens, Sends, Drops, Ends, Takes, Refuses, Hands, Puts, Finishes, Settles, Cycles}
use Rattle.serve_acts.specs.Attachments.{Attachment, newest}
use Rattle.serve_acts.specs.Calls.{taken, waiting}
use Rattle.serve_acts.specs.Connections.{connections, is_connected, is_turned_away}
use Rattle.serve_acts.specs.Served.{Served}
use Rattle.serve_acts.specs.Streams.{Held, held}
use Rattle.serve_acts.specs.declared.call.Call.{Call}
use Rattle.serve_acts.specs.declared.limits.TheConstants.{TURN_CYCLES}
use Rattle.serve_moves.specs.Quiet.{IsQuiet, performed_quiet, polled_quiet}
use Rattle.serve_moves.specs.Tails.{IsTail, tail_one}
use Rattle.serve_rule.specs.Connection.{stands, is_off, is_over}
use Rattle.serve_rule.specs.Cycle.{after_cycle, after_cycles}
use Rattle.serve_rule.specs.Handing.{handed_unless, word_step, idle_step, held_step, hand_step, handed_from}
use Rattle.serve_rule.specs.Keeps.{Keeps, is_within, polled_all_keep}
use Rattle.serve_rule.specs.Moves.{Moves}
use Rattle.serve_rule.specs.Performing.{performed}
use Rattle.serve_rule.specs.Polls.{polled_all}
use Rattle.serve_rule.specs.Reading.{Reader, told, heard}
use Rattle.serve_rule.specs.ReadingKeeps.{told_keeps, heard_keeps}
use Rattle.serve_rule.specs.Taking.{accepted, unless_off, taken_if, full_or, take_step, taken_by, taken_from}
use Rattle.serve_rule.specs.Turns.{Turn, worked, offered, dropped_if, without_over, all_offered, turned_away, sent_to_all, finished, after_turn}

-- the transfers of a cycle
abbrev pub is_settling : Act → Bool
is_settling Settles = true
is_settling act = false

within_moves : (act : Act) → is_within act ≡ true → is_settling act ≡ false
within_moves Settles e = cc
within_moves act e = refl

-- what any act but the transfers keeps, the parts of the rule keep that do no transfers
module _ {S : Type 0} (served : Served S) (R : List Act → Type 0) (adds : (act : Act) (t : List Act) → is_settling act ≡ false → R t → R (act ∷ t)) where
  adds_quiet : IsQuiet R
  adds_quiet = record {
    ends = λ c s t r. adds (Ends c s) t refl r;
    puts = λ c s octets t r. adds (Puts c s octets) t refl r;
    finishes = λ c s t r. adds (Finishes c s) t refl r;
  }

  adds_keep : Keeps served R
  adds_keep = record { by_act = λ act t within allowed r. adds act t (within_moves act within) r }

  pub adds_performed : (c : ℕ) (act : Act) (t : List Act) → is_settling act ≡ false → R t → R (performed served.replies c act t)
  adds_performed c act t other r = performed_quiet served.replies R adds_quiet c act t (adds act t other r)

  -- ---- takes

  pub adds_accepted : (call : Call) (t : List Act) → R t → R (accepted served.replies call t)
  adds_accepted call t r =
      polled_quiet served.replies R adds_quiet call.conn call.stream (performed served.replies call.conn (Takes call) t) (adds_performed call.conn (Takes call) t refl r)

  adds_unless : (b : Bool) (call : Call) (answered : List Act → List Act) (t : List Act) → ((u : List Act) → R u → R (answered u)) → R t → R (unless_off b call answered t)
  adds_unless true call answered t grows r = adds (Ends call.conn call.stream) t refl r
  adds_unless false call answered t grows r = grows t r

  module _ (moves : Moves served) where
    adds_taken_if : (b : Bool) (call : Call) (next : List Act → List Act) (t : List Act) → ((u : List Act) → R u → R (next u)) → R t → R (taken_if b served.replies call next t)
    adds_taken_if true call next t onward r =
        onward (unless_off (is_off served.replies call.conn call.stream t) call (accepted served.replies call) t)
        (adds_unless (is_off served.replies call.conn call.stream t) call (accepted served.replies call) t (adds_accepted call) r)
    adds_taken_if false call next t onward r = r

    adds_full : (b : Bool) (channel : ℕ) (call : Call) (next : List Act → List Act) (t : List Act) → ((u : List Act) → R u → R (next u)) → R t → R (full_or b served moves channel call next t)
    adds_full true channel call next t onward r =
        onward (unless_off (is_off served.replies call.conn call.stream t) call (performed served.replies call.conn (Refuses call)) t)
        (adds_unless (is_off served.replies call.conn call.stream t) call (performed served.replies call.conn (Refuses call)) t (λ u p. adds_performed call.conn (Refuses call) u refl p) r)
    adds_full false channel call next t onward r = adds_taken_if (moves.takes channel t) call next t onward r

    adds_take : (channel : ℕ) (waits : Option Call) (next : List Act → List Act) (t : List Act) → ((u : List Act) → R u → R (next u)) → R t → R (take_step served moves channel waits next t)
    adds_take channel None next t onward r = r
    adds_take channel (Some call) next t onward r = adds_full (nat_le SESSION_VALUES (length (taken t))) channel call next t onward r

    pub adds_taken_by : (count channel : ℕ) (t : List Act) → R t → R (taken_by count served moves channel t)
    unfolding taken_by
    adds_taken_by zero channel t r = r
    adds_taken_by (suc count) channel t r = adds_take channel (first (waiting channel t)) (taken_by count served moves channel) t (λ u p. adds_taken_by count channel u p) r

    pub adds_taken_from : (count channel : ℕ) (t : List Act) → R t → R (taken_from count served moves channel t)
    unfolding taken_from
    adds_taken_from zero channel t r = r
    adds_taken_from (suc count) channel t r =
        adds_taken_from count (channel + 1) (taken_by (length (waiting channel t)) served moves channel t) (adds_taken_by (length (waiting channel t)) channel t r)

    -- ---- hands

    adds_handed : (b : Bool) (channel : ℕ) (to : Attachment) (word : Bits) (t : List Act) → R t → R (handed_unless b served.replies channel to word t)
    adds_handed true channel to word t r = r
    adds_handed false channel to word t r =
        polled_quiet served.replies R adds_quiet to.conn to.stream (Hands channel to.conn to.stream word ∷ t) (adds (Hands channel to.conn to.stream word) t refl r)

    adds_word : (channel : ℕ) (to : Attachment) (word : Option Bits) (t : List Act) → R t → R (word_step served.replies channel to word t)
    adds_word channel to None t r = r
    adds_word channel to (Some word) t r = adds_handed (is_off served.replies to.conn to.stream t) channel to word t r

    adds_idle : (channel : ℕ) (to : Attachment) (unsent : List ℕ) (ends : Bool) (t : List Act) → R t → R (idle_step served moves channel to unsent ends t)
    adds_idle channel to [] false t r = adds_word channel to (moves.hands channel t) t r
    adds_idle channel to unsent ends t r = r

    adds_held : (channel : ℕ) (to : Attachment) (reply : Option Held) (t : List Act) → R t → R (held_step served moves channel to reply t)
    adds_held channel to None t r = r
    adds_held channel to (Some reply) t r = adds_idle channel to reply.unsent reply.ends t r

    adds_hand : (channel : ℕ) (to : Option Attachment) (t : List Act) → R t → R (hand_step served moves channel to t)
    adds_hand channel None t r = r
    adds_hand channel (Some to) t r = adds_held channel to (held served.replies to.conn to.stream t) t r

    pub adds_handed_from : (count channel : ℕ) (t : List Act) → R t → R (handed_from count served moves channel t)
    unfolding handed_from
    adds_handed_from zero channel t r = r
    adds_handed_from (suc count) channel t r = adds_handed_from count (channel + 1) (hand_step served moves channel (newest channel t) t) (adds_hand channel (newest channel t) t r)

    -- ---- cycles

    pub adds_polled_all : (t : List Act) → R t → R (polled_all served.replies t)
    adds_polled_all t r = polled_all_keep served R adds_keep t r

    -- ---- turns

    pub adds_heard : (reader : Reader served) (event : Event) (t : List Act) → R t → R (heard served reader event (told served.replies event t))
    adds_heard reader event t r =
        heard_keeps served reader R adds_keep event (told served.replies event t)
        (told_keeps served reader R adds_keep event t (adds (Happens event) t refl r))

    adds_offered : (b : Bool) (c : ℕ) (octets : List ℕ) (count : ℕ) (t : List Act) → R t → R (offered b c octets count t)
    adds_offered true c (octet ∷ octets) count t r = adds (Sends c (take count (octet ∷ octets))) t refl r
    adds_offered b c octets count t r = r

    adds_dropped : (b : Bool) (c : ℕ) (t : List Act) → R t → R (dropped_if b c t)
    adds_dropped true c t r = adds (Drops c) t refl r
    adds_dropped false c t r = r

    adds_all_offered : (takes : ℕ → ℕ) (conns : List ℕ) (t : List Act) → R t → R (all_offered served.replies takes conns t)
    unfolding all_offered
    adds_all_offered takes [] t r = r
    adds_all_offered takes (c ∷ others) t r =
        let offer : List Act = offered (is_connected c t) c (stands served.replies c t).output (takes c) t in
        adds_all_offered takes others (without_over served.replies c offer)
        (adds_dropped (is_over served.replies c offer) c offer (adds_offered (is_connected c t) c (stands served.replies c t).output (takes c) t r))

    adds_away : (event : Event) (t : List Act) → R t → R (turned_away event t)
    adds_away (Opened conn) t r = adds_dropped (is_turned_away conn t) conn t r
    adds_away event t r = r

    adds_sent : (takes : ℕ → ℕ) (t : List Act) → R t → R (sent_to_all served.replies takes t)
    unfolding sent_to_all
    adds_sent takes t r = adds_all_offered takes (connections t) t r

    pub adds_finished : (turn : Turn) (t : List Act) → R t → R (finished served.replies turn t)
    adds_finished turn t r = adds_sent turn.takes (turned_away turn.event t) (adds_away turn.event t r)

-- ---- lists that stand in front of others

pub tail_quiet : (base : List Act) → IsQuiet (IsTail base)
tail_quiet base = record {
  ends = λ c s t r. tail_one (Ends c s) base t r;
  puts = λ c s octets t r. tail_one (Puts c s octets) base t r;
  finishes = λ c s t r. tail_one (Finishes c s) base t r;
}

module _ {S : Type 0} (served : Served S) (base : List Act) where
  tail_adds : (act : Act) (t : List Act) → is_settling act ≡ false → IsTail base t → IsTail base (act ∷ t)
  tail_adds act t moves r = tail_one act base t r

  module _ (moves : Moves served) where
    pub grows_taken_by : (count channel : ℕ) (t : List Act) → IsTail base t → IsTail base (taken_by count served moves channel t)
    grows_taken_by count channel t r = adds_taken_by served (IsTail base) tail_adds moves count channel t r

    pub grows_taken_from : (count channel : ℕ) (t : List Act) → IsTail base t → IsTail base (taken_from count served moves channel t)
    grows_taken_from count channel t r = adds_taken_from served (IsTail base) tail_adds moves count channel t r

    pub grows_handed_from : (count channel : ℕ) (t : List Act) → IsTail base t → IsTail base (handed_from count served moves channel t)
    grows_handed_from count channel t r = adds_handed_from served (IsTail base) tail_adds moves count channel t r

    pub grows_polled_all : (t : List Act) → IsTail base t → IsTail base (polled_all served.replies t)
    grows_polled_all t r = adds_polled_all served (IsTail base) tail_adds moves t r

    pub grows_cycle : (t : List Act) → IsTail base t → IsTail base (after_cycle served moves t)
    unfolding after_cycle
    grows_cycle t r =
        let in_rings : List Act = taken_from served.circuit.to_server_count served moves 0 t in
        let all_polled : List Act = polled_all served.replies (Settles ∷ in_rings) in
        tail_one Cycles base (handed_from served.circuit.to_client_count served moves 0 all_polled)
        (grows_handed_from served.circuit.to_client_count 0 all_polled
        (grows_polled_all (Settles ∷ in_rings) (tail_one Settles base in_rings (grows_taken_from served.circuit.to_server_count 0 t r))))

    pub grows_cycles : (count : ℕ) (t : List Act) → IsTail base t → IsTail base (after_cycles count served moves t)
    unfolding after_cycles
    grows_cycles zero t r = r
    grows_cycles (suc count) t r = grows_cycles count (after_cycle served moves t) (grows_cycle t r)

    pub grows_finished : (turn : Turn) (t : List Act) → IsTail base t → IsTail base (finished served.replies turn t)
    grows_finished turn t r = adds_finished served (IsTail base) tail_adds moves turn t r

    pub grows_turn : (reader : Reader served) (turn : Turn) (t : List Act) → IsTail base t → IsTail base (after_turn served reader moves turn t)
    unfolding worked
    grows_turn reader turn t r =
        grows_finished turn (worked served reader moves turn.event t)
        (grows_cycles TURN_CYCLES (heard served reader turn.event (told served.replies turn.event t)) (adds_heard served (IsTail base) tail_adds moves reader turn.event t r))

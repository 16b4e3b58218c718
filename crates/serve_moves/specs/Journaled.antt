-- A journal that is played again by the rule: it gives what is taken and what is handed.
use Rattle.std.specs.Prelude.{◌≡◌, ℕ, ◌&&◌, ◌||◌, nat_lt, if◌then◌else◌, Bool, true, false, Option, Some, None, List, length, filter, refl}
use Rattle.cycle_rules.specs.Circuit.{Bits}
use Rattle.cycle_rules.specs.Lists.{first}
use Rattle.cycle_rules.specs.Rings.{ring_at, front_of, has_room}
use Rattle.serve_acts.specs.Acts.{Act}
use Rattle.serve_acts.specs.Calls.{waiting}
use Rattle.serve_acts.specs.Journal.{Taken, Handed, cycles, all_taken}
use Rattle.serve_acts.specs.Machines.{machine}
use Rattle.serve_acts.specs.Served.{Served, Replies}
use Rattle.serve_acts.specs.declared.call.Call.{Call}
use Rattle.serve_laws.specs.Replay.{is_taken_at, hands_at}
use Rattle.serve_rule.specs.Connection.{is_off}
use Rattle.serve_rule.specs.Moves.{Moves}

-- how many values of a channel are taken in a cycle
abbrev pub count_at : ℕ → ℕ → List Taken → ℕ
count_at n channel entries = length (filter (is_taken_at n channel) entries)

-- the journal has more of them in this cycle than were taken so far
abbrev pub is_next : List Taken → ℕ → List Act → Bool
is_next takes channel t = nat_lt (count_at (cycles t) channel (all_taken t)) (count_at (cycles t) channel takes)

-- the stream of the call that waits first was cut: the rule withdraws it, and takes no value
abbrev pub is_cut_first : Replies → Option Call → List Act → Bool
is_cut_first replies None t = false
is_cut_first replies (Some call) t = is_off replies call.conn call.stream t

pub journal_room : (room other : Bool) → (room && other) ≡ true → room ≡ true
journal_room true other e = refl
journal_room false other e = cc

pub journal_front : (hands : Bool) (front : Option Bits) (word : Bits) → (if hands then front else None) ≡ Some word → front ≡ Some word
journal_front true front word e = e
journal_front false front word e = cc

-- values are taken while the journal has further ones of their channel in this cycle, and a channel hands in the cycles in which
-- the journal says so; never without room, or without a word
abbrev pub journal_moves : {S : Type 0} → (served : Served S) → List Taken → List Handed → Moves served
journal_moves served takes hands = record {
  takes = λ channel t. has_room (ring_at (machine served t).to_server channel) && (is_cut_first served.replies (first (waiting channel t)) t || is_next takes channel t);
  hands = λ channel t. if hands_at (cycles t) channel hands then front_of (machine served t).to_client channel else None;
  room = λ channel t is.
      journal_room (has_room (ring_at (machine served t).to_server channel)) (is_cut_first served.replies (first (waiting channel t)) t || is_next takes channel t) is;
  front = λ channel word t is. journal_front (hands_at (cycles t) channel hands) (front_of (machine served t).to_client channel) word is;
}

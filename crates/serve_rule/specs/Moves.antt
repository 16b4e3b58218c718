-- What is taken next, and what is handed: the server's own rule, or what is given in its place, as a journal that is played
-- again.
use Rattle.std.specs.Prelude.{◌≡◌, ℕ, Bool, true, Option, Some, List}
use Rattle.cycle_rules.specs.Circuit.{Bits}
use Rattle.cycle_rules.specs.Rings.{ring_at, front_of, has_room}
use Rattle.serve_acts.specs.Acts.{Act}
use Rattle.serve_acts.specs.Machines.{machine}
use Rattle.serve_acts.specs.Served.{Served}

-- `takes` tells whether a channel's next value is taken, `hands` which word a channel hands, if it does. A value is taken only
-- where its ring has room, and the word that is handed is the oldest of its ring.
pub record Moves {S : Type 0} (served : Served S) : Type 0 where
  pub takes : ℕ → List Act → Bool
  pub hands : ℕ → List Act → Option Bits
  pub room : (channel : ℕ) (t : List Act) → takes channel t ≡ true → has_room (ring_at (machine served t).to_server channel) ≡ true
  pub front : (channel : ℕ) (word : Bits) (t : List Act) → hands channel t ≡ Some word → front_of (machine served t).to_client channel ≡ Some word

-- the server's own: values are taken while there is room, and a channel hands while its ring is not empty
abbrev pub own_moves : {S : Type 0} → (served : Served S) → Moves served
own_moves served = record {
  takes = λ channel t. has_room (ring_at (machine served t).to_server channel);
  hands = λ channel t. front_of (machine served t).to_client channel;
  room = λ channel t is. is;
  front = λ channel word t is. is;
}

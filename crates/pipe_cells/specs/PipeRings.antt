-- The rings of a pipe, one each way, with what was taken and handed.
use Rattle.std.specs.Prelude.{◌≡◌, ℕ, ◌+◌, ◌-◌, ◌&&◌, nat_lt, min, Bool, List, [], ◌∷◌, ◌++◌, length, take, drop, Option}
use Rattle.cycle_rules.specs.Circuit.{Bits}
use Rattle.cycle_rules.specs.Cycle.{word_handed, transfers_from}
use Rattle.cycle_rules.specs.Rings.{has_room, after_pop, after_push}
use Rattle.cycle_rules.specs.Lists.{first}
use Rattle.cycle_rules.specs.declared.limits.TheConstants.{RING_VALUES, SESSION_VALUES}
use Rattle.pipe_cells.specs.Cells.{next_ready, word_out, row_after}
use Rattle.cycle_rules.specs.declared.transfer.Transfer.{Transfer}

pub record PipeRings : Type 0 where
  pub entering : List Bits
  pub leaving : List Bits
  pub cycles : ℕ
  pub taken : List Transfer
  pub handed : List Transfer

-- whether the session and the ring have room for one more value
abbrev pub may_take : PipeRings → Bool
may_take ports = nat_lt (length ports.taken) SESSION_VALUES && has_room ports.entering

-- one more value taken
abbrev pub with_take : PipeRings → Bits → PipeRings
with_take ports word = record ports {
  entering = ports.entering ++ word ∷ [];
  taken = ports.taken ++ record { cycle = ports.cycles; channel = 0; word = word } ∷ [];
}

-- the oldest word of the ring on the way in gone, where the circuit takes it
abbrev pub with_pop : PipeRings → Bool → PipeRings
with_pop ports ready = record ports { entering = after_pop ports.entering ready }

-- the word of the circuit, if it offers one, in the ring on the way out, where that has room
abbrev pub with_push : PipeRings → Option Bits → PipeRings
with_push ports word = record ports { leaving = after_push ports.leaving word }

-- the oldest word of the ring on the way out handed, if there is one and the switch is on
abbrev pub with_hand : Bool → PipeRings → PipeRings
with_hand switch ports = record ports {
  leaving = after_pop ports.leaving switch;
  handed = ports.handed ++ transfers_from ports.cycles 0 (word_handed ports.leaving switch ∷ []);
}

-- one more cycle ended
abbrev pub with_cycle : PipeRings → PipeRings
with_cycle ports = record ports { cycles = ports.cycles + 1 }

-- the values that are taken in a cycle, first come first
abbrev pub values_taken : List Bits → PipeRings → List Bits
values_taken waiting ports = take (min (SESSION_VALUES - length ports.taken) (RING_VALUES - length ports.entering)) waiting

-- what waits and what the rings hold when all of them were taken
pub record TakesAll (waiting : List Bits) (ports : PipeRings) (waiting' : List Bits) (ports' : PipeRings) : Type 0 where
  pub waiting_left : waiting' ≡ drop (length (values_taken waiting ports)) waiting
  pub ports_after : ports' ≡ record ports {
    entering = ports.entering ++ values_taken waiting ports;
    taken = ports.taken ++ transfers_from ports.cycles 0 (values_taken waiting ports ∷ []);
  }

-- nothing in the rings, before the first cycle
abbrev pub new_rings : PipeRings
new_rings = record { entering = []; leaving = []; cycles = 0; taken = []; handed = [] }

-- the rings and the cells after all transfers of a cycle
pub record Transfers (ports : PipeRings) (cells : List (List Bits)) (ports' : PipeRings) (cells' : List (List Bits)) : Type 0 where
  pub ports_after : ports' ≡ record ports {
    entering = after_pop ports.entering (next_ready cells (has_room ports.leaving));
    leaving = after_push ports.leaving (word_out (first ports.entering) cells);
  }
  pub cells_after : cells' ≡ row_after (first ports.entering) cells (has_room ports.leaving)

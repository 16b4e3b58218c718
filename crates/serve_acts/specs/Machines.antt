-- The circuit and its rings after a session's acts.
use Rattle.std.specs.Prelude.{ℕ, zero, suc, ◌==◌, Bool, true, false, cond, List, [], ◌∷◌}
use Rattle.cycle_rules.specs.Cycle.{Machine, after_transfers}
use Rattle.cycle_rules.specs.Rings.{rings_with, rings_without_front}
use Rattle.serve_acts.specs.Acts.{Act}
use Rattle.serve_acts.specs.Acts.Act.{Takes, Hands, Settles, Cycles}
use Rattle.serve_acts.specs.Served.{Served}

-- what the function makes of each of so many channels
abbrev pub each : {A : Type 0} → ℕ → (ℕ → A) → List A
each zero f = []
each (suc count) f = f 0 ∷ each count (λ k. f (suc k))

-- empty rings, and the circuit as it starts
abbrev pub new_machine : {S : Type 0} → Served S → Machine S
new_machine served = record {
  to_server = each served.circuit.to_server_count (λ k. []);
  state = served.start;
  to_client = each served.circuit.to_client_count (λ k. []);
}

-- a value joins its ring; all transfers move at once; a channel's oldest value leaves its ring
abbrev pub machine : {S : Type 0} → Served S → List Act → Machine S
machine served [] = new_machine served
machine served (Takes call ∷ t) = let old = machine served t in record { to_server = rings_with old.to_server call.channel call.word; state = old.state; to_client = old.to_client }
machine served (Settles ∷ t) = after_transfers served.circuit (machine served t)
machine served (Hands channel conn stream word ∷ t) = let old = machine served t in record { to_server = old.to_server; state = old.state; to_client = rings_without_front old.to_client channel }
machine served (act ∷ t) = machine served t

-- the transfers of this cycle have moved
abbrev pub is_settled : List Act → Bool
is_settled [] = false
is_settled (Settles ∷ t) = true
is_settled (Cycles ∷ t) = false
is_settled (act ∷ t) = is_settled t

-- the channel has handed in this cycle
abbrev pub has_handed : ℕ → List Act → Bool
has_handed k [] = false
has_handed k (Hands channel conn stream word ∷ t) = cond (channel == k) true (has_handed k t)
has_handed k (Cycles ∷ t) = false
has_handed k (act ∷ t) = has_handed k t

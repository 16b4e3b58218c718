-- The rings are as full as the calls that wait allow.
use Rattle.std.specs.Prelude.{◌≡◌, ℕ, ◌⊎◌, false, List, [], ◌∷◌}
use Rattle.cycle_rules.specs.Rings.{ring_at, has_room}
use Rattle.serve_acts.specs.Acts.{Act}
use Rattle.serve_acts.specs.Acts.Act.{Settles}
use Rattle.serve_acts.specs.Calls.{waiting}
use Rattle.serve_acts.specs.Machines.{machine}
use Rattle.serve_acts.specs.Served.{Served}

-- no call waits on the channel, or its ring has no room
pub record IsFilled {S : Type 0} (served : Served S) (channel : ℕ) (t : List Act) : Type 0 where
  pub is : (waiting channel t ≡ []) ⊎ (has_room (ring_at (machine served t).to_server channel) ≡ false)

-- this was so whenever the transfers of a cycle moved
abbrev pub AreFilled : {S : Type 0} → Served S → ℕ → List Act → Type 0
AreFilled served channel [] = Unit {0}
AreFilled served channel (Settles ∷ t) = IsFilled served channel t × AreFilled served channel t
AreFilled served channel (act ∷ t) = AreFilled served channel t

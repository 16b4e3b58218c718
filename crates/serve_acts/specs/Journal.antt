-- The journal of a session: what was taken and handed, in which cycle.
use Rattle.std.specs.Prelude.{ℕ, ◌+◌, List, [], ◌∷◌, ◌++◌}
use Rattle.serve_acts.specs.Acts.{Act}
use Rattle.serve_acts.specs.Acts.Act.{Takes, Hands, Cycles}
use Rattle.serve_acts.specs.declared.call.Call.{Call}

-- a value that was taken, of which call, and a channel that handed its oldest
pub record Taken : Type 0 where
  pub cycle : ℕ
  pub call : Call

pub record Handed : Type 0 where
  pub cycle : ℕ
  pub channel : ℕ

-- how many cycles are over
abbrev pub cycles : List Act → ℕ
cycles [] = 0
cycles (Cycles ∷ t) = cycles t + 1
cycles (act ∷ t) = cycles t

abbrev pub all_taken : List Act → List Taken
all_taken [] = []
all_taken (Takes call ∷ t) = all_taken t ++ record { cycle = cycles t; call = call } ∷ []
all_taken (act ∷ t) = all_taken t

abbrev pub all_handed : List Act → List Handed
all_handed [] = []
all_handed (Hands channel conn stream word ∷ t) = all_handed t ++ record { cycle = cycles t; channel = channel } ∷ []
all_handed (act ∷ t) = all_handed t

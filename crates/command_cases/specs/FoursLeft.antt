-- A text that is given out in pieces of four octets.
use Rattle.std.specs.Prelude.{ℕ, List, drop}
use Rattle.command_runs.specs.declared.finish.Finish.{Finish}
use Rattle.command_cases.specs.declared.fours.Fours.{Fours}

-- the octets that are still to come
abbrev pub fours_left : Fours → List ℕ
fours_left fours = drop fours.given fours.text

-- the finish after them
abbrev pub fours_finish : Fours → Finish
fours_finish fours = fours.finish

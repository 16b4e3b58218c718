-- The word that a channel hands.
use Rattle.std.specs.Prelude.{Bool, if◌then◌else◌, List, Option, None}
use Rattle.cycle_rules.specs.Circuit.{Bits}
use Rattle.cycle_rules.specs.Lists.{first}

-- the oldest of its ring where it hands, if there is one
abbrev pub word_out : List Bits → Bool → Option Bits
word_out ring hands = if hands then first ring else None

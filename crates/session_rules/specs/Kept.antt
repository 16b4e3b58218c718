-- What a session keeps beside what contracts see.
use Rattle.std.specs.Prelude.{◌≡◌, ℕ, List}
use Rattle.netlist.specs.Nets.{Bits}
use Rattle.channel_lower.specs.declared.lowered.Lowered.{Lowered}
use Rattle.session_rules.specs.Ports.{blanks_of}
use Rattle.session_rules.specs.Registers.{register_places}

-- a blank word for each to-server channel, and the numbers of the registers
pub record IsKept (lowered : Lowered) (blanks : List Bits) (registers : List ℕ) : Type 0 where
  pub blank : blanks ≡ blanks_of lowered
  pub places : registers ≡ register_places 0 lowered.net.nets

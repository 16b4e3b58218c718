-- What a decoder keeps.
use Rattle.std.specs.Prelude.{Option, Some, None, Result, Ok, Err}
use Rattle.esi_base.specs.declared.stop.Stop.{Stop}
use Rattle.hpack.specs.declared.stop.BlockRule.{BlockRule}
use Rattle.hpack.specs.Tables.{Table, new_table}

-- a decoder: its dynamic table, and why it failed
pub record Decoding : Type 0 where
  pub table : Table
  pub failed : Option (Stop BlockRule)

abbrev pub new_decoding : Decoding
new_decoding = record { table = new_table; failed = None }

-- why a call failed
abbrev pub failure : {A : Type 0} → Result A (Stop BlockRule) → Option (Stop BlockRule)
failure (Ok x) = None
failure (Err stop) = Some stop

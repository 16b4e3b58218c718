-- What decoding a block answers, against how the connection stood.
use Rattle.std.specs.Prelude.{◌≡◌, List, Result, Ok, Err}
use Rattle.esi_base.specs.declared.stop.Stop.{Stop}
use Rattle.esi_base.specs.declared.stop.Stop.TheVariants.{Refused, NoMemory}
use Rattle.hpack.specs.declared.header.Header.{Header}
use Rattle.hpack.specs.declared.stop.BlockRule.{BlockRule}
use Rattle.hpack.specs.Tables.{Table}
use Rattle.std.specs.Prelude.{ℕ}
use Rattle.h2_history.specs.Blocks.{decoded_at}
use Rattle.h2_history.specs.Standing.{Standing}

-- the block was read, and the table is the one after it
pub record IsRead (old : Standing) (octets : List ℕ) (headers : List Header) (new : Standing) : Type 0 where
  pub table : Table
  pub decoded : decoded_at old.tables octets ≡ Ok (record { headers = headers; table = table })
  pub left : new ≡ record old { tables = Ok table }

-- the block breaks this rule
pub record IsRefused (old : Standing) (octets : List ℕ) (rule : BlockRule) (new : Standing) : Type 0 where
  pub decoded : decoded_at old.tables octets ≡ Err rule
  pub left : new ≡ record old { tables = Err (Refused rule) }

abbrev pub Decodes : Standing → List ℕ → Result (List Header) (Stop BlockRule) → Standing → Type 0
Decodes old octets (Ok headers) new = IsRead old octets headers new
Decodes old octets (Err (Refused rule)) new = IsRefused old octets rule new
Decodes old octets (Err NoMemory) new = Unit {0}

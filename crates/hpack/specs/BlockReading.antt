-- Reading a header block to its end.
use Rattle.std.specs.Prelude.{ℕ, zero, suc, List, [], ◌∷◌, length, Result, Ok}
use Rattle.hpack.specs.declared.stop.BlockRule.{BlockRule}
use Rattle.esi_base.specs.Answers.{◌>>=◌}
use Rattle.hpack.specs.Representations.{Listing}
use Rattle.hpack.specs.RepresentationReading.{representation_at}
use Rattle.hpack.specs.Tables.{Table}

-- at most so many representations
unfoldable pub at_most : ℕ → Listing → List ℕ → Result Listing BlockRule
at_most turns old [] = Ok old
at_most zero old (octet ∷ octets) = Ok old
at_most (suc turns) old (octet ∷ octets) = do
  next ← representation_at old (octet ∷ octets)
  at_most turns next.0 next.1

-- representations to the end of the octets, each of which takes one octet at least
unfoldable pub to_end : Listing → List ℕ → Result Listing BlockRule
to_end old octets = at_most (length octets) old octets

-- a header block: its headers, and the table after it
unfoldable pub block_at : Table → List ℕ → Result Listing BlockRule
block_at table octets = to_end (record { headers = []; table = table }) octets

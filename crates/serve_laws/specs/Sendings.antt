-- What stands in a log of what was sent.
use Rattle.std.specs.Prelude.{ℕ, ◌==◌, if◌then◌else◌, List, [], ◌∷◌, ◌++◌}
use Rattle.esi_links.specs.declared.links.Entry.{Entry}
use Rattle.esi_links.specs.declared.links.Entry.TheVariants.{Happened, Sent, Dropped}

-- the octets that the links took for a connection, joined
abbrev pub sent_in : ℕ → List Entry → List ℕ
sent_in c [] = []
sent_in c (Sent conn offered octets ∷ entries) = (if conn == c then octets else []) ++ sent_in c entries
sent_in c (Happened event ∷ entries) = sent_in c entries
sent_in c (Dropped conn ∷ entries) = sent_in c entries

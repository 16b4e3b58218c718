-- The log of the links after a session's acts.
use Rattle.std.specs.Prelude.{List, [], ◌∷◌, ◌++◌, length}
use Rattle.esi_links.specs.declared.links.Entry.{Entry}
use Rattle.esi_links.specs.declared.links.Entry.TheVariants.{Happened, Sent, Dropped}
use Rattle.serve_acts.specs.Acts.{Act}
use Rattle.serve_acts.specs.Acts.Act.{Happens, Sends, Drops}
use Rattle.serve_acts.specs.Histories.{unsent}
use Rattle.serve_acts.specs.Served.{Replies}

-- events, offers of all that waits with what was taken of it, and drops
abbrev pub log : Replies → List Act → List Entry
log replies [] = []
log replies (Happens event ∷ t) = log replies t ++ Happened event ∷ []
log replies (Sends conn octets ∷ t) = log replies t ++ Sent conn (length (unsent replies conn t)) octets ∷ []
log replies (Drops conn ∷ t) = log replies t ++ Dropped conn ∷ []
log replies (act ∷ t) = log replies t

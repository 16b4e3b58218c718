-- What links that play a log tell by the trait of links.
use Rattle.std.specs.Prelude.{ℕ, List, Option, Some, Bool}
use Rattle.esi_links.specs.declared.links.Entry.{Entry}
use Rattle.memory_links.specs.declared.memory.MemoryLinks.{MemoryLinks}
use Rattle.memory_links.specs.Plays.{Play}

-- what they hold
abbrev pub play : MemoryLinks → Play
play links = links.player

-- their log, which is told
abbrev pub played_log : MemoryLinks → Option (List Entry)
played_log links = Some (play links).log

-- whether they are started
abbrev pub is_started : MemoryLinks → Bool
is_started links = (play links).started

-- how many calls failed: one count for all of them, at every address
abbrev pub open_faults_of : MemoryLinks → List ℕ → ℕ
open_faults_of links address = (play links).calls.faults

abbrev pub next_faults_of : MemoryLinks → ℕ
next_faults_of links = (play links).calls.faults

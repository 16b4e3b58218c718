-- What the links in memory that never fail hold.
use Rattle.std.specs.Prelude.{ℕ, List, Option, Some, Bool, drop}
use Rattle.esi_links.specs.declared.links.Entry.{Entry}
use Rattle.esi_links.specs.declared.links.Event.{Event}
use Rattle.esi_links.specs.declared.sure_links.SureLinks.{SureLinks}

-- the events that are still to come
abbrev pub events_left : SureLinks → List Event
events_left links = drop links.given links.events

-- the log so far
abbrev pub sure_log : SureLinks → List Entry
sure_log links = links.log

-- it is told
abbrev pub sure_log_told : SureLinks → Option (List Entry)
sure_log_told links = Some (sure_log links)

-- whether the links are started
abbrev pub sure_started : SureLinks → Bool
sure_started links = links.started

-- nothing ever failed
abbrev pub no_open_faults : SureLinks → List ℕ → ℕ
no_open_faults links address = 0

-- nothing ever failed
abbrev pub no_next_faults : SureLinks → ℕ
no_next_faults links = 0

-- The calls of one kind that an object in memory counts, and those of them that are to fail.
use Rattle.std.specs.Prelude.{ℕ, List, Bool, ◌==◌}
use Rattle.std.specs.List.{list_any}
use Rattle.esi_links.specs.Counts.{one_more}
use Rattle.esi_links.specs.declared.calls.Calls.{Calls}

-- no call was made yet
abbrev pub new_calls : List ℕ → Calls
new_calls failing = record { failing = failing; made = 0; faults = 0 }

-- the number of the next call, from 0, is among those that are to fail
abbrev pub is_due : Calls → Bool
is_due calls = list_any (λ number. number == calls.made) calls.failing

-- after a call that was done
abbrev pub after_pass : Calls → Calls
after_pass calls = record calls { made = one_more calls.made }

-- after a call that failed
abbrev pub after_fault : Calls → Calls
after_fault calls = record calls { made = one_more calls.made; faults = one_more calls.faults }

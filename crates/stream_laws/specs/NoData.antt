-- Entries and calls by which no octet of DATA is put.
use Rattle.std.specs.Prelude.{◌≡◌, List, [], ◌∷◌}
use Rattle.h2_history.specs.History.{Entry}
use Rattle.h2_history.specs.History.Entry.{Fed, In, Out, Took}
use Rattle.h2_history.specs.Puts.{Put}
use Rattle.h2_history.specs.Puts.Put.{Plain}
use Rattle.h2_history.specs.Runs.{Call}
use Rattle.h2_history.specs.Runs.Call.{Send}
use Rattle.h2_layouts.specs.declared.frame.Frame.TheVariants.{Content}

-- the frame has no octet of DATA
abbrev pub HasNoData : Put → Type 0
HasNoData (Plain (Content stream end octets flow)) = octets ≡ []
HasNoData put = Unit {0}

-- none of these frames has
abbrev pub HaveNoData : List Put → Type 0
HaveNoData [] = Unit {0}
HaveNoData (put ∷ puts) = HasNoData put × HaveNoData puts

-- none that is put among these entries has
abbrev pub PutsNoData : List Entry → Type 0
PutsNoData [] = Unit {0}
PutsNoData (Fed octets ∷ entries) = PutsNoData entries
PutsNoData (In frame ∷ entries) = PutsNoData entries
PutsNoData (Out put ∷ entries) = HasNoData put × PutsNoData entries
PutsNoData (Took octets ∷ entries) = PutsNoData entries

-- the call is not `poll_send`
abbrev pub IsNoSend : Call → Type 0
IsNoSend (Send stream octets) = ⊥
IsNoSend call = Unit {0}

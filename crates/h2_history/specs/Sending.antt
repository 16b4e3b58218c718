-- When an end may put what.
use Rattle.std.specs.Prelude.{ℕ, ◌+◌, ◌==◌, ◌&&◌, nat_lt, not, is_none, Bool, true, false, Option, Some, None, List, [], ◌∷◌, ◌++◌, if◌then◌else◌}
use Rattle.h2_history.specs.Puts.{Put}
use Rattle.h2_history.specs.Puts.Put.{Plain}
use Rattle.h2_history.specs.Standing.{Standing}
use Rattle.h2_layouts.specs.declared.frame.Frame.TheVariants.{Update}
use Rattle.h2_layouts.specs.declared.limit.TheConstants.{GREATEST_WINDOW}
use Rattle.h2_layouts.specs.declared.role.Role.{Role}
use Rattle.h2_layouts.specs.declared.role.Role.TheVariants.{Server, Client}
use Rattle.stream_table.specs.declared.open_stream.OpenStream.{OpenStream}
use Rattle.stream_table.specs.Rows.{row_of, is_open}

-- the stream is open, and this end has not ended it
abbrev pub is_writable_row : Option OpenStream → Bool
is_writable_row None = false
is_writable_row (Some row) = not row.here_ended

abbrev pub can_send : ℕ → Standing → Bool
can_send stream s = is_writable_row (row_of stream s.streams)

abbrev pub is_client : Role → Bool
is_client Server = false
is_client Client = true

-- a client whose connection goes on, and has streams left to open
abbrev pub can_open : Standing → Bool
can_open s = is_client s.role && is_none s.broken && nat_lt s.greatest GREATEST_WINDOW

-- a client's streams are odd, one after another
abbrev pub next_stream : Standing → ℕ
next_stream s = if s.greatest == 0 then 1 else s.greatest + 2

abbrev pub stream_update : Role → Bool → ℕ → ℕ → List Put
stream_update Server open_there stream octets = []
stream_update Client open_there stream octets = if open_there then Plain (Update stream octets) ∷ [] else []

-- what is put where octets of DATA are given back
abbrev pub given_back : ℕ → ℕ → Standing → List Put
given_back stream octets s = stream_update s.role (is_open stream s.streams) stream octets ++ Plain (Update 0 octets) ∷ []

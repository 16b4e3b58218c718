-- How a connection stands after a session's acts, act by act: so it is computed once for each act, and the rule computes. That
-- it is what the connection's history says is a law.
use Rattle.std.specs.Prelude.{ℕ, ◌==◌, ◌&&◌, ◌||◌, not, is_none, is_some, Bool, true, false, List, [], ◌∷◌, ◌++◌, map, filter}
use Rattle.std.specs.List.{list_any}
use Rattle.h2_history.specs.History.{Entry, after_all}
use Rattle.h2_history.specs.Standing.{Standing, first_standing}
use Rattle.h2_layouts.specs.declared.role.Role.TheVariants.{Server}
use Rattle.serve_acts.specs.Acts.{Act}
use Rattle.serve_acts.specs.Acts.Act.{Happens}
use Rattle.serve_acts.specs.Connections.{is_connected}
use Rattle.serve_acts.specs.Histories.{entries_of, entries_of_event, is_at}
use Rattle.serve_acts.specs.Served.{Replies}
use Rattle.stream_laws.specs.Marks.{Mark, all_marks, was_closed}
use Rattle.stream_table.specs.declared.open_stream.OpenStream.{OpenStream}
use Rattle.stream_table.specs.Rows.{stream_of}

-- how it stands, and what its history says of streams
pub record Connection : Type 0 where
  pub stands : Standing
  pub marks : List Mark

abbrev pub with_entries : List Entry → Connection → Connection
with_entries entries old = record { stands = after_all entries old.stands; marks = old.marks ++ all_marks entries old.stands }

abbrev pub with_act : Bool → Replies → Act → Connection → Connection
with_act true replies act old = with_entries (entries_of replies act old.stands) old
with_act false replies act old = old

unfoldable pub connection_of : Replies → ℕ → List Act → Connection
connection_of replies c [] = record { stands = first_standing Server; marks = [] }
connection_of replies c (Happens event ∷ t) = with_entries (entries_of_event c event t) (connection_of replies c t)
connection_of replies c (act ∷ t) = with_act (is_at c act) replies act (connection_of replies c t)

-- ---- what the rule asks of it

abbrev pub stands : Replies → ℕ → List Act → Standing
stands replies c t = (connection_of replies c t).stands

-- the stream was reset, or its connection has ended by an error or is gone
abbrev pub is_off : Replies → ℕ → ℕ → List Act → Bool
is_off replies c stream t = not (is_connected c t) || was_closed stream (connection_of replies c t).marks

-- the connection is open, and goes on
abbrev pub goes_on : Replies → ℕ → List Act → Bool
goes_on replies c t = is_connected c t && is_none (stands replies c t).broken

-- and it is open, and has ended by an error
abbrev pub is_over : Replies → ℕ → List Act → Bool
is_over replies c t = is_connected c t && is_some (stands replies c t).broken

abbrev pub streams_if : Bool → List OpenStream → List ℕ
streams_if true rows = map stream_of rows
streams_if false rows = []

-- the open streams of a connection that is open, in the order in which they opened
abbrev pub open_streams : Replies → ℕ → List Act → List ℕ
open_streams replies c t = streams_if (is_connected c t) (stands replies c t).streams

-- those of the first list that are not in the second
abbrev pub no_more : List ℕ → List ℕ → List ℕ
no_more before after = filter (λ stream. not (list_any (λ other. other == stream) after)) before

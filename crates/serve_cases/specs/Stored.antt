-- A session's acts, and beside them the answers that its rule asks for again and again: how the connections 0 and 1 stand, what
-- each stream has to send, the circuit and its rings. So the rule computes in the time of a server; that these are the answers
-- of the acts is a law.
use Rattle.std.specs.Prelude.{ℕ, zero, suc, ◌&&◌, ◌||◌, not, is_none, is_some, Bool, true, false, Option, Some, None, List, [], ◌∷◌, length, filter, if◌then◌else◌}
use Rattle.cycle_rules.specs.Cycle.{Machine, after_transfers}
use Rattle.cycle_rules.specs.Rings.{rings_with, rings_without_front}
use Rattle.h2_history.specs.Standing.{Standing}
use Rattle.serve_acts.specs.Acts.{Act}
use Rattle.serve_acts.specs.Acts.Act.{Happens, Ends, Takes, Lists, Attaches, Hands, Puts, Finishes, Settles}
use Rattle.serve_acts.specs.Connections.{is_connected}
use Rattle.serve_acts.specs.Histories.{entries_of_event, is_at}
use Rattle.serve_acts.specs.Machines.{machine}
use Rattle.serve_acts.specs.Served.{Served, Replies}
use Rattle.serve_acts.specs.Streams.{Held, is_stream, without_first}
use Rattle.serve_rule.specs.Connection.{Connection, connection_of, with_entries, with_act, streams_if}
use Rattle.stream_laws.specs.Marks.{was_closed}

-- ---- what each stream has to send

pub record Row : Type 0 where
  pub conn : ℕ
  pub stream : ℕ
  pub reply : Option Held

abbrev pub found : ℕ → ℕ → List Row → Option Held
found c s [] = None
found c s (row ∷ rows) = if is_stream row.conn row.stream c s then row.reply else found c s rows

abbrev pub without_row : ℕ → ℕ → List Row → List Row
without_row conn stream rows = filter (λ row. not (is_stream row.conn row.stream conn stream)) rows

abbrev pub with_reply : ℕ → ℕ → Option Held → List Row → List Row
with_reply conn stream reply rows = record { conn = conn; stream = stream; reply = reply } ∷ without_row conn stream rows

abbrev pub rows_after : Replies → Act → List Row → List Row
rows_after replies (Takes call) rows = with_reply call.conn call.stream (Some (record { unsent = replies.taken; ends = true })) rows
rows_after replies (Lists conn stream flow text) rows = with_reply conn stream (Some (record { unsent = text; ends = true })) rows
rows_after replies (Attaches channel conn stream flow) rows = with_reply conn stream (Some (record { unsent = []; ends = false })) rows
rows_after replies (Hands channel conn stream word) rows = with_reply conn stream (Some (record { unsent = replies.message channel word; ends = false })) rows
rows_after replies (Puts conn stream octets) rows = with_reply conn stream (without_first (length octets) (found conn stream rows)) rows
rows_after replies (Finishes conn stream) rows = with_reply conn stream None rows
rows_after replies (Ends conn stream) rows = with_reply conn stream None rows
rows_after replies act rows = rows

abbrev pub rows_of : Replies → List Act → List Row
rows_of replies [] = []
rows_of replies (act ∷ t) = rows_after replies act (rows_of replies t)

-- ---- how a connection stands, and the circuit, after one act more

abbrev pub connection_after : Replies → ℕ → Act → List Act → Connection → Connection
connection_after replies c (Happens event) t old = with_entries (entries_of_event c event t) old
connection_after replies c act t old = with_act (is_at c act) replies act old

abbrev pub machine_after : {S : Type 0} → Served S → Act → Machine S → Machine S
machine_after served (Takes call) old = record { to_server = rings_with old.to_server call.channel call.word; state = old.state; to_client = old.to_client }
machine_after served Settles old = after_transfers served.circuit old
machine_after served (Hands channel conn stream word) old = record { to_server = old.to_server; state = old.state; to_client = rings_without_front old.to_client channel }
machine_after served act old = old

-- ---- all of it

pub record Stored (S : Type 0) : Type 0 where
  pub acts : List Act
  pub conn_zero : Connection
  pub conn_one : Connection
  pub rows : List Row
  pub machine : Machine S

abbrev pub stored : {S : Type 0} → Served S → List Act → Stored S
stored served t = record {
  acts = t;
  conn_zero = connection_of served.replies 0 t;
  conn_one = connection_of served.replies 1 t;
  rows = rows_of served.replies t;
  machine = machine served t;
}

-- one act more
abbrev pub with_one : {S : Type 0} → Served S → Act → Stored S → Stored S
with_one served act v = record {
  acts = act ∷ v.acts;
  conn_zero = connection_after served.replies 0 act v.acts v.conn_zero;
  conn_one = connection_after served.replies 1 act v.acts v.conn_one;
  rows = rows_after served.replies act v.rows;
  machine = machine_after served act v.machine;
}

-- ---- what the rule asks

module _ {S : Type 0} (served : Served S) where
  abbrev pub connection_at : ℕ → Stored S → Connection
  connection_at zero v = v.conn_zero
  connection_at (suc zero) v = v.conn_one
  connection_at (suc (suc c)) v = connection_of served.replies (suc (suc c)) v.acts

  abbrev pub held_at : ℕ → ℕ → Stored S → Option Held
  held_at c s v = found c s v.rows

  abbrev pub stands_at : ℕ → Stored S → Standing
  stands_at c v = (connection_at c v).stands

  abbrev pub is_off_at : ℕ → ℕ → Stored S → Bool
  is_off_at c s v = not (is_connected c v.acts) || was_closed s (connection_at c v).marks

  abbrev pub goes_on_at : ℕ → Stored S → Bool
  goes_on_at c v = is_connected c v.acts && is_none (stands_at c v).broken

  abbrev pub is_over_at : ℕ → Stored S → Bool
  is_over_at c v = is_connected c v.acts && is_some (stands_at c v).broken

  abbrev pub streams_at : ℕ → Stored S → List ℕ
  streams_at c v = streams_if (is_connected c v.acts) (stands_at c v).streams

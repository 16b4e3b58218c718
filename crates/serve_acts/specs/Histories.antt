-- The history of each connection, and the octets that were sent to it.
use Rattle.std.specs.Prelude.{ℕ, ◌==◌, ◌&&◌, ◌||◌, not, Bool, true, false, is_some, List, [], ◌∷◌, ◌++◌, length, if◌then◌else◌}
use Rattle.esi_links.specs.declared.links.Event.{Event}
use Rattle.esi_links.specs.declared.links.Event.TheVariants.{Opened, Bytes}
use Rattle.h2_history.specs.History.{Entry, after_all, first_puts, outs, turn_entries}
use Rattle.h2_history.specs.History.Entry.{Fed, Out, Took}
use Rattle.h2_history.specs.Puts.{Put, placed_all}
use Rattle.h2_history.specs.Puts.Put.{Plain, Headers}
use Rattle.hpack.specs.declared.header.Header.{Header}
use Rattle.h2_history.specs.Runs.{data_put, octets_out}
use Rattle.h2_history.specs.Standing.{Standing, first_standing}
use Rattle.h2_history.specs.Verdicts.{update_due}
use Rattle.h2_layouts.specs.declared.frame.Frame.TheVariants.{Reset}
use Rattle.h2_layouts.specs.declared.role.Role.TheVariants.{Server}
use Rattle.serve_acts.specs.Acts.{Act}
use Rattle.serve_acts.specs.Acts.Act.{Happens, Sends, Reads, Takes, Refuses, Declines, Lists, Attaches, Puts, Finishes, Resets, Returns}
use Rattle.serve_acts.specs.Connections.{opened, connections, is_connected, admits}
use Rattle.serve_acts.specs.Served.{Replies}
use Rattle.serve_acts.specs.declared.decline.Decline.TheVariants.{Status}
use Rattle.serve_acts.specs.declared.limits.TheConstants.{RESOURCE_EXHAUSTED}
use Rattle.stream_laws.specs.Marks.{all_marks, was_closed}

-- what is put of these frames where the connection stands so
abbrev pub placed : List Put → Standing → List Entry
placed puts s = outs (placed_all puts s)

-- the first header list of a reply, and then the octets of DATA of its request are given back
abbrev pub answer : ℕ → Bool → ℕ → List Header → List Put
answer stream end flow headers = Headers stream end headers ∷ update_due flow

-- what an event adds: a connection that opens, and finds room, begins as a server does; octets come on one that is open
abbrev pub entries_of_event : ℕ → Event → List Act → List Entry
entries_of_event c (Opened conn) t = if (conn == c) && ((conn == opened t) && admits (connections t)) then outs (first_puts Server) else []
entries_of_event c (Bytes conn octets) t = if (conn == c) && is_connected c t then Fed octets ∷ [] else []
entries_of_event c event t = []

-- what an act adds to the history of its connection, which stood so before it
abbrev pub entries_of : Replies → Act → Standing → List Entry
entries_of replies (Reads conn) s = turn_entries s
entries_of replies (Takes call) s = placed (answer call.stream false call.flow replies.begin) s
entries_of replies (Refuses call) s = placed (answer call.stream true call.flow (replies.decline (Status RESOURCE_EXHAUSTED))) s
entries_of replies (Declines conn stream flow decline) s = placed (answer stream true flow (replies.decline decline)) s
entries_of replies (Lists conn stream flow text) s = placed (answer stream false flow replies.begin) s
entries_of replies (Attaches channel conn stream flow) s = placed (answer stream false flow replies.begin) s
entries_of replies (Puts conn stream octets) s = Out (data_put stream octets) ∷ []
entries_of replies (Finishes conn stream) s = placed (Headers stream true replies.trailers ∷ []) s
entries_of replies (Resets conn stream code) s = placed (Plain (Reset stream code) ∷ []) s
entries_of replies (Returns conn stream octets) s = placed (update_due octets) s
entries_of replies (Sends conn octets) s = Took (length octets) ∷ []
entries_of replies act s = []

-- whether the act is one of the connection
abbrev pub is_at : ℕ → Act → Bool
is_at c (Reads conn) = conn == c
is_at c (Takes call) = call.conn == c
is_at c (Refuses call) = call.conn == c
is_at c (Declines conn stream flow decline) = conn == c
is_at c (Lists conn stream flow text) = conn == c
is_at c (Attaches channel conn stream flow) = conn == c
is_at c (Puts conn stream octets) = conn == c
is_at c (Finishes conn stream) = conn == c
is_at c (Resets conn stream code) = conn == c
is_at c (Returns conn stream octets) = conn == c
is_at c (Sends conn octets) = conn == c
is_at c act = false

-- the connection after these entries, from before its first frame on
abbrev pub stood : List Entry → Standing
stood entries = after_all entries (first_standing Server)

abbrev pub history : Replies → ℕ → List Act → List Entry
history replies c [] = []
history replies c (Happens event ∷ t) = history replies c t ++ entries_of_event c event t
history replies c (act ∷ t) = history replies c t ++ (if is_at c act then entries_of replies act (stood (history replies c t)) else [])

-- how the connection stands
abbrev pub standing : Replies → ℕ → List Act → Standing
standing replies c t = stood (history replies c t)

-- the octets of the frames that were put on the connection
abbrev pub octets_put_on : Replies → ℕ → List Act → List ℕ
octets_put_on replies c t = octets_out (history replies c t) (first_standing Server)

-- those that the links took of them
abbrev pub sent_to : ℕ → List Act → List ℕ
sent_to c [] = []
sent_to c (Sends conn octets ∷ t) = if conn == c then sent_to c t ++ octets else sent_to c t
sent_to c (act ∷ t) = sent_to c t

-- and those that wait to be sent
abbrev pub unsent : Replies → ℕ → List Act → List ℕ
unsent replies c t = (standing replies c t).output

-- the connection has ended by an error
abbrev pub is_broken : Replies → ℕ → List Act → Bool
is_broken replies c t = is_some (standing replies c t).broken

-- no reply is sent any more on the stream: it was reset by either end, or its connection has ended or is gone
abbrev pub is_cut : Replies → ℕ → ℕ → List Act → Bool
is_cut replies c stream t = not (is_connected c t) || was_closed stream (all_marks (history replies c t) (first_standing Server))

-- How a connection stands, act by act, is what its history says.
use Rattle.std.proofs.Common.{◌≡◌, ℕ, ◌||◌, not, cond, Bool, true, false, List, [], ◌∷◌, ◌++◌, refl, ap, sym, ◌∙◌, append_assoc, append-nil}
use Rattle.h2_history.specs.History.{Entry, after, after_all}
use Rattle.h2_history.specs.RunLaws.{after_joined}
use Rattle.h2_history.specs.Standing.{Standing, first_standing}
use Rattle.h2_layouts.specs.declared.role.Role.TheVariants.{Server}
use Rattle.serve_acts.specs.Acts.{Act}
use Rattle.serve_acts.specs.Acts.Act.{Happens}
use Rattle.serve_acts.specs.Connections.{is_connected}
use Rattle.serve_acts.specs.Histories.{history, standing, stood, entries_of, entries_of_event, is_at, is_cut}
use Rattle.serve_acts.specs.Served.{Replies}
use Rattle.stream_laws.specs.Marks.{Mark, all_marks, marks_of_entry, was_closed}
use Rattle.serve_rule.specs.Connection.{Connection, with_entries, with_act, connection_of, stands, is_off}

-- what a history comes to
abbrev pub connection_after : List Entry → Connection
connection_after entries = record { stands = stood entries; marks = all_marks entries (first_standing Server) }

marks_joined : (entries more : List Entry) (s : Standing) → all_marks (entries ++ more) s ≡ all_marks entries s ++ all_marks more (after_all entries s)
marks_joined [] more s = refl
marks_joined (entry ∷ entries) more s =
    ap (λ (l : List Mark). marks_of_entry entry s ++ l) (marks_joined entries more (after entry s))
    ∙ sym (append_assoc (marks_of_entry entry s) (all_marks entries (after entry s)) (all_marks more (after_all entries (after entry s))))

pair : (s t : Standing) (ms ns : List Mark) → s ≡ t → ms ≡ ns → ◌≡◌ {A = Connection} (record { stands = s; marks = ms }) (record { stands = t; marks = ns })
pair s t ms ns e f =
    ap (λ (x : Standing). record { stands = x; marks = ms }) e
    ∙ ap (λ (l : List Mark). record { stands = t; marks = l }) f

more_entries : (entries more : List Entry) → with_entries more (connection_after entries) ≡ connection_after (entries ++ more)
more_entries entries more =
    pair (after_all more (stood entries)) (stood (entries ++ more)) (all_marks entries (first_standing Server) ++ all_marks more (stood entries)) (all_marks (entries ++ more) (first_standing Server))
    (sym (after_joined entries more (first_standing Server))) (sym (marks_joined entries more (first_standing Server)))

act_entries : (b : Bool) (replies : Replies) (act : Act) (entries : List Entry)
    → with_act b replies act (connection_after entries) ≡ connection_after (entries ++ cond b (entries_of replies act (stood entries)) [])
act_entries true replies act entries = more_entries entries (entries_of replies act (stood entries))
act_entries false replies act entries = ap connection_after (sym (append-nil entries))

pub connection_is : (replies : Replies) (c : ℕ) (t : List Act) → connection_of replies c t ≡ connection_after (history replies c t)
unfolding connection_of
connection_is replies c [] = refl
connection_is replies c (Happens event ∷ t) =
    ap (λ (n : Connection). with_entries (entries_of_event c event t) n) (connection_is replies c t)
    ∙ more_entries (history replies c t) (entries_of_event c event t)
connection_is replies c (act ∷ t) =
    ap (λ (n : Connection). with_act (is_at c act) replies act n) (connection_is replies c t)
    ∙ act_entries (is_at c act) replies act (history replies c t)

pub stands_is : (replies : Replies) (c : ℕ) (t : List Act) → stands replies c t ≡ standing replies c t
stands_is replies c t = ap (λ (n : Connection). n.stands) (connection_is replies c t)

pub off_is : (replies : Replies) (c stream : ℕ) (t : List Act) → is_off replies c stream t ≡ is_cut replies c stream t
off_is replies c stream t = ap (λ (n : Connection). not (is_connected c t) || was_closed stream n.marks) (connection_is replies c t)

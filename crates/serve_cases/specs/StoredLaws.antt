-- What is kept beside a session's acts are the answers of these acts.
use Rattle.std.proofs.Common.{◌≡◌, ℕ, zero, suc, ◌==◌, ◌&&◌, ◌||◌, not, cond, is_none, is_some, Bool, true, false, Option, Some, None, List, [], ◌∷◌, length, refl, ap, sym, ◌∙◌, eqb-true}
use Rattle.h2_history.specs.Standing.{Standing}
use Rattle.serve_acts.specs.Acts.{Act}
use Rattle.serve_acts.specs.Acts.Act.{Happens, Ends, Takes, Lists, Attaches, Hands, Puts, Finishes, Settles}
use Rattle.serve_acts.specs.Connections.{is_connected}
use Rattle.serve_acts.specs.Machines.{machine}
use Rattle.serve_acts.specs.Served.{Served, Replies}
use Rattle.serve_acts.specs.Streams.{Held, is_stream, held, without_first}
use Rattle.serve_cases.specs.Stored.{Row, found, without_row, with_reply, rows_of, connection_after, machine_after, stored, with_one, connection_at, held_at, stands_at, is_off_at, goes_on_at, is_over_at, streams_at}
use Rattle.serve_rule.specs.Connection.{Connection, connection_of, streams_if, stands, is_off, goes_on, is_over, open_streams}
use Rattle.stream_laws.specs.Marks.{was_closed}

both : (a b : Bool) → (a && b) ≡ true → (a ≡ true) × (b ≡ true)
both true b e = (refl, e)
both false b e = cc

-- ---- what a stream has to send

same_conn : (conn stream c s : ℕ) → is_stream conn stream c s ≡ true → conn ≡ c
same_conn conn stream c s e = eqb-true conn c (both (conn == c) (stream == s) e).0

same_stream : (conn stream c s : ℕ) → is_stream conn stream c s ≡ true → stream ≡ s
same_stream conn stream c s e = eqb-true stream s (both (conn == c) (stream == s) e).1

-- a row of one stream is none of another
other_row : (a b conn stream c s : ℕ) → is_stream a b conn stream ≡ true → is_stream conn stream c s ≡ false → is_stream a b c s ≡ false
other_row a b conn stream c s same other =
    ap (λ (n : ℕ). is_stream n b c s) (same_conn a b conn stream same) ∙ (ap (λ (n : ℕ). is_stream conn n c s) (same_stream a b conn stream same) ∙ other)

found_but : (b : Bool) (conn stream c s : ℕ) (row : Row) (rest rows : List Row) → is_stream row.conn row.stream conn stream ≡ b → is_stream conn stream c s ≡ false
    → found c s rest ≡ found c s rows → found c s (cond (not b) (row ∷ rest) rest) ≡ found c s (row ∷ rows)
found_but true conn stream c s row rest rows same other is =
    is ∙ sym (ap (λ (b : Bool). cond b row.reply (found c s rows)) (other_row row.conn row.stream conn stream c s same other))
found_but false conn stream c s row rest rows same other is = ap (λ (there : Option Held). cond (is_stream row.conn row.stream c s) row.reply there) is

found_without : (conn stream c s : ℕ) (rows : List Row) → is_stream conn stream c s ≡ false → found c s (without_row conn stream rows) ≡ found c s rows
found_without conn stream c s [] other = refl
found_without conn stream c s (row ∷ rows) other =
    found_but (is_stream row.conn row.stream conn stream) conn stream c s row (without_row conn stream rows) rows refl other (found_without conn stream c s rows other)

found_by : (b : Bool) (conn stream c s : ℕ) (reply old : Option Held) (rows : List Row) → is_stream conn stream c s ≡ b → found c s rows ≡ old
    → cond b reply (found c s (without_row conn stream rows)) ≡ cond b reply old
found_by true conn stream c s reply old rows e is = refl
found_by false conn stream c s reply old rows e is = found_without conn stream c s rows e ∙ is

found_with : (conn stream c s : ℕ) (reply old : Option Held) (rows : List Row) → found c s rows ≡ old → found c s (with_reply conn stream reply rows) ≡ cond (is_stream conn stream c s) reply old
found_with conn stream c s reply old rows is = found_by (is_stream conn stream c s) conn stream c s reply old rows refl is

-- what is put of a stream is taken off what this stream has to send
put_by : (b : Bool) (conn stream c s octets : ℕ) (there here : Option Held) → (b ≡ true → there ≡ here) → cond b (without_first octets there) here ≡ cond b (without_first octets here) here
put_by true conn stream c s octets there here is = ap (λ (x : Option Held). without_first octets x) (is refl)
put_by false conn stream c s octets there here is = refl

held_of_same : (replies : Replies) (conn stream c s : ℕ) (t : List Act) → is_stream conn stream c s ≡ true → held replies conn stream t ≡ held replies c s t
held_of_same replies conn stream c s t e =
    ap (λ (n : ℕ). held replies n stream t) (same_conn conn stream c s e) ∙ ap (λ (n : ℕ). held replies c n t) (same_stream conn stream c s e)

pub rows_are : (replies : Replies) (c s : ℕ) (t : List Act) → found c s (rows_of replies t) ≡ held replies c s t
rows_are replies c s [] = refl
rows_are replies c s (Takes call ∷ t) =
    found_with call.conn call.stream c s (Some (record { unsent = replies.taken; ends = true })) (held replies c s t) (rows_of replies t) (rows_are replies c s t)
rows_are replies c s (Lists conn stream flow text ∷ t) = found_with conn stream c s (Some (record { unsent = text; ends = true })) (held replies c s t) (rows_of replies t) (rows_are replies c s t)
rows_are replies c s (Attaches channel conn stream flow ∷ t) =
    found_with conn stream c s (Some (record { unsent = []; ends = false })) (held replies c s t) (rows_of replies t) (rows_are replies c s t)
rows_are replies c s (Hands channel conn stream word ∷ t) =
    found_with conn stream c s (Some (record { unsent = replies.message channel word; ends = false })) (held replies c s t) (rows_of replies t) (rows_are replies c s t)
rows_are replies c s (Puts conn stream octets ∷ t) =
    found_with conn stream c s (without_first (length octets) (found conn stream (rows_of replies t))) (held replies c s t) (rows_of replies t) (rows_are replies c s t)
    ∙ put_by (is_stream conn stream c s) conn stream c s (length octets) (found conn stream (rows_of replies t)) (held replies c s t)
    (λ e. rows_are replies conn stream t ∙ held_of_same replies conn stream c s t e)
rows_are replies c s (Finishes conn stream ∷ t) = found_with conn stream c s None (held replies c s t) (rows_of replies t) (rows_are replies c s t)
rows_are replies c s (Ends conn stream ∷ t) = found_with conn stream c s None (held replies c s t) (rows_of replies t) (rows_are replies c s t)
rows_are replies c s (act ∷ t) = rows_are replies c s t

-- ---- one act more

connection_next : (replies : Replies) (c : ℕ) (act : Act) (t : List Act) → connection_after replies c act t (connection_of replies c t) ≡ connection_of replies c (act ∷ t)
unfolding connection_of
connection_next replies c (Happens event) t = refl
connection_next replies c act t = refl

machine_next : {S : Type 0} (served : Served S) (act : Act) (t : List Act) → machine_after served act (machine served t) ≡ machine served (act ∷ t)
machine_next served (Takes call) t = refl
machine_next served Settles t = refl
machine_next served (Hands channel conn stream word) t = refl
machine_next served act t = refl

pub one_more : {S : Type 0} (served : Served S) (act : Act) (t : List Act) → with_one served act (stored served t) ≡ stored served (act ∷ t)
one_more served act t = λ i. record {
  acts = act ∷ t;
  conn_zero = connection_next served.replies 0 act t i;
  conn_one = connection_next served.replies 1 act t i;
  rows = rows_of served.replies (act ∷ t);
  machine = machine_next served act t i;
}

-- ---- what the rule asks

module _ {S : Type 0} (served : Served S) where
  pub connection_is_at : (c : ℕ) (t : List Act) → connection_at served c (stored served t) ≡ connection_of served.replies c t
  connection_is_at zero t = refl
  connection_is_at (suc zero) t = refl
  connection_is_at (suc (suc c)) t = refl

  pub held_is_at : (c s : ℕ) (t : List Act) → held_at served c s (stored served t) ≡ held served.replies c s t
  held_is_at c s t = rows_are served.replies c s t

  pub stands_is_at : (c : ℕ) (t : List Act) → stands_at served c (stored served t) ≡ stands served.replies c t
  stands_is_at c t = ap (λ (n : Connection). n.stands) (connection_is_at c t)

  pub off_is_at : (c s : ℕ) (t : List Act) → is_off_at served c s (stored served t) ≡ is_off served.replies c s t
  off_is_at c s t = ap (λ (n : Connection). not (is_connected c t) || was_closed s n.marks) (connection_is_at c t)

  pub goes_is_at : (c : ℕ) (t : List Act) → goes_on_at served c (stored served t) ≡ goes_on served.replies c t
  goes_is_at c t = ap (λ (n : Standing). is_connected c t && is_none n.broken) (stands_is_at c t)

  pub over_is_at : (c : ℕ) (t : List Act) → is_over_at served c (stored served t) ≡ is_over served.replies c t
  over_is_at c t = ap (λ (n : Standing). is_connected c t && is_some n.broken) (stands_is_at c t)

  pub streams_are_at : (c : ℕ) (t : List Act) → streams_at served c (stored served t) ≡ open_streams served.replies c t
  streams_are_at c t = ap (λ (n : Standing). streams_if (is_connected c t) n.streams) (stands_is_at c t)

-- In a turn each open connection with unsent output is sent to once, all that waits, and nobody else is.
use Rattle.std.proofs.Common.{◌≡◌, ℕ, ◌+◌, ◌<◌, ◌==◌, ◌&&◌, ◌||◌, not, cond, Bool, true, false, is_some, List, [], ◌∷◌, ◌++◌, length, take, filter, refl, ap, sym, ◌∙◌, arith, append_assoc, append-nil, ne_eqb, eqb-true, eq-eqb, true≢false, Option}
use Rattle.std.specs.List.{list_any}
use Rattle.esi_links.specs.declared.links.Entry.{Entry}
use Rattle.esi_links.specs.declared.links.Entry.TheVariants.{Happened, Sent}
use Rattle.esi_links.specs.declared.links.Event.{Event}
use Rattle.esi_links.specs.declared.links.Event.TheVariants.{Opened, Closed}
use Rattle.h2_history.specs.Standing.{Standing}
use Rattle.serve_acts.specs.Acts.{Act}
use Rattle.serve_acts.specs.Acts.Act.{Happens, Sends, Drops}
use Rattle.serve_acts.specs.Connections.{opened, connections, is_connected, is_turned_away, admits, counted, after_event}
use Rattle.serve_acts.specs.Histories.{unsent, is_broken}
use Rattle.serve_acts.specs.Log.{log}
use Rattle.serve_acts.specs.Served.{Served, Replies}
use Rattle.serve_rule.specs.Connection.{Connection, connection_of, stands, is_over, with_act}
use Rattle.serve_rule.specs.ConnectionLaws.{stands_is}
use Rattle.serve_rule.specs.Moves.{Moves}
use Rattle.serve_rule.specs.Offers.{offer_entry, drop_entry, offers, away_entry, turn_entries}
use Rattle.serve_rule.specs.Reading.{Reader}
use Rattle.serve_rule.specs.SessionLaws.{worked_log}
use Rattle.serve_rule.specs.Turns.{Turn, offered, dropped_if, without_over, all_offered, sent_to_all, turned_away, worked, session}

-- ---- open connections are numbered apart

abbrev NotAmong : ℕ → List ℕ → Type 0
NotAmong c [] = Unit {0}
NotAmong c (d ∷ ds) = ((c == d) ≡ false) × NotAmong c ds

abbrev AreApart : List ℕ → Type 0
AreApart [] = Unit {0}
AreApart (c ∷ cs) = NotAmong c cs × AreApart cs

abbrev AreBelow : ℕ → List ℕ → Type 0
AreBelow number [] = Unit {0}
AreBelow number (c ∷ cs) = (c < number) × AreBelow number cs

not_among_more : (c : ℕ) (cs : List ℕ) (d : ℕ) → NotAmong c cs → (c == d) ≡ false → NotAmong c (cs ++ d ∷ [])
not_among_more c [] d none apart = (apart, tt)
not_among_more c (e ∷ cs) d none apart = (none.0, not_among_more c cs d none.1 apart)

apart_more : (cs : List ℕ) (d : ℕ) → AreApart cs → AreBelow d cs → AreApart (cs ++ d ∷ [])
apart_more [] d apart below = (tt, tt)
apart_more (c ∷ cs) d apart below = (not_among_more c cs d apart.0 (ne_eqb c d (λ e. absurd (omega (arith, below.0, e)))), apart_more cs d apart.1 below.1)

below_more : (cs : List ℕ) (number : ℕ) → AreBelow number cs → AreBelow (number + 1) (cs ++ number ∷ [])
below_more [] number below = (omega arith, tt)
below_more (c ∷ cs) number below = (omega (arith, below.0), below_more cs number below.1)

below_next : (cs : List ℕ) (number : ℕ) → AreBelow number cs → AreBelow (number + 1) cs
below_next [] number below = tt
below_next (c ∷ cs) number below = (omega (arith, below.0), below_next cs number below.1)

module _ (p : ℕ → Bool) where
  not_among_either : (b : Bool) (c d : ℕ) (ds : List ℕ) → (c == d) ≡ false → NotAmong c ds → NotAmong c (cond b (d ∷ ds) ds)
  not_among_either true c d ds apart none = (apart, none)
  not_among_either false c d ds apart none = none

  not_among_filter : (c : ℕ) (ds : List ℕ) → NotAmong c ds → NotAmong c (filter p ds)
  not_among_filter c [] none = tt
  not_among_filter c (d ∷ ds) none = not_among_either (p d) c d (filter p ds) none.0 (not_among_filter c ds none.1)

  apart_either : (b : Bool) (c : ℕ) (cs : List ℕ) → NotAmong c cs → AreApart cs → AreApart (cond b (c ∷ cs) cs)
  apart_either true c cs none apart = (none, apart)
  apart_either false c cs none apart = apart

  apart_filter : (cs : List ℕ) → AreApart cs → AreApart (filter p cs)
  apart_filter [] apart = tt
  apart_filter (c ∷ cs) apart = apart_either (p c) c (filter p cs) (not_among_filter c cs apart.0) (apart_filter cs apart.1)

  below_either : (b : Bool) (number c : ℕ) (cs : List ℕ) → c < number → AreBelow number cs → AreBelow number (cond b (c ∷ cs) cs)
  below_either true number c cs less below = (less, below)
  below_either false number c cs less below = below

  below_filter : (number : ℕ) (cs : List ℕ) → AreBelow number cs → AreBelow number (filter p cs)
  below_filter number [] below = tt
  below_filter number (c ∷ cs) below = below_either (p c) number c (filter p cs) below.0 (below_filter number cs below.1)

record AreNumbered (number : ℕ) (conns : List ℕ) : Type 0 where
  apart : AreApart conns
  below : AreBelow number conns

opened_numbered : (b room : Bool) (conn number : ℕ) (conns : List ℕ) → (conn == number) ≡ b → AreNumbered number conns
    → AreNumbered (cond b (number + 1) number) (cond (b && room) (conns ++ conn ∷ []) conns)
opened_numbered true true conn number conns e are =
    let same : conn ≡ number = eqb-true conn number e in
    record {
      apart = ap_apart same;
      below = ap_below same;
    }
  where
    ap_apart : conn ≡ number → AreApart (conns ++ conn ∷ [])
    ap_apart same = rw same (apart_more conns number are.apart are.below)

    ap_below : conn ≡ number → AreBelow (number + 1) (conns ++ conn ∷ [])
    ap_below same = rw same (below_more conns number are.below)
opened_numbered true false conn number conns e are = record { apart = are.apart; below = below_next conns number are.below }
opened_numbered false room conn number conns e are = are

event_numbered : (event : Event) (number : ℕ) (conns : List ℕ) → AreNumbered number conns → AreNumbered (counted number event) (after_event number event conns)
event_numbered (Opened conn) number conns are = opened_numbered (conn == number) (admits conns) conn number conns refl are
event_numbered (Closed conn) number conns are = record { apart = apart_filter (λ other. not (other == conn)) conns are.apart; below = below_filter (λ other. not (other == conn)) number conns are.below }
event_numbered event number conns are = are

numbered : (t : List Act) → AreNumbered (opened t) (connections t)
numbered [] = record { apart = tt; below = tt }
numbered (Happens event ∷ t) = event_numbered event (opened t) (connections t) (numbered t)
numbered (Drops conn ∷ t) =
    let are = numbered t in
    record { apart = apart_filter (λ other. not (other == conn)) (connections t) are.apart; below = below_filter (λ other. not (other == conn)) (opened t) (connections t) are.below }
numbered (act ∷ t) = numbered t

-- ---- each of them is open

any_more : (c d : ℕ) (ds : List ℕ) → list_any (λ other. other == c) ds ≡ true → list_any (λ other. other == c) (d ∷ ds) ≡ true
any_more c d ds any = or_true (d == c) (list_any (λ other. other == c) ds) any
  where
    or_true : (a b : Bool) → b ≡ true → (a || b) ≡ true
    or_true true b e = refl
    or_true false b e = e

abbrev AreIn : List ℕ → List ℕ → Type 0
AreIn [] all = Unit {0}
AreIn (c ∷ cs) all = (list_any (λ other. other == c) all ≡ true) × AreIn cs all

in_more : (cs : List ℕ) (d : ℕ) (ds : List ℕ) → AreIn cs ds → AreIn cs (d ∷ ds)
in_more [] d ds are = tt
in_more (c ∷ cs) d ds are = (any_more c d ds are.0, in_more cs d ds are.1)

in_itself : (cs : List ℕ) → AreIn cs cs
in_itself [] = tt
in_itself (c ∷ cs) = (simp (eq-eqb c c refl) refl, in_more cs c cs (in_itself cs))

-- ---- sending to one, and dropping one, leaves the others as they were

module _ (replies : Replies) where
  record IsSame (c : ℕ) (old now : List Act) : Type 0 where
    connection : connection_of replies c now ≡ connection_of replies c old
    connected : is_connected c now ≡ true

  abbrev AreSame : List ℕ → List Act → List Act → Type 0
  AreSame [] old now = Unit {0}
  AreSame (c ∷ cs) old now = IsSame c old now × AreSame cs old now

  same_first : (cs : List ℕ) (t : List Act) → AreIn cs (connections t) → AreSame cs t t
  same_first [] t are = tt
  same_first (c ∷ cs) t are = (record { connection = refl; connected = are.0 }, same_first cs t are.1)

  -- another's offer
  offered_by : (b connected : Bool) (c d : ℕ) (octets : List ℕ) (count : ℕ) (t : List Act) → (c == d) ≡ b → b ≡ false
      → connection_of replies d (offered connected c octets count t) ≡ connection_of replies d t
  unfolding connection_of
  offered_by true connected c d octets count t e apart = cc
  offered_by false true c d (octet ∷ octets) count t e apart = ap (λ (b : Bool). with_act b replies (Sends c (take count (octet ∷ octets))) (connection_of replies d t)) e
  offered_by false connected c d octets count t e apart = refl

  offered_connected : (connected : Bool) (c d : ℕ) (octets : List ℕ) (count : ℕ) (t : List Act) → is_connected d (offered connected c octets count t) ≡ is_connected d t
  offered_connected true c d (octet ∷ octets) count t = refl
  offered_connected connected c d octets count t = refl

  -- another's drop
  dropped_by : (b : Bool) (c d : ℕ) (t : List Act) → connection_of replies d (dropped_if b c t) ≡ connection_of replies d t
  unfolding connection_of
  dropped_by true c d t = refl
  dropped_by false c d t = refl

  any_either : (p q : ℕ → Bool) (a b : Bool) (x : ℕ) (xs : List ℕ) → p x ≡ a → q x ≡ b → (p x ≡ true → q x ≡ true)
      → (list_any p xs ≡ true → list_any p (filter q xs) ≡ true) → list_any p (x ∷ xs) ≡ true → list_any p (filter q (x ∷ xs)) ≡ true
  any_either p q true true x xs e f within rest any = simp (f, e) refl
  any_either p q true false x xs e f within rest any = absurd (true≢false (sym (within e) ∙ f))
  any_either p q false true x xs e f within rest any = simp (f, e) (rest (sym (cut e) ∙ any))
    where
      cut : p x ≡ false → list_any p (x ∷ xs) ≡ list_any p xs
      cut e = simp e refl
  any_either p q false false x xs e f within rest any = simp f (rest (sym (cut e) ∙ any))
    where
      cut : p x ≡ false → list_any p (x ∷ xs) ≡ list_any p xs
      cut e = simp e refl

  any_kept : (p q : ℕ → Bool) (xs : List ℕ) → ((x : ℕ) → p x ≡ true → q x ≡ true) → list_any p xs ≡ true → list_any p (filter q xs) ≡ true
  any_kept p q [] within any = any
  any_kept p q (x ∷ xs) within any = any_either p q (p x) (q x) x xs refl refl (within x) (λ a. any_kept p q xs within a) any

  not_false : (b : Bool) → b ≡ false → not b ≡ true
  not_false true e = cc
  not_false false e = refl

  -- a connection that is another one stays
  apart_stays : (c d x : ℕ) → (c == d) ≡ false → (x == d) ≡ true → not (x == c) ≡ true
  apart_stays c d x apart is =
      not_false (x == c) (ne_eqb x c (λ (e : x ≡ c). true≢false (sym (eq-eqb c d (sym e ∙ eqb-true x d is)) ∙ apart)))

  dropped_connected : (b : Bool) (c d : ℕ) (t : List Act) → (c == d) ≡ false → is_connected d t ≡ true → is_connected d (dropped_if b c t) ≡ true
  dropped_connected true c d t apart is = any_kept (λ other. other == d) (λ other. not (other == c)) (connections t) (λ x e. apart_stays c d x apart e) is
  dropped_connected false c d t apart is = is

  -- after one connection's offer and drop
  abbrev served_one : (ℕ → ℕ) → ℕ → List Act → List Act
  served_one takes c t = without_over replies c (offered (is_connected c t) c (stands replies c t).output (takes c) t)

  same_one : (takes : ℕ → ℕ) (c d : ℕ) (old now : List Act) → (c == d) ≡ false → IsSame d old now → IsSame d old (served_one takes c now)
  same_one takes c d old now apart same =
      let offer : List Act = offered (is_connected c now) c (stands replies c now).output (takes c) now in
      record {
        connection = dropped_by (is_over replies c offer) c d offer
            ∙ (offered_by (c == d) (is_connected c now) c d (stands replies c now).output (takes c) now refl apart ∙ same.connection);
        connected = dropped_connected (is_over replies c offer) c d offer apart
            (offered_connected (is_connected c now) c d (stands replies c now).output (takes c) now ∙ same.connected);
      }

  same_others : (takes : ℕ → ℕ) (c : ℕ) (cs : List ℕ) (old now : List Act) → NotAmong c cs → AreSame cs old now → AreSame cs old (served_one takes c now)
  same_others takes c [] old now apart same = tt
  same_others takes c (d ∷ cs) old now apart same = (same_one takes c d old now apart.0 same.0, same_others takes c cs old now apart.1 same.1)

  -- ---- one connection's entries

  offer_log : (b : Bool) (c : ℕ) (octets : List ℕ) (count : ℕ) (t : List Act) → b ≡ true → unsent replies c t ≡ octets → log replies (offered b c octets count t) ≡ log replies t ++ offer_entry c octets count
  offer_log false c octets count t e is = cc
  offer_log true c [] count t e is = sym (append-nil (log replies t))
  offer_log true c (octet ∷ octets) count t e is = ap (λ (l : List ℕ). log replies t ++ Sent c (length l) (take count (octet ∷ octets)) ∷ []) is

  drop_log : (b : Bool) (c : ℕ) (t : List Act) → log replies (dropped_if b c t) ≡ log replies t ++ drop_entry b c
  drop_log true c t = refl
  drop_log false c t = sym (append-nil (log replies t))

  took_broken : (b : Bool) (c : ℕ) (octets : List ℕ) (old : Connection) → (with_act b replies (Sends c octets) old).stands.broken ≡ old.stands.broken
  took_broken true c octets old = refl
  took_broken false c octets old = refl

  offered_broken : (b : Bool) (c : ℕ) (octets : List ℕ) (count : ℕ) (t : List Act) → (stands replies c (offered b c octets count t)).broken ≡ (stands replies c t).broken
  unfolding connection_of
  offered_broken true c (octet ∷ octets) count t = took_broken (c == c) c (take count (octet ∷ octets)) (connection_of replies c t)
  offered_broken b c octets count t = refl

  over_is : (c : ℕ) (octets : List ℕ) (count : ℕ) (old now : List Act) → IsSame c old now → is_over replies c (offered (is_connected c now) c octets count now) ≡ is_broken replies c old
  over_is c octets count old now same =
      ap (λ (b : Bool). b && is_some (stands replies c (offered (is_connected c now) c octets count now)).broken) (offered_connected (is_connected c now) c c octets count now ∙ same.connected)
      ∙ (ap (λ (o : Option ℕ). is_some o) (offered_broken (is_connected c now) c octets count now)
      ∙ (ap (λ (n : Connection). is_some n.stands.broken) same.connection
      ∙ ap (λ (n : Standing). is_some n.broken) (stands_is replies c old)))

  output_is : (c : ℕ) (old now : List Act) → IsSame c old now → (stands replies c now).output ≡ unsent replies c old
  output_is c old now same = ap (λ (n : Connection). n.stands.output) same.connection ∙ ap (λ (n : Standing). n.output) (stands_is replies c old)

  one_log : (takes : ℕ → ℕ) (c : ℕ) (old now : List Act) → IsSame c old now
      → log replies (served_one takes c now) ≡ log replies now ++ (offer_entry c (unsent replies c old) (takes c) ++ drop_entry (is_broken replies c old) c)
  one_log takes c old now same =
      let octets : List ℕ = (stands replies c now).output in
      let offer : List Act = offered (is_connected c now) c octets (takes c) now in
      drop_log (is_over replies c offer) c offer
      ∙ (ap (λ (l : List Entry). l ++ drop_entry (is_over replies c offer) c) (offer_log (is_connected c now) c octets (takes c) now same.connected (ap (λ (n : Standing). n.output) (sym (stands_is replies c now))))
      ∙ (append_assoc (log replies now) (offer_entry c octets (takes c)) (drop_entry (is_over replies c offer) c)
      ∙ (ap (λ (o : List ℕ). log replies now ++ (offer_entry c o (takes c) ++ drop_entry (is_over replies c offer) c)) (output_is c old now same)
      ∙ ap (λ (b : Bool). log replies now ++ (offer_entry c (unsent replies c old) (takes c) ++ drop_entry b c)) (over_is c octets (takes c) old now same))))

  all_log : (takes : ℕ → ℕ) (conns : List ℕ) (old now : List Act) → AreApart conns → AreSame conns old now
      → log replies (all_offered replies takes conns now) ≡ log replies now ++ offers replies takes conns old
  unfolding all_offered
  all_log takes [] old now apart same = sym (append-nil (log replies now))
  all_log takes (c ∷ conns) old now apart same =
      let first : List Entry = offer_entry c (unsent replies c old) (takes c) ++ drop_entry (is_broken replies c old) c in
      all_log takes conns old (served_one takes c now) apart.1 (same_others takes c conns old now apart.0 same.1)
      ∙ (ap (λ (l : List Entry). l ++ offers replies takes conns old) (one_log takes c old now same.0)
      ∙ append_assoc (log replies now) first (offers replies takes conns old))

  pub sent_log : (takes : ℕ → ℕ) (t : List Act) → log replies (sent_to_all replies takes t) ≡ log replies t ++ offers replies takes (connections t) t
  unfolding sent_to_all
  sent_log takes t = all_log takes (connections t) t t (numbered t).apart (same_first (connections t) t (in_itself (connections t)))

  pub away_log : (event : Event) (t : List Act) → log replies (turned_away event t) ≡ log replies t ++ away_entry event t
  away_log (Opened conn) t = drop_log (is_turned_away conn t) conn t
  away_log event t = sym (append-nil (log replies t))

module _ {S : Type 0} (served : Served S) (reader : Reader served) (moves : Moves served) where
  pub turn_log : (turn : Turn) (turns : List Turn)
      → log served.replies (session served reader moves (turn ∷ turns))
      ≡ log served.replies (session served reader moves turns) ++ Happened turn.event ∷ turn_entries served.replies turn (worked served reader moves turn.event (session served reader moves turns))
  unfolding session
  turn_log turn turns =
      let old : List Act = session served reader moves turns in
      let now : List Act = worked served reader moves turn.event old in
      let open_now : List Act = turned_away turn.event now in
      let away : List Entry = away_entry turn.event now in
      let sends : List Entry = offers served.replies turn.takes (connections open_now) open_now in
      sent_log served.replies turn.takes open_now
      ∙ (ap (λ (l : List Entry). l ++ sends) (away_log served.replies turn.event now)
      ∙ (ap (λ (l : List Entry). (l ++ away) ++ sends) (worked_log served reader moves turn.event turns)
      ∙ (append_assoc (log served.replies old ++ Happened turn.event ∷ []) away sends
      ∙ append_assoc (log served.replies old) (Happened turn.event ∷ []) (away ++ sends))))

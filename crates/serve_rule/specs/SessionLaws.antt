-- Every session of the rule is legal, and is a function of its log.
use Rattle.std.proofs.Common.{◌≡◌, ◌≢◌, ℕ, ◌+◌, ◌≤◌, ◌==◌, ◌&&◌, cond, Bool, true, false, is_some, List, [], ◌∷◌, ◌++◌, length, take, drop, refl, ap, sym, ◌∙◌, arith, append_assoc, append-nil, true≢false, ne_eqb, inl, inr, take-append-drop}
use Rattle.cycle_rules.specs.Circuit.{Bits}
use Rattle.esi_links.specs.declared.links.Entry.{Entry as LogEntry}
use Rattle.esi_links.specs.declared.links.Entry.TheVariants.{Happened, Sent, Dropped}
use Rattle.esi_links.specs.declared.links.Event.{Event}
use Rattle.esi_links.specs.declared.links.Event.TheVariants.{Opened}
use Rattle.h2_history.specs.Standing.{Standing}
use Rattle.serve_acts.specs.Acts.{Act}
use Rattle.serve_acts.specs.Acts.Act.{Happens, Sends, Drops, Hands, Settles, Cycles}
use Rattle.serve_acts.specs.Connections.{connections, is_connected, is_turned_away}
use Rattle.serve_acts.specs.Histories.{unsent}
use Rattle.serve_acts.specs.Legal.{IsLegal, MayHand}
use Rattle.serve_acts.specs.Log.{log}
use Rattle.serve_acts.specs.Machines.{is_settled, has_handed}
use Rattle.serve_acts.specs.Served.{Served}
use Rattle.serve_rule.specs.Connection.{stands, is_over}
use Rattle.serve_rule.specs.ConnectionLaws.{stands_is}
use Rattle.serve_rule.specs.Keeps.{Keeps, KeepsHands, KeepsCycle, is_within, cycles_keep}
use Rattle.serve_rule.specs.Moves.{Moves}
use Rattle.serve_rule.specs.Reading.{Reader, told, heard}
use Rattle.serve_rule.specs.ReadingKeeps.{told_keeps, heard_keeps}
use Rattle.serve_rule.specs.Turns.{Turn, worked, offered, dropped_if, without_over, all_offered, sent_to_all, turned_away, finished, session, played, session_of}
use Rattle.serve_acts.specs.declared.limits.TheConstants.{TURN_CYCLES}

-- ---- what holds within a turn: the list is legal, and what no act of the event and the cycles changes is so

-- acts that neither tell an event nor send nor drop
abbrev pub is_inner : Act → Bool
is_inner (Happens event) = false
is_inner (Sends conn octets) = false
is_inner (Drops conn) = false
is_inner act = true

pub record Stays (Q : List Act → Type 0) : Type 0 where
  pub by_act : (act : Act) (t : List Act) → is_inner act ≡ true → Q t → Q (act ∷ t)

pub record Early {S : Type 0} (served : Served S) (Q : List Act → Type 0) (t : List Act) : Type 0 where
  pub legal : IsLegal served t
  pub unsettled : is_settled t ≡ false
  pub is : Q t

pub record Late {S : Type 0} (served : Served S) (Q : List Act → Type 0) (channel : ℕ) (t : List Act) : Type 0 where
  pub legal : IsLegal served t
  pub settled : is_settled t ≡ true
  pub unhanded : (other : ℕ) → channel ≤ other → has_handed other t ≡ false
  pub is : Q t

within_inner : (act : Act) → is_within act ≡ true → is_inner act ≡ true
within_inner (Happens event) e = e
within_inner (Sends conn octets) e = e
within_inner (Drops conn) e = e
within_inner act e = refl

within_unsettled : (act : Act) (t : List Act) → is_within act ≡ true → is_settled (act ∷ t) ≡ is_settled t
within_unsettled Settles t e = cc
within_unsettled Cycles t e = cc
within_unsettled act t e = refl

within_unhanded : (act : Act) (t : List Act) (channel : ℕ) → is_within act ≡ true → has_handed channel (act ∷ t) ≡ has_handed channel t
within_unhanded Cycles t channel e = cc
within_unhanded (Hands other conn stream word) t channel e = cc
within_unhanded act t channel e = refl

handed_later : (other channel conn stream : ℕ) (word : Bits) (t : List Act) (b : Bool) → (other == channel) ≡ b → b ≡ false → has_handed channel t ≡ false → cond b true (has_handed channel t) ≡ false
handed_later other channel conn stream word t true e f none = cc
handed_later other channel conn stream word t false e f none = none

module _ {S : Type 0} (served : Served S) where
  -- before its transfers no channel has handed in a cycle
  none_handed : (channel : ℕ) (t : List Act) → IsLegal served t → is_settled t ≡ false → has_handed channel t ≡ false
  none_handed channel [] legal is = refl
  none_handed channel (Settles ∷ t) legal is = cc
  none_handed channel (Cycles ∷ t) legal is = refl
  none_handed channel (Hands other conn stream word ∷ t) legal is = absurd (true≢false (sym legal.0.after ∙ is))
  none_handed channel (act ∷ t) legal is = none_handed channel t legal.1 is

  module _ (Q : List Act → Type 0) (s : Stays Q) where
    early_keeps : Keeps served (Early served Q)
    early_keeps = record {
      by_act = λ act t within allowed p. record {
        legal = (allowed, p.legal);
        unsettled = within_unsettled act t within ∙ p.unsettled;
        is = s.by_act act t (within_inner act within) p.is;
      };
    }

    late_keeps : (channel : ℕ) → Keeps served (Late served Q channel)
    late_keeps channel = record {
      by_act = λ act t within allowed p. record {
        legal = (allowed, p.legal);
        settled = within_unsettled act t within ∙ p.settled;
        unhanded = λ other after. within_unhanded act t other within ∙ p.unhanded other after;
        is = s.by_act act t (within_inner act within) p.is;
      };
    }

    late_hands : (channel conn stream : ℕ) (word : Bits) (t : List Act) → MayHand served channel conn stream word t → Late served Q channel t → Late served Q (channel + 1) (Hands channel conn stream word ∷ t)
    late_hands channel conn stream word t may p = record {
      legal = (may, p.legal);
      settled = p.settled;
      unhanded = λ other after. handed_later channel other conn stream word t (channel == other) refl (ne_eqb channel other (λ e. absurd (omega (arith, after, e)))) (p.unhanded other (omega (arith, after)));
      is = s.by_act (Hands channel conn stream word) t refl p.is;
    }

    late_passes : (channel : ℕ) (t : List Act) → Late served Q channel t → Late served Q (channel + 1) t
    late_passes channel t p = record { legal = p.legal; settled = p.settled; unhanded = λ other after. p.unhanded other (omega (arith, after)); is = p.is }

    hands_keep : KeepsHands served (Late served Q)
    hands_keep = record {
      keeps = late_keeps;
      settled = λ channel t p. p.settled;
      unhanded = λ channel t p. p.unhanded channel (omega arith);
      hands = late_hands;
      passes = late_passes;
    }

    cycle_keep : KeepsCycle served (Early served Q) (Late served Q)
    cycle_keep = record {
      early = early_keeps;
      before = λ t p. p.unsettled;
      late = hands_keep;
      settles = λ t p. record {
        legal = (p.unsettled, p.legal);
        settled = refl;
        unhanded = λ other after. none_handed other t p.legal p.unsettled;
        is = s.by_act Settles t refl p.is;
      };
      cycles = λ t p. record { legal = (p.settled, p.legal); unsettled = refl; is = s.by_act Cycles t refl p.is };
    }

    -- the event and the cycles of a turn
    pub worked_early : (reader : Reader served) (moves : Moves served) (event : Event) (t : List Act) → IsLegal served t → is_settled t ≡ false → Q (Happens event ∷ t)
        → Early served Q (worked served reader moves event t)
    unfolding worked
    worked_early reader moves event t legal unsettled q =
        cycles_keep served moves (Early served Q) (Late served Q) cycle_keep TURN_CYCLES (heard served reader event (told served.replies event t))
        (heard_keeps served reader (Early served Q) early_keeps event (told served.replies event t)
        (told_keeps served reader (Early served Q) early_keeps event t (record { legal = (tt, legal); unsettled = unsettled; is = q })))

-- ---- what is sent

pub record IsReady {S : Type 0} (served : Served S) (t : List Act) : Type 0 where
  pub legal : IsLegal served t
  pub unsettled : is_settled t ≡ false

module _ {S : Type 0} (served : Served S) where
  cons_not_none : (octet : ℕ) (octets rest : List ℕ) → rest ≡ octet ∷ octets → rest ≢ []
  cons_not_none octet octets rest is none = let e : octet ∷ octets ≡ [] = sym is ∙ none in cc

  offered_ready : (b : Bool) (c : ℕ) (octets : List ℕ) (count : ℕ) (t : List Act) → is_connected c t ≡ b → unsent served.replies c t ≡ octets → IsReady served t → IsReady served (offered b c octets count t)
  offered_ready true c (octet ∷ octets) count t e is p = record {
    legal = (
      record {
        connected = e;
        waits = cons_not_none octet octets (unsent served.replies c t) is;
        begins = record { rest = drop count (octet ∷ octets); is = is ∙ sym (take-append-drop count (octet ∷ octets)) };
      },
      p.legal,
    );
    unsettled = p.unsettled;
  }
  offered_ready b c octets count t e is p = p

  both : (a b : Bool) → (a && b) ≡ true → (a ≡ true) × (b ≡ true)
  both true b e = (refl, e)
  both false b e = cc

  without_ready : (b : Bool) (c : ℕ) (t : List Act) → is_over served.replies c t ≡ b → IsReady served t → IsReady served (dropped_if b c t)
  without_ready true c t e p =
      let parts = both (is_connected c t) (is_some (stands served.replies c t).broken) e in
      record { legal = (inl (parts.0, ap (λ (n : Standing). is_some n.broken) (sym (stands_is served.replies c t)) ∙ parts.1), p.legal); unsettled = p.unsettled }
  without_ready false c t e p = p

  all_ready : (takes : ℕ → ℕ) (conns : List ℕ) (t : List Act) → IsReady served t → IsReady served (all_offered served.replies takes conns t)
  unfolding all_offered
  all_ready takes [] t p = p
  all_ready takes (c ∷ conns) t p =
      let offer : List Act = offered (is_connected c t) c (stands served.replies c t).output (takes c) t in
      all_ready takes conns (without_over served.replies c offer)
      (without_ready (is_over served.replies c offer) c offer refl
      (offered_ready (is_connected c t) c (stands served.replies c t).output (takes c) t refl (ap (λ (n : Standing). n.output) (sym (stands_is served.replies c t))) p))

  away_if : (b : Bool) (conn : ℕ) (t : List Act) → is_turned_away conn t ≡ b → IsReady served t → IsReady served (dropped_if b conn t)
  away_if true conn t e p = record { legal = (inr e, p.legal); unsettled = p.unsettled }
  away_if false conn t e p = p

  away_ready : (event : Event) (t : List Act) → IsReady served t → IsReady served (turned_away event t)
  away_ready (Opened conn) t p = away_if (is_turned_away conn t) conn t refl p
  away_ready event t p = p

  sent_ready : (takes : ℕ → ℕ) (t : List Act) → IsReady served t → IsReady served (sent_to_all served.replies takes t)
  unfolding sent_to_all
  sent_ready takes t p = all_ready takes (connections t) t p

  finished_ready : (turn : Turn) (t : List Act) → IsReady served t → IsReady served (finished served.replies turn t)
  finished_ready turn t p = sent_ready turn.takes (turned_away turn.event t) (away_ready turn.event t p)

  abbrev Anything : List Act → Type 0
  Anything t = Unit {0}

  anything_stays : Stays Anything
  anything_stays = record { by_act = λ act t inner q. tt }

  module _ (reader : Reader served) (moves : Moves served) where
    session_ready : (turns : List Turn) → IsReady served (session served reader moves turns)
    unfolding session
    session_ready [] = record { legal = tt; unsettled = refl }
    session_ready (turn ∷ turns) =
        let old : IsReady served (session served reader moves turns) = session_ready turns in
        let now = worked_early served Anything anything_stays reader moves turn.event (session served reader moves turns) old.legal old.unsettled tt in
        finished_ready turn (worked served reader moves turn.event (session served reader moves turns)) (record { legal = now.legal; unsettled = now.unsettled })

    -- every session of the rule is legal
    pub session_legal : (turns : List Turn) → IsLegal served (session served reader moves turns)
    session_legal turns = (session_ready turns).legal

    -- ---- the session is a function of its log

    -- these acts stand behind t, and playing their part of the log gives them again
    record IsPlayed (t u : List Act) : Type 0 where
      entries : List LogEntry
      told_so : log served.replies u ≡ log served.replies t ++ entries
      gives : played served reader moves entries t ≡ u

    played_none : (t : List Act) → IsPlayed t t
    unfolding played
    played_none t = record { entries = []; told_so = sym (append-nil (log served.replies t)); gives = refl }

    played_joined : (entries more : List LogEntry) (t : List Act) → played served reader moves (entries ++ more) t ≡ played served reader moves more (played served reader moves entries t)
    unfolding played
    played_joined [] more t = refl
    played_joined (Happened event ∷ entries) more t = played_joined entries more (worked served reader moves event t)
    played_joined (Sent conn count octets ∷ entries) more t = played_joined entries more (Sends conn octets ∷ t)
    played_joined (Dropped conn ∷ entries) more t = played_joined entries more (Drops conn ∷ t)

    played_both : (t u v : List Act) → IsPlayed t u → IsPlayed u v → IsPlayed t v
    played_both t u v first rest = record {
      entries = first.entries ++ rest.entries;
      told_so = rest.told_so ∙ (ap (λ (l : List LogEntry). l ++ rest.entries) first.told_so ∙ append_assoc (log served.replies t) first.entries rest.entries);
      gives = played_joined first.entries rest.entries t ∙ (ap (λ (l : List Act). played served reader moves rest.entries l) first.gives ∙ rest.gives);
    }

    offered_played : (b : Bool) (c : ℕ) (octets : List ℕ) (count : ℕ) (t : List Act) → IsPlayed t (offered b c octets count t)
    unfolding played
    offered_played true c (octet ∷ octets) count t = record {
      entries = Sent c (length (unsent served.replies c t)) (take count (octet ∷ octets)) ∷ [];
      told_so = refl;
      gives = refl;
    }
    offered_played b c octets count t = played_none t

    dropped_played : (b : Bool) (c : ℕ) (t : List Act) → IsPlayed t (dropped_if b c t)
    unfolding played
    dropped_played true c t = record { entries = Dropped c ∷ []; told_so = refl; gives = refl }
    dropped_played false c t = played_none t

    all_played : (takes : ℕ → ℕ) (conns : List ℕ) (t : List Act) → IsPlayed t (all_offered served.replies takes conns t)
    unfolding all_offered
    all_played takes [] t = played_none t
    all_played takes (c ∷ conns) t =
        let offer : List Act = offered (is_connected c t) c (stands served.replies c t).output (takes c) t in
        played_both t offer (all_offered served.replies takes conns (without_over served.replies c offer))
        (offered_played (is_connected c t) c (stands served.replies c t).output (takes c) t)
        (played_both offer (without_over served.replies c offer) (all_offered served.replies takes conns (without_over served.replies c offer))
        (dropped_played (is_over served.replies c offer) c offer) (all_played takes conns (without_over served.replies c offer)))

    away_played : (event : Event) (t : List Act) → IsPlayed t (turned_away event t)
    away_played (Opened conn) t = dropped_played (is_turned_away conn t) conn t
    away_played event t = played_none t

    sent_played : (takes : ℕ → ℕ) (t : List Act) → IsPlayed t (sent_to_all served.replies takes t)
    unfolding sent_to_all
    sent_played takes t = all_played takes (connections t) t

    finished_played : (turn : Turn) (t : List Act) → IsPlayed t (finished served.replies turn t)
    finished_played turn t =
        played_both t (turned_away turn.event t) (finished served.replies turn t) (away_played turn.event t) (sent_played turn.takes (turned_away turn.event t))

    -- the log that no act of the event and the cycles changes
    abbrev Logs : List LogEntry → List Act → Type 0
    Logs entries t = log served.replies t ≡ entries

    logs_stay_by : (act : Act) (t : List Act) → is_inner act ≡ true → log served.replies (act ∷ t) ≡ log served.replies t
    logs_stay_by (Happens event) t inner = cc
    logs_stay_by (Sends conn octets) t inner = cc
    logs_stay_by (Drops conn) t inner = cc
    logs_stay_by act t inner = refl

    logs_stay : (entries : List LogEntry) → Stays (Logs entries)
    logs_stay entries = record { by_act = λ act t inner q. logs_stay_by act t inner ∙ q }

    worked_played : (event : Event) (t : List Act) → IsReady served t → IsPlayed t (worked served reader moves event t)
    unfolding played
    worked_played event t p = record {
      entries = Happened event ∷ [];
      told_so = (worked_early served (Logs (log served.replies (Happens event ∷ t))) (logs_stay (log served.replies (Happens event ∷ t))) reader moves event t p.legal p.unsettled refl).is;
      gives = refl;
    }

    session_played : (turns : List Turn) → IsPlayed [] (session served reader moves turns)
    unfolding session
    session_played [] = played_none []
    session_played (turn ∷ turns) =
        let old : List Act = session served reader moves turns in
        let now : List Act = worked served reader moves turn.event old in
        played_both [] old (finished served.replies turn now) (session_played turns)
        (played_both old now (finished served.replies turn now) (worked_played turn.event old (session_ready turns)) (finished_played turn now))

    -- a session of the rule is what the rule makes of its log
    pub session_is : (turns : List Turn) → session_of served reader moves (log served.replies (session served reader moves turns)) ≡ session served reader moves turns
    session_is turns =
        let all = session_played turns in
        ap (λ (l : List LogEntry). played served reader moves l []) all.told_so ∙ all.gives

    -- the event and the cycles of a turn tell the event alone
    pub worked_log : (event : Event) (turns : List Turn)
        → log served.replies (worked served reader moves event (session served reader moves turns)) ≡ log served.replies (session served reader moves turns) ++ Happened event ∷ []
    worked_log event turns =
        let old : List Act = session served reader moves turns in
        (worked_early served (Logs (log served.replies (Happens event ∷ old))) (logs_stay (log served.replies (Happens event ∷ old))) reader moves event old (session_ready turns).legal (session_ready turns).unsettled refl).is

-- Takes leave no call waiting whose ring has room.
use Rattle.std.proofs.Common.{◌≡◌, ℕ, zero, suc, ◌+◌, ◌<◌, ◌≤◌, nat_le, not, cond, Bool, true, false, Option, Some, None, List, [], ◌∷◌, ◌++◌, length, drop, filter, refl, ap, sym, ◌∙◌, subst, arith, inl, inr, eq-eqb, ne_eqb, leb-true, leb-false, get_or-set_other}
use Rattle.std.proofs.lemmas.Bool.{cases_lt}
use Rattle.cycle_rules.specs.Lists.{first}
use Rattle.cycle_rules.specs.Rings.{ring_at, has_room}
use Rattle.cycle_rules.specs.declared.limits.TheConstants.{SESSION_VALUES}
use Rattle.serve_acts.specs.Acts.{Act}
use Rattle.serve_acts.specs.Acts.Act.{Ends, Takes, Refuses, Settles, Cycles}
use Rattle.serve_acts.specs.Calls.{is_on, is_of, is_taken, taken, waiting, kept_by, without_front}
use Rattle.serve_acts.specs.Legal.{IsLegal, IsDue}
use Rattle.serve_acts.specs.Machines.{machine, is_settled}
use Rattle.serve_acts.specs.Served.{Served}
use Rattle.serve_acts.specs.declared.call.Call.{Call}
use Rattle.serve_laws.specs.OnceLaws.{untaken}
use Rattle.serve_moves.specs.Filled.{IsFilled}
use Rattle.serve_moves.specs.Quiet.{IsQuiet, performed_quiet, polled_quiet}
use Rattle.serve_rule.specs.Connection.{is_off}
use Rattle.serve_rule.specs.ConnectionLaws.{off_is}
use Rattle.serve_rule.specs.Keeps.{Keeps, is_within, act_keeps, polled_keeps}
use Rattle.serve_rule.specs.Moves.{own_moves}
use Rattle.serve_rule.specs.Performing.{performed}
use Rattle.serve_rule.specs.Taking.{accepted, unless_off, taken_if, full_or, take_step, taken_by, taken_from}
use Rattle.serve_rule.specs.Waiting.{first_on}

-- ---- lists

shorter_by : (b : Bool) (call : Call) (rest calls : List Call) → length rest ≤ length calls → length (cond b (call ∷ rest) rest) ≤ length (call ∷ calls)
shorter_by true call rest calls is = omega (arith, is)
shorter_by false call rest calls is = omega (arith, is)

filter_shorter : (p : Call → Bool) (calls : List Call) → length (filter p calls) ≤ length calls
filter_shorter p [] = omega arith
filter_shorter p (call ∷ calls) = shorter_by (p call) call (filter p calls) calls (filter_shorter p calls)

kept_shorter : (b : Bool) (c s : ℕ) (calls : List Call) → length (kept_by c s b calls) ≤ length calls
kept_shorter true c s calls = omega arith
kept_shorter false c s calls = filter_shorter (λ call. not (is_of c s call)) calls

kept_none : (b : Bool) (c s : ℕ) (calls : List Call) → calls ≡ [] → kept_by c s b calls ≡ []
kept_none true c s calls none = none
kept_none false c s calls none = ap (λ (l : List Call). filter (λ call. not (is_of c s call)) l) none

drop_shorter : (n : ℕ) (calls : List Call) → length calls ≤ suc n → length (drop 1 calls) ≤ n
drop_shorter n [] is = omega arith
drop_shorter n (call ∷ calls) is = omega (arith, is)

none_left : (calls : List Call) → length calls ≤ 0 → calls ≡ []
none_left [] is = refl
none_left (call ∷ calls) is = absurd (omega (arith, is))

none_first : (calls : List Call) → first calls ≡ None → calls ≡ []
none_first [] is = refl
none_first (call ∷ calls) is = cc

-- a call that stands first is not kept where its stream ends
without_itself : (n : ℕ) (call : Call) (calls : List Call) → first calls ≡ Some call → is_of call.conn call.stream call ≡ true → length calls ≤ suc n
    → length (filter (λ other. not (is_of call.conn call.stream other)) calls) ≤ n
without_itself n call [] is itself short = cc
without_itself n call (other ∷ calls) is itself short =
    let same : other ≡ call = cc in
    let gone : not (is_of call.conn call.stream other) ≡ false = ap (λ (x : Call). not (is_of call.conn call.stream x)) same ∙ ap not itself in
    without_first_by (not (is_of call.conn call.stream other)) gone
  where
    without_first_by : (b : Bool) → b ≡ false
        → length (cond b (other ∷ filter (λ x. not (is_of call.conn call.stream x)) calls) (filter (λ x. not (is_of call.conn call.stream x)) calls)) ≤ n
    without_first_by true e = cc
    without_first_by false e = omega (arith, filter_shorter (λ x. not (is_of call.conn call.stream x)) calls, short)

is_itself : (call : Call) → is_of call.conn call.stream call ≡ true
is_itself call = simp (eq-eqb call.conn call.conn refl, eq-eqb call.stream call.stream refl) refl

-- ---- what polls and ends of streams keep

-- so many calls wait at most
pub record FewWait (channel n : ℕ) (t : List Act) : Type 0 where
  pub few : length (waiting channel t) ≤ n

few_quiet : (channel n : ℕ) → IsQuiet (FewWait channel n)
few_quiet channel n = record {
  ends = λ c s t r. record { few = omega (arith, kept_shorter (is_taken c s t) c s (waiting channel t), r.few) };
  puts = λ c s octets t r. record { few = r.few };
  finishes = λ c s t r. record { few = r.few };
}

module _ {S : Type 0} (served : Served S) where
  ends_filled : (channel c s : ℕ) (t : List Act) → IsFilled served channel t → IsFilled served channel (Ends c s ∷ t)
  ends_filled channel c s t r = record { is = elim r.is [ inl none ↦ inl (kept_none (is_taken c s t) c s (waiting channel t) none) | inr full ↦ inr full ] }

  filled_quiet : (channel : ℕ) → IsQuiet (IsFilled served channel)
  filled_quiet channel = record {
    ends = ends_filled channel;
    puts = λ c s octets t r. record { is = r.is };
    finishes = λ c s t r. record { is = r.is };
  }

  -- ---- the list stays legal

  pub record IsEarly (t : List Act) : Type 0 where
    pub legal : IsLegal served t
    pub unsettled : is_settled t ≡ false

  within_unsettled : (act : Act) (t : List Act) → is_within act ≡ true → is_settled (act ∷ t) ≡ is_settled t
  within_unsettled Settles t e = cc
  within_unsettled Cycles t e = cc
  within_unsettled act t e = refl

  early_keeps : Keeps served IsEarly
  early_keeps = record { by_act = λ act t within allowed p. record { legal = (allowed, p.legal); unsettled = within_unsettled act t within ∙ p.unsettled } }

  module _ (channel : ℕ) (below : channel < served.circuit.to_server_count) where
    due : (call : Call) (t : List Act) → first (waiting channel t) ≡ Some call → is_off served.replies call.conn call.stream t ≡ false → IsEarly t → IsDue served call t
    due call t is goes p = record {
      front = ap (λ (n : ℕ). first (waiting n t)) (first_on channel call t is) ∙ is;
      uncut = sym (off_is served.replies call.conn call.stream t) ∙ goes;
      before = p.unsettled;
    }

    accepted_early : (call : Call) (t : List Act) → first (waiting channel t) ≡ Some call → length (taken t) < SESSION_VALUES → has_room (ring_at (machine served t).to_server channel) ≡ true
        → is_off served.replies call.conn call.stream t ≡ false → IsEarly t → IsEarly (accepted served.replies call t)
    accepted_early call t is fewer room goes p =
        let same : call.channel ≡ channel = first_on channel call t is in
        polled_keeps served IsEarly early_keeps call.conn call.stream (performed served.replies call.conn (Takes call) t)
        (act_keeps served IsEarly early_keeps call.conn (Takes call) t refl
        (record { due = due call t is goes p; fewer = fewer; channel = omega (arith, same, below); room = ap (λ (n : ℕ). has_room (ring_at (machine served t).to_server n)) same ∙ room }) p)

    refused_early : (call : Call) (t : List Act) → first (waiting channel t) ≡ Some call → SESSION_VALUES ≤ length (taken t) → is_off served.replies call.conn call.stream t ≡ false → IsEarly t
        → IsEarly (performed served.replies call.conn (Refuses call) t)
    refused_early call t is full goes p = act_keeps served IsEarly early_keeps call.conn (Refuses call) t refl (record { due = due call t is goes p; full = full }) p

    -- ---- the channels before this one stay as they are

    abbrev Lower : List Act → Type 0
    Lower t = (k : ℕ) → k < channel → IsFilled served k t

    lower_quiet : IsQuiet Lower
    lower_quiet = record {
      ends = λ c s t r k before. ends_filled k c s t (r k before);
      puts = λ c s octets t r k before. record { is = (r k before).is };
      finishes = λ c s t r k before. record { is = (r k before).is };
    }

    apart : (call : Call) (k : ℕ) → call.channel ≡ channel → k < channel → is_on k call ≡ false
    apart call k same before = ne_eqb call.channel k (λ e. absurd (omega (arith, same, before, e)))

    not_front : (call : Call) (k : ℕ) (t : List Act) → call.channel ≡ channel → k < channel → without_front k call (waiting k t) ≡ waiting k t
    not_front call k t same before = ap (λ (b : Bool). cond b (drop 1 (waiting k t)) (waiting k t)) (apart call k same before)

    other_ring : (call : Call) (k : ℕ) (t : List Act) → call.channel ≡ channel → k < channel → ring_at (machine served (Takes call ∷ t)).to_server k ≡ ring_at (machine served t).to_server k
    other_ring call k t same before =
        get_or-set_other (machine served t).to_server call.channel k (ring_at (machine served t).to_server call.channel ++ call.word ∷ []) [] (λ e. absurd (omega (arith, same, before, e)))

    lower_takes : (call : Call) (t : List Act) → call.channel ≡ channel → Lower t → Lower (Takes call ∷ t)
    lower_takes call t same r k before = record {
      is = elim (r k before).is [
        | inl none ↦ inl (not_front call k t same before ∙ none)
        | inr full ↦ inr (ap has_room (other_ring call k t same before) ∙ full)
      ];
    }

    lower_refuses : (call : Call) (t : List Act) → call.channel ≡ channel → Lower t → Lower (Refuses call ∷ t)
    lower_refuses call t same r k before = record {
      is = elim (r k before).is [
        | inl none ↦ inl (not_front call k t same before ∙ none)
        | inr full ↦ inr full
      ];
    }

    accepted_lower : (call : Call) (t : List Act) → first (waiting channel t) ≡ Some call → Lower t → Lower (accepted served.replies call t)
    accepted_lower call t is r =
        polled_quiet served.replies Lower lower_quiet call.conn call.stream (performed served.replies call.conn (Takes call) t)
        (performed_quiet served.replies Lower lower_quiet call.conn (Takes call) t (lower_takes call t (first_on channel call t is) r))

    refused_lower : (call : Call) (t : List Act) → first (waiting channel t) ≡ Some call → Lower t → Lower (performed served.replies call.conn (Refuses call) t)
    refused_lower call t is r = performed_quiet served.replies Lower lower_quiet call.conn (Refuses call) t (lower_refuses call t (first_on channel call t is) r)

    -- ---- the call that waits first goes

    first_on_is : (call : Call) (t : List Act) → first (waiting channel t) ≡ Some call → is_on channel call ≡ true
    first_on_is call t is = eq-eqb call.channel channel (first_on channel call t is)

    dropped_few : (n : ℕ) (b : Bool) (call : Call) (calls : List Call) → b ≡ true → length calls ≤ suc n → length (cond b (drop 1 calls) calls) ≤ n
    dropped_few n true call calls e few = drop_shorter n calls few
    dropped_few n false call calls e few = cc

    accepted_few : (n : ℕ) (call : Call) (t : List Act) → first (waiting channel t) ≡ Some call → FewWait channel (suc n) t → FewWait channel n (accepted served.replies call t)
    accepted_few n call t is few =
        polled_quiet served.replies (FewWait channel n) (few_quiet channel n) call.conn call.stream (performed served.replies call.conn (Takes call) t)
        (performed_quiet served.replies (FewWait channel n) (few_quiet channel n) call.conn (Takes call) t
        (record { few = dropped_few n (is_on channel call) call (waiting channel t) (first_on_is call t is) few.few }))

    refused_few : (n : ℕ) (call : Call) (t : List Act) → first (waiting channel t) ≡ Some call → FewWait channel (suc n) t → FewWait channel n (performed served.replies call.conn (Refuses call) t)
    refused_few n call t is few =
        performed_quiet served.replies (FewWait channel n) (few_quiet channel n) call.conn (Refuses call) t
        (record { few = dropped_few n (is_on channel call) call (waiting channel t) (first_on_is call t is) few.few })

    ended_few : (n : ℕ) (call : Call) (t : List Act) → first (waiting channel t) ≡ Some call → IsEarly t → FewWait channel (suc n) t → FewWait channel n (Ends call.conn call.stream ∷ t)
    ended_few n call t is p few =
        let none : is_taken call.conn call.stream t ≡ false = untaken served call t p.legal (ap (λ (k : ℕ). first (waiting k t)) (first_on channel call t is) ∙ is) in
        record { few = by_none (is_taken call.conn call.stream t) none }
      where
        by_none : (b : Bool) → b ≡ false → length (kept_by call.conn call.stream b (waiting channel t)) ≤ n
        by_none true e = cc
        by_none false e = without_itself n call (waiting channel t) is (is_itself call) few.few

    -- where it is answered, or its stream was cut, the list stays legal and one call fewer waits
    record Goes (n : ℕ) (t : List Act) : Type 0 where
      early : IsEarly t
      few : FewWait channel n t
      lower : Lower t

    -- what is wanted in the end
    record IsDone (t : List Act) : Type 0 where
      early : IsEarly t
      filled : IsFilled served channel t
      lower : Lower t

    unless_goes : (b : Bool) (n : ℕ) (call : Call) (answered : List Act → List Act) (t : List Act) → is_off served.replies call.conn call.stream t ≡ b
        → (is_off served.replies call.conn call.stream t ≡ false → Goes n (answered t)) → first (waiting channel t) ≡ Some call → Goes (suc n) t → Goes n (unless_off b call answered t)
    unless_goes true n call answered t e answer is p = record {
      early = record { legal = (sym (off_is served.replies call.conn call.stream t) ∙ e, p.early.legal); unsettled = p.early.unsettled };
      few = ended_few n call t is p.early p.few;
      lower = lower_quiet.ends call.conn call.stream t p.lower;
    }
    unless_goes false n call answered t e answer is p = answer e

    -- ---- so many steps

    abbrev Fills : (List Act → List Act) → ℕ → Type 0
    Fills next n = (u : List Act) → Goes n u → IsDone (next u)

    taken_if_fills : (b : Bool) (n : ℕ) (call : Call) (next : List Act → List Act) (t : List Act) → has_room (ring_at (machine served t).to_server channel) ≡ b → Fills next n
        → first (waiting channel t) ≡ Some call → length (taken t) < SESSION_VALUES → Goes (suc n) t → IsDone (taken_if b served.replies call next t)
    taken_if_fills true n call next t room fills is fewer p =
        fills (unless_off (is_off served.replies call.conn call.stream t) call (accepted served.replies call) t)
        (unless_goes (is_off served.replies call.conn call.stream t) n call (accepted served.replies call) t refl
        (λ goes. record { early = accepted_early call t is fewer room goes p.early; few = accepted_few n call t is p.few; lower = accepted_lower call t is p.lower }) is p)
    taken_if_fills false n call next t room fills is fewer p = record { early = p.early; filled = record { is = inr room }; lower = p.lower }

    full_fills : (b : Bool) (n : ℕ) (call : Call) (next : List Act → List Act) (t : List Act) → nat_le SESSION_VALUES (length (taken t)) ≡ b → Fills next n
        → first (waiting channel t) ≡ Some call → Goes (suc n) t → IsDone (full_or b served (own_moves served) channel call next t)
    full_fills true n call next t full fills is p =
        fills (unless_off (is_off served.replies call.conn call.stream t) call (performed served.replies call.conn (Refuses call)) t)
        (unless_goes (is_off served.replies call.conn call.stream t) n call (performed served.replies call.conn (Refuses call)) t refl
        (λ goes. record { early = refused_early call t is (leb-true SESSION_VALUES (length (taken t)) full) goes p.early; few = refused_few n call t is p.few; lower = refused_lower call t is p.lower }) is p)
    full_fills false n call next t full fills is p =
        taken_if_fills (has_room (ring_at (machine served t).to_server channel)) n call next t refl fills is (leb-false SESSION_VALUES (length (taken t)) full) p

    take_fills : (waits : Option Call) (n : ℕ) (next : List Act → List Act) (t : List Act) → first (waiting channel t) ≡ waits → Fills next n → Goes (suc n) t
        → IsDone (take_step served (own_moves served) channel waits next t)
    take_fills None n next t is fills p = record { early = p.early; filled = record { is = inl (none_first (waiting channel t) is) }; lower = p.lower }
    take_fills (Some call) n next t is fills p = full_fills (nat_le SESSION_VALUES (length (taken t))) n call next t refl fills is p

    taken_by_fills : (n : ℕ) (t : List Act) → Goes n t → IsDone (taken_by n served (own_moves served) channel t)
    unfolding taken_by
    taken_by_fills zero t p = record { early = p.early; filled = record { is = inl (none_left (waiting channel t) p.few.few) }; lower = p.lower }
    taken_by_fills (suc n) t p =
        take_fills (first (waiting channel t)) n (taken_by n served (own_moves served) channel) t refl (λ u q. taken_by_fills n u q) p

    channel_done : (t : List Act) → IsEarly t → Lower t → IsDone (taken_by (length (waiting channel t)) served (own_moves served) channel t)
    channel_done t early lower = taken_by_fills (length (waiting channel t)) t (record { early = early; few = record { few = omega arith }; lower = lower })

    -- the channels up to this one
    lower_next : (t : List Act) → IsDone t → (k : ℕ) → k < channel + 1 → IsFilled served k t
    lower_next t p k before = elim (cases_lt k channel) [
      | inl less ↦ p.lower k less
      | inr more ↦ subst (λ (n : ℕ). IsFilled served n t) (let e : channel ≡ k = omega (arith, before, more) in e) p.filled
    ]

  -- ---- all channels

  all_filled : (count channel : ℕ) (t : List Act) → channel + count ≡ served.circuit.to_server_count → IsEarly t → ((k : ℕ) → k < channel → IsFilled served k t)
      → (k : ℕ) → k < served.circuit.to_server_count → IsFilled served k (taken_from count served (own_moves served) channel t)
  unfolding taken_from
  all_filled zero channel t all early lower k below = lower k (omega (arith, all, below))
  all_filled (suc count) channel t all early lower k below =
      let here : channel < served.circuit.to_server_count = omega (arith, all) in
      let now : List Act = taken_by (length (waiting channel t)) served (own_moves served) channel t in
      let done = channel_done channel here t early lower in
      all_filled count (channel + 1) now (omega (arith, all)) done.early (lower_next channel here now done) k below

  -- before its transfers, what the rule takes leaves no call waiting whose ring has room
  pub filled : (k : ℕ) (t : List Act) → k < served.circuit.to_server_count → IsLegal served t → is_settled t ≡ false
      → IsFilled served k (taken_from served.circuit.to_server_count served (own_moves served) 0 t)
  filled k t below legal unsettled =
      all_filled served.circuit.to_server_count 0 t (omega arith) (record { legal = legal; unsettled = unsettled }) (λ n before. absurd (omega (arith, before))) k below

-- A call has one place: it waits, or its value was taken, once, or it was answered, or withdrawn.
use Rattle.std.proofs.Common.{◌≡◌, ℕ, ◌==◌, ◌&&◌, ◌||◌, not, Bool, true, false, Some, List, [], ◌∷◌, ◌++◌, filter, refl, ap, sym, ◌∙◌, subst, eqb-true, eq-eqb, true≢false}
use Rattle.std.specs.List.{list_any}
use Rattle.cycle_rules.specs.Lists.{first}
use Rattle.serve_acts.specs.Acts.{Act}
use Rattle.serve_acts.specs.Acts.Act.{Arrives, Takes}
use Rattle.serve_acts.specs.Calls.{is_on, is_of, calls, taken, is_taken, refused, waiting, is_withdrawn, kept}
use Rattle.serve_acts.specs.Legal.{IsLegal, IsNew}
use Rattle.serve_acts.specs.Prefixes.{AtMostOne}
use Rattle.serve_acts.specs.Served.{Served}
use Rattle.serve_acts.specs.Streams.{is_stream}
use Rattle.serve_acts.specs.declared.call.Call.{Call}
use Rattle.serve_laws.specs.Filters.{any_joined, none_filtered, one_apart, one_more, one_filtered, one_of_others}
use Rattle.serve_laws.specs.OrderLaws.{first_is, order}

-- ---- streams by their numbers

both_true : (a b : Bool) → (a && b) ≡ true → (a ≡ true) × (b ≡ true)
both_true true b e = (refl, e)
both_true false b e = cc

-- the same connection and the same stream
pub record AreOne (conn stream c s : ℕ) : Type 0 where
  pub conn_is : conn ≡ c
  pub stream_is : stream ≡ s

pub are_one : (conn stream c s : ℕ) → is_stream conn stream c s ≡ true → AreOne conn stream c s
are_one conn stream c s e =
    let both = both_true (conn == c) (stream == s) e in
    record { conn_is = eqb-true conn c both.0; stream_is = eqb-true stream s both.1 }

pub new_at : (conn stream c s : ℕ) (t : List Act) → IsNew conn stream t → is_stream conn stream c s ≡ true → IsNew c s t
new_at conn stream c s t new e =
    let one = are_one conn stream c s e in
    subst (λ (n : ℕ). IsNew n s t) one.conn_is (subst (λ (n : ℕ). IsNew conn n t) one.stream_is new)

-- ---- lists of calls

two_channels : (k h : ℕ) (call : Call) → (h == k) ≡ false → is_on h call ≡ true → is_on k call ≡ false
two_channels k h call apart on = ap (λ (n : ℕ). n == k) (eqb-true call.channel h on) ∙ apart

pub either_none : (b c : Bool) → (b || c) ≡ false → (b ≡ false) × (c ≡ false)
either_none true c e = cc
either_none false c e = (refl, e)

pub itself : (n : ℕ) → (n == n) ≡ true
itself n = eq-eqb n n refl

module _ (p : Call → Bool) where
  rest_none_by : (b : Bool) (k : ℕ) (call : Call) (others : List Call) → is_on k call ≡ b → list_any p (filter (is_on k) (call ∷ others)) ≡ false → list_any p (filter (is_on k) others) ≡ false
  rest_none_by true k call others e none = (either_none (p call) (list_any p (filter (is_on k) others)) (sym (cut e) ∙ none)).1
    where
      cut : is_on k call ≡ true → list_any p (filter (is_on k) (call ∷ others)) ≡ (p call || list_any p (filter (is_on k) others))
      cut e = simp e refl
  rest_none_by false k call others e none = sym (cut e) ∙ none
    where
      cut : is_on k call ≡ false → list_any p (filter (is_on k) (call ∷ others)) ≡ list_any p (filter (is_on k) others)
      cut e = simp e refl

  first_none : (call : Call) (others : List Call) → list_any p (filter (is_on call.channel) (call ∷ others)) ≡ false → p call ≡ false
  first_none call others none = (either_none (p call) (list_any p (filter (is_on call.channel) others)) (sym (cut (itself call.channel)) ∙ none)).0
    where
      cut : is_on call.channel call ≡ true → list_any p (filter (is_on call.channel) (call ∷ others)) ≡ (p call || list_any p (filter (is_on call.channel) others))
      cut e = simp e refl

  -- where none is on any channel there is none
  none_on_any : (others : List Call) → ((k : ℕ) → list_any p (filter (is_on k) others) ≡ false) → list_any p others ≡ false
  none_on_any [] none = refl
  none_on_any (call ∷ others) none =
      simp (first_none call others (none call.channel)) (none_on_any others (λ k. rest_none_by (is_on k call) k call others refl (none k)))

module _ {S : Type 0} (served : Served S) where
  -- a stream has one call at most
  arrives_once : (b : Bool) (c s : ℕ) (call : Call) (t : List Act) → is_of c s call ≡ b → IsNew call.conn call.stream t → (b ≡ true → list_any (is_of c s) (calls t) ≡ false)
  arrives_once true c s call t e new f = (new_at call.conn call.stream c s t new e).no_call
  arrives_once false c s call t e new f = cc

  pub one_call : (c s : ℕ) (t : List Act) → IsLegal served t → AtMostOne (is_of c s) (calls t)
  one_call c s [] legal = tt
  one_call c s (Arrives call ∷ t) legal = one_more (is_of c s) (calls t) call (one_call c s t legal.1) (arrives_once (is_of c s call) c s call t refl legal.0.is_new)
  one_call c s (act ∷ t) legal = one_call c s t legal.1

  -- where a channel has none of a stream's calls, none was taken there
  untaken_on : (c s k : ℕ) (t : List Act) → IsLegal served t → list_any (is_of c s) (filter (is_on k) (calls t)) ≡ false → list_any (is_of c s) (filter (is_on k) (taken t)) ≡ false
  untaken_on c s k t legal none =
      let p : Call → Bool = is_of c s in
      let in_kept : list_any p (kept k t) ≡ false = none_filtered p (λ call. not (is_withdrawn t call)) (filter (is_on k) (calls t)) none in
      (either_none (list_any p (filter (is_on k) (taken t))) (list_any p (filter (is_on k) (refused t) ++ waiting k t))
      (sym (any_joined p (filter (is_on k) (taken t)) (filter (is_on k) (refused t) ++ waiting k t)) ∙ (ap (λ l. list_any p l) (sym (order served k t legal)) ∙ in_kept))).0

  pub uncalled : (c s : ℕ) (t : List Act) → IsLegal served t → list_any (is_of c s) (calls t) ≡ false → is_taken c s t ≡ false
  uncalled c s t legal none = none_on_any (is_of c s) (taken t) (λ k. untaken_on c s k t legal (none_filtered (is_of c s) (is_on k) (calls t) none))

  -- the call that waits first
  module _ (call : Call) (t : List Act) (legal : IsLegal served t) (front : first (waiting call.channel t) ≡ Some call) where
    abbrev p : Call → Bool
    p = is_of call.conn call.stream

    is_itself : p call ≡ true
    is_itself = simp (itself call.conn, itself call.stream) refl

    waits : list_any p (waiting call.channel t) ≡ true
    waits = ap (λ l. list_any p l) (first_is (waiting call.channel t) call front) ∙ simp is_itself refl

    or_true : (b c : Bool) → c ≡ true → (b || c) ≡ true
    or_true true c e = refl
    or_true false c e = e

    last_waits : list_any p (filter (is_on call.channel) (refused t) ++ waiting call.channel t) ≡ true
    last_waits = any_joined p (filter (is_on call.channel) (refused t)) (waiting call.channel t) ∙ or_true (list_any p (filter (is_on call.channel) (refused t))) (list_any p (waiting call.channel t)) waits

    in_kept : list_any p (kept call.channel t) ≡ true
    in_kept = ap (λ l. list_any p l) (order served call.channel t legal)
        ∙ (any_joined p (filter (is_on call.channel) (taken t)) (filter (is_on call.channel) (refused t) ++ waiting call.channel t)
        ∙ or_true (list_any p (filter (is_on call.channel) (taken t))) (list_any p (filter (is_on call.channel) (refused t) ++ waiting call.channel t)) last_waits)

    any_by : (b : Bool) (xs : List Call) (q : Call → Bool) → list_any p xs ≡ b → list_any p (filter q xs) ≡ true → list_any p xs ≡ true
    any_by true xs q e any = e
    any_by false xs q e any = absurd (true≢false (sym any ∙ none_filtered p q xs e))

    on_channel : list_any p (filter (is_on call.channel) (calls t)) ≡ true
    on_channel = any_by (list_any p (filter (is_on call.channel) (calls t))) (filter (is_on call.channel) (calls t)) (λ other. not (is_withdrawn t other)) refl in_kept

    pub in_calls : list_any p (calls t) ≡ true
    in_calls = any_by (list_any p (calls t)) (calls t) (is_on call.channel) refl on_channel

    untaken_here : list_any p (filter (is_on call.channel) (taken t)) ≡ false
    untaken_here =
        let one : AtMostOne p (kept call.channel t) = one_filtered p (λ other. not (is_withdrawn t other)) (filter (is_on call.channel) (calls t)) (one_filtered p (is_on call.channel) (calls t) (one_call call.conn call.stream t legal)) in
        one_apart p (filter (is_on call.channel) (taken t)) (filter (is_on call.channel) (refused t) ++ waiting call.channel t) (subst (λ l. AtMostOne p l) (order served call.channel t legal) one) last_waits

    untaken_by : (b : Bool) (k : ℕ) → (call.channel == k) ≡ b → list_any p (filter (is_on k) (taken t)) ≡ false
    untaken_by true k e = subst (λ (n : ℕ). list_any p (filter (is_on n) (taken t)) ≡ false) (eqb-true call.channel k e) untaken_here
    untaken_by false k e =
        untaken_on call.conn call.stream k t legal
        (one_of_others p (is_on call.channel) (is_on k) (λ other on. two_channels k call.channel other e on) (calls t) (one_call call.conn call.stream t legal) on_channel)

    -- its value was not taken
    pub untaken : is_taken call.conn call.stream t ≡ false
    untaken = none_on_any p (taken t) (λ k. untaken_by (call.channel == k) k refl)

  takes_once : (b : Bool) (c s : ℕ) (call : Call) (t : List Act) → is_of c s call ≡ b → is_taken call.conn call.stream t ≡ false → (b ≡ true → list_any (is_of c s) (taken t) ≡ false)
  takes_once true c s call t e none f =
      let one = are_one call.conn call.stream c s e in
      subst (λ (n : ℕ). is_taken n s t ≡ false) one.conn_is (subst (λ (n : ℕ). is_taken call.conn n t ≡ false) one.stream_is none)
  takes_once false c s call t e none f = cc

  -- each value is taken once
  pub taken_once : (c s : ℕ) (t : List Act) → IsLegal served t → AtMostOne (is_of c s) (taken t)
  taken_once c s [] legal = tt
  taken_once c s (Takes call ∷ t) legal = one_more (is_of c s) (taken t) call (taken_once c s t legal.1) (takes_once (is_of c s call) c s call t refl (untaken call t legal.1 legal.0.due.front))
  taken_once c s (act ∷ t) legal = taken_once c s t legal.1

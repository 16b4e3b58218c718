-- Lists of acts that stand behind others, and how their journals begin those of the others.
use Rattle.std.proofs.Common.{◌≡◌, ℕ, ◌<◌, ◌||◌, nat_lt, cond, Bool, true, false, List, [], ◌∷◌, ◌++◌, length, filter, refl, ap, sym, ◌∙◌, arith, append_assoc, append-nil, eq-eqb}
use Rattle.std.proofs.lemmas.Bool.{lt-ltb}
use Rattle.std.specs.List.{list_any}
use Rattle.cycle_rules.specs.Circuit.{Bits}
use Rattle.serve_acts.specs.Acts.{Act}
use Rattle.serve_acts.specs.Acts.Act.{Takes, Hands}
use Rattle.serve_acts.specs.Journal.{Taken, Handed, cycles, all_taken, all_handed}
use Rattle.serve_acts.specs.Prefixes.{Begins}
use Rattle.serve_acts.specs.declared.call.Call.{Call}
use Rattle.serve_laws.specs.Replay.{is_taken_at, is_handed_at, hands_at}
use Rattle.serve_moves.specs.Journaled.{count_at, is_next}

-- t stands behind the acts that were added to it
pub record IsTail (t s : List Act) : Type 0 where
  pub more : List Act
  pub is : s ≡ more ++ t

pub tail_self : (t : List Act) → IsTail t t
tail_self t = record { more = []; is = refl }

pub tail_one : (act : Act) (t s : List Act) → IsTail t s → IsTail t (act ∷ s)
tail_one act t s p = record { more = act ∷ p.more; is = ap (λ (l : List Act). act ∷ l) p.is }

pub tail_both : (a b c : List Act) → IsTail a b → IsTail b c → IsTail a c
tail_both a b c p q = record { more = q.more ++ p.more; is = q.is ∙ (ap (λ (l : List Act). q.more ++ l) p.is ∙ sym (append_assoc q.more p.more a)) }

pub tail_behind : (act : Act) (t s : List Act) → IsTail (act ∷ t) s → IsTail t s
tail_behind act t s p = tail_both t (act ∷ t) s (tail_one act t t (tail_self t)) p

-- ---- values taken

taken_begins : (more t : List Act) → Begins (all_taken t) (all_taken (more ++ t))
taken_begins [] t = record { rest = []; is = sym (append-nil (all_taken t)) }
taken_begins (Takes call ∷ more) t =
    let entry : Taken = record { cycle = cycles (more ++ t); call = call } in
    let old = taken_begins more t in
    record { rest = old.rest ++ entry ∷ []; is = ap (λ (l : List Taken). l ++ entry ∷ []) old.is ∙ append_assoc (all_taken t) old.rest (entry ∷ []) }
taken_begins (act ∷ more) t = taken_begins more t

count_true : (b : Bool) (entry : Taken) (rest : List Taken) → b ≡ true → 0 < length (cond b (entry ∷ rest) rest)
count_true true entry rest is = omega arith
count_true false entry rest is = cc

counted_more : (b : Bool) (x : Taken) (less more : List Taken) → length less < length more → length (cond b (x ∷ less) less) < length (cond b (x ∷ more) more)
counted_more true x less more is = omega (arith, is)
counted_more false x less more is = is

count_grows : (p : Taken → Bool) (front : List Taken) (entry : Taken) (rest : List Taken) → p entry ≡ true → length (filter p front) < length (filter p ((front ++ entry ∷ []) ++ rest))
count_grows p [] entry rest is = count_true (p entry) entry (filter p rest) is
count_grows p (x ∷ front) entry rest is = counted_more (p x) x (filter p front) (filter p ((front ++ entry ∷ []) ++ rest)) (count_grows p front entry rest is)

taken_here : (call : Call) (channel n : ℕ) → call.channel ≡ channel → is_taken_at n channel (record { cycle = n; call = call }) ≡ true
taken_here call channel n same = simp (eq-eqb n n refl, eq-eqb call.channel channel same) refl

-- where a value of the channel is taken next, the journal of all has one more in this cycle
pub next_taken : (call : Call) (channel : ℕ) (t s : List Act) → call.channel ≡ channel → IsTail (Takes call ∷ t) s → is_next (all_taken s) channel t ≡ true
next_taken call channel t s same tail =
    let entry : Taken = record { cycle = cycles t; call = call } in
    let begins = taken_begins tail.more (Takes call ∷ t) in
    let whole : all_taken s ≡ (all_taken t ++ entry ∷ []) ++ begins.rest = ap all_taken tail.is ∙ begins.is in
    ap (λ (l : List Taken). nat_lt (count_at (cycles t) channel (all_taken t)) (count_at (cycles t) channel l)) whole
    ∙ lt-ltb (count_at (cycles t) channel (all_taken t)) (count_at (cycles t) channel ((all_taken t ++ entry ∷ []) ++ begins.rest))
    (count_grows (is_taken_at (cycles t) channel) (all_taken t) entry begins.rest (taken_here call channel (cycles t) same))

-- ---- values handed

handed_begins : (more t : List Act) → Begins (all_handed t) (all_handed (more ++ t))
handed_begins [] t = record { rest = []; is = sym (append-nil (all_handed t)) }
handed_begins (Hands channel conn stream word ∷ more) t =
    let entry : Handed = record { cycle = cycles (more ++ t); channel = channel } in
    let old = handed_begins more t in
    record { rest = old.rest ++ entry ∷ []; is = ap (λ (l : List Handed). l ++ entry ∷ []) old.is ∙ append_assoc (all_handed t) old.rest (entry ∷ []) }
handed_begins (act ∷ more) t = handed_begins more t

or_true : (b c : Bool) → c ≡ true → (b || c) ≡ true
or_true true c e = refl
or_true false c e = e

true_or : (b c : Bool) → b ≡ true → (b || c) ≡ true
true_or true c e = refl
true_or false c e = cc

any_within : (p : Handed → Bool) (front : List Handed) (entry : Handed) (rest : List Handed) → p entry ≡ true → list_any p ((front ++ entry ∷ []) ++ rest) ≡ true
any_within p [] entry rest is = true_or (p entry) (list_any p rest) is
any_within p (x ∷ front) entry rest is = or_true (p x) (list_any p ((front ++ entry ∷ []) ++ rest)) (any_within p front entry rest is)

handed_here : (channel n : ℕ) → is_handed_at n channel (record { cycle = n; channel = channel }) ≡ true
handed_here channel n = simp (eq-eqb n n refl, eq-eqb channel channel refl) refl

-- where a channel hands next, the journal of all says so
pub next_handed : (channel conn stream : ℕ) (word : Bits) (t s : List Act) → IsTail (Hands channel conn stream word ∷ t) s → hands_at (cycles t) channel (all_handed s) ≡ true
next_handed channel conn stream word t s tail =
    let entry : Handed = record { cycle = cycles t; channel = channel } in
    let begins = handed_begins tail.more (Hands channel conn stream word ∷ t) in
    let whole : all_handed s ≡ (all_handed t ++ entry ∷ []) ++ begins.rest = ap all_handed tail.is ∙ begins.is in
    ap (λ (l : List Handed). hands_at (cycles t) channel l) whole ∙ any_within (is_handed_at (cycles t) channel) (all_handed t) entry begins.rest (handed_here channel (cycles t))

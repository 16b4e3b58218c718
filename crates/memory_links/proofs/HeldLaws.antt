-- The facts that hold of all that was played, after each call.
use Rattle.std.proofs.Common.{◌≡◌, ℕ, ◌+◌, ◌<◌, true, List, [], ◌∷◌, ◌++◌, Some, None, Result, Ok, Err, IsTrue, length, take, refl, sym, ap, ◌∙◌, arith, rules, inl, inr, subst}
use Rattle.std.specs.Prelude.{slice_get, IfOk, OnOk, OnErr, IsErrOf}
use Rattle.std.specs.List.{list_all}
use Rattle.std.proofs.lemmas.Bool.{cases_Bool}
use Rattle.std.proofs.lemmas.List.{length-append, append-nil}
use Rattle.std.proofs.lemmas.List.Sums.{sum_by-append}
use Rattle.std.proofs.lemmas.List.Folds.{list_all-append}
use Rattle.esi_links.specs.declared.links.Entry.{Entry}
use Rattle.esi_links.specs.declared.links.Entry.TheVariants.{Happened, Sent, Dropped}
use Rattle.esi_links.specs.declared.links.Event.{Event}
use Rattle.esi_links.specs.declared.stop.LinkStop.{LinkStop}
use Rattle.esi_links.specs.declared.stop.LinkStop.TheVariants.{Fault, NoMemory}
use Rattle.esi_links.specs.FailingCalls.{is_due}
use Rattle.esi_links.specs.LinkLog.{opening, opening_of, opened_count, is_sized, is_fresh}
use Rattle.link_log.specs.declared.step.LogStep.{LogStep}
use Rattle.link_log.specs.declared.step.LogStep.TheVariants.{Opened, Bytes, Writable, Closed, Idle, Fail, Room}
use Rattle.memory_links.specs.declared.memory.MemoryLinks.{MemoryLinks}
use Rattle.memory_links.specs.Conns.{opened, shut, after_send, sent_at}
use Rattle.memory_links.specs.Plays.{Play, is_sized_step, opening_step, openings, from_event, after_rooms, step_event, places, new_conns, new_play, sent_to, sent_by, event_next, after_told, after_failed, after_connect, after_sent, send_takes, after_drop, after_add}
use Rattle.memory_links.proofs.PlayLaws.{opened_more, opened_rest, sized_told, sized_rest, length_changed, length_rooms, length_event, length_places, sent_changed, sent_rooms, sent_event, unsent_new, sent_added, sent_given, sent_log}

pub record Held (play : Play) : Type 0 where
  pub numbered : play.opened ≡ opened_count play.log
  pub few : play.opened + openings play.steps < 4294967296
  pub places : play.opened + openings play.steps < length play.conns
  pub sized : IsTrue (list_all is_sized_step play.steps)
  pub fresh : IsTrue (is_fresh play.started play.log)
  pub sent : (conn : ℕ) → sent_at play.conns conn ≡ sent_to conn play.log

-- an entry more in the log
pub count_more : (entries : List Entry) (entry : Entry) → opened_count (entries ++ entry ∷ []) ≡ opened_count entries + opening_of entry
count_more entries entry = sum_by-append opening_of entries (entry ∷ []) ∙ omega arith

pub held_new : (steps : List LogStep) → IsTrue (list_all is_sized_step steps) → openings steps < 4294967296 → Held (new_play (new_conns steps) steps)
held_new steps all few = record {
  numbered = refl;
  few = omega (arith, few);
  places = (let e = length_places steps in omega (arith, e));
  sized = all;
  fresh = search rules;
  sent = λ conn. unsent_new steps conn;
}

pub held_told : (play : Play) (told : Event) → play.started ≡ true → Held play → step_event play.opened (slice_get (from_event play.steps) 0) ≡ Some told → Held (after_told told play)
held_told play told on held is =
    let more = opened_more play.opened play.steps told is in
    let few = held.few in
    let places = held.places in
    let e1 = length_event told (after_rooms play.steps play.conns) in
    let e2 = length_rooms play.steps play.conns in
    record {
      numbered = ap (λ n. n + opening told) held.numbered ∙ sym (count_more play.log (Happened told));
      few = omega (arith, more, few);
      places = omega (arith, more, places, e1, e2);
      sized = sized_rest play.steps held.sized;
      fresh = rw on (search rules);
      sent = λ conn. sent_event told (after_rooms play.steps play.conns) conn ∙ sent_rooms play.steps play.conns conn ∙ held.sent conn ∙ sym (sent_log conn play.log (Happened told) ∙ append-nil (sent_to conn play.log));
    }

pub held_failed : (play : Play) → Held play → Held (after_failed play)
held_failed play held =
    elim (cases_Bool (is_due play.calls)) [
      | inl e ↦ rw e (record { numbered = held.numbered; few = held.few; places = held.places; sized = held.sized; fresh = held.fresh; sent = held.sent })
      | inr e ↦ rw e (
          let rest = opened_rest play.steps in
          let few = held.few in
          let places = held.places in
          let e2 = length_rooms play.steps play.conns in
          record {
            numbered = held.numbered;
            few = omega (arith, rest, few);
            places = omega (arith, rest, places, e2);
            sized = sized_rest play.steps held.sized;
            fresh = held.fresh;
            sent = λ conn. sent_rooms play.steps play.conns conn ∙ held.sent conn;
          })
    ]

pub held_connect : (play : Play) → Held play → Held (after_connect play)
held_connect play held =
    elim (cases_Bool (is_due play.calls)) [
      | inl e ↦ rw e (record { numbered = held.numbered; few = held.few; places = held.places; sized = held.sized; fresh = held.fresh; sent = held.sent })
      | inr e ↦ rw e (
          let places = held.places in
          let e2 = length_changed 0 opened play.conns in
          record {
            numbered = held.numbered;
            few = held.few;
            places = omega (arith, places, e2);
            sized = held.sized;
            fresh = search rules;
            sent = λ conn. sent_changed 0 opened play.conns (λ c. refl) conn ∙ held.sent conn;
          })
    ]

pub held_sent : (play : Play) (conn : ℕ) (octets : List ℕ) (count : ℕ) → play.started ≡ true → Held play → count ≡ send_takes play conn (length octets)
    → Held (after_sent conn (length octets) (take count octets) play)
held_sent play at octets count on held is =
    let places = held.places in
    let e2 = length_changed at (after_send (take count octets)) play.conns in
    record {
      numbered = held.numbered ∙ sym (count_more play.log (Sent at (length octets) (take count octets)) ∙ omega arith);
      few = held.few;
      places = omega (arith, places, e2);
      sized = held.sized;
      fresh = rw on (search rules);
      sent = λ conn.
          rw is (sent_given play.piece play.conns at (length octets) octets conn
          ∙ ap (λ l. l ++ sent_by conn (Sent at (length octets) (take (send_takes play at (length octets)) octets))) (held.sent conn)
          ∙ sym (sent_log conn play.log (Sent at (length octets) (take (send_takes play at (length octets)) octets))));
    }

pub held_drop : (play : Play) (at : ℕ) → play.started ≡ true → Held play → Held (after_drop at play)
held_drop play at on held =
    let places = held.places in
    let e2 = length_changed at shut play.conns in
    record {
      numbered = held.numbered ∙ sym (count_more play.log (Dropped at) ∙ omega arith);
      few = held.few;
      places = omega (arith, places, e2);
      sized = held.sized;
      fresh = rw on (search rules);
      sent = λ conn. sent_changed at shut play.conns (λ c. refl) conn ∙ held.sent conn ∙ sym (sent_log conn play.log (Dropped at) ∙ append-nil (sent_to conn play.log));
    }

-- a step has one place at most, and it is for an opening
place_more : (step : LogStep) → length (places step) ≡ opening_step step
place_more Opened = refl
place_more (Bytes conn octets) = refl
place_more (Writable conn) = refl
place_more (Closed conn) = refl
place_more Idle = refl
place_more Fail = refl
place_more (Room conn octets) = refl

all_more : (steps : List LogStep) (step : LogStep) → IsTrue (list_all is_sized_step steps) → IsTrue (is_sized_step step) → IsTrue (list_all is_sized_step (steps ++ step ∷ []))
all_more steps step all fits = rw (list_all-append is_sized_step steps (step ∷ [])) (search (rules, all, fits))

pub held_add : (play : Play) (step : LogStep) → IsTrue (is_sized_step step) → play.opened + openings (play.steps ++ step ∷ []) < 4294967296 → Held play → Held (after_add step play)
held_add play step fits few held =
    let room = held.places in
    let e1 = length-append play.conns (places step) in
    let e2 = place_more step in
    let e3 = sum_by-append opening_step play.steps (step ∷ []) in
    record {
      numbered = held.numbered;
      few = few;
      places = omega (arith, room, e1, e2, e3);
      sized = all_more play.steps step held.sized fits;
      fresh = held.fresh;
      sent = λ conn. sent_added play.conns step conn ∙ held.sent conn;
    }

-- ---- by what a call answered

-- the event is one of the next step where the call was not to fail
pub event_at : (play : Play) (told : Event) → event_next play ≡ Some told → step_event play.opened (slice_get (from_event play.steps) 0) ≡ Some told
event_at play told is =
    elim (cases_Bool (is_due play.calls)) [
      | inl e ↦ (let no : None ≡ Some told = rw e at is in absurd (cc))
      | inr e ↦ rw e at is
    ]

pub held_next : (result : Result Event LinkStop) (old new : Play) → old.started ≡ true → Held old
    → IfOk result (λ told. event_next old ≡ Some told) → IfOk result (λ told. new ≡ after_told told old)
    → (IsErrOf result Fault → new ≡ after_failed old) → (IsErrOf result NoMemory → new ≡ old) → Held new
held_next (Ok told) old new on held event is failing kept = subst Held (sym is) (held_told old told on held (event_at old told event))
held_next (Err Fault) old new on held event is failing kept = subst Held (sym (failing refl)) (held_failed old held)
held_next (Err NoMemory) old new on held event is failing kept = subst Held (sym (kept refl)) held

pub told_sized : (result : Result Event LinkStop) (old : Play) → Held old → IfOk result (λ told. event_next old ≡ Some told) → IfOk result (λ told. IsTrue (is_sized told))
told_sized (Ok told) old held event = sized_told old.opened old.steps told held.sized (event_at old told event)
told_sized (Err stop) old held event = tt

pub held_send : {E : Type 0} (result : Result ℕ E) (old new : Play) (conn : ℕ) (octets : List ℕ) → old.started ≡ true → Held old
    → IfOk result (λ n. n ≡ send_takes old conn (length octets)) → IfOk result (λ n. new ≡ after_sent conn (length octets) (take n octets) old)
    → OnErr result (new ≡ old) → Held new
held_send (Ok count) old new conn octets on held many is kept = subst Held (sym is) (held_sent old conn octets count on held many)
held_send (Err stop) old new conn octets on held many is kept = subst Held (sym kept) held

pub held_dropped : {T E : Type 0} (result : Result T E) (old new : Play) (conn : ℕ) → old.started ≡ true → Held old
    → OnOk result (new ≡ after_drop conn old) → OnErr result (new ≡ old) → Held new
held_dropped (Ok done) old new conn on held is kept = subst Held (sym is) (held_drop old conn on held)
held_dropped (Err stop) old new conn on held is kept = subst Held (sym kept) held

pub held_added : {T E : Type 0} (result : Result T E) (old new : Play) (step : LogStep) → IsTrue (is_sized_step step)
    → old.opened + openings (old.steps ++ step ∷ []) < 4294967296 → Held old → OnOk result (new ≡ after_add step old) → OnErr result (new ≡ old) → Held new
held_added (Ok done) old new step fits few held is kept = subst Held (sym is) (held_add old step fits few held)
held_added (Err stop) old new step fits few held is kept = subst Held (sym kept) held

-- the facts that links keep
pub held_of : (links : MemoryLinks) → Held links.player
held_of links = record { numbered = links.numbered; few = links.few; places = links.places; sized = links.sized; fresh = links.fresh; sent = links.sent }

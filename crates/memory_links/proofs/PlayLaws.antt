-- What holds of all that was played goes on from one call to the next.
use Rattle.std.proofs.Common.{◌≡◌, ℕ, zero, suc, ◌+◌, ◌<◌, ◌≤◌, true, false, List, [], ◌∷◌, ◌++◌, Option, Some, None, IsTrue, length, take, drop, refl, sym, ap, ◌∙◌, arith, rules, inl, inr}
use Rattle.std.specs.Prelude.{slice_get, ◌==◌, if◌then◌else◌}
use Rattle.std.specs.List.{flat_map, list_all}
use Rattle.std.proofs.lemmas.List.{append-nil}
use Rattle.std.proofs.lemmas.List.Concat.{flat_map-append}
use Rattle.std.proofs.lemmas.List.Sums.{sum_by-cons}
use Rattle.std.proofs.lemmas.Bool.{cases_Bool}
use Rattle.std.proofs.lemmas.Bool.Decides.{nat_tests}
use Rattle.esi_links.specs.declared.links.Entry.{Entry}
use Rattle.esi_links.specs.declared.links.Event.{Event}
use Rattle.esi_links.specs.declared.links.Event.TheVariants as event
use Rattle.esi_links.specs.LinkLog.{opening, is_sized, is_numbered}
use Rattle.link_log.specs.declared.step.LogStep.{LogStep}
use Rattle.link_log.specs.declared.step.LogStep.TheVariants.{Opened, Bytes, Writable, Closed, Idle, Fail, Room}
use Rattle.memory_links.specs.declared.conn.Conn.{Conn}
use Rattle.memory_links.specs.Conns.{opened, shut, with_room, after_send, changed, count_at, sent_at}
use Rattle.memory_links.specs.Plays.{is_sized_step, opening_step, openings, from_event, after_rooms, step_event, after_event, places, new_conns, sent_by, sent_to}

-- ---- the steps behind the next event

-- the event that the next step tells is one of an opening where the step is
told_opening : (number : ℕ) (step : LogStep) (told : Event) → step_event number (Some step) ≡ Some told → opening told ≤ opening_step step
told_opening number Opened told is = (let e : event.Opened number ≡ told = cc in rw (← e) (omega arith))
told_opening number (Bytes conn octets) told is = (let e : event.Bytes conn octets ≡ told = cc in rw (← e) (omega arith))
told_opening number (Writable conn) told is = (let e : event.Writable conn ≡ told = cc in rw (← e) (omega arith))
told_opening number (Closed conn) told is = (let e : event.Closed conn ≡ told = cc in rw (← e) (omega arith))
told_opening number Idle told is = (let e : event.Idle ≡ told = cc in rw (← e) (omega arith))
told_opening number Fail told is = absurd (cc)
told_opening number (Room conn octets) told is = (let e : event.Idle ≡ told = cc in rw (← e) (omega arith))

idle_opening : (told : Event) → Some event.Idle ≡ Some told → opening told ≡ 0
idle_opening told is = (let e : event.Idle ≡ told = cc in rw (← e) refl)

pub opened_more : (number : ℕ) (steps : List LogStep) (told : Event) → step_event number (slice_get (from_event steps) 0) ≡ Some told
    → opening told + openings (drop 1 (from_event steps)) ≤ openings steps
opened_more number [] told is = (let e = idle_opening told is in omega (arith, e))
opened_more number (Opened ∷ rest) told is = (let e = told_opening number Opened told is in omega (arith, e, sum_by-cons opening_step Opened rest))
opened_more number (Bytes conn octets ∷ rest) told is = (let e = told_opening number (Bytes conn octets) told is in omega (arith, e, sum_by-cons opening_step (Bytes conn octets) rest))
opened_more number (Writable conn ∷ rest) told is = (let e = told_opening number (Writable conn) told is in omega (arith, e, sum_by-cons opening_step (Writable conn) rest))
opened_more number (Closed conn ∷ rest) told is = (let e = told_opening number (Closed conn) told is in omega (arith, e, sum_by-cons opening_step (Closed conn) rest))
opened_more number (Idle ∷ rest) told is = (let e = told_opening number Idle told is in omega (arith, e, sum_by-cons opening_step Idle rest))
opened_more number (Fail ∷ rest) told is = absurd (cc)
opened_more number (Room conn octets ∷ rest) told is = (let e = opened_more number rest told is in omega (arith, e, sum_by-cons opening_step (Room conn octets) rest))

pub opened_rest : (steps : List LogStep) → openings (drop 1 (from_event steps)) ≤ openings steps
opened_rest [] = omega arith
opened_rest (Opened ∷ rest) = omega (arith, sum_by-cons opening_step Opened rest)
opened_rest (Bytes conn octets ∷ rest) = omega (arith, sum_by-cons opening_step (Bytes conn octets) rest)
opened_rest (Writable conn ∷ rest) = omega (arith, sum_by-cons opening_step (Writable conn) rest)
opened_rest (Closed conn ∷ rest) = omega (arith, sum_by-cons opening_step (Closed conn) rest)
opened_rest (Idle ∷ rest) = omega (arith, sum_by-cons opening_step Idle rest)
opened_rest (Fail ∷ rest) = omega (arith, sum_by-cons opening_step Fail rest)
opened_rest (Room conn octets ∷ rest) = (let e = opened_rest rest in omega (arith, e, sum_by-cons opening_step (Room conn octets) rest))

pub opening_fits : (number : ℕ) (steps : List LogStep) (told : Event) → number + openings steps < 4294967296
    → step_event number (slice_get (from_event steps) 0) ≡ Some told → number + opening told < 4294967296
opening_fits number steps told few is = (let e = opened_more number steps told is in omega (arith, e, few))

-- a connection that opens has the number of those before it
pub told_numbered : (number : ℕ) (step : Option LogStep) (told : Event) → step_event number step ≡ Some told → is_numbered number told ≡ true
told_numbered number None told is = (let e : event.Idle ≡ told = cc in rw (← e) refl)
told_numbered number (Some Opened) told is = (let e : event.Opened number ≡ told = cc in rw (← e) (grind (arith)))
told_numbered number (Some (Bytes conn octets)) told is = (let e : event.Bytes conn octets ≡ told = cc in rw (← e) refl)
told_numbered number (Some (Writable conn)) told is = (let e : event.Writable conn ≡ told = cc in rw (← e) refl)
told_numbered number (Some (Closed conn)) told is = (let e : event.Closed conn ≡ told = cc in rw (← e) refl)
told_numbered number (Some Idle) told is = (let e : event.Idle ≡ told = cc in rw (← e) refl)
told_numbered number (Some Fail) told is = absurd (cc)
told_numbered number (Some (Room conn octets)) told is = (let e : event.Idle ≡ told = cc in rw (← e) refl)

-- octets come as the steps have them
abbrev AllSized : List LogStep → Type 0
AllSized steps = IsTrue (list_all is_sized_step steps)

pub sized_rest : (steps : List LogStep) → AllSized steps → AllSized (drop 1 (from_event steps))
sized_rest [] sized = sized
sized_rest (Opened ∷ rest) sized = search rules
sized_rest (Bytes conn octets ∷ rest) sized = search rules
sized_rest (Writable conn ∷ rest) sized = search rules
sized_rest (Closed conn ∷ rest) sized = search rules
sized_rest (Idle ∷ rest) sized = search rules
sized_rest (Fail ∷ rest) sized = search rules
sized_rest (Room conn octets ∷ rest) sized = sized_rest rest (search rules)

pub sized_told : (number : ℕ) (steps : List LogStep) (told : Event) → AllSized steps → step_event number (slice_get (from_event steps) 0) ≡ Some told → IsTrue (is_sized told)
sized_told number [] told sized is = (let e : event.Idle ≡ told = cc in rw (← e) (search rules))
sized_told number (Opened ∷ rest) told sized is = (let e : event.Opened number ≡ told = cc in rw (← e) (search rules))
sized_told number (Bytes conn octets ∷ rest) told sized is = (let e : event.Bytes conn octets ≡ told = cc in rw (← e) (search rules))
sized_told number (Writable conn ∷ rest) told sized is = (let e : event.Writable conn ≡ told = cc in rw (← e) (search rules))
sized_told number (Closed conn ∷ rest) told sized is = (let e : event.Closed conn ≡ told = cc in rw (← e) (search rules))
sized_told number (Idle ∷ rest) told sized is = (let e : event.Idle ≡ told = cc in rw (← e) (search rules))
sized_told number (Fail ∷ rest) told sized is = absurd (cc)
sized_told number (Room conn octets ∷ rest) told sized is = sized_told number rest told (search rules) is

-- ---- the places of the connections

pub length_changed : (at : ℕ) (change : Conn → Conn) (conns : List Conn) → length (changed at change conns) ≡ length conns
length_changed at change [] = refl
length_changed zero change (conn ∷ conns) = refl
length_changed (suc at) change (conn ∷ conns) = ap suc (length_changed at change conns)

pub length_rooms : (steps : List LogStep) (conns : List Conn) → length (after_rooms steps conns) ≡ length conns
length_rooms [] conns = refl
length_rooms (Opened ∷ rest) conns = refl
length_rooms (Bytes conn octets ∷ rest) conns = refl
length_rooms (Writable conn ∷ rest) conns = refl
length_rooms (Closed conn ∷ rest) conns = refl
length_rooms (Idle ∷ rest) conns = refl
length_rooms (Fail ∷ rest) conns = refl
length_rooms (Room conn octets ∷ rest) conns = length_rooms rest (changed conn (with_room octets) conns) ∙ length_changed conn (with_room octets) conns

pub length_event : (told : Event) (conns : List Conn) → length (after_event told conns) ≡ length conns
length_event (event.Opened conn) conns = length_changed conn opened conns
length_event (event.Bytes conn octets) conns = refl
length_event (event.Writable conn) conns = refl
length_event (event.Closed conn) conns = length_changed conn shut conns
length_event event.Idle conns = refl

pub length_places : (steps : List LogStep) → length (flat_map places steps) ≡ openings steps
length_places [] = refl
length_places (Opened ∷ rest) = (let e = length_places rest in omega (arith, e, sum_by-cons opening_step Opened rest))
length_places (Bytes conn octets ∷ rest) = (let e = length_places rest in omega (arith, e, sum_by-cons opening_step (Bytes conn octets) rest))
length_places (Writable conn ∷ rest) = (let e = length_places rest in omega (arith, e, sum_by-cons opening_step (Writable conn) rest))
length_places (Closed conn ∷ rest) = (let e = length_places rest in omega (arith, e, sum_by-cons opening_step (Closed conn) rest))
length_places (Idle ∷ rest) = (let e = length_places rest in omega (arith, e, sum_by-cons opening_step Idle rest))
length_places (Fail ∷ rest) = (let e = length_places rest in omega (arith, e, sum_by-cons opening_step Fail rest))
length_places (Room conn octets ∷ rest) = (let e = length_places rest in omega (arith, e, sum_by-cons opening_step (Room conn octets) rest))

-- ---- what was sent

-- a change that leaves what a connection was sent
abbrev KeepsSent : (Conn → Conn) → Type 0
KeepsSent change = (conn : Conn) → (change conn).sent ≡ conn.sent

pub sent_changed : (at : ℕ) (change : Conn → Conn) (conns : List Conn) → KeepsSent change → (conn : ℕ) → sent_at (changed at change conns) conn ≡ sent_at conns conn
sent_changed at change [] keeps conn = refl
sent_changed zero change (first ∷ rest) keeps zero = keeps first
sent_changed zero change (first ∷ rest) keeps (suc conn) = refl
sent_changed (suc at) change (first ∷ rest) keeps zero = refl
sent_changed (suc at) change (first ∷ rest) keeps (suc conn) = sent_changed at change rest keeps conn

pub sent_rooms : (steps : List LogStep) (conns : List Conn) (conn : ℕ) → sent_at (after_rooms steps conns) conn ≡ sent_at conns conn
sent_rooms [] conns conn = refl
sent_rooms (Opened ∷ rest) conns conn = refl
sent_rooms (Bytes other octets ∷ rest) conns conn = refl
sent_rooms (Writable other ∷ rest) conns conn = refl
sent_rooms (Closed other ∷ rest) conns conn = refl
sent_rooms (Idle ∷ rest) conns conn = refl
sent_rooms (Fail ∷ rest) conns conn = refl
sent_rooms (Room other octets ∷ rest) conns conn =
    sent_rooms rest (changed other (with_room octets) conns) conn ∙ sent_changed other (with_room octets) conns (λ c. refl) conn

pub sent_event : (told : Event) (conns : List Conn) (conn : ℕ) → sent_at (after_event told conns) conn ≡ sent_at conns conn
sent_event (event.Opened other) conns conn = sent_changed other opened conns (λ c. refl) conn
sent_event (event.Bytes other octets) conns conn = refl
sent_event (event.Writable other) conns conn = refl
sent_event (event.Closed other) conns conn = sent_changed other shut conns (λ c. refl) conn
sent_event event.Idle conns conn = refl

-- nothing was sent to new places
unsent_more : (step : LogStep) (conns : List Conn) → ((conn : ℕ) → sent_at conns conn ≡ []) → (conn : ℕ) → sent_at (places step ++ conns) conn ≡ []
unsent_more Opened conns none zero = refl
unsent_more Opened conns none (suc conn) = none conn
unsent_more (Bytes other octets) conns none conn = none conn
unsent_more (Writable other) conns none conn = none conn
unsent_more (Closed other) conns none conn = none conn
unsent_more Idle conns none conn = none conn
unsent_more Fail conns none conn = none conn
unsent_more (Room other octets) conns none conn = none conn

unsent_places : (steps : List LogStep) (conn : ℕ) → sent_at (flat_map places steps) conn ≡ []
unsent_places [] conn = refl
unsent_places (step ∷ rest) conn = unsent_more step (flat_map places rest) (unsent_places rest) conn

pub unsent_new : (steps : List LogStep) (conn : ℕ) → sent_at (new_conns steps) conn ≡ []
unsent_new steps zero = refl
unsent_new steps (suc conn) = unsent_places steps conn

sent_none : (step : LogStep) (conn : ℕ) → sent_at (places step) conn ≡ []
sent_none Opened zero = refl
sent_none Opened (suc conn) = refl
sent_none (Bytes other octets) conn = refl
sent_none (Writable other) conn = refl
sent_none (Closed other) conn = refl
sent_none Idle conn = refl
sent_none Fail conn = refl
sent_none (Room other octets) conn = refl

pub sent_added : (conns : List Conn) (step : LogStep) (conn : ℕ) → sent_at (conns ++ places step) conn ≡ sent_at conns conn
sent_added [] step conn = sent_none step conn
sent_added (first ∷ rest) step zero = refl
sent_added (first ∷ rest) step (suc conn) = sent_added rest step conn

-- a send adds what it took to its connection
kept_or_more : (first : Conn) (octets : List ℕ) (piece : Option ℕ) (offered : ℕ)
    → (after_send (take (count_at piece (first ∷ []) 0 offered) octets) first).sent ≡ first.sent ++ take (count_at piece (first ∷ []) 0 offered) octets
kept_or_more first octets piece offered =
    elim (cases_Bool first.is_open) [
      | inl e ↦ rw e refl
      | inr e ↦ rw e (sym (append-nil first.sent))
    ]

apart_first : (conn : ℕ) → (0 == suc conn) ≡ false
apart_first conn = grind (arith, nat_tests)

apart_later : (at : ℕ) → (suc at == 0) ≡ false
apart_later at = grind (arith, nat_tests)

alike : (at conn : ℕ) → (suc at == suc conn) ≡ (at == conn)
alike at conn = grind (arith, nat_tests)

pub sent_given : (piece : Option ℕ) (conns : List Conn) (at offered : ℕ) (octets : List ℕ) (conn : ℕ)
    → sent_at (changed at (after_send (take (count_at piece conns at offered) octets)) conns) conn
    ≡ sent_at conns conn ++ (if at == conn then take (count_at piece conns at offered) octets else [])
sent_given piece [] at offered octets conn =
    elim (cases_Bool (at == conn)) [
      | inl e ↦ rw e refl
      | inr e ↦ rw e refl
    ]
sent_given piece (first ∷ rest) zero offered octets zero = kept_or_more first octets piece offered
sent_given piece (first ∷ rest) zero offered octets (suc conn) =
    rw (apart_first conn) (sym (append-nil (sent_at rest conn)))
sent_given piece (first ∷ rest) (suc at) offered octets zero =
    rw (apart_later at) (sym (append-nil first.sent))
sent_given piece (first ∷ rest) (suc at) offered octets (suc conn) =
    rw (alike at conn) (sent_given piece rest at offered octets conn)

-- the log behind an entry more
pub sent_log : (conn : ℕ) (entries : List Entry) (entry : Entry) → sent_to conn (entries ++ entry ∷ []) ≡ sent_to conn entries ++ sent_by conn entry
sent_log conn entries entry = flat_map-append (sent_by conn) entries (entry ∷ []) ∙ ap (λ l. sent_to conn entries ++ l) (append-nil (sent_by conn entry))

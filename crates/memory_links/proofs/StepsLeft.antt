-- How the steps that are left go on, and what the loops over them found.
use Rattle.std.proofs.Common.{◌≡◌, ℕ, ◌+◌, ◌<◌, ◌≤◌, true, false, List, [], ◌∷◌, ◌++◌, Some, None, length, take, drop, refl, sym, ap, ◌∙◌, arith}
use Rattle.std.specs.Prelude.{slice_set, slice_get, slice_index_or}
use Rattle.std.specs.List.{flat_map}
use Rattle.std.proofs.Math.Seq.{drop-set-lt, drop-drop}
use Rattle.std.proofs.lemmas.List.{drop_all, drop_more, take_more, flat_map_more}
use Rattle.link_log.specs.declared.step.LogStep.{LogStep}
use Rattle.link_log.specs.declared.step.LogStep.TheVariants.{Opened, Bytes, Writable, Closed, Idle, Fail, Room}
use Rattle.memory_links.specs.declared.conn.Conn.{Conn}
use Rattle.memory_links.specs.Conns.{unopened}
use Rattle.memory_links.specs.Plays.{is_event, from_event, places}

-- a step that was taken leaves those behind it
pub left_more : (steps : List LogStep) (at : ℕ) (step : LogStep) → drop (at + 1) (slice_set steps at step) ≡ drop 1 (drop at steps)
left_more steps at step =
    let past : at < at + 1 = omega arith in
    drop-set-lt (at + 1) steps at step past ∙ sym (drop-drop 1 at steps)

-- ---- the next event

event_here : (step : LogStep) (rest : List LogStep) → is_event step ≡ true → Some step ≡ slice_get (from_event (step ∷ rest)) 0
event_here Opened rest is = refl
event_here (Bytes conn octets) rest is = refl
event_here (Writable conn) rest is = refl
event_here (Closed conn) rest is = refl
event_here Idle rest is = refl
event_here Fail rest is = refl
event_here (Room conn octets) rest is = absurd (cc)

event_later : (step : LogStep) (rest : List LogStep) → is_event step ≡ false → from_event (step ∷ rest) ≡ from_event rest
event_later Opened rest is = absurd (cc)
event_later (Bytes conn octets) rest is = absurd (cc)
event_later (Writable conn) rest is = absurd (cc)
event_later (Closed conn) rest is = absurd (cc)
event_later Idle rest is = absurd (cc)
event_later Fail rest is = absurd (cc)
event_later (Room conn octets) rest is = refl

pub event_found : (steps : List LogStep) (at : ℕ) (step : LogStep) → at < length steps → step ≡ slice_index_or steps at step
    → is_event step ≡ true → from_event (drop at steps) ≡ from_event steps → Some step ≡ slice_get (from_event steps) 0
event_found steps at step lt is event same =
    let cut : drop at steps ≡ step ∷ drop (at + 1) steps = drop_more steps at step lt ∙ ap (λ s. s ∷ drop (at + 1) steps) (sym is) in
    event_here step (drop (at + 1) steps) event ∙ ap (λ l. slice_get (from_event l) 0) (sym cut) ∙ ap (λ l. slice_get l 0) same

pub event_more : (steps : List LogStep) (at : ℕ) (step : LogStep) → at < length steps → step ≡ slice_index_or steps at step
    → is_event step ≡ false → from_event (drop at steps) ≡ from_event steps → from_event (drop (at + 1) steps) ≡ from_event steps
event_more steps at step lt is event same =
    let cut : drop at steps ≡ step ∷ drop (at + 1) steps = drop_more steps at step lt ∙ ap (λ s. s ∷ drop (at + 1) steps) (sym is) in
    sym (event_later step (drop (at + 1) steps) event) ∙ ap from_event (sym cut) ∙ same

pub event_none : (steps : List LogStep) (at : ℕ) → length steps ≤ at → from_event (drop at steps) ≡ from_event steps → None ≡ slice_get (from_event steps) 0
event_none steps at past same = ap (λ l. slice_get (from_event l) 0) (sym (drop_all at steps past)) ∙ ap (λ l. slice_get l 0) same

-- ---- the places

pub places_more : (items : List Conn) (steps : List LogStep) (at : ℕ) (step : LogStep) → at < length steps → step ≡ slice_index_or steps at step
    → items ≡ (unopened ∷ flat_map places (take at steps)) ++ places step → items ≡ unopened ∷ flat_map places (take (at + 1) steps)
places_more items steps at step lt is added =
    let cut : take (at + 1) steps ≡ take at steps ++ step ∷ [] = take_more steps at step lt ∙ ap (λ s. take at steps ++ s ∷ []) (sym is) in
    added ∙ ap (λ l. unopened ∷ l) (flat_map_more places [] (take at steps) step ∙ ap (flat_map places) (sym cut))

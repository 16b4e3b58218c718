-- How the events that are left and the log go on from one call to the next.
use Rattle.std.proofs.Common.{◌≡◌, ℕ, ◌+◌, ◌<◌, ◌≤◌, List, [], ◌∷◌, Some, None, length, drop, refl, sym, ◌∙◌, arith, zero, suc}
use Rattle.std.specs.List.{slice_get, slice_set}
use Rattle.std.proofs.Math.Seq.{drop-set-lt, drop-drop}
use Rattle.std.proofs.lemmas.List.{drop_all}
use Rattle.esi_links.specs.declared.links.Event.{Event}
use Rattle.esi_links.specs.declared.links.Event.TheVariants.{Idle}
use Rattle.esi_links.specs.LinkLog.{next_event}

-- the event at an index is the first of those from there on
pub next_at : (events : List Event) (at : ℕ) (event : Event)
    → slice_get events at ≡ Some event → next_event (drop at events) ≡ event
next_at [] at event found = cc
next_at (first ∷ rest) zero event found = cc
next_at (first ∷ rest) (suc at) event found = next_at rest at event found

-- past the last event there is none
pub next_none : (events : List Event) (at : ℕ) → slice_get events at ≡ None → next_event (drop at events) ≡ Idle
next_none [] zero none = refl
next_none [] (suc at) none = refl
next_none (first ∷ rest) zero none = cc
next_none (first ∷ rest) (suc at) none = next_none rest at none

-- an event that was taken leaves those after it
pub left_more : (events : List Event) (at : ℕ) (event : Event)
    → drop (at + 1) (slice_set events at event) ≡ drop 1 (drop at events)
left_more events at event =
    let past : at < at + 1 = omega arith in
    drop-set-lt (at + 1) events at event past ∙ sym (drop-drop 1 at events)

-- past the last event there is nothing to leave
pub left_none : (events : List Event) (at : ℕ) → length events ≤ at
    → drop at events ≡ drop 1 (drop at events)
left_none events at past = rw (drop_all at events past) refl

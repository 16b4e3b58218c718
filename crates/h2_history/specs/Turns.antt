-- A turn that reports nothing brings reading nearer to its end.
use Rattle.std.proofs.Common.{◌≡◌, ℕ, ◌+◌, ◌<◌, ◌≤◌, Option, Some, None, List, [], ◌∷◌, ◌++◌, length, refl, ap, sym, ◌∙◌, arith}
use Rattle.h2_frames.specs.NextLaws.{next_hands_out}
use Rattle.h2_frames.specs.Reading.{Reading, Next, next_of}
use Rattle.h2_frames.specs.Reading.Next.{NextUnfinished, NextFrame, NextFault}
use Rattle.h2_frames.specs.StreamLaws.{frame_shortens}
use Rattle.h2_history.specs.declared.event.CallEvent.{CallEvent}
use Rattle.h2_history.specs.Frames.{frame_read}
use Rattle.h2_history.specs.History.{turn_of, turn_by, turn_next, turn_reported, AreQuiet, Reaches}
use Rattle.h2_history.specs.History.Turn.{Goes}
use Rattle.h2_history.specs.Puts.{broke, goaway}
use Rattle.h2_history.specs.Standing.{Standing}
use Rattle.h2_history.specs.Unmoved.{read_stays, out_stays}

-- 1 while the connection goes on
abbrev pub going : Option ℕ → ℕ
going None = 1
going (Some code) = 0

-- what falls with each turn that reports nothing
abbrev pub turns_left : Standing → ℕ
turns_left s = length s.reading.unread + going s.broken

going_most : (broken : Option ℕ) → going broken ≤ 1
going_most None = omega arith
going_most (Some code) = omega arith

-- what a turn goes on with, where it reports nothing
reported_goes : (event : Option CallEvent) (s new : Standing) → turn_reported event s ≡ Goes new → s ≡ new
reported_goes None s new e = cc
reported_goes (Some event) s new e = cc

next_falls : (next : Next) (old new : Standing) → next_of old.reading ≡ next → old.broken ≡ None → turn_next next old ≡ Goes new → turns_left new < turns_left old
next_falls NextUnfinished old new is going_on e = cc
next_falls (NextFault code) old new is going_on e =
    let same : broke code old ≡ new = cc in
    let reading = (out_stays (goaway code old) old).reading in
    let ended : going new.broken ≡ 0 = ap (λ (s : Standing). going s.broken) (sym same) in
    omega (arith, ended, ap going going_on, ap (λ (s : Standing). length s.reading.unread) (sym same), ap (λ (r : Reading). length r.unread) reading)
next_falls (NextFrame frame reading) old new is going_on e =
    let passed : Standing = record old { reading = reading } in
    let same : (frame_read frame passed).left ≡ new = reported_goes (frame_read frame passed).event (frame_read frame passed).left new e in
    let stays = (read_stays frame passed).reading in
    let shorter = frame_shortens old.reading frame reading (next_hands_out old.reading frame reading is) in
    omega (arith, shorter, going_most new.broken, ap going going_on, ap (λ (s : Standing). length s.reading.unread) (sym same), ap (λ (r : Reading). length r.unread) stays)

turn_falls_by : (broken : Option ℕ) (old new : Standing) → old.broken ≡ broken → turn_by broken old ≡ Goes new → turns_left new < turns_left old
turn_falls_by None old new is e = next_falls (next_of old.reading) old new refl is e
turn_falls_by (Some code) old new is e = cc

pub turn_falls : (old new : Standing) → turn_of old ≡ Goes new → turns_left new < turns_left old
turn_falls old new e = turn_falls_by old.broken old new refl e

-- ---- turns one after another

pub reaches_none : (s : Standing) → Reaches s s
reaches_none s = record { turns = []; quiet = refl }

quiet_more : (turns : List Standing) (old between new : Standing) → AreQuiet old turns between → turn_of between ≡ Goes new → AreQuiet old (turns ++ new ∷ []) new
quiet_more [] old between new same goes = (ap turn_of same ∙ goes, refl)
quiet_more (next ∷ turns) old between new quiet goes = (quiet.0, quiet_more turns next between new quiet.1 goes)

pub reaches_more : (old between new : Standing) → Reaches old between → turn_of between ≡ Goes new → Reaches old new
reaches_more old between new reaches goes = record { turns = reaches.turns ++ new ∷ []; quiet = quiet_more reaches.turns old between new reaches.quiet goes }

-- What any list of calls of a reader comes to.
use Rattle.std.specs.Prelude.{◌≡◌, ◌≢◌, List, [], ◌∷◌, ◌++◌, refl}
use Rattle.std.proofs.Common.{sym, ap, ◌∙◌, subst, append_assoc}
use Rattle.std.proofs.lemmas.List.{append-nil}
use Rattle.h2_layouts.specs.declared.role.Role.{Role}
use Rattle.h2_frames.specs.Reading.{Reading, new_reading, fed_with}
use Rattle.h2_frames.specs.Streams.{End, Ends, AreFrames, IsStream}
use Rattle.h2_frames.specs.Streams.End.{Unfinished}
use Rattle.h2_frames.specs.StreamLaws.{frame_grown, fault_grown, one_end, no_end, one_stream}
use Rattle.h2_frames.specs.Calls.{Call, IsRun, octets_fed, frames_given, StaysFaulty}
use Rattle.h2_frames.specs.Calls.Call.{Feed, HandOut, NoFrame, NoMemory}

same_reading : (one other : Reading) → one.context ≡ other.context → one.unread ≡ other.unread → one ≡ other
same_reading one other c u = ap (λ x. record { context = x; unread = one.unread }) c ∙ ap (λ x. record { context = other.context; unread = x }) u

-- what was unread and what was fed is what was given and what is unread
pub frames_of_run : (calls : List Call) (old new : Reading) → IsRun old calls new → AreFrames (fed_with (octets_fed calls) old) (frames_given calls) new
frames_of_run [] old new same = same_reading (fed_with [] old) old refl (append-nil old.unread) ∙ same
frames_of_run (Feed octets ∷ calls) old new (between, step, run) =
    subst (λ r. AreFrames r (frames_given calls) new)
    (ap (λ r. fed_with (octets_fed calls) r) step ∙ same_reading (fed_with (octets_fed calls) (fed_with octets old)) (fed_with (octets ++ octets_fed calls) old) refl (append_assoc old.unread octets (octets_fed calls)))
    (frames_of_run calls between new run)
frames_of_run (HandOut frame ∷ calls) old new (between, step, run) = (
  fed_with (octets_fed calls) between,
  frame_grown old frame between (octets_fed calls) step,
  frames_of_run calls between new run,
)
frames_of_run (NoFrame end ∷ calls) old new (between, step, run) = subst (λ r. AreFrames (fed_with (octets_fed calls) r) (frames_given calls) new) step.1 (frames_of_run calls between new run)
frames_of_run (NoMemory ∷ calls) old new (between, step, run) = subst (λ r. AreFrames (fed_with (octets_fed calls) r) (frames_given calls) new) step (frames_of_run calls between new run)

pub frames_of_calls : (old new : Reading) (calls : List Call) → IsRun old calls new → AreFrames (fed_with (octets_fed calls) old) (frames_given calls) new
frames_of_calls old new calls run = frames_of_run calls old new run

-- a new reader, where no frame is given: all of them were
pub stream_of_run : (role : Role) (new : Reading) (calls : List Call) (end : End) → IsRun (new_reading role) calls new → Ends new end → IsStream role (octets_fed calls) (frames_given calls) new end
stream_of_run role new calls end run ends = record { are = frames_of_run calls (new_reading role) new run; ends = ends }

-- the frames are those of the joined octets, whatever the pieces
pub any_cutting : (role : Role) (calls others : List Call) (new found : Reading) (end last : End)
    → IsRun (new_reading role) calls new → Ends new end → IsRun (new_reading role) others found → Ends found last
    → octets_fed calls ≡ octets_fed others → (frames_given calls ≡ frames_given others) × (end ≡ last)
any_cutting role calls others new found end last run ends turn lasts same =
    let all = one_stream (frames_given calls) (fed_with (octets_fed others) (new_reading role)) (frames_given others) new found end last
    (subst (λ o. AreFrames (fed_with o (new_reading role)) (frames_given calls) new) same (frames_of_run calls (new_reading role) new run)) ends
    (frames_of_run others (new_reading role) found turn) lasts in
    (all.0, all.2)

-- after a fault it stays faulty
stays_so : (calls : List Call) (old new : Reading) (end : End) → Ends old end → end ≢ Unfinished → IsRun old calls new → StaysFaulty calls new end
stays_so [] old new end ends n same = record { none = refl; answers = tt; ends = subst (λ r. Ends r end) same ends }
stays_so (Feed octets ∷ calls) old new end ends n (between, step, run) =
    let next = stays_so calls between new end (subst (λ r. Ends r end) (sym step) (fault_grown old octets end n ends)) n run in
    record { none = next.none; answers = next.answers; ends = next.ends }
stays_so (HandOut frame ∷ calls) old new end ends n (between, step, run) = absurd (no_end old frame between end step ends)
stays_so (NoFrame other ∷ calls) old new end ends n (between, step, run) =
    let next = stays_so calls between new end (subst (λ r. Ends r end) (sym step.1) ends) n run in
    record { none = next.none; answers = (one_end old other end step.0 ends, next.answers); ends = next.ends }
stays_so (NoMemory ∷ calls) old new end ends n (between, step, run) =
    let next = stays_so calls between new end (subst (λ r. Ends r end) (sym step) ends) n run in
    record { none = next.none; answers = next.answers; ends = next.ends }

pub stays_faulty : (old new : Reading) (calls : List Call) (end : End) → Ends old end → end ≢ Unfinished → IsRun old calls new → StaysFaulty calls new end
stays_faulty old new calls end ends n run = stays_so calls old new end ends n run

-- What a reader answers is what stands first.
use Rattle.std.specs.Prelude.{◌≡◌, ◌↔◌, ℕ, ◌⊎◌, Ok, Err, refl}
use Rattle.std.proofs.Common.{inl, inr, sym, ap, ◌∙◌, subst}
use Rattle.esi_base.specs.declared.poll.Poll.TheVariants.{Ready, Pending}
use Rattle.h2_layouts.specs.declared.frame.Frame.{Frame}
use Rattle.h2_frames.specs.declared.reader.FrameStop.TheVariants.{Fault, NoMemory}
use Rattle.h2_frames.specs.NextLaws.{hands_out_next, next_hands_out, fault_next, next_fault, next_unfinished, unfinished_next}
use Rattle.h2_frames.specs.Reading.{Reading, next_of, Answer, Answers, IfFrame, OnNoFrame, IsFaultWith, IsNoMemory, IsPending, IsHandedOut}
use Rattle.h2_frames.specs.Reading.Next.{NextFrame, NextFault}
use Rattle.h2_frames.specs.Streams.{HandsOut, IsFault, IsUnfinished}

pub answer_frame : (answer : Answer) (old new : Reading) → Answers answer old new (next_of old) → IfFrame answer (λ frame. HandsOut old frame new)
answer_frame (Ready (Ok frame)) old new a = next_hands_out old frame new a
answer_frame (Ready (Err stop)) old new a = tt
answer_frame Pending old new a = tt

same_read : (frame other : Frame) (one two : Reading) → NextFrame frame one ≡ NextFrame other two → (frame ≡ other) × (one ≡ two)
same_read frame other one two e = (cc e, cc e)

pub answer_frame_only : (answer : Answer) (old new : Reading) → Answers answer old new (next_of old) → (frame : Frame) (following : Reading) → HandsOut old frame following → IsHandedOut frame following answer new
answer_frame_only (Ready (Ok given)) old new a frame following g = same_read given frame new following (sym a ∙ hands_out_next old frame following g)
answer_frame_only (Ready (Err (Fault code))) old new a frame following g = let e = sym a.0 ∙ hands_out_next old frame following g in cc e
answer_frame_only (Ready (Err NoMemory)) old new a frame following g = tt
answer_frame_only Pending old new a frame following g = let e = sym a.0 ∙ hands_out_next old frame following g in cc e

pub answer_fault : (answer : Answer) (old new : Reading) → Answers answer old new (next_of old) → (code : ℕ) → IsFaultWith code answer → IsFault old code
answer_fault answer old new a code f =
    next_fault old code ((subst (λ x. Answers x old new (next_of old)) f a).0)

pub answer_fault_only : (answer : Answer) (old new : Reading) → Answers answer old new (next_of old) → (code : ℕ) → IsFault old code → IsFaultWith code answer ⊎ IsNoMemory answer
answer_fault_only (Ready (Ok given)) old new a code f = let e = sym a ∙ fault_next old code f in absurd (cc e)
answer_fault_only (Ready (Err (Fault other))) old new a code f = inl (same (sym a.0 ∙ fault_next old code f))
  where
    same : NextFault other ≡ NextFault code → IsFaultWith code (Ready (Err (Fault other)))
    same e = ap (λ n. Ready (Err (Fault n))) (cc e)
answer_fault_only (Ready (Err NoMemory)) old new a code f = inr refl
answer_fault_only Pending old new a code f = let e = sym a.0 ∙ fault_next old code f in absurd (cc e)

pending_unfinished : (answer : Answer) (old new : Reading) → Answers answer old new (next_of old) → IsPending answer → IsUnfinished old
pending_unfinished answer old new a p = next_unfinished old ((subst (λ x. Answers x old new (next_of old)) p a).0)

unfinished_pending : (answer : Answer) (old new : Reading) → Answers answer old new (next_of old) → IsUnfinished old → IsPending answer
unfinished_pending (Ready (Ok given)) old new a u = let e = sym a ∙ unfinished_next old u in absurd (cc e)
unfinished_pending (Ready (Err (Fault code))) old new a u = let e = sym a.0 ∙ unfinished_next old u in absurd (cc e)
unfinished_pending (Ready (Err NoMemory)) old new a u = absurd (a.0 (unfinished_next old u))
unfinished_pending Pending old new a u = refl

pub answer_pending : (answer : Answer) (old new : Reading) → Answers answer old new (next_of old) → IsPending answer ↔ IsUnfinished old
answer_pending answer old new a = (pending_unfinished answer old new a, unfinished_pending answer old new a)

pub answer_unchanged : (answer : Answer) (old new : Reading) → Answers answer old new (next_of old) → OnNoFrame answer (new ≡ old)
answer_unchanged (Ready (Ok frame)) old new a = tt
answer_unchanged (Ready (Err stop)) old new a = a.1
answer_unchanged Pending old new a = a.1

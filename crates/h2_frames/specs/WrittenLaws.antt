-- Frames that were written are read as those frames, whatever follows.
use Rattle.std.specs.Prelude.{◌≡◌, ℕ, List, [], ◌∷◌, ◌++◌, Bool, true, false, ◌&&◌, None, drop, refl, length, if◌then◌else◌}
use Rattle.std.proofs.Common.{sym, ap, ◌∙◌, subst, append_assoc}
use Rattle.std.proofs.lemmas.List.{append-nil}
use Rattle.h2_layouts.specs.Contexts.{new_context, context_after}
use Rattle.h2_layouts.specs.declared.context.FrameContext.{FrameContext}
use Rattle.h2_layouts.specs.declared.frame.Frame.{Frame}
use Rattle.h2_layouts.specs.declared.role.Role.{Role}
use Rattle.h2_layouts.specs.declared.rule.FrameRule.TheVariants.{Preface}
use Rattle.h2_layouts.specs.Layouts.{IsPayload}
use Rattle.h2_layouts.specs.Rules.{broken_header}
use Rattle.h2_layouts.specs.Written.{IsWritable, header_octets, header_for, payload_of, octets_of}
use Rattle.h2_layouts.specs.WrittenLaws.{header_written, payload_written}
use Rattle.h2_frames.specs.Calls.{Call, IsRun, octets_fed, frames_given}
use Rattle.h2_frames.specs.CallLaws.{frames_of_run}
use Rattle.h2_frames.specs.declared.front.Front.TheVariants as front
use Rattle.h2_frames.specs.Front.{front_after_preface}
use Rattle.h2_frames.specs.NextLaws.{next_unfinished}
use Rattle.h2_frames.specs.Prefaces.{preface, agrees, is_server, preface_due}
use Rattle.h2_frames.specs.Reading.{Reading, new_reading, fed_with, next_of, next_of_front}
use Rattle.h2_frames.specs.Reading.Next.{NextUnfinished}
use Rattle.h2_frames.specs.Streams.{HandsOut, AreFrames, End, Ends}
use Rattle.h2_frames.specs.Streams.End.{Unfinished}
use Rattle.h2_frames.specs.StreamLaws.{one_stream}
use Rattle.h2_frames.specs.WrittenFrames.{octets_at, context_after_all, AreWritable}

-- a frame that was written stands there, whatever follows
pub written_hands_out : (context : FrameContext) (frame : Frame) (more : List ℕ) → IsWritable frame → broken_header context (header_for frame) ≡ None
    → HandsOut (record { context = context; unread = preface_due context ++ (octets_of frame ++ more) }) frame (record { context = context_after context frame; unread = more })
written_hands_out context frame more w stands = record {
  octets = octets_of frame;
  whole = refl;
  is_frame = record {
    nine = header_octets (header_for frame);
    payload = payload_of frame;
    whole = refl;
    nine_len = refl;
    payload_len = sym (ap (λ h. h.length) (header_written frame w));
    is_payload = subst (λ h. IsPayload context.role h (payload_of frame) frame) (sym (header_written frame w)) (payload_written frame w context.role);
  };
  stands = ap (λ h. broken_header context h) (header_written frame w) ∙ stands;
  context_is = refl;
}

-- and so do many
written_frames : (frames : List Frame) (context : FrameContext) (more : List ℕ) → AreWritable context frames
    → AreFrames (record { context = context; unread = octets_at context frames ++ more }) frames (record { context = context_after_all context frames; unread = more })
written_frames [] context more w = refl
written_frames (frame ∷ frames) context more (w, stands, others) =
    let rest = octets_at (context_after context frame) frames in
    let whole : octets_at context (frame ∷ frames) ++ more ≡ preface_due context ++ (octets_of frame ++ (rest ++ more))
    = append_assoc (preface_due context) (octets_of frame ++ rest) more ∙ ap (λ o. preface_due context ++ o) (append_assoc (octets_of frame) rest more) in (
      record { context = context_after context frame; unread = rest ++ more },
      subst (λ o. HandsOut (record { context = context; unread = o }) frame (record { context = context_after context frame; unread = rest ++ more })) (sym whole) (written_hands_out context frame (rest ++ more) w stands),
      written_frames frames (context_after context frame) more others,
    )

pub written_are_frames : (context : FrameContext) (frames : List Frame) (more : List ℕ) → AreWritable context frames
    → AreFrames (record { context = context; unread = octets_at context frames ++ more }) frames (record { context = context_after_all context frames; unread = more })
written_are_frames context frames more w = written_frames frames context more w

-- no octet begins nothing
empty_unfinished : (context : FrameContext) → next_of (record { context = context; unread = [] }) ≡ NextUnfinished
empty_unfinished context = of (context.first && is_server context.role)
  where
    of : (due : Bool) → next_of_front (record { context = context; unread = [] })
        (if agrees (if due then preface else []) [] then front_after_preface context (length (if due then preface else [])) (drop (length (if due then preface else [])) []) else front.Broken Preface) ≡ NextUnfinished
    of true = refl
    of false = refl

-- whatever the pieces in which they come
pub written_any_cutting : (role : Role) (frames : List Frame) (calls : List Call) (new : Reading) (end : End) → AreWritable (new_context role) frames
    → IsRun (new_reading role) calls new → Ends new end → octets_fed calls ≡ octets_at (new_context role) frames → (frames_given calls ≡ frames) × (end ≡ Unfinished)
written_any_cutting role frames calls new end w run ends same =
    let all = one_stream (frames_given calls) (fed_with (octets_at (new_context role) frames) (new_reading role)) frames new (record { context = context_after_all (new_context role) frames; unread = [] }) end Unfinished
    (subst (λ o. AreFrames (fed_with o (new_reading role)) (frames_given calls) new) same (frames_of_run calls (new_reading role) new run)) ends
    (subst (λ o. AreFrames (record { context = new_context role; unread = o }) frames (record { context = context_after_all (new_context role) frames; unread = [] }))
    (append-nil (octets_at (new_context role) frames)) (written_frames frames (new_context role) [] w))
    (next_unfinished (record { context = context_after_all (new_context role) frames; unread = [] }) (empty_unfinished (context_after_all (new_context role) frames))) in
    (all.0, all.2)

-- Octets have one reading as frames, and what they begin with stays when more octets follow.
use Rattle.std.specs.Prelude.{◌≡◌, ◌≢◌, ℕ, zero, suc, ◌<◌, ◌≤◌, List, [], ◌∷◌, ◌++◌, length, refl}
use Rattle.std.proofs.Common.{inl, inr, sym, ap, ◌∙◌, subst, arith, append_assoc}
use Rattle.std.proofs.lemmas.List.{length-append, get_or_append_left}
use Rattle.h2_layouts.specs.declared.frame.Frame.{Frame}
use Rattle.h2_layouts.specs.declared.role.Role.{Role}
use Rattle.h2_layouts.specs.declared.rule.FrameRule.{FrameRule}
use Rattle.h2_frames.specs.NextLaws.{hands_out_next, next_hands_out, fault_next, next_fault, next_unfinished, unfinished_next}
use Rattle.h2_frames.specs.Prefaces.{preface_due}
use Rattle.h2_frames.specs.Reading.{Reading, Next, new_reading, fed_with, next_of}
use Rattle.h2_frames.specs.Reading.Next.{NextUnfinished, NextFrame, NextFault}
use Rattle.h2_frames.specs.Streams.{HandsOut, BreaksPreface, BreaksHeader, BreaksPayload, Breaks, End, Ends, AreFrames, IsStream, HasStream}
use Rattle.h2_frames.specs.Streams.End.{Unfinished, Fault}

-- ---- more octets

-- more octets after a frame leave it as it is
pub frame_grown : (old : Reading) (frame : Frame) (new : Reading) (more : List ℕ) → HandsOut old frame new → HandsOut (fed_with more old) frame (fed_with more new)
frame_grown old frame new more g = record {
  octets = g.octets;
  whole = ap (λ o. o ++ more) g.whole ∙ append_assoc (preface_due old.context) (g.octets ++ new.unread) more ∙ ap (λ o. preface_due old.context ++ o) (append_assoc g.octets new.unread more);
  is_frame = g.is_frame;
  stands = g.stands;
  context_is = g.context_is;
}

-- and many frames too
pub frames_grown : (old : Reading) (frames : List Frame) (new : Reading) (more : List ℕ) → AreFrames old frames new → AreFrames (fed_with more old) frames (fed_with more new)
frames_grown old [] new more h = ap (fed_with more) h
frames_grown old (frame ∷ frames) new more (between, first, others) = (fed_with more between, frame_grown old frame between more first, frames_grown between frames new more others)

-- a rule that is broken stays broken
preface_grown : (old : Reading) (more : List ℕ) → BreaksPreface old → BreaksPreface (fed_with more old)
preface_grown old more b =
    let s = b.stands in
    record {
      at = b.at;
      stands = omega (arith, length-append old.unread more);
      due = b.due;
      differs = λ e. b.differs (e ∙ get_or_append_left old.unread more 0 b.at s);
    }

header_grown : (old : Reading) (rule : FrameRule) (more : List ℕ) → BreaksHeader old rule → BreaksHeader (fed_with more old) rule
header_grown old rule more b = record {
  nine = b.nine;
  following = b.following ++ more;
  whole = ap (λ o. o ++ more) b.whole ∙ append_assoc (preface_due old.context) (b.nine ++ b.following) more ∙ ap (λ o. preface_due old.context ++ o) (append_assoc b.nine b.following more);
  nine_len = b.nine_len;
  broken = b.broken;
}

payload_grown : (old : Reading) (rule : FrameRule) (more : List ℕ) → BreaksPayload old rule → BreaksPayload (fed_with more old) rule
payload_grown old rule more b = record {
  nine = b.nine;
  payload = b.payload;
  following = b.following ++ more;
  whole = ap (λ o. o ++ more) b.whole
      ∙ append_assoc (preface_due old.context) (b.nine ++ (b.payload ++ b.following)) more
      ∙ ap (λ o. preface_due old.context ++ o) (append_assoc b.nine (b.payload ++ b.following) more ∙ ap (λ o. b.nine ++ o) (append_assoc b.payload b.following more));
  nine_len = b.nine_len;
  payload_len = b.payload_len;
  stands = b.stands;
  broken = b.broken;
}

pub breaks_grown : (old : Reading) (rule : FrameRule) (more : List ℕ) → Breaks old rule → Breaks (fed_with more old) rule
breaks_grown old rule more (inl (preface, b)) = inl (preface, preface_grown old more b)
breaks_grown old rule more (inr (inl b)) = inr (inl (header_grown old rule more b))
breaks_grown old rule more (inr (inr b)) = inr (inr (payload_grown old rule more b))

pub fault_grown : (old : Reading) (more : List ℕ) (end : End) → end ≢ Unfinished → Ends old end → Ends (fed_with more old) end
fault_grown old more Unfinished n h = absurd (n refl)
fault_grown old more (Fault code) n h = record { rule = h.rule; breaks = breaks_grown old h.rule more h.breaks; code_is = h.code_is }

-- ---- one reading

-- what comes next where the octets end so
abbrev next_at : End → Next
next_at Unfinished = NextUnfinished
next_at (Fault code) = NextFault code

end_next : (old : Reading) (end : End) → Ends old end → next_of old ≡ next_at end
end_next old Unfinished h = unfinished_next old h
end_next old (Fault code) h = fault_next old code h

next_at-one : (end other : End) → next_at end ≡ next_at other → end ≡ other
next_at-one Unfinished Unfinished e = refl
next_at-one Unfinished (Fault code) e = absurd (cc e)
next_at-one (Fault code) Unfinished e = absurd (cc e)
next_at-one (Fault code) (Fault other) e = ap (λ n. Fault n) (same code other e)
  where
    same : (code other : ℕ) → NextFault code ≡ NextFault other → code ≡ other
    same code other e = cc e

pub one_end : (old : Reading) (end other : End) → Ends old end → Ends old other → end ≡ other
one_end old end other h g = next_at-one end other (sym (end_next old end h) ∙ end_next old other g)

-- where a frame stands first, nothing ends
pub no_end : (old : Reading) (frame : Frame) (new : Reading) (end : End) → HandsOut old frame new → Ends old end → ⊥
no_end old frame new Unfinished g h = h.no_frame frame new g
no_end old frame new (Fault code) g h = let e = sym (hands_out_next old frame new g) ∙ fault_next old code h in cc e

same_read : (frame other : Frame) (one two : Reading) → NextFrame frame one ≡ NextFrame other two → (frame ≡ other) × (one ≡ two)
same_read frame other one two e = (cc e, cc e)

-- one frame stands first
pub one_frame : (old : Reading) (frame other : Frame) (new found : Reading) → HandsOut old frame new → HandsOut old other found → (frame ≡ other) × (new ≡ found)
one_frame old frame other new found g h = same_read frame other new found (sym (hands_out_next old frame new g) ∙ hands_out_next old other found h)

pub one_stream : (frames : List Frame) (old : Reading) (others : List Frame) (new found : Reading) (end last : End)
    → AreFrames old frames new → Ends new end → AreFrames old others found → Ends found last → (frames ≡ others) × (new ≡ found) × (end ≡ last)
one_stream [] old [] new found end last h e g l =
    let same = sym h ∙ g in
    (refl, same, one_end new end last e (subst (λ r. Ends r last) (sym same) l))
one_stream [] old (other ∷ others) new found end last h e (between, first, rest) l = absurd (no_end old other between end first (subst (λ r. Ends r end) (sym h) e))
one_stream (frame ∷ frames) old [] new found end last (between, first, rest) e g l = absurd (no_end old frame between last first (subst (λ r. Ends r last) (sym g) l))
one_stream (frame ∷ frames) old (other ∷ others) new found end last (between, first, rest) e (middle, one, more) l =
    let same = one_frame old frame other between middle first one in
    let all = one_stream frames between others new found end last rest e (subst (λ r. AreFrames r others found) (sym same.1) more) l in
    (ap (λ f. f ∷ frames) same.0 ∙ ap (λ fs. other ∷ fs) all.0, all.1, all.2)

-- the same frames, the same rest, the same end
pub record AreSame (frames others : List Frame) (rest left : Reading) (end last : End) : Type 0 where
  pub frames_are : frames ≡ others
  pub rest_is : rest ≡ left
  pub end_is : end ≡ last

pub same_stream : (role : Role) (octets : List ℕ) (frames others : List Frame) (rest left : Reading) (end last : End)
    → IsStream role octets frames rest end → IsStream role octets others left last → AreSame frames others rest left end last
same_stream role octets frames others rest left end last h g =
    let all = one_stream frames (fed_with octets (new_reading role)) others rest left end last h.are h.ends g.are g.ends in
    record { frames_are = all.0; rest_is = all.1; end_is = all.2 }

-- ---- some reading

-- fewer octets are left after a frame
pub frame_shortens : (old : Reading) (frame : Frame) (new : Reading) → HandsOut old frame new → length new.unread < length old.unread
frame_shortens old frame new g =
    let is = g.is_frame in
    let nine = is.nine_len in
    omega (arith, ap length g.whole, length-append (preface_due old.context) (g.octets ++ new.unread), length-append g.octets new.unread, ap length is.whole, length-append is.nine is.payload)

-- the frames from a reader on
record HasFrames (old : Reading) : Type 0 where
  frames : List Frame
  rest : Reading
  end : End
  are : AreFrames old frames rest
  ends : Ends rest end

next_frames : (old : Reading) (next : Next) → next_of old ≡ next → ((new : Reading) → length new.unread < length old.unread → HasFrames new) → HasFrames old
next_frames old NextUnfinished e rest = record { frames = []; rest = old; end = Unfinished; are = refl; ends = next_unfinished old e }
next_frames old (NextFault code) e rest = record { frames = []; rest = old; end = Fault code; are = refl; ends = next_fault old code e }
next_frames old (NextFrame frame new) e rest =
    let first = next_hands_out old frame new e in
    let others = rest new (frame_shortens old frame new first) in
    record { frames = frame ∷ others.frames; rest = others.rest; end = others.end; are = (new, first, others.are); ends = others.ends }

some_frames : (fuel : ℕ) (old : Reading) → length old.unread ≤ fuel → HasFrames old
some_frames zero old h = next_frames old (next_of old) refl (λ new s. absurd (omega arith))
some_frames (suc fuel) old h = next_frames old (next_of old) refl (λ new s. some_frames fuel new (omega arith))

pub each_has_stream : (role : Role) (octets : List ℕ) → HasStream role octets
each_has_stream role octets =
    let all = some_frames (length octets) (fed_with octets (new_reading role)) (omega arith) in
    record { frames = all.frames; rest = all.rest; end = all.end; stream = record { are = all.are; ends = all.ends } }

-- What a reader answers next is what stands first.
use Rattle.std.specs.Prelude.{◌≡◌, ℕ, ◌+◌, List, ◌++◌, length, take, drop, None, Result, Ok, Err, Bool, true, false, refl, if◌then◌else◌}
use Rattle.std.proofs.Common.{inl, inr, sym, ap, ◌∙◌, subst, arith, append_assoc}
use Rattle.std.proofs.lemmas.List.{take_at, drop_at, take-append-drop, length-append, length-take-le}
use Rattle.h2_layouts.specs.declared.context.FrameContext.{FrameContext}
use Rattle.h2_layouts.specs.declared.frame.Frame.{Frame}
use Rattle.h2_layouts.specs.declared.header.FrameHeader.{FrameHeader}
use Rattle.h2_layouts.specs.declared.rule.FrameRule.{FrameRule}
use Rattle.h2_layouts.specs.declared.rule.FrameRule.TheVariants.{Preface}
use Rattle.h2_layouts.specs.Headers.{header_of}
use Rattle.h2_layouts.specs.LayoutLaws.{frame_read, payload_read, rule_read, broken_read}
use Rattle.h2_layouts.specs.PayloadReading.{frame_of}
use Rattle.h2_layouts.specs.Rules.{broken_header, code_of}
use Rattle.h2_frames.specs.declared.front.Front.{Front}
use Rattle.h2_frames.specs.declared.front.Front.TheVariants.{Whole, Broken, Unfinished}
use Rattle.h2_frames.specs.Front.{front_by_rule, front_after_preface, front_of}
use Rattle.h2_frames.specs.FrontLaws.{differing, nine_front, whole_by_rule, front_due, HasHeaderDue, front_whole, LetThrough, let_through, front_broken}
use Rattle.h2_frames.specs.Prefaces.{agrees, preface_due}
use Rattle.h2_frames.specs.Reading.{Reading, Next, after_frame, next_of_payload, next_of_front, next_of}
use Rattle.h2_frames.specs.Reading.Next.{NextUnfinished, NextFrame, NextFault}
use Rattle.h2_frames.specs.Streams.{HandsOut, BreaksPreface, BreaksHeader, BreaksPayload, Breaks, IsFault, IsUnfinished}

-- ---- where the payload and what is after it stand

after_header : (due nine following unread : List ℕ) → unread ≡ due ++ (nine ++ following) → length nine ≡ 9 → drop (length due + 9) unread ≡ following
after_header due nine following unread e n =
    ap (λ o. drop (length due + 9) o) (e ∙ sym (append_assoc due nine following))
    ∙ drop_at (due ++ nine) following (length due + 9) (length-append due nine ∙ ap (λ k. length due + k) n)

after_payload : (due nine payload rest unread : List ℕ) → unread ≡ due ++ (nine ++ (payload ++ rest)) → length nine ≡ 9 → drop (length due + 9 + length payload) unread ≡ rest
after_payload due nine payload rest unread e n =
    ap (λ o. drop (length due + 9 + length payload) o) (e ∙ sym (append_assoc due nine (payload ++ rest)) ∙ sym (append_assoc (due ++ nine) payload rest))
    ∙ drop_at ((due ++ nine) ++ payload) rest (length due + 9 + length payload)
    (length-append (due ++ nine) payload ∙ ap (λ k. k + length payload) (length-append due nine ∙ ap (λ k. length due + k) n))

-- a whole frame whose header breaks no rule is found
found_front : (context : FrameContext) (nine payload rest unread : List ℕ) → unread ≡ preface_due context ++ (nine ++ (payload ++ rest)) → length nine ≡ 9
    → length payload ≡ (header_of nine).length → broken_header context (header_of nine) ≡ None
    → front_of context unread ≡ Whole (header_of nine) (length (preface_due context) + 9)
found_front context nine payload rest unread e n k lawful =
    front_due context unread (nine ++ (payload ++ rest)) e
    ∙ nine_front context (length (preface_due context)) nine (payload ++ rest) n
    ∙ ap (λ r. front_by_rule r (header_of nine) (length (preface_due context)) (length (payload ++ rest))) lawful
    ∙ whole_by_rule (header_of nine) (length (preface_due context)) (length (payload ++ rest)) (omega (arith, length-append payload rest))

-- its payload is what is read
found_next : (old : Reading) (nine payload rest : List ℕ) → old.unread ≡ preface_due old.context ++ (nine ++ (payload ++ rest)) → length nine ≡ 9
    → length payload ≡ (header_of nine).length → broken_header old.context (header_of nine) ≡ None
    → next_of old ≡ next_of_payload old (length (preface_due old.context) + 9 + (header_of nine).length) (frame_of old.context.role (header_of nine) payload)
found_next old nine payload rest e n k lawful =
    ap (λ f. next_of_front old f) (found_front old.context nine payload rest old.unread e n k lawful)
    ∙ ap (λ o. next_of_payload old (length (preface_due old.context) + 9 + (header_of nine).length) (frame_of old.context.role (header_of nine) (take (header_of nine).length o)))
    (after_header (preface_due old.context) nine (payload ++ rest) old.unread e n)
    ∙ ap (λ o. next_of_payload old (length (preface_due old.context) + 9 + (header_of nine).length) (frame_of old.context.role (header_of nine) o))
    (take_at payload rest (header_of nine).length k)

-- ---- a frame that stands first comes next

same_reading : (one other : Reading) → one.context ≡ other.context → one.unread ≡ other.unread → one ≡ other
same_reading one other c u = ap (λ x. record { context = x; unread = one.unread }) c ∙ ap (λ x. record { context = other.context; unread = x }) u

pub hands_out_next : (old : Reading) (frame : Frame) (new : Reading) → HandsOut old frame new → next_of old ≡ NextFrame frame new
hands_out_next old frame new g =
    let is = g.is_frame in
    let whole : old.unread ≡ preface_due old.context ++ (is.nine ++ (is.payload ++ new.unread))
    = g.whole ∙ ap (λ o. preface_due old.context ++ (o ++ new.unread)) is.whole ∙ ap (λ o. preface_due old.context ++ o) (append_assoc is.nine is.payload new.unread) in
    let left : drop (length (preface_due old.context) + 9 + (header_of is.nine).length) old.unread ≡ new.unread
    = ap (λ k. drop (length (preface_due old.context) + 9 + k) old.unread) (sym is.payload_len) ∙ after_payload (preface_due old.context) is.nine is.payload new.unread old.unread whole is.nine_len in
    found_next old is.nine is.payload new.unread whole is.nine_len is.payload_len g.stands
    ∙ ap (λ r. next_of_payload old (length (preface_due old.context) + 9 + (header_of is.nine).length) r) (payload_read old.context.role (header_of is.nine) is.payload frame is.is_payload)
    ∙ ap (λ r. NextFrame frame r) (same_reading (after_frame old frame (length (preface_due old.context) + 9 + (header_of is.nine).length)) new (sym g.context_is) left)

-- ---- a frame that comes next stands first

-- what was found, by the octets of its header
record IsFound (old : Reading) (header : FrameHeader) (from : ℕ) : Type 0 where
  nine : List ℕ
  payload : List ℕ
  rest : List ℕ
  whole : old.unread ≡ preface_due old.context ++ (nine ++ (payload ++ rest))
  nine_len : length nine ≡ 9
  payload_len : length payload ≡ (header_of nine).length
  stands : broken_header old.context (header_of nine) ≡ None
  header_is : header_of nine ≡ header
  payload_is : take header.length (drop from old.unread) ≡ payload
  rest_is : drop (from + header.length) old.unread ≡ rest

found_by_header : (old : Reading) (header : FrameHeader) (from : ℕ) (j : HasHeaderDue old.context old.unread (Whole header from))
    → LetThrough (broken_header old.context (header_of j.nine)) (header_of j.nine) header (length (preface_due old.context)) (length j.following) from → IsFound old header from
found_by_header old header from j t =
    let len = (header_of j.nine).length in
    let parts : j.following ≡ take len j.following ++ drop len j.following = sym (take-append-drop len j.following) in
    let count : length (take len j.following) ≡ len = length-take-le len j.following t.there in
    let whole : old.unread ≡ preface_due old.context ++ (j.nine ++ (take len j.following ++ drop len j.following)) = j.whole ∙ ap (λ o. preface_due old.context ++ (j.nine ++ o)) parts in
    record {
      nine = j.nine;
      payload = take len j.following;
      rest = drop len j.following;
      whole = whole;
      nine_len = j.nine_len;
      payload_len = count;
      stands = t.lawful;
      header_is = t.header_is;
      payload_is = ap (λ n. take n (drop from old.unread)) (ap (λ h. h.length) (sym t.header_is))
          ∙ ap (λ n. take len (drop n old.unread)) t.from_is
          ∙ ap (λ o. take len o) (after_header (preface_due old.context) j.nine j.following old.unread j.whole j.nine_len);
      rest_is = ap (λ n. drop (from + n) old.unread) (ap (λ h. h.length) (sym t.header_is))
          ∙ ap (λ n. drop (n + len) old.unread) t.from_is
          ∙ ap (λ n. drop (length (preface_due old.context) + 9 + n) old.unread) (sym count)
          ∙ after_payload (preface_due old.context) j.nine (take len j.following) (drop len j.following) old.unread whole j.nine_len;
    }

found : (old : Reading) (header : FrameHeader) (from : ℕ) → front_of old.context old.unread ≡ Whole header from → IsFound old header from
found old header from e =
    let j = front_whole old.context old.unread header from e in
    found_by_header old header from j (let_through (broken_header old.context (header_of j.nine)) (header_of j.nine) header (length (preface_due old.context)) (length j.following) from j.front_is)

-- the frame that was read
found_hands_out : (old : Reading) (header : FrameHeader) (from : ℕ) (frame : Frame) → IsFound old header from
    → frame_of old.context.role header (take header.length (drop from old.unread)) ≡ Ok frame → HandsOut old frame (after_frame old frame (from + header.length))
found_hands_out old header from frame is e = record {
  octets = is.nine ++ is.payload;
  whole = is.whole ∙ ap (λ o. preface_due old.context ++ o) (sym (append_assoc is.nine is.payload is.rest)) ∙ ap (λ r. preface_due old.context ++ ((is.nine ++ is.payload) ++ r)) (sym is.rest_is);
  is_frame = record {
    nine = is.nine;
    payload = is.payload;
    whole = refl;
    nine_len = is.nine_len;
    payload_len = is.payload_len;
    is_payload = frame_read old.context.role (header_of is.nine) is.payload frame
        (ap (λ h. frame_of old.context.role h is.payload) is.header_is ∙ ap (λ o. frame_of old.context.role header o) (sym is.payload_is) ∙ e);
  };
  stands = is.stands;
  context_is = refl;
}

same_read : (frame other : Frame) (one two : Reading) → NextFrame frame one ≡ NextFrame other two → (frame ≡ other) × (one ≡ two)
same_read frame other one two e = (cc e, cc e)

read_payload_hands_out : (old : Reading) (header : FrameHeader) (from : ℕ) (frame : Frame) (new : Reading) (reading : Result Frame FrameRule) → IsFound old header from
    → frame_of old.context.role header (take header.length (drop from old.unread)) ≡ reading → next_of_payload old (from + header.length) reading ≡ NextFrame frame new → HandsOut old frame new
read_payload_hands_out old header from frame new (Err rule) is r e = absurd (cc e)
read_payload_hands_out old header from frame new (Ok other) is r e =
    let same = same_read other frame (after_frame old other (from + header.length)) new e in
    subst (λ x. HandsOut old frame x) same.1 (subst (λ f. HandsOut old f (after_frame old other (from + header.length))) same.0 (found_hands_out old header from other is r))

front_gives : (old : Reading) (frame : Frame) (new : Reading) (front : Front) → front_of old.context old.unread ≡ front → next_of_front old front ≡ NextFrame frame new → HandsOut old frame new
front_gives old frame new Unfinished f e = absurd (cc e)
front_gives old frame new (Broken rule) f e = absurd (cc e)
front_gives old frame new (Whole header from) f e =
    read_payload_hands_out old header from frame new (frame_of old.context.role header (take header.length (drop from old.unread))) (found old header from f) refl e

pub next_hands_out : (old : Reading) (frame : Frame) (new : Reading) → next_of old ≡ NextFrame frame new → HandsOut old frame new
next_hands_out old frame new e = front_gives old frame new (front_of old.context old.unread) refl e

-- ---- a rule that is broken first comes next

preface_fails : (old : Reading) → BreaksPreface old → next_of old ≡ NextFault (code_of Preface)
preface_fails old b =
    let apart : (agrees (preface_due old.context) old.unread) ≡ false = not_true (agrees (preface_due old.context) old.unread) (differing (preface_due old.context) old.unread b.at b.stands b.due b.differs) in
    ap (λ x. next_of_front old (if x then front_after_preface old.context (length (preface_due old.context)) (drop (length (preface_due old.context)) old.unread) else Broken Preface)) apart
  where
    not_true : (b : Bool) → (b ≡ true → ⊥) → b ≡ false
    not_true true n = absurd (n refl)
    not_true false n = refl

header_fails : (old : Reading) (rule : FrameRule) → BreaksHeader old rule → next_of old ≡ NextFault (code_of rule)
header_fails old rule b =
    ap (λ f. next_of_front old f)
    (front_due old.context old.unread (b.nine ++ b.following) b.whole
    ∙ nine_front old.context (length (preface_due old.context)) b.nine b.following b.nine_len
    ∙ ap (λ r. front_by_rule r (header_of b.nine) (length (preface_due old.context)) (length b.following)) b.broken)

payload_fails : (old : Reading) (rule : FrameRule) → BreaksPayload old rule → next_of old ≡ NextFault (code_of rule)
payload_fails old rule b =
    found_next old b.nine b.payload b.following b.whole b.nine_len b.payload_len b.stands
    ∙ ap (λ r. next_of_payload old (length (preface_due old.context) + 9 + (header_of b.nine).length) r) (broken_read old.context.role (header_of b.nine) b.payload rule b.broken)

pub breaks_fails : (old : Reading) (rule : FrameRule) → Breaks old rule → next_of old ≡ NextFault (code_of rule)
breaks_fails old rule (inl (preface, b)) = preface_fails old b ∙ ap (λ r. NextFault (code_of r)) (sym preface)
breaks_fails old rule (inr (inl b)) = header_fails old rule b
breaks_fails old rule (inr (inr b)) = payload_fails old rule b

pub fault_next : (old : Reading) (code : ℕ) → IsFault old code → next_of old ≡ NextFault code
fault_next old code f = breaks_fails old f.rule f.breaks ∙ ap (λ n. NextFault n) (sym f.code_is)

-- ---- a rule that comes next is broken

found_breaks : (old : Reading) (header : FrameHeader) (from : ℕ) (rule : FrameRule) → IsFound old header from
    → frame_of old.context.role header (take header.length (drop from old.unread)) ≡ Err rule → BreaksPayload old rule
found_breaks old header from rule is e = record {
  nine = is.nine;
  payload = is.payload;
  following = is.rest;
  whole = is.whole;
  nine_len = is.nine_len;
  payload_len = is.payload_len;
  stands = is.stands;
  broken = rule_read old.context.role (header_of is.nine) is.payload rule
      (ap (λ h. frame_of old.context.role h is.payload) is.header_is ∙ ap (λ o. frame_of old.context.role header o) (sym is.payload_is) ∙ e);
}

same_code : (code other : ℕ) → NextFault code ≡ NextFault other → other ≡ code
same_code code other e = cc e

payload_fault : (old : Reading) (header : FrameHeader) (from code : ℕ) (reading : Result Frame FrameRule) → IsFound old header from
    → frame_of old.context.role header (take header.length (drop from old.unread)) ≡ reading → next_of_payload old (from + header.length) reading ≡ NextFault code → IsFault old code
payload_fault old header from code (Ok frame) is r e = absurd (cc e)
payload_fault old header from code (Err rule) is r e =
    record { rule = rule; breaks = inr (inr (found_breaks old header from rule is r)); code_is = same_code (code_of rule) code e }

front_fault : (old : Reading) (code : ℕ) (front : Front) → front_of old.context old.unread ≡ front → next_of_front old front ≡ NextFault code → IsFault old code
front_fault old code Unfinished f e = absurd (cc e)
front_fault old code (Broken rule) f e = record { rule = rule; breaks = front_broken old rule f; code_is = same_code (code_of rule) code e }
front_fault old code (Whole header from) f e =
    payload_fault old header from code (frame_of old.context.role header (take header.length (drop from old.unread))) (found old header from f) refl e

pub next_fault : (old : Reading) (code : ℕ) → next_of old ≡ NextFault code → IsFault old code
next_fault old code e = front_fault old code (front_of old.context old.unread) refl e

-- ---- nothing comes next exactly where no frame and no broken rule stands first

pub next_unfinished : (old : Reading) → next_of old ≡ NextUnfinished → IsUnfinished old
next_unfinished old e = record {
  no_frame = λ frame new g. let x = sym e ∙ hands_out_next old frame new g in cc x;
  no_rule = λ rule b. let x = sym e ∙ breaks_fails old rule b in cc x;
}

pub unfinished_next : (old : Reading) → IsUnfinished old → next_of old ≡ NextUnfinished
unfinished_next old u = of (next_of old) refl
  where
    of : (next : Next) → next_of old ≡ next → next_of old ≡ NextUnfinished
    of NextUnfinished e = e
    of (NextFrame frame new) e = absurd (u.no_frame frame new (next_hands_out old frame new e))
    of (NextFault code) e = let f = next_fault old code e in absurd (u.no_rule f.rule f.breaks)

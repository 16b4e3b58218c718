-- What the peer reads: values that were handed to its stream, in order, and OK only where the value was taken.
use Rattle.std.proofs.Common.{◌≡◌, ℕ, ◌||◌, Bool, true, false, Some, List, ◌++◌, flat_map, refl, ap, sym, ◌∙◌, append_assoc}
use Rattle.std.specs.List.{list_any}
use Rattle.cycle_rules.specs.Circuit.{Bits}
use Rattle.hpack.specs.declared.header.Header.{Header}
use Rattle.h2_history.specs.Puts.{Put}
use Rattle.serve_acts.specs.Acts.{Act}
use Rattle.serve_acts.specs.Attachments.{Attachment, attachment, handed_to}
use Rattle.serve_acts.specs.Calls.{is_of, calls, is_taken}
use Rattle.serve_acts.specs.Histories.{history, sent_to}
use Rattle.serve_acts.specs.Legal.{IsLegal}
use Rattle.serve_acts.specs.Prefixes.{Begins}
use Rattle.serve_acts.specs.Served.{Served}
use Rattle.serve_acts.specs.Streams.{data_put, given}
use Rattle.serve_laws.specs.Filters.{any_joined}
use Rattle.serve_laws.specs.OctetLaws.{sent_begins}
use Rattle.serve_laws.specs.OkLaws.{ok_finished}
use Rattle.serve_laws.specs.ReplyLaws.{put_of_given, finished_taken}
use Rattle.serve_laws.specs.SegmentLaws.{given_is}
use Rattle.serve_laws.specs.Wire.{puts_in, content, is_ok, holds_ok}
use Rattle.serve_laws.specs.WireLaws.{content_joined, content_is}
use Rattle.serve_laws.specs.Written.{AreWords, ReadsFrames, ReadsValues, AreReplies}

pub begins_through : {A : Type 0} (front middle whole : List A) → Begins front middle → Begins middle whole → Begins front whole
begins_through front middle whole one other =
    record { rest = one.rest ++ other.rest; is = other.is ∙ (ap (λ (l : List _). l ++ other.rest) one.is ∙ append_assoc front one.rest other.rest) }

begins_of : {A : Type 0} (front whole other : List A) → whole ≡ other → Begins front whole → Begins front other
begins_of front whole other e one = record { rest = one.rest; is = sym e ∙ one.is }

or_true : (b c : Bool) → b ≡ true → (b || c) ≡ true
or_true true c e = refl
or_true false c e = cc

module _ {S : Type 0} (served : Served S) (read : List ℕ → List Put) where
  -- the frames that were sent whole
  pub read_begins : (c : ℕ) (t : List Act) → IsLegal served t → ReadsFrames read (history served.replies c t) → Begins (read (sent_to c t)) (puts_in (history served.replies c t))
  read_begins c t legal frames = frames.reads (sent_to c t) (sent_begins served c t legal)

  -- the DATA in them is a prefix of what was put
  pub content_begins : (c s : ℕ) (t : List Act) → IsLegal served t → ReadsFrames read (history served.replies c t) → Begins (content s (read (sent_to c t))) (data_put c s t)
  content_begins c s t legal frames =
      let front = read_begins c t legal frames in
      record {
        rest = content s front.rest;
        is = sym (content_is served.replies c s t) ∙ (ap (λ (l : List Put). content s l) front.is ∙ content_joined s (read (sent_to c t)) front.rest);
      }

  -- the values written on a stream are a prefix of those that were handed to it
  pub written_handed : (IsWord : ℕ → Bits → Bool) (values : ℕ → List ℕ → List Bits) → ReadsValues IsWord served.replies.message values
      → (c s : ℕ) (t : List Act) (a : Attachment) → IsLegal served t → ReadsFrames read (history served.replies c t) → attachment c s t ≡ Some a → AreWords (IsWord a.channel) (handed_to c s t)
      → Begins (values a.channel (content s (read (sent_to c t)))) (handed_to c s t)
  written_handed IsWord values reads c s t a legal frames is words =
      reads.reads a.channel (handed_to c s t) (content s (read (sent_to c t))) words
      (begins_of (content s (read (sent_to c t))) (given served.replies c s t) (flat_map (served.replies.message a.channel) (handed_to c s t)) (given_is served c s t a legal is)
      (begins_through (content s (read (sent_to c t))) (data_put c s t) (given served.replies c s t) (content_begins c s t legal frames) (put_of_given served c s t legal)))

  -- where they hold OK on the stream of a call, its value was taken
  pub ok_taken : (says_ok : List Header → Bool) → AreReplies served.replies says_ok → (c s : ℕ) (t : List Act) → IsLegal served t → ReadsFrames read (history served.replies c t)
      → list_any (is_of c s) (calls t) ≡ true → holds_ok says_ok s (read (sent_to c t)) ≡ true → is_taken c s t ≡ true
  ok_taken says_ok facts c s t legal frames called ok =
      let front = read_begins c t legal frames in
      let all : holds_ok says_ok s (puts_in (history served.replies c t)) ≡ true =
      ap (λ (l : List Put). holds_ok says_ok s l) front.is
      ∙ (any_joined (is_ok says_ok s) (read (sent_to c t)) front.rest ∙ or_true (holds_ok says_ok s (read (sent_to c t))) (holds_ok says_ok s front.rest) ok) in
      finished_taken served c s t legal called (ok_finished served says_ok facts c s t legal all)

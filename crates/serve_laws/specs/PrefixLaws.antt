-- The values written on a stream are a segment of the design's stream function of the values taken.
use Rattle.std.proofs.Common.{◌≡◌, ℕ, ◌<◌, ◌==◌, cond, if◌then◌else◌, Bool, true, false, Option, Some, None, option_to_list, List, [], ◌∷◌, ◌++◌, length, refl, ap, sym, ◌∙◌, subst, append_assoc, append-nil, slice_index_or}
use Rattle.cycle_rules.specs.Circuit.{Bits}
use Rattle.cycle_rules.specs.Rings.{has_room, ring_at}
use Rattle.esi_links.specs.declared.links.Entry.{Entry as LogEntry}
use Rattle.esi_links.specs.declared.links.Entry.TheVariants.{Happened, Sent, Dropped}
use Rattle.h2_history.specs.Puts.{Put}
use Rattle.serve_acts.specs.Acts.{Act}
use Rattle.serve_acts.specs.Acts.Act.{Happens, Sends, Drops, Attaches, Settles}
use Rattle.serve_acts.specs.Attachments.{Attachment, attachment, handed_on, handed_to}
use Rattle.serve_acts.specs.Histories.{history, sent_to, unsent}
use Rattle.serve_acts.specs.Legal.{IsLegal}
use Rattle.serve_acts.specs.Log.{log}
use Rattle.serve_acts.specs.Machines.{machine}
use Rattle.serve_acts.specs.Prefixes.{Begins, IsSegment}
use Rattle.serve_acts.specs.Served.{Served, Replies}
use Rattle.serve_acts.specs.Streams.{is_stream}
use Rattle.serve_laws.specs.Flow.{KeepsFlow, OffersWords}
use Rattle.serve_laws.specs.FlowLaws.{handed_flows, segment_front}
use Rattle.serve_laws.specs.RingLaws.{out_ring}
use Rattle.serve_laws.specs.Rings.{word_moved, words_offered, words_out, words_taken}
use Rattle.serve_laws.specs.SegmentLaws.{is_segment, some_is}
use Rattle.serve_laws.specs.Sendings.{sent_in}
use Rattle.serve_laws.specs.Wire.{content}
use Rattle.serve_laws.specs.Written.{AreWords, ReadsFrames, ReadsValues}
use Rattle.serve_laws.specs.WrittenLaws.{written_handed}

-- ---- words

first_words : (test : Bits → Bool) (xs ys : List Bits) → AreWords test (xs ++ ys) → AreWords test xs
first_words test [] ys are = tt
first_words test (x ∷ xs) ys are = (are.0, first_words test xs ys are.1)

last_words : (test : Bits → Bool) (xs ys : List Bits) → AreWords test (xs ++ ys) → AreWords test ys
last_words test [] ys are = are
last_words test (x ∷ xs) ys are = last_words test xs ys are.1

both_words : (test : Bits → Bool) (xs ys : List Bits) → AreWords test xs → AreWords test ys → AreWords test (xs ++ ys)
both_words test [] ys one other = other
both_words test (x ∷ xs) ys one other = (one.0, both_words test xs ys one.1 other)

moved_words : (test : Bits → Bool) (room : Bool) (offer : Option Bits) → ((word : Bits) → offer ≡ Some word → test word ≡ true) → AreWords test (if room then option_to_list offer else [])
moved_words test true None are = tt
moved_words test true (Some word) are = (are word refl, tt)
moved_words test false offer are = tt

part_words : (test : Bits → Bool) (on to : List Bits) (from : ℕ) → IsSegment on to from → AreWords test on → AreWords test to
part_words test on to from segment are = first_words test to segment.after (last_words test segment.before (to ++ segment.after) (subst (λ (l : List Bits). AreWords test l) segment.is are))

module _ {S : Type 0} (served : Served S) where
  module _ (IsWord : ℕ → Bits → Bool) (offers : OffersWords served.circuit IsWord) where
    out_words : (k : ℕ) (t : List Act) → AreWords (IsWord k) (words_out served k t)
    out_words k [] = tt
    out_words k (Settles ∷ t) =
        both_words (IsWord k) (words_out served k t) (word_moved (ring_at (machine served t).to_client k) (slice_index_or (words_offered served.circuit (machine served t)) k None)) (out_words k t)
        (moved_words (IsWord k) (has_room (ring_at (machine served t).to_client k)) (slice_index_or (words_offered served.circuit (machine served t)) k None) (λ word e. offers.word (machine served t).state _ _ k word e))
    out_words k (act ∷ t) = out_words k t

    handed_words : (k : ℕ) (t : List Act) → k < served.circuit.to_client_count → IsLegal served t → AreWords (IsWord k) (handed_on k t)
    handed_words k t below legal =
        first_words (IsWord k) (handed_on k t) (ring_at (machine served t).to_client k) (subst (λ (l : List Bits). AreWords (IsWord k) l) (out_ring served k t below legal) (out_words k t))

  -- ---- a stream is attached to a channel that there is

  below_by : (b : Bool) (there : Attachment) (rest : Option Attachment) (a : Attachment) → there.channel < served.circuit.to_client_count → (rest ≡ Some a → a.channel < served.circuit.to_client_count) → cond b (Some there) rest ≡ Some a → a.channel < served.circuit.to_client_count
  below_by true there rest a below others is = subst (λ (x : Attachment). x.channel < served.circuit.to_client_count) (some_is there a is) below
  below_by false there rest a below others is = others is

  pub attached_below : (c s : ℕ) (t : List Act) (a : Attachment) → IsLegal served t → attachment c s t ≡ Some a → a.channel < served.circuit.to_client_count
  attached_below c s [] a legal is = cc
  attached_below c s (Attaches channel conn stream flow ∷ t) a legal is =
      below_by (is_stream conn stream c s) (record { channel = channel; conn = conn; stream = stream; first = length (handed_on channel t) }) (attachment c s t) a legal.0.channel_is (λ e. attached_below c s t a legal.1 e) is
  attached_below c s (act ∷ t) a legal is = attached_below c s t a legal.1 is

  -- ---- both together

  pub written_is_prefix : (read : List ℕ → List Put)
      → (IsWord : ℕ → Bits → Bool) (values : ℕ → List ℕ → List Bits) → ReadsValues IsWord served.replies.message values → OffersWords served.circuit IsWord
      → (c s : ℕ) (t : List Act) (a : Attachment) → IsLegal served t → ReadsFrames read (history served.replies c t) → attachment c s t ≡ Some a
      → Begins (values a.channel (content s (read (sent_to c t)))) (handed_to c s t)
  written_is_prefix read IsWord values reads offers c s t a legal frames is =
      let below = attached_below c s t a legal is in
      written_handed served read IsWord values reads c s t a legal frames is
      (part_words (IsWord a.channel) (handed_on a.channel t) (handed_to c s t) a.first (is_segment served c s t a legal is) (handed_words IsWord offers a.channel t below legal))

  pub written_is_segment : (flow : (ℕ → List Bits) → ℕ → List Bits) → KeepsFlow served.circuit served.start flow
      → (read : List ℕ → List Put)
      → (IsWord : ℕ → Bits → Bool) (values : ℕ → List ℕ → List Bits) → ReadsValues IsWord served.replies.message values → OffersWords served.circuit IsWord
      → (c s : ℕ) (t : List Act) (a : Attachment) → IsLegal served t → ReadsFrames read (history served.replies c t) → attachment c s t ≡ Some a
      → IsSegment (flow (λ i. words_taken i t) a.channel) (values a.channel (content s (read (sent_to c t)))) a.first
  written_is_segment flow keeps read IsWord values reads offers c s t a legal frames is =
      segment_front (values a.channel (content s (read (sent_to c t)))) (handed_to c s t) (handed_on a.channel t) (flow (λ i. words_taken i t) a.channel) a.first
      (written_is_prefix read IsWord values reads offers c s t a legal frames is) (is_segment served c s t a legal is)
      (handed_flows served flow keeps a.channel t (attached_below c s t a legal is) legal)

-- ---- the log

sent_joined : (c : ℕ) (first rest : List LogEntry) → sent_in c (first ++ rest) ≡ sent_in c first ++ sent_in c rest
sent_joined c [] rest = refl
sent_joined c (Happened event ∷ first) rest = sent_joined c first rest
sent_joined c (Sent conn offered octets ∷ first) rest =
    ap (λ (l : List ℕ). (if conn == c then octets else []) ++ l) (sent_joined c first rest) ∙ sym (append_assoc (if conn == c then octets else []) (sent_in c first) (sent_in c rest))
sent_joined c (Dropped conn ∷ first) rest = sent_joined c first rest

one_more_by : (b : Bool) (sent octets : List ℕ) → sent ++ ((if b then octets else []) ++ []) ≡ (if b then sent ++ octets else sent)
one_more_by true sent octets = ap (λ (l : List ℕ). sent ++ l) (append-nil octets)
one_more_by false sent octets = append-nil sent

-- the octets of the log's sends to a connection
pub log_sends : (replies : Replies) (c : ℕ) (t : List Act) → sent_in c (log replies t) ≡ sent_to c t
log_sends replies c [] = refl
log_sends replies c (Happens event ∷ t) = sent_joined c (log replies t) (Happened event ∷ []) ∙ (append-nil (sent_in c (log replies t)) ∙ log_sends replies c t)
log_sends replies c (Sends conn octets ∷ t) =
    sent_joined c (log replies t) (Sent conn (length (unsent replies conn t)) octets ∷ [])
    ∙ (ap (λ (l : List ℕ). l ++ ((if conn == c then octets else []) ++ [])) (log_sends replies c t) ∙ one_more_by (conn == c) (sent_to c t) octets)
log_sends replies c (Drops conn ∷ t) = sent_joined c (log replies t) (Dropped conn ∷ []) ∙ (append-nil (sent_in c (log replies t)) ∙ log_sends replies c t)
log_sends replies c (act ∷ t) = log_sends replies c t

-- What any list of calls of a deframer comes to.
use Rattle.std.specs.Prelude.{◌≡◌, ◌≢◌, ℕ, List, [], ◌∷◌, ◌++◌, refl}
use Rattle.std.proofs.Common.{sym, ap, ◌∙◌, subst, append_assoc}
use Rattle.std.proofs.lemmas.List.{append-nil}
use Rattle.grpc_calls.specs.Streams.{End, Ends, AreMessages, IsStream}
use Rattle.grpc_calls.specs.Streams.End.{Unfinished}
use Rattle.grpc_calls.specs.StreamLaws.{message_grown, refusal_grown, one_end, no_end, one_stream}
use Rattle.grpc_calls.specs.Calls.{Deframing, Call, IsRun, octets_fed, messages_given, StaysRefused}
use Rattle.grpc_calls.specs.Calls.Call.{Feed, HandOut, NoMessage, NoMemory}

-- what was unread and what was fed is what was given and what is unread
pub messages_of_run : (calls : List Call) (old new : Deframing) → IsRun old calls new → AreMessages old.limit (old.unread ++ octets_fed calls) (messages_given calls) new.unread
messages_of_run [] old new same = append-nil old.unread ∙ ap (λ d. d.unread) same
messages_of_run (Feed octets ∷ calls) old new (between, step, run) =
    subst (λ limit. AreMessages limit (old.unread ++ (octets ++ octets_fed calls)) (messages_given calls) new.unread) step.limit
    (subst (λ o. AreMessages between.limit o (messages_given calls) new.unread)
    (ap (λ o. o ++ octets_fed calls) step.unread ∙ append_assoc old.unread octets (octets_fed calls))
    (messages_of_run calls between new run))
messages_of_run (HandOut message ∷ calls) old new (between, step, run) = (
  between.unread ++ octets_fed calls,
  message_grown old.limit old.unread message between.unread (octets_fed calls) step.first,
  subst (λ limit. AreMessages limit (between.unread ++ octets_fed calls) (messages_given calls) new.unread) step.limit (messages_of_run calls between new run),
)
messages_of_run (NoMessage end ∷ calls) old new (between, step, run) =
    subst (λ d. AreMessages d.limit (d.unread ++ octets_fed calls) (messages_given calls) new.unread) step.1 (messages_of_run calls between new run)
messages_of_run (NoMemory ∷ calls) old new (between, step, run) =
    subst (λ d. AreMessages d.limit (d.unread ++ octets_fed calls) (messages_given calls) new.unread) step (messages_of_run calls between new run)

-- the limit stays
pub limit_of_run : (calls : List Call) (old new : Deframing) → IsRun old calls new → new.limit ≡ old.limit
limit_of_run [] old new same = ap (λ d. d.limit) (sym same)
limit_of_run (Feed octets ∷ calls) old new (between, step, run) = limit_of_run calls between new run ∙ step.limit
limit_of_run (HandOut message ∷ calls) old new (between, step, run) = limit_of_run calls between new run ∙ step.limit
limit_of_run (NoMessage end ∷ calls) old new (between, step, run) = limit_of_run calls between new run ∙ ap (λ d. d.limit) step.1
limit_of_run (NoMemory ∷ calls) old new (between, step, run) = limit_of_run calls between new run ∙ ap (λ d. d.limit) step

-- where no message is given, all of them were
pub stream_of_run : (old new : Deframing) (calls : List Call) (end : End) → IsRun old calls new → Ends new.limit new.unread end
    → IsStream old.limit (old.unread ++ octets_fed calls) (messages_given calls) new.unread end
stream_of_run old new calls end run ends = record {
  are = messages_of_run calls old new run;
  ends = subst (λ limit. Ends limit new.unread end) (limit_of_run calls old new run) ends;
}

-- the messages are those of the joined octets, whatever the pieces
pub any_cutting : (limit : ℕ) (calls others : List Call) (new found : Deframing) (end last : End)
    → IsRun (record { limit = limit; unread = [] }) calls new → Ends new.limit new.unread end
    → IsRun (record { limit = limit; unread = [] }) others found → Ends found.limit found.unread last
    → octets_fed calls ≡ octets_fed others → (messages_given calls ≡ messages_given others) × (end ≡ last)
any_cutting limit calls others new found end last run ends turn lasts same =
    let one = stream_of_run (record { limit = limit; unread = [] }) new calls end run ends in
    let two = stream_of_run (record { limit = limit; unread = [] }) found others last turn lasts in
    let all = one_stream limit (messages_given calls) (octets_fed others) (messages_given others) new.unread found.unread end last
    (subst (λ o. AreMessages limit o (messages_given calls) new.unread) same one.are) one.ends two.are two.ends in
    (all.0, all.2)

-- after a refusal it stays refused
pub stays_so : (calls : List Call) (old new : Deframing) (end : End) → Ends old.limit old.unread end → end ≢ Unfinished → IsRun old calls new → StaysRefused calls new end
stays_so [] old new end ends ne same = record { none = refl; answers = tt; ends = subst (λ d. Ends d.limit d.unread end) same ends }
stays_so (Feed octets ∷ calls) old new end ends ne (between, step, run) =
    let next = stays_so calls between new end
    (subst (λ limit. Ends limit between.unread end) (sym step.limit) (subst (λ o. Ends old.limit o end) (sym step.unread) (refusal_grown old.limit old.unread octets end ne ends))) ne run in
    record { none = next.none; answers = next.answers; ends = next.ends }
stays_so (HandOut message ∷ calls) old new end ends ne (between, step, run) =
    absurd (no_end old.limit old.unread message between.unread end step.first ends)
stays_so (NoMessage other ∷ calls) old new end ends ne (between, step, run) =
    let next = stays_so calls between new end (subst (λ d. Ends d.limit d.unread end) (sym step.1) ends) ne run in
    record { none = next.none; answers = (one_end old.limit old.unread other end step.0 ends, next.answers); ends = next.ends }
stays_so (NoMemory ∷ calls) old new end ends ne (between, step, run) =
    let next = stays_so calls between new end (subst (λ d. Ends d.limit d.unread end) (sym step) ends) ne run in
    record { none = next.none; answers = next.answers; ends = next.ends }

pub messages_of_calls : (old new : Deframing) (calls : List Call) → IsRun old calls new → AreMessages old.limit (old.unread ++ octets_fed calls) (messages_given calls) new.unread
messages_of_calls old new calls run = messages_of_run calls old new run

pub stays_refused : (old new : Deframing) (calls : List Call) (end : End) → Ends old.limit old.unread end → end ≢ Unfinished → IsRun old calls new → StaysRefused calls new end
stays_refused old new calls end ends ne run = stays_so calls old new end ends ne run

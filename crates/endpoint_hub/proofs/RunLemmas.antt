-- What one call adds to what the calls after it did.
use Rattle.std.proofs.Common.{◌≡◌, ℕ, ◌+◌, ◌<◌, ◌≤◌, Bool, true, false, eqb, eqb-true, cond, refl, Some, List, [], ◌∷◌, ◌++◌, length, sym, ap, ◌∙◌, append_assoc, subst, arith}
use Rattle.std.proofs.lemmas.List.{append-nil, length-append}
use Rattle.cycle_rules.specs.Rings.{ring_at, front_of}
use Rattle.endpoint_hub.specs.declared.journal.Attachment.{Attachment}
use Rattle.endpoint_hub.specs.Holdings.{is_noted, Holdings, Takes, Pops, Pushes, Hands, Attaches, Closes, BeginsCycle, was_attached}
use Rattle.endpoint_hub.specs.Entries.{words_noted}
use Rattle.endpoint_hub.specs.Runs.{Call, IsRun, IsAccounted, only, words_taken, words_popped, words_pushed, words_handed, streams_attached, times_attached, times_handed}
use Rattle.endpoint_hub.specs.Runs.Call.{Take, Pop, Push, Hand, Attach, Close, NextCycle}
use Rattle.endpoint_hub.specs.RingLemmas.{never_attached, ring_at-rings_with, ring_at-rings_without_front, times_attached-push, times_handed-push, words_noted-push}
use Rattle.esi_base.specs.declared.word.Word.{Word}

-- s: the ring after the call; o: the word that joined it
joins : (r s o p q n : List Word) → s ≡ r ++ o → s ++ p ≡ q ++ n → r ++ (o ++ p) ≡ q ++ n
joins r s o p q n e rest = sym (append_assoc r o p) ∙ (ap (λ l. l ++ p) (sym e) ∙ rest)

-- s: the ring after the call; o: the word that left it
leaves : (r s o p q n : List Word) → r ≡ o ++ s → s ++ p ≡ q ++ n → r ++ p ≡ (o ++ q) ++ n
leaves r s o p q n e rest =
    ap (λ l. l ++ p) e ∙ (append_assoc o s p ∙ (ap (λ l. o ++ l) rest ∙ sym (append_assoc o q n)))

module _ (c : ℕ) (old between new : Holdings) (calls : List Call) (rest : IsAccounted between calls new c) where
  stays_to_server : between.to_server ≡ old.to_server → ring_at old.to_server c ++ words_taken c calls ≡ words_popped c calls ++ ring_at new.to_server c
  stays_to_server e = ap (λ rings. ring_at rings c ++ words_taken c calls) (sym e) ∙ rest.to_server

  stays_to_client : between.to_client ≡ old.to_client → ring_at old.to_client c ++ words_pushed c calls ≡ words_handed c calls ++ ring_at new.to_client c
  stays_to_client e = ap (λ rings. ring_at rings c ++ words_pushed c calls) (sym e) ∙ rest.to_client

  stays_taken : between.journal.taken ≡ old.journal.taken → words_noted c new.journal.taken ≡ words_noted c old.journal.taken ++ words_taken c calls
  stays_taken e = rest.taken ∙ ap (λ l. words_noted c l ++ words_taken c calls) e

  stays_handed : between.journal.handed ≡ old.journal.handed → times_handed c new.journal.handed ≡ times_handed c old.journal.handed + length (words_handed c calls)
  stays_handed e = rest.handed ∙ ap (λ l. times_handed c l + length (words_handed c calls)) e

  stays_attached : between.journal.attached ≡ old.journal.attached → new.journal.attached ≡ old.journal.attached ++ streams_attached calls
  stays_attached e = rest.attached ∙ ap (λ l. l ++ streams_attached calls) e

  take_first : (d conn stream : ℕ) (w : Word) → d < length old.to_server → Takes old between d conn stream w → IsAccounted old (Take d conn stream w ∷ calls) new c
  take_first d conn stream w lt step = record {
    to_server = joins (ring_at old.to_server c) (ring_at between.to_server c) (only c d w) (words_taken c calls) (words_popped c calls) (ring_at new.to_server c) (ap (λ rings. ring_at rings c) step.to_server ∙ ring_at-rings_with old.to_server c d w lt) rest.to_server;
    to_client = stays_to_client step.to_client;
    taken = rest.taken
        ∙ (ap (λ j. words_noted c j.taken ++ words_taken c calls) step.journal
        ∙ (ap (λ ws. ws ++ words_taken c calls) (words_noted-push c old.journal.taken (record { cycle = old.journal.cycles; channel = d; conn = conn; stream = stream; word = w }))
        ∙ append_assoc (words_noted c old.journal.taken) (only c d w) (words_taken c calls)));
    handed = stays_handed (ap (λ j. j.handed) step.journal);
    attached = stays_attached (ap (λ j. j.attached) step.journal);
  }

  pop_first : (d : ℕ) (w : Word) → front_of old.to_server d ≡ Some w → Pops old between d → IsAccounted old (Pop d w ∷ calls) new c
  pop_first d w front step = record {
    to_server = leaves (ring_at old.to_server c) (ring_at between.to_server c) (only c d w) (words_taken c calls) (words_popped c calls) (ring_at new.to_server c) (ring_at-rings_without_front old.to_server c d w front ∙ ap (λ rings. only c d w ++ ring_at rings c) (sym step.to_server)) rest.to_server;
    to_client = stays_to_client step.to_client;
    taken = stays_taken (ap (λ j. j.taken) step.journal);
    handed = stays_handed (ap (λ j. j.handed) step.journal);
    attached = stays_attached (ap (λ j. j.attached) step.journal);
  }

  push_first : (d : ℕ) (w : Word) → d < length old.to_client → Pushes old between d w → IsAccounted old (Push d w ∷ calls) new c
  push_first d w lt step = record {
    to_server = stays_to_server step.to_server;
    to_client = joins (ring_at old.to_client c) (ring_at between.to_client c) (only c d w) (words_pushed c calls) (words_handed c calls) (ring_at new.to_client c) (ap (λ rings. ring_at rings c) step.to_client ∙ ring_at-rings_with old.to_client c d w lt) rest.to_client;
    taken = stays_taken (ap (λ j. j.taken) step.journal);
    handed = stays_handed (ap (λ j. j.handed) step.journal);
    attached = stays_attached (ap (λ j. j.attached) step.journal);
  }

  hand_first : (d : ℕ) (w : Word) → front_of old.to_client d ≡ Some w → Hands old between d → IsAccounted old (Hand d w ∷ calls) new c
  hand_first d w front step = record {
    to_server = stays_to_server step.to_server;
    to_client = leaves (ring_at old.to_client c) (ring_at between.to_client c) (only c d w) (words_pushed c calls) (words_handed c calls) (ring_at new.to_client c) (ring_at-rings_without_front old.to_client c d w front ∙ ap (λ rings. only c d w ++ ring_at rings c) (sym step.to_client)) rest.to_client;
    taken = stays_taken (ap (λ j. j.taken) step.journal);
    handed =
        let counted = times_handed-push c old.journal.handed (record { cycle = old.journal.cycles; channel = d }) w in
        let noted = rest.handed ∙ ap (λ j. times_handed c j.handed + length (words_handed c calls)) step.journal in
        let split = length-append (only c d w) (words_handed c calls) in
        omega arith;
    attached = stays_attached (ap (λ j. j.attached) step.journal);
  }

  cycle_first : BeginsCycle old between → IsAccounted old (NextCycle ∷ calls) new c
  cycle_first step = record {
    to_server = stays_to_server step.to_server;
    to_client = stays_to_client step.to_client;
    taken = stays_taken (ap (λ j. j.taken) step.journal);
    handed = stays_handed (ap (λ j. j.handed) step.journal);
    attached = stays_attached (ap (λ j. j.attached) step.journal);
  }

  attach_first : (d conn stream : ℕ) → Attaches old between d conn stream → IsAccounted old (Attach d conn stream ∷ calls) new c
  attach_first d conn stream step =
      let one : Attachment = record { channel = d; conn = conn; stream = stream } in
      record {
        to_server = stays_to_server step.to_server;
        to_client = stays_to_client step.to_client;
        taken = stays_taken (ap (λ j. j.taken) step.journal);
        handed = stays_handed (ap (λ j. j.handed) step.journal);
        attached = rest.attached ∙ (ap (λ j. j.attached ++ streams_attached calls) step.journal ∙ append_assoc old.journal.attached (one ∷ []) (streams_attached calls));
      }

  close_first : (d : ℕ) → Closes old between d → IsAccounted old (Close d ∷ calls) new c
  close_first d step = record {
    to_server = stays_to_server step.to_server;
    to_client = stays_to_client step.to_client;
    taken = stays_taken (ap (λ j. j.taken) step.journal);
    handed = stays_handed (ap (λ j. j.handed) step.journal);
    attached = stays_attached (ap (λ j. j.attached) step.journal);
  }

-- no call changes nothing
no_call : (c : ℕ) (hub : Holdings) → IsAccounted hub [] hub c
no_call c hub = record {
  to_server = append-nil (ring_at hub.to_server c);
  to_client = append-nil (ring_at hub.to_client c);
  taken = sym (append-nil (words_noted c hub.journal.taken));
  handed = omega arith;
  attached = sym (append-nil hub.journal.attached);
}

-- any list of calls is accounted for
pub accounted : (c : ℕ) (calls : List Call) (old new : Holdings) → IsRun old calls new → IsAccounted old calls new c
accounted c [] old new same = subst (λ hub. IsAccounted old [] hub c) same (no_call c old)
accounted c (Take d conn stream w ∷ calls) old new (between, (step, run)) =
    take_first c old between new calls (accounted c calls between new run) d conn stream w step.0 step.1
accounted c (Pop d w ∷ calls) old new (between, (step, run)) =
    pop_first c old between new calls (accounted c calls between new run) d w step.0 step.1
accounted c (Push d w ∷ calls) old new (between, (step, run)) =
    push_first c old between new calls (accounted c calls between new run) d w step.0 step.1
accounted c (Hand d w ∷ calls) old new (between, (step, run)) =
    hand_first c old between new calls (accounted c calls between new run) d w step.0 step.1
accounted c (Attach d conn stream ∷ calls) old new (between, (step, run)) =
    attach_first c old between new calls (accounted c calls between new run) d conn stream step.2
accounted c (Close d ∷ calls) old new (between, (step, run)) =
    close_first c old between new calls (accounted c calls between new run) d step.1
accounted c (NextCycle ∷ calls) old new (between, (step, run)) =
    cycle_first c old between new calls (accounted c calls between new run) step

-- no channel is attached twice
kept_once : (c : ℕ) (old between : Holdings) → between.journal.attached ≡ old.journal.attached → times_attached c old.journal.attached ≤ 1 → times_attached c between.journal.attached ≤ 1
kept_once c old between e once = subst (λ l. times_attached c l ≤ 1) (sym e) once

same_none : (c d : ℕ) (xs : List Attachment) → is_noted xs d ≡ false → d ≡ c → times_attached c xs ≡ 0
same_none c d xs free e = ap (λ n. times_attached n xs) (sym e) ∙ never_attached d xs free

more_by : (b : Bool) (old new : ℕ) → new ≡ old + cond b 1 0 → (b ≡ true → old ≡ 0) → old ≤ 1 → new ≤ 1
more_by true old new e none once = let z : old ≡ 0 = none refl in omega arith
more_by false old new e none once = omega arith

more_once : (c d conn stream : ℕ) (old between : Holdings) → was_attached old.journal d ≡ false → Attaches old between d conn stream → times_attached c old.journal.attached ≤ 1 → times_attached c between.journal.attached ≤ 1
more_once c d conn stream old between free step once =
    more_by (eqb d c) (times_attached c old.journal.attached) (times_attached c between.journal.attached)
    (ap (λ j. times_attached c j.attached) step.journal ∙ times_attached-push c old.journal.attached (record { channel = d; conn = conn; stream = stream }))
    (λ e. same_none c d old.journal.attached free (eqb-true d c e)) once

pub attached_once : (c : ℕ) (calls : List Call) (old new : Holdings) → IsRun old calls new → times_attached c old.journal.attached ≤ 1 → times_attached c new.journal.attached ≤ 1
attached_once c [] old new same once = subst (λ hub. times_attached c hub.journal.attached ≤ 1) same once
attached_once c (Take d conn stream w ∷ calls) old new (between, (step, run)) once = attached_once c calls between new run (kept_once c old between (ap (λ j. j.attached) step.1.journal) once)
attached_once c (Pop d w ∷ calls) old new (between, (step, run)) once = attached_once c calls between new run (kept_once c old between (ap (λ j. j.attached) step.1.journal) once)
attached_once c (Push d w ∷ calls) old new (between, (step, run)) once = attached_once c calls between new run (kept_once c old between (ap (λ j. j.attached) step.1.journal) once)
attached_once c (Hand d w ∷ calls) old new (between, (step, run)) once = attached_once c calls between new run (kept_once c old between (ap (λ j. j.attached) step.1.journal) once)
attached_once c (Attach d conn stream ∷ calls) old new (between, (step, run)) once = attached_once c calls between new run (more_once c d conn stream old between step.1 step.2 once)
attached_once c (Close d ∷ calls) old new (between, (step, run)) once = attached_once c calls between new run (kept_once c old between (ap (λ j. j.attached) step.1.journal) once)
attached_once c (NextCycle ∷ calls) old new (between, (step, run)) once = attached_once c calls between new run (kept_once c old between (ap (λ j. j.attached) step.journal) once)

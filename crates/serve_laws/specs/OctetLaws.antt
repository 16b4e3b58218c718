-- The octets that were sent on a connection, followed by those that wait, are those of the frames that were put.
use Rattle.std.proofs.Common.{◌≡◌, ℕ, ◌==◌, ◌&&◌, cond, Bool, true, false, Option, Some, None, List, [], ◌∷◌, ◌++◌, drop, length, refl, ap, sym, ◌∙◌, append_assoc, append-nil, subst, eqb-true}
use Rattle.std.proofs.Math.Seq.{drop-append_seam}
use Rattle.esi_links.specs.declared.links.Event.{Event}
use Rattle.esi_links.specs.declared.links.Event.TheVariants.{Opened, Bytes}
use Rattle.h2_frames.specs.Reading.{Next, next_of}
use Rattle.h2_frames.specs.Reading.Next.{NextUnfinished, NextFrame, NextFault}
use Rattle.h2_history.specs.Frames.{frame_seen, frame_owed}
use Rattle.h2_history.specs.History.{Entry, outs, passed, passed_next, after, after_all, first_puts, entries_by, entries_next}
use Rattle.h2_history.specs.History.Entry.{Fed, In, Out, Took}
use Rattle.h2_history.specs.Puts.Put.{Plain, Headers}
use Rattle.h2_layouts.specs.declared.frame.Frame.TheVariants.{Reset}
use Rattle.h2_history.specs.Puts.{Put, octets_put, out, placed_all}
use Rattle.h2_history.specs.Runs.{octets_out}
use Rattle.h2_history.specs.RunLaws.{after_joined}
use Rattle.h2_history.specs.Standing.{Standing, first_standing}
use Rattle.h2_history.specs.Unmoved.{seen_stays, out_octets}
use Rattle.h2_history.specs.Verdicts.{update_due}
use Rattle.h2_layouts.specs.declared.role.Role.TheVariants.{Server}
use Rattle.serve_acts.specs.Acts.{Act}
use Rattle.serve_acts.specs.Acts.Act.{Happens, Sends, Reads, Takes, Refuses, Declines, Lists, Attaches, Puts, Finishes, Resets, Returns}
use Rattle.serve_acts.specs.Connections.{is_connected, opened, connections, admits}
use Rattle.serve_acts.specs.Histories.{answer, history, stood, entries_of, entries_of_event, is_at, octets_put_on, sent_to, unsent}
use Rattle.serve_acts.specs.Legal.{IsLegal}
use Rattle.serve_acts.specs.Prefixes.{Begins}
use Rattle.serve_acts.specs.Served.{Served, Replies}
use Rattle.serve_acts.specs.declared.decline.Decline.TheVariants.{Status}
use Rattle.serve_acts.specs.declared.limits.TheConstants.{RESOURCE_EXHAUSTED}

-- among these no octet was taken to be sent
abbrev AreUntaken : List Entry → Type 0
AreUntaken [] = Unit {0}
AreUntaken (Took octets ∷ entries) = ⊥
AreUntaken (Fed octets ∷ entries) = AreUntaken entries
AreUntaken (In frame ∷ entries) = AreUntaken entries
AreUntaken (Out put ∷ entries) = AreUntaken entries

outs_untaken : (puts : List Put) → AreUntaken (outs puts)
outs_untaken [] = tt
outs_untaken (put ∷ puts) = outs_untaken puts

next_untaken : (next : Next) (s : Standing) → AreUntaken (entries_next next s)
next_untaken NextUnfinished s = tt
next_untaken (NextFault code) s = tt
next_untaken (NextFrame frame reading) s = let t : Standing = record s { reading = reading } in outs_untaken (placed_all (frame_owed frame t) (frame_seen frame t))

turn_by_untaken : (broken : Option ℕ) (s : Standing) → AreUntaken (entries_by broken s)
turn_by_untaken None s = next_untaken (next_of s.reading) s
turn_by_untaken (Some code) s = tt

passed_output : (next : Next) (s : Standing) → (passed_next next s).output ≡ s.output
passed_output NextUnfinished s = refl
passed_output (NextFault code) s = refl
passed_output (NextFrame frame reading) s = refl

output_grown : (entries : List Entry) (s : Standing) → AreUntaken entries → (after_all entries s).output ≡ s.output ++ octets_out entries s
output_grown [] s none = sym (append-nil s.output)
output_grown (Fed octets ∷ entries) s none = output_grown entries (after (Fed octets) s) none
output_grown (In frame ∷ entries) s none =
    output_grown entries (after (In frame) s) none
    ∙ ap (λ (o : List ℕ). o ++ octets_out entries (after (In frame) s)) ((seen_stays frame (passed s)).output ∙ passed_output (next_of s.reading) s)
output_grown (Out put ∷ entries) s none =
    output_grown entries (out put s) none
    ∙ (ap (λ (o : List ℕ). o ++ octets_out entries (out put s)) (out_octets put s) ∙ append_assoc s.output (octets_put s.writing put) (octets_out entries (out put s)))
output_grown (Took octets ∷ entries) s none = absurd none

out_joined : (first rest : List Entry) (s : Standing) → octets_out (first ++ rest) s ≡ octets_out first s ++ octets_out rest (after_all first s)
out_joined [] rest s = refl
out_joined (Fed octets ∷ first) rest s = out_joined first rest (after (Fed octets) s)
out_joined (In frame ∷ first) rest s = out_joined first rest (after (In frame) s)
out_joined (Took octets ∷ first) rest s = out_joined first rest (after (Took octets) s)
out_joined (Out put ∷ first) rest s =
    ap (λ (o : List ℕ). octets_put s.writing put ++ o) (out_joined first rest (out put s))
    ∙ sym (append_assoc (octets_put s.writing put) (octets_out first (out put s)) (octets_out rest (after_all first (out put s))))

-- sent, and what waits, is what was put
abbrev Balances : List ℕ → List Entry → Type 0
Balances sent entries = sent ++ (stood entries).output ≡ octets_out entries (first_standing Server)

grows : (sent : List ℕ) (entries more : List Entry) → AreUntaken more → Balances sent entries → Balances sent (entries ++ more)
grows sent entries more none balances =
    ap (λ (s : Standing). sent ++ s.output) (after_joined entries more (first_standing Server))
    ∙ (ap (λ (o : List ℕ). sent ++ o) (output_grown more (stood entries) none)
    ∙ (sym (append_assoc sent (stood entries).output (octets_out more (stood entries)))
    ∙ (ap (λ (o : List ℕ). o ++ octets_out more (stood entries)) balances
    ∙ sym (out_joined entries more (first_standing Server)))))

abbrev is_sending : Act → Bool
is_sending (Sends conn octets) = true
is_sending act = false

act_untaken : (replies : Replies) (act : Act) (s : Standing) → is_sending act ≡ false → AreUntaken (entries_of replies act s)
act_untaken replies (Sends conn octets) s is = cc
act_untaken replies (Reads conn) s is = turn_by_untaken s.broken s
act_untaken replies (Takes call) s is = outs_untaken (placed_all (answer call.stream false call.flow replies.begin) s)
act_untaken replies (Refuses call) s is = outs_untaken (placed_all (answer call.stream true call.flow (replies.decline (Status RESOURCE_EXHAUSTED))) s)
act_untaken replies (Declines conn stream flow decline) s is = outs_untaken (placed_all (answer stream true flow (replies.decline decline)) s)
act_untaken replies (Lists conn stream flow text) s is = outs_untaken (placed_all (answer stream false flow replies.begin) s)
act_untaken replies (Attaches channel conn stream flow) s is = outs_untaken (placed_all (answer stream false flow replies.begin) s)
act_untaken replies (Finishes conn stream) s is = outs_untaken (placed_all (Headers stream true replies.trailers ∷ []) s)
act_untaken replies (Resets conn stream code) s is = outs_untaken (placed_all (Plain (Reset stream code) ∷ []) s)
act_untaken replies (Returns conn stream octets) s is = outs_untaken (placed_all (update_due octets) s)
act_untaken replies (Puts conn stream octets) s is = tt
act_untaken replies act s is = tt

either_untaken : (b : Bool) (entries : List Entry) → AreUntaken entries → AreUntaken (cond b entries [])
either_untaken true entries is = is
either_untaken false entries is = tt

event_untaken : (c : ℕ) (event : Event) (t : List Act) → AreUntaken (entries_of_event c event t)
event_untaken c (Opened conn) t = either_untaken ((conn == c) && ((conn == opened t) && admits (connections t))) (outs (first_puts Server)) (outs_untaken (first_puts Server))
event_untaken c (Bytes conn octets) t = either_untaken ((conn == c) && is_connected c t) (Fed octets ∷ []) tt
event_untaken c event t = tt

sends_by : (b : Bool) (sent octets : List ℕ) (entries : List Entry) → Begins octets (stood entries).output → Balances sent entries
    → Balances (cond b (sent ++ octets) sent) (entries ++ cond b (Took (length octets) ∷ []) [])
sends_by true sent octets entries begins balances =
    ap (λ (s : Standing). (sent ++ octets) ++ s.output) (after_joined entries (Took (length octets) ∷ []) (first_standing Server))
    ∙ (append_assoc sent octets (drop (length octets) (stood entries).output)
    ∙ (ap (λ (o : List ℕ). sent ++ (octets ++ o)) (ap (λ (o : List ℕ). drop (length octets) o) begins.is ∙ drop-append_seam octets begins.rest)
    ∙ (ap (λ (o : List ℕ). sent ++ o) (sym begins.is)
    ∙ (balances ∙ (sym (append-nil (octets_out entries (first_standing Server))) ∙ sym (out_joined entries (Took (length octets) ∷ []) (first_standing Server)))))))
sends_by false sent octets entries begins balances = grows sent entries [] tt balances

module _ {S : Type 0} (served : Served S) where
  balanced_by : (b : Bool) (conn c : ℕ) (octets : List ℕ) (t : List Act) → (conn == c) ≡ b → Begins octets (unsent served.replies conn t)
      → Balances (sent_to c t) (history served.replies c t) → Balances (cond b (sent_to c t ++ octets) (sent_to c t)) (history served.replies c t ++ cond b (Took (length octets) ∷ []) [])
  balanced_by true conn c octets t e begins balances =
      sends_by true (sent_to c t) octets (history served.replies c t) (subst (λ (n : ℕ). Begins octets (unsent served.replies n t)) (eqb-true conn c e) begins) balances
  balanced_by false conn c octets t e begins balances = grows (sent_to c t) (history served.replies c t) [] tt balances

  pub balanced : (c : ℕ) (t : List Act) → IsLegal served t → sent_to c t ++ unsent served.replies c t ≡ octets_put_on served.replies c t
  balanced c [] legal = refl
  balanced c (Happens event ∷ t) legal = grows (sent_to c t) (history served.replies c t) (entries_of_event c event t) (event_untaken c event t) (balanced c t legal.1)
  balanced c (Sends conn octets ∷ t) legal = balanced_by (conn == c) conn c octets t refl legal.0.begins (balanced c t legal.1)
  balanced c (act ∷ t) legal =
      grows (sent_to c t) (history served.replies c t) (cond (is_at c act) (entries_of served.replies act (stood (history served.replies c t))) [])
      (either_untaken (is_at c act) (entries_of served.replies act (stood (history served.replies c t))) (act_untaken served.replies act (stood (history served.replies c t)) refl)) (balanced c t legal.1)

  pub sent_begins : (c : ℕ) (t : List Act) → IsLegal served t → Begins (sent_to c t) (octets_put_on served.replies c t)
  sent_begins c t legal = record { rest = unsent served.replies c t; is = sym (balanced c t legal) }

-- Nothing is read or put on a connection that has ended.
use Rattle.std.proofs.Common.{◌≡◌, ℕ, Option, Some, List, [], ◌∷◌, ◌++◌, refl, ap, sym, ◌∙◌, subst}
use Rattle.h2_history.specs.declared.event.CallEvent.{CallEvent}
use Rattle.h2_history.specs.declared.event.CallEvent.TheVariants.{Broken}
use Rattle.h2_history.specs.History.{Entry, outs, Turn, turn_of, turn_by, turn_entries, entries_by, AreQuiet, IsReported, IsAtRest}
use Rattle.h2_history.specs.History.Entry.{Fed, In, Out, Took}
use Rattle.h2_history.specs.History.Turn.{Rests, Goes, Reports}
use Rattle.h2_history.specs.Puts.{Put, offered, offered_by, offer_all, placed_by, placed_all}
use Rattle.h2_history.specs.Runs.{Call, Step, IsRun, puts_of, quiet_entries, reported_entries}
use Rattle.h2_history.specs.Runs.Call.{Feed, Report, Rest, Offer, Send, Take}
use Rattle.h2_history.specs.Standing.{Standing}
use Rattle.stream_laws.specs.Ended.{AreSilent, AreNoSends}
use Rattle.stream_laws.specs.NoData.{IsNoSend}

-- the entries say nothing, and the connection has the same error
pub record StaysEnded (code : ℕ) (entries : List Entry) (new : Standing) : Type 0 where
  pub silent : AreSilent entries
  pub ended : new.broken ≡ Some code

both_silent : (first rest : List Entry) → AreSilent first → AreSilent rest → AreSilent (first ++ rest)
both_silent [] rest one other = other
both_silent (Fed octets ∷ first) rest one other = both_silent first rest one other
both_silent (In frame ∷ first) rest one other = absurd one
both_silent (Out put ∷ first) rest one other = absurd one
both_silent (Took octets ∷ first) rest one other = both_silent first rest one other

-- ---- what is offered is not put

none_placed : (code : ℕ) (puts : List Put) (s : Standing) → s.broken ≡ Some code → placed_all puts s ≡ []
none_placed code [] s ended = refl
none_placed code (put ∷ puts) s ended =
    let same : offered put s ≡ s = ap (λ (broken : Option ℕ). offered_by broken put s) ended in
    ap (λ (broken : Option ℕ). placed_by broken put s ++ placed_all puts (offered put s)) ended
    ∙ none_placed code puts (offered put s) (ap (λ (t : Standing). t.broken) same ∙ ended)

none_offered : (code : ℕ) (puts : List Put) (s : Standing) → s.broken ≡ Some code → offer_all puts s ≡ s
none_offered code [] s ended = refl
none_offered code (put ∷ puts) s ended =
    let same : offered put s ≡ s = ap (λ (broken : Option ℕ). offered_by broken put s) ended in
    none_offered code puts (offered put s) (ap (λ (t : Standing). t.broken) same ∙ ended) ∙ same

-- ---- nothing is read

ended_turn : (code : ℕ) (s : Standing) → s.broken ≡ Some code → turn_of s ≡ Reports s (Broken code)
ended_turn code s ended = ap (λ (broken : Option ℕ). turn_by broken s) ended

ended_entries : (code : ℕ) (s : Standing) → s.broken ≡ Some code → turn_entries s ≡ []
ended_entries code s ended = ap (λ (broken : Option ℕ). entries_by broken s) ended

-- no turn goes by without a report
no_turns : (code : ℕ) (old : Standing) (turns : List Standing) (new : Standing) → old.broken ≡ Some code → AreQuiet old turns new → (turns ≡ []) × (old ≡ new)
no_turns code old [] new ended quiet = (refl, quiet)
no_turns code old (next ∷ others) new ended quiet = let e = sym (ended_turn code old ended) ∙ quiet.0 in absurd (cc e)

left_of : Turn → Standing → Standing
left_of Rests s = s
left_of (Goes left) s = left
left_of (Reports left event) s = left

report_stays : (code : ℕ) (old new : Standing) (event : CallEvent) → old.broken ≡ Some code → (reported : IsReported old new event)
    → StaysEnded code (reported_entries reported) new
unfolding left_of
report_stays code old new event ended reported =
    let none = no_turns code old reported.reaches.turns reported.last ended reported.reaches.quiet in
    let last : reported.last.broken ≡ Some code = ap (λ (s : Standing). s.broken) (sym none.1) ∙ ended in
    let same : reported.last ≡ new = ap (λ (turn : Turn). left_of turn new) (sym (ended_turn code reported.last last) ∙ reported.reports) in
    let entries : reported_entries reported ≡ [] =
    ap (λ (turns : List Standing). quiet_entries old turns ++ turn_entries reported.last) none.0 ∙ ended_entries code reported.last last in
    record {
      silent = subst (λ (l : List Entry). AreSilent l) (sym entries) tt;
      ended = ap (λ (s : Standing). s.broken) (sym same) ∙ last;
    }

no_rest : (code : ℕ) (old new : Standing) → old.broken ≡ Some code → IsAtRest old new → ⊥
no_rest code old new ended rest =
    let none = no_turns code old rest.reaches.turns new ended rest.reaches.quiet in
    let last : new.broken ≡ Some code = ap (λ (s : Standing). s.broken) (sym none.1) ∙ ended in
    let e = sym (ended_turn code new last) ∙ rest.rests in cc e

-- ---- a call, and any calls

pub step_ended : (call : Call) (code : ℕ) (old : Standing) (entries : List Entry) (new : Standing)
    → IsNoSend call → old.broken ≡ Some code → Step old call entries new → StaysEnded code entries new
step_ended (Feed octets) code old entries new no_send ended step = record {
  silent = subst (λ (l : List Entry). AreSilent l) (sym step.0) tt;
  ended = ap (λ (s : Standing). s.broken) step.1 ∙ ended;
}
step_ended (Report event) code old entries new no_send ended step =
    subst (λ (l : List Entry). StaysEnded code l new) (sym step.1) (report_stays code old new event ended step.0)
step_ended Rest code old entries new no_send ended step = absurd (no_rest code old new ended step.0)
step_ended (Offer offer) code old entries new no_send ended step = record {
  silent = subst (λ (l : List Entry). AreSilent l) (sym (step.0 ∙ ap (λ (puts : List Put). outs puts) (none_placed code (puts_of offer old) old ended))) tt;
  ended = ap (λ (s : Standing). s.broken) (step.1 ∙ none_offered code (puts_of offer old) old ended) ∙ ended;
}
step_ended (Send stream octets) code old entries new no_send ended step = absurd no_send
step_ended (Take octets) code old entries new no_send ended step = record {
  silent = subst (λ (l : List Entry). AreSilent l) (sym step.0) tt;
  ended = ap (λ (s : Standing). s.broken) step.2 ∙ ended;
}

pub run_ended : (calls : List Call) (code : ℕ) (old : Standing) (entries : List Entry) (new : Standing)
    → AreNoSends calls → old.broken ≡ Some code → IsRun old calls entries new → StaysEnded code entries new
run_ended [] code old entries new no_sends ended run = record {
  silent = subst (λ (l : List Entry). AreSilent l) (sym run.0) tt;
  ended = ap (λ (s : Standing). s.broken) (sym run.1) ∙ ended;
}
run_ended (call ∷ calls) code old entries new no_sends ended run =
    let first = step_ended call code old run.first run.between no_sends.0 ended run.step in
    let others = run_ended calls code run.between run.rest new no_sends.1 first.ended run.others in
    record {
      silent = subst (λ (l : List Entry). AreSilent l) (sym run.joined) (both_silent run.first run.rest first.silent others.silent);
      ended = others.ended;
    }

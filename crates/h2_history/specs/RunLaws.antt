-- A connection stands for its history: each call leaves what its entries make of what it found.
use Rattle.std.proofs.Common.{◌≡◌, ℕ, Bool, true, false, cond, Option, Some, None, List, [], ◌∷◌, ◌++◌, refl, ap, sym, ◌∙◌, subst}
use Rattle.h2_frames.specs.Reading.{Next, next_of}
use Rattle.h2_frames.specs.Reading.Next.{NextUnfinished, NextFrame, NextFault}
use Rattle.h2_history.specs.declared.event.CallEvent.{CallEvent}
use Rattle.h2_history.specs.Frames.{frame_seen, frame_owed, frame_read}
use Rattle.h2_history.specs.History.{Entry, outs, passed_next, after, after_all, new_standing, StandsFor, Turn, turn_of, turn_by, turn_next, turn_reported, turn_entries, entries_by, entries_next, AreQuiet, IsReported}
use Rattle.h2_history.specs.History.Entry.{Fed, Out, Took}
use Rattle.h2_history.specs.History.Turn.{Rests, Goes, Reports}
use Rattle.h2_history.specs.Puts.{Put, out, fits, goaway, broke, offered, offered_by, offer_all, placed, placed_by, placed_all}
use Rattle.h2_history.specs.Runs.{Call, Step, IsRun, quiet_entries, data_put, puts_of}
use Rattle.h2_history.specs.Runs.Call.{Feed, Report, Rest, Offer, Send, Take}
use Rattle.h2_history.specs.Standing.{Standing}
use Rattle.h2_layouts.specs.declared.code.TheConstants.{ENHANCE_YOUR_CALM}
use Rattle.h2_layouts.specs.declared.role.Role.{Role}

pub after_joined : (first rest : List Entry) (s : Standing) → after_all (first ++ rest) s ≡ after_all rest (after_all first s)
after_joined [] rest s = refl
after_joined (entry ∷ first) rest s = after_joined first rest (after entry s)

outs_joined : (puts others : List Put) → outs (puts ++ others) ≡ outs puts ++ outs others
outs_joined [] others = refl
outs_joined (put ∷ puts) others = ap (λ (l : List Entry). Out put ∷ l) (outs_joined puts others)

-- ---- what is offered

either_put : (b : Bool) (s : Standing) (put : Put) → after_all (outs (cond b (put ∷ []) (goaway ENHANCE_YOUR_CALM s ∷ []))) s ≡ cond b (out put s) (broke ENHANCE_YOUR_CALM s)
either_put true s put = refl
either_put false s put = refl

by_placed : (broken : Option ℕ) (put : Put) (s : Standing) → after_all (outs (placed_by broken put s)) s ≡ offered_by broken put s
by_placed (Some code) put s = refl
by_placed None put s = either_put (fits put s) s put

after_placed : (put : Put) (s : Standing) → after_all (outs (placed put s)) s ≡ offered put s
after_placed put s = by_placed s.broken put s

pub after_placed_all : (puts : List Put) (s : Standing) → after_all (outs (placed_all puts s)) s ≡ offer_all puts s
after_placed_all [] s = refl
after_placed_all (put ∷ puts) s =
    ap (λ (l : List Entry). after_all l s) (outs_joined (placed put s) (placed_all puts (offered put s)))
    ∙ (after_joined (outs (placed put s)) (outs (placed_all puts (offered put s))) s
    ∙ (ap (λ (t : Standing). after_all (outs (placed_all puts (offered put s))) t) (after_placed put s)
    ∙ after_placed_all puts (offered put s)))

-- ---- turns

-- the turn leads there
abbrev Leads : Turn → Standing → Type 0
Leads Rests new = ⊥
Leads (Goes left) new = left ≡ new
Leads (Reports left event) new = left ≡ new

reported_leads : (event : Option CallEvent) (s new : Standing) → Leads (turn_reported event s) new → s ≡ new
reported_leads None s new e = e
reported_leads (Some event) s new e = e

next_entries : (next : Next) (s new : Standing) → next_of s.reading ≡ next → Leads (turn_next next s) new → after_all (entries_next next s) s ≡ new
next_entries NextUnfinished s new is leads = absurd leads
next_entries (NextFault code) s new is leads = leads
next_entries (NextFrame frame reading) s new is leads =
    let t : Standing = record s { reading = reading } in
    ap (λ (n : Next). after_all (outs (placed_all (frame_owed frame t) (frame_seen frame t))) (frame_seen frame (passed_next n s))) is
    ∙ (after_placed_all (frame_owed frame t) (frame_seen frame t)
    ∙ reported_leads (frame_read frame t).event (frame_read frame t).left new leads)

by_entries : (broken : Option ℕ) (s new : Standing) → Leads (turn_by broken s) new → after_all (entries_by broken s) s ≡ new
by_entries (Some code) s new leads = leads
by_entries None s new leads = next_entries (next_of s.reading) s new refl leads

turn_leads : (s new : Standing) → Leads (turn_of s) new → after_all (turn_entries s) s ≡ new
turn_leads s new leads = by_entries s.broken s new leads

quiet_leads : (turns : List Standing) (old new : Standing) → AreQuiet old turns new → after_all (quiet_entries old turns) old ≡ new
quiet_leads [] old new same = same
quiet_leads (next ∷ turns) old new quiet =
    let leads : Leads (turn_of old) next = subst (λ (turn : Turn). Leads turn next) (sym quiet.0) refl in
    after_joined (turn_entries old) (quiet_entries next turns) old
    ∙ (ap (λ (s : Standing). after_all (quiet_entries next turns) s) (turn_leads old next leads)
    ∙ quiet_leads turns next new quiet.1)

reported_stands : (old new : Standing) (event : CallEvent) (reported : IsReported old new event) → after_all (quiet_entries old reported.reaches.turns ++ turn_entries reported.last) old ≡ new
reported_stands old new event reported =
    let leads : Leads (turn_of reported.last) new = subst (λ (turn : Turn). Leads turn new) (sym reported.reports) refl in
    after_joined (quiet_entries old reported.reaches.turns) (turn_entries reported.last) old
    ∙ (ap (λ (s : Standing). after_all (turn_entries reported.last) s) (quiet_leads reported.reaches.turns old reported.last reported.reaches.quiet)
    ∙ turn_leads reported.last new leads)

-- ---- calls

at_entries : (old new : Standing) (entries others : List Entry) → entries ≡ others → new ≡ after_all others old → new ≡ after_all entries old
at_entries old new entries others e same = same ∙ ap (λ (l : List Entry). after_all l old) (sym e)

pub step_stands : (call : Call) (old : Standing) (entries : List Entry) (new : Standing) → Step old call entries new → new ≡ after_all entries old
step_stands (Feed octets) old entries new step = at_entries old new entries (Fed octets ∷ []) step.0 step.1
step_stands (Report event) old entries new step = at_entries old new entries (quiet_entries old step.0.reaches.turns ++ turn_entries step.0.last) step.1 (sym (reported_stands old new event step.0))
step_stands Rest old entries new step = at_entries old new entries (quiet_entries old step.0.reaches.turns) step.1 (sym (quiet_leads step.0.reaches.turns old new step.0.reaches.quiet))
step_stands (Offer offer) old entries new step = at_entries old new entries (outs (placed_all (puts_of offer old) old)) step.0 (step.1 ∙ sym (after_placed_all (puts_of offer old) old))
step_stands (Send stream octets) old entries new step = at_entries old new entries (Out (data_put stream octets) ∷ []) step.0 step.2
step_stands (Take octets) old entries new step = at_entries old new entries (Took octets ∷ []) step.0 step.2

pub run_stands : (calls : List Call) (old : Standing) (entries : List Entry) (new : Standing) → IsRun old calls entries new → new ≡ after_all entries old
run_stands [] old entries new run = at_entries old new entries [] run.0 (sym run.1)
run_stands (call ∷ calls) old entries new run =
    at_entries old new entries (run.first ++ run.rest) run.joined
    (run_stands calls run.between run.rest new run.others
    ∙ (ap (λ (s : Standing). after_all run.rest s) (step_stands call old run.first run.between run.step)
    ∙ sym (after_joined run.first run.rest old)))

-- a call of a connection that stands for a history leaves one that stands for that history with the entries of the call
pub step_history : (role : Role) (history entries : List Entry) (call : Call) (old new : Standing) → StandsFor old role history → Step old call entries new → StandsFor new role (history ++ entries)
step_history role history entries call old new stands step =
    step_stands call old entries new step
    ∙ (ap (λ (s : Standing). after_all entries s) stands
    ∙ sym (after_joined history entries (new_standing role)))

-- What waits in the output is the octets of the frames that were put, less those that were taken.
use Rattle.std.proofs.Common.{◌≡◌, ℕ, ◌+◌, ◌≤◌, Option, Some, None, List, [], ◌∷◌, ◌++◌, length, drop, refl, ap, sym, ◌∙◌, subst, append_assoc, arith, length-append, length-drop}
use Rattle.std.proofs.lemmas.List.{append-nil, drop-append-le, drop-drop}
use Rattle.h2_frames.specs.Reading.{Next, next_of}
use Rattle.h2_frames.specs.Reading.Next.{NextUnfinished, NextFrame, NextFault}
use Rattle.h2_history.specs.Frames.{frame_seen, frame_owed}
use Rattle.h2_history.specs.History.{Entry, outs, passed, passed_next, after, after_all, turn_entries, entries_by, entries_next}
use Rattle.h2_history.specs.History.Entry.{Fed, In, Out, Took}
use Rattle.h2_history.specs.Puts.{Put, octets_put, out, placed_all}
use Rattle.h2_history.specs.Runs.{Call, Step, IsRun, quiet_entries, data_put, octets_out, octets_taken, puts_of}
use Rattle.h2_history.specs.Runs.Call.{Feed, Report, Rest, Offer, Send, Take}
use Rattle.h2_history.specs.RunLaws.{step_stands}
use Rattle.h2_history.specs.Standing.{Standing}
use Rattle.h2_history.specs.Unmoved.{seen_stays, out_octets}

-- no octet is taken among these
abbrev TakesNone : List Entry → Type 0
TakesNone [] = Unit {0}
TakesNone (Fed octets ∷ entries) = TakesNone entries
TakesNone (In frame ∷ entries) = TakesNone entries
TakesNone (Out put ∷ entries) = TakesNone entries
TakesNone (Took octets ∷ entries) = ⊥

none_joined : (first rest : List Entry) → TakesNone first → TakesNone rest → TakesNone (first ++ rest)
none_joined [] rest one other = other
none_joined (Fed octets ∷ first) rest one other = none_joined first rest one other
none_joined (In frame ∷ first) rest one other = none_joined first rest one other
none_joined (Out put ∷ first) rest one other = none_joined first rest one other
none_joined (Took octets ∷ first) rest one other = absurd one

outs_none : (puts : List Put) → TakesNone (outs puts)
outs_none [] = tt
outs_none (put ∷ puts) = outs_none puts

next_none : (next : Next) (s : Standing) → TakesNone (entries_next next s)
next_none NextUnfinished s = tt
next_none (NextFault code) s = tt
next_none (NextFrame frame reading) s = let t : Standing = record s { reading = reading } in outs_none (placed_all (frame_owed frame t) (frame_seen frame t))

by_none : (broken : Option ℕ) (s : Standing) → TakesNone (entries_by broken s)
by_none None s = next_none (next_of s.reading) s
by_none (Some code) s = tt

quiet_none : (turns : List Standing) (s : Standing) → TakesNone (quiet_entries s turns)
quiet_none [] s = tt
quiet_none (next ∷ turns) s = none_joined (turn_entries s) (quiet_entries next turns) (by_none s.broken s) (quiet_none turns next)

-- ---- the output after entries

passed_output : (next : Next) (s : Standing) → (passed_next next s).output ≡ s.output
passed_output NextUnfinished s = refl
passed_output (NextFault code) s = refl
passed_output (NextFrame frame reading) s = refl

taken_none : (entries : List Entry) → TakesNone entries → octets_taken entries ≡ 0
taken_none [] none = refl
taken_none (Fed octets ∷ entries) none = taken_none entries none
taken_none (In frame ∷ entries) none = taken_none entries none
taken_none (Out put ∷ entries) none = taken_none entries none
taken_none (Took octets ∷ entries) none = absurd none

output_grows : (entries : List Entry) (s : Standing) → TakesNone entries → (after_all entries s).output ≡ s.output ++ octets_out entries s
output_grows [] s none = sym (append-nil s.output)
output_grows (Fed octets ∷ entries) s none = output_grows entries (after (Fed octets) s) none
output_grows (In frame ∷ entries) s none =
    let unmoved : (after (In frame) s).output ≡ s.output = (seen_stays frame (passed s)).output ∙ passed_output (next_of s.reading) s in
    output_grows entries (after (In frame) s) none ∙ ap (λ (o : List ℕ). o ++ octets_out entries (after (In frame) s)) unmoved
output_grows (Out put ∷ entries) s none =
    output_grows entries (out put s) none
    ∙ (ap (λ (o : List ℕ). o ++ octets_out entries (out put s)) (out_octets put s)
    ∙ append_assoc s.output (octets_put s.writing put) (octets_out entries (out put s)))
output_grows (Took octets ∷ entries) s none = absurd none

-- what the entries say of the output
pub record OutputIs (old : Standing) (entries : List Entry) (new : Standing) : Type 0 where
  pub enough : octets_taken entries ≤ length (old.output ++ octets_out entries old)
  pub output : new.output ≡ drop (octets_taken entries) (old.output ++ octets_out entries old)

grown : (entries : List Entry) (old new : Standing) → TakesNone entries → new ≡ after_all entries old → OutputIs old entries new
grown entries old new none stands =
    let zero : octets_taken entries ≡ 0 = taken_none entries none in
    record {
      enough = omega arith;
      output = ap (λ (s : Standing). s.output) stands ∙ (output_grows entries old none ∙ ap (λ (n : ℕ). drop n (old.output ++ octets_out entries old)) (sym zero));
    }

-- ---- joined

out_joined : (first rest : List Entry) (s : Standing) → octets_out (first ++ rest) s ≡ octets_out first s ++ octets_out rest (after_all first s)
out_joined [] rest s = refl
out_joined (Fed octets ∷ first) rest s = out_joined first rest (after (Fed octets) s)
out_joined (In frame ∷ first) rest s = out_joined first rest (after (In frame) s)
out_joined (Took octets ∷ first) rest s = out_joined first rest (after (Took octets) s)
out_joined (Out put ∷ first) rest s =
    ap (λ (o : List ℕ). octets_put s.writing put ++ o) (out_joined first rest (out put s))
    ∙ sym (append_assoc (octets_put s.writing put) (octets_out first (out put s)) (octets_out rest (after_all first (out put s))))

taken_joined : (first rest : List Entry) → octets_taken (first ++ rest) ≡ octets_taken first + octets_taken rest
taken_joined [] rest = omega arith
taken_joined (Fed octets ∷ first) rest = taken_joined first rest
taken_joined (In frame ∷ first) rest = taken_joined first rest
taken_joined (Out put ∷ first) rest = taken_joined first rest
taken_joined (Took octets ∷ first) rest = omega (arith, taken_joined first rest)

-- so many of a, then so many of what is left and b
both_taken : (n m : ℕ) (a b between new : List ℕ) → n ≤ length a → between ≡ drop n a → m ≤ length (between ++ b) → new ≡ drop m (between ++ b)
    → (n + m ≤ length (a ++ b)) × (new ≡ drop (n + m) (a ++ b))
both_taken n m a b between new enough is more e =
    let joined : between ++ b ≡ drop n (a ++ b) = ap (λ (l : List ℕ). l ++ b) is ∙ sym (drop-append-le n a b enough) in
    (omega (arith, length-append a b, length-append between b, ap length is, length-drop n a), e ∙ (ap (λ (l : List ℕ). drop m l) joined ∙ drop-drop m n (a ++ b)))

joined_is : (old between new : Standing) (first rest : List Entry) → between ≡ after_all first old → OutputIs old first between → OutputIs between rest new → OutputIs old (first ++ rest) new
joined_is old between new first rest stands one other =
    let out_is : octets_out (first ++ rest) old ≡ octets_out first old ++ octets_out rest between = out_joined first rest old ∙ ap (λ (s : Standing). octets_out first old ++ octets_out rest s) (sym stands) in
    let all : (old.output ++ octets_out first old) ++ octets_out rest between ≡ old.output ++ octets_out (first ++ rest) old =
    append_assoc old.output (octets_out first old) (octets_out rest between) ∙ ap (λ (o : List ℕ). old.output ++ o) (sym out_is) in
    let both = both_taken (octets_taken first) (octets_taken rest) (old.output ++ octets_out first old) (octets_out rest between) between.output new.output one.enough one.output other.enough other.output in
    record {
      enough = omega (arith, both.0, ap length all, taken_joined first rest);
      output = both.1 ∙ (ap (λ (l : List ℕ). drop (octets_taken first + octets_taken rest) l) all ∙ ap (λ (n : ℕ). drop n (old.output ++ octets_out (first ++ rest) old)) (sym (taken_joined first rest)));
    }

-- ---- calls

at_is : (old new : Standing) (entries others : List Entry) → entries ≡ others → OutputIs old others new → OutputIs old entries new
at_is old new entries others e is = subst (λ (l : List Entry). OutputIs old l new) (sym e) is

step_output : (call : Call) (old : Standing) (entries : List Entry) (new : Standing) → Step old call entries new → OutputIs old entries new
step_output (Feed octets) old entries new step = at_is old new entries (Fed octets ∷ []) step.0 (grown (Fed octets ∷ []) old new tt step.1)
step_output (Report event) old entries new step =
    let others : List Entry = quiet_entries old step.0.reaches.turns ++ turn_entries step.0.last in
    at_is old new entries others step.1
    (grown others old new (none_joined (quiet_entries old step.0.reaches.turns) (turn_entries step.0.last) (quiet_none step.0.reaches.turns old) (by_none step.0.last.broken step.0.last))
    (step_stands (Report event) old others new (step.0, refl)))
step_output Rest old entries new step =
    let others : List Entry = quiet_entries old step.0.reaches.turns in
    at_is old new entries others step.1 (grown others old new (quiet_none step.0.reaches.turns old) (step_stands Rest old others new (step.0, refl)))
step_output (Offer offer) old entries new step =
    let others : List Entry = outs (placed_all (puts_of offer old) old) in
    at_is old new entries others step.0 (grown others old new (outs_none (placed_all (puts_of offer old) old)) (step_stands (Offer offer) old others new (refl, step.1)))
step_output (Send stream octets) old entries new step =
    at_is old new entries (Out (data_put stream octets) ∷ []) step.0 (grown (Out (data_put stream octets) ∷ []) old new tt step.2)
step_output (Take octets) old entries new step =
    at_is old new entries (Took octets ∷ []) step.0
    (record {
      enough = omega (arith, step.1, length-append old.output []);
      output = ap (λ (s : Standing). s.output) step.2 ∙ (ap (λ (n : ℕ). drop n old.output) (let z : octets ≡ octets + 0 = omega arith in z) ∙ ap (λ (o : List ℕ). drop (octets + 0) o) (sym (append-nil old.output)));
    })

pub run_output : (calls : List Call) (old : Standing) (entries : List Entry) (new : Standing) → IsRun old calls entries new → OutputIs old entries new
run_output [] old entries new run = at_is old new entries [] run.0 (grown [] old new tt (sym run.1))
run_output (call ∷ calls) old entries new run =
    at_is old new entries (run.first ++ run.rest) run.joined
    (joined_is old run.between new run.first run.rest (step_stands call old run.first run.between run.step) (step_output call old run.first run.between run.step) (run_output calls run.between run.rest new run.others))

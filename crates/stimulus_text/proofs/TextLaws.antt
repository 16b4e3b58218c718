-- What is read of a whole text is a stimulus, or the first break of its rules is reported.
use Rattle.std.proofs.Common.{◌≡◌, ◌+◌, ◌<◌, ◌≤◌, ℕ, true, false, Result, Ok, Err, List, [], ◌∷◌, ◌++◌, length, refl, sym, ap, ◌∙◌, inl, inr, arith, nat_lt, nat_le, append_assoc, length-append, append-nil, subst, IfOk}
use Rattle.std.proofs.lemmas.Bool.{cases_Bool}
use Rattle.std.specs.Prelude.{All}
use Rattle.std.specs.List.{sum_by, AllZip}
use Rattle.std.proofs.lemmas.Bool.Decides.{nat_tests}
use Rattle.std.proofs.lemmas.List.Elements.{All-head, All-tail}
use Rattle.std.proofs.lemmas.List.Sums.{sum_by-cons}
use Rattle.esi_base.specs.declared.place.Place.{Place}
use Rattle.esi_base.specs.declared.place.Refusal.{Refusal}
use Rattle.esi_base.specs.declared.stop.Stop.{Stop}
use Rattle.esi_base.specs.declared.stop.Stop.TheVariants.{Refused, NoMemory}
use Rattle.esi_base.specs.Answers.{◌>>=◌, Reads, IfRefused}
use Rattle.small_text.specs.Lines.{Part, Line, counting_lines}
use Rattle.small_text.specs.LineLaws.{PartsAscend, each_ascends}
use Rattle.stimulus_text.specs.declared.step.Stimulus.{Stimulus}
use Rattle.stimulus_text.specs.declared.step.Step.{Step}
use Rattle.stimulus_text.specs.declared.step.Step.TheVariants.{Put, Ready, Run}
use Rattle.stimulus_text.specs.declared.limits.TheConstants.{LONGEST_STIMULUS, STIMULUS_CYCLES, STIMULUS_LINES}
use Rattle.stimulus_text.specs.declared.rule.StimulusRule.{StimulusRule}
use Rattle.stimulus_text.specs.declared.rule.StimulusRule.TheVariants.{TooLong}
use Rattle.stimulus_text.specs.RuleNumbers.{rule_number}
use Rattle.stimulus_text.specs.Stimulus.{step_of, cycles_of, steps_of, stimulus_of, too_long_refusal}
use Rattle.stimulus_text.specs.LineRules.{StepOf, cycles_in, IsStimulus, Breaks, IsGood, AllGood, NoLater, FirstBreak}
use Rattle.stimulus_text.specs.LineRules.Breaks.{unknown, miscounted, no_octets, no_switch, no_number, passes}
use Rattle.stimulus_text.proofs.StepLemmas.{with_step, steps_ok, steps_err}
use Rattle.stimulus_text.proofs.FirstBreaks.{Read, Reported, Explains, sum_with}
use Rattle.stimulus_text.proofs.LineCases.{switch_whole, explain}

-- a line in the lines that are left which reports the first break
record StopsIn (before rest : List Line) (refusal : Refusal) : Type 0 where
  front : List Line
  line : Line
  after : List Line
  split : rest ≡ front ++ line ∷ after
  goods : AllGood before front
  reported : Reported (before ++ front) line refusal

-- what reading the lines that are left says of them
abbrev ReadAll : List Line → List Line → Result (List Step) Refusal → Type 0
ReadAll before rest (Ok steps) =
    AllZip StepOf rest steps × (length before + length rest ≤ STIMULUS_LINES) × (sum_by cycles_in before + sum_by cycles_of steps ≤ STIMULUS_CYCLES) × AllGood before rest
ReadAll before rest (Err refusal) = StopsIn before rest refusal

read_more : (before : List Line) (line : Line) (rest : List Line) (step : Step) → Read before line step → (left : Result (List Step) Refusal) → ReadAll (before ++ line ∷ []) rest left → ReadAll before (line ∷ rest) (with_step step left)
read_more before line rest step r (Ok steps) h =
    ((r.step_is, h.0), omega (arith, length-append before (line ∷ []), h.1), omega (arith, sum_with before line, sum_by-cons cycles_of step steps, r.cycles_are, h.2), (r.is_good, h.3))
read_more before line rest step r (Err refusal) h =
    record { front = line ∷ h.front; line = h.line; after = h.after; split = ap (λ (l : List Line). line ∷ l) h.split; goods = (r.is_good, h.goods); reported = rw append_assoc at h.reported }

read_cons : (before : List Line) (line : Line) (rest : List Line) → ((longer : List Line) → length longer ≤ STIMULUS_LINES → sum_by cycles_in longer ≤ STIMULUS_CYCLES → ReadAll longer rest (steps_of (length longer) (sum_by cycles_in longer) rest)) → (r : Result Step Refusal) → step_of (length before) (sum_by cycles_in before) line ≡ r → Explains before line r → ReadAll before (line ∷ rest) (steps_of (length before) (sum_by cycles_in before) (line ∷ rest))
read_cons before line rest next (Ok step) is now =
    let more : length (before ++ line ∷ []) ≡ length before + 1 = length-append before (line ∷ []) in
    let sums : sum_by cycles_in (before ++ line ∷ []) ≡ sum_by cycles_in before + cycles_of step = sum_with before line ∙ ap (λ (n : ℕ). sum_by cycles_in before + n) now.cycles_are in
    let few : length (before ++ line ∷ []) ≤ STIMULUS_LINES = (let h = now.few in omega arith) in
    let low : sum_by cycles_in (before ++ line ∷ []) ≤ STIMULUS_CYCLES = (let h = now.low in omega arith) in
    let left : ReadAll (before ++ line ∷ []) rest (steps_of (length before + 1) (sum_by cycles_in before + cycles_of step) rest) = rw (more, sums) at (next (before ++ line ∷ []) few low) in
    rw (steps_ok (length before) (sum_by cycles_in before) line rest step is) (read_more before line rest step now _ left)
read_cons before line rest next (Err refusal) is now =
    rw (steps_err (length before) (sum_by cycles_in before) line rest refusal is) (record { front = []; line = line; after = rest; split = refl; goods = tt; reported = rw append-nil now })

read_none : (lines cycles : ℕ) → steps_of lines cycles [] ≡ Ok []
unfolding steps_of
read_none lines cycles = refl

read_all : (rest before : List Line) → All PartsAscend rest → length before ≤ STIMULUS_LINES → sum_by cycles_in before ≤ STIMULUS_CYCLES → ReadAll before rest (steps_of (length before) (sum_by cycles_in before) rest)
read_all [] before up few low = rw (read_none (length before) (sum_by cycles_in before)) (tt, omega arith, omega arith, tt)
read_all (line ∷ rest) before up few low =
    read_cons before line rest (λ longer f l. read_all rest longer (All-tail PartsAscend line rest up) f l) (step_of (length before) (sum_by cycles_in before) line) refl (explain before line (All-head PartsAscend line rest up) low)

-- ---- a stimulus is read

step_whole : (lines cycles : ℕ) (line : Line) (step : Step) → StepOf line step → lines < STIMULUS_LINES → cycles + cycles_of step ≤ STIMULUS_CYCLES → step_of lines cycles line ≡ Ok step
unfolding step_of
step_whole lines cycles line (Put name octets place octets_place) h few low =
    let e : nat_le STIMULUS_LINES lines ≡ false = grind (arith, nat_tests) in
    rw (h.word, h.parts, e, h.octets_are, h.name_is, h.place_is, h.octets_place_is) refl
step_whole lines cycles line (Ready name on place) h few low =
    let e : nat_le STIMULUS_LINES lines ≡ false = grind (arith, nat_tests) in
    rw (h.word, h.parts, e, switch_whole _ on h.switch_is, h.name_is, h.place_is) refl
step_whole lines cycles line (Run more) h few low =
    let e : nat_le STIMULUS_LINES lines ≡ false = grind (arith, nat_tests) in
    let f : nat_lt STIMULUS_CYCLES (cycles + more) ≡ false = grind (arith, nat_tests) in
    rw (h.word, h.parts, e, h.number, f) refl

steps_whole : (rest : List Line) (steps : List Step) (lines cycles : ℕ) → AllZip StepOf rest steps → lines + length rest ≤ STIMULUS_LINES → cycles + sum_by cycles_of steps ≤ STIMULUS_CYCLES → steps_of lines cycles rest ≡ Ok steps
steps_whole [] [] lines cycles h few low = read_none lines cycles
steps_whole [] (step ∷ steps) lines cycles h few low = absurd h
steps_whole (line ∷ rest) [] lines cycles h few low = absurd h
steps_whole (line ∷ rest) (step ∷ steps) lines cycles h few low =
    let sums : sum_by cycles_of (step ∷ steps) ≡ cycles_of step + sum_by cycles_of steps = sum_by-cons cycles_of step steps in
    let is : step_of lines cycles line ≡ Ok step = step_whole lines cycles line step h.0 (omega arith) (omega arith) in
    let left : steps_of (lines + 1) (cycles + cycles_of step) rest ≡ Ok steps = steps_whole rest steps (lines + 1) (cycles + cycles_of step) h.1 (omega arith) (omega arith) in
    steps_ok lines cycles line rest step is ∙ rw left refl

-- ---- whole texts

all_lines : (text : List ℕ) → ReadAll [] (counting_lines text) (steps_of 0 0 (counting_lines text))
all_lines text = read_all (counting_lines text) [] (each_ascends text) (omega arith) (omega arith)

abbrev stimulus_from : Result (List Step) Refusal → Result Stimulus Refusal
stimulus_from steps = steps >>= (λ l. Ok (record { steps = l }))

short_is : (text : List ℕ) → length text ≤ LONGEST_STIMULUS → stimulus_of text ≡ stimulus_from (steps_of 0 0 (counting_lines text))
unfolding stimulus_of
short_is text short = let e : nat_lt LONGEST_STIMULUS (length text) ≡ false = grind (arith, nat_tests) in rw e refl

long_is : (text : List ℕ) → LONGEST_STIMULUS < length text → stimulus_of text ≡ Err too_long_refusal
unfolding stimulus_of
long_is text long = let e : nat_lt LONGEST_STIMULUS (length text) ≡ true = grind (arith, nat_tests) in rw e refl

found_from : (text : List ℕ) (stimulus : Stimulus) → length text ≤ LONGEST_STIMULUS → (steps : Result (List Step) Refusal) → ReadAll [] (counting_lines text) steps → stimulus_from steps ≡ Ok stimulus → IsStimulus text stimulus
found_from text stimulus short (Ok steps) h e =
    let same : record { steps = steps } ≡ stimulus = cc in
    let P : Stimulus → Type 0 = λ s. IsStimulus text s in
    subst P same (record { short = short; steps = h.0; few_lines = omega (arith, h.1); few_cycles = omega (arith, h.2) })
found_from text stimulus short (Err refusal) h e = absurd (cc)

pub found : (text : List ℕ) (stimulus : Stimulus) → stimulus_of text ≡ Ok stimulus → IsStimulus text stimulus
found text stimulus is =
    elim (cases_Bool (nat_lt LONGEST_STIMULUS (length text))) [
      | inl e ↦ (let no = long_is text (grind (arith, nat_tests)) in absurd (cc))
      | inr e ↦ (let short : length text ≤ LONGEST_STIMULUS = grind (arith, nat_tests) in found_from text stimulus short (steps_of 0 0 (counting_lines text)) (all_lines text) (sym (short_is text short) ∙ is))
    ]

pub whole : (text : List ℕ) (stimulus : Stimulus) → IsStimulus text stimulus → stimulus_of text ≡ Ok stimulus
whole text stimulus h =
    short_is text h.short ∙ rw (steps_whole (counting_lines text) stimulus.steps 0 0 h.steps (let l = h.few_lines in omega arith) (let l = h.few_cycles in omega arith)) refl

refused_from : (text : List ℕ) (refusal : Refusal) → (steps : Result (List Step) Refusal) → ReadAll [] (counting_lines text) steps → stimulus_from steps ≡ Err refusal → FirstBreak (counting_lines text) refusal
refused_from text refusal (Ok steps) h e = absurd (cc)
refused_from text refusal (Err reported) h e =
    let same : reported ≡ refusal = cc in
    let P : Refusal → Type 0 = λ r. FirstBreak (counting_lines text) r in
    subst P same (record { before = h.front; line = h.line; after = h.after; rule = h.reported.rule; part = h.reported.part; split = h.split; good = h.goods; breaks = h.reported.breaks; number = h.reported.number; place = h.reported.place; first = h.reported.first })

pub refused_first : (text : List ℕ) (refusal : Refusal) → length text ≤ LONGEST_STIMULUS → stimulus_of text ≡ Err refusal → FirstBreak (counting_lines text) refusal
refused_first text refusal short is = refused_from text refusal (steps_of 0 0 (counting_lines text)) (all_lines text) (sym (short_is text short) ∙ is)

not_too_long : (before : List Line) (line : Line) (rule : StimulusRule) (part : Part) → Breaks before line rule part → rule_number rule ≡ rule_number TooLong → ⊥
not_too_long before line rule part (unknown h) e = omega arith
not_too_long before line rule part (miscounted h) e = omega arith
not_too_long before line rule part (no_octets p h) e = omega arith
not_too_long before line rule part (no_switch p h) e = omega arith
not_too_long before line rule part (no_number p h) e = omega arith
not_too_long before line rule part (passes h) e = omega arith

-- ---- a first break is refused

abbrev SomeBreak : List Line → Line → Type 0
SomeBreak before line = (rule : StimulusRule) × ((part : Part) × Breaks before line rule part)

-- a line between good lines breaks no rule
good_at : (before front : List Line) (line : Line) (after : List Line) → AllGood before (front ++ line ∷ after) → IsGood (before ++ front) line
good_at before [] line after h = rw append-nil (h.0)
good_at before (first ∷ front) line after h = rw append_assoc at (good_at (before ++ first ∷ []) front line after h.1)

goods_same : (lines other before : List Line) → lines ≡ other → AllGood before lines → AllGood before other
goods_same lines other before same h = let P : List Line → Type 0 = λ l. AllGood before l in subst P same h

-- two first breaks are of one line, after the same lines
record OneLine (front other : List Line) (line second : Line) : Type 0 where
  fronts : front ≡ other
  lines_are : line ≡ second

joined : (before other : List Line) (x : Line) → before ++ x ∷ other ≡ (before ++ x ∷ []) ++ other
joined before other x = rw append_assoc refl

one_line : (before front other : List Line) (line second : Line) (after rest : List Line) → front ++ line ∷ after ≡ other ++ second ∷ rest → AllGood before front → AllGood before other → SomeBreak (before ++ front) line → SomeBreak (before ++ other) second → OneLine front other line second
one_line before [] [] line second after rest same good1 good2 breaks1 breaks2 = record { fronts = refl; lines_are = (cc) }
one_line before [] (x ∷ other) line second after rest same good1 good2 breaks1 breaks2 =
    let is : line ≡ x = cc in
    let b : SomeBreak before line = rw append-nil at breaks1 in
    let P : Line → Type 0 = λ l. SomeBreak before l in
    let c : SomeBreak before x = subst P is b in
    absurd (good2.0 c.0 c.1.0 c.1.1)
one_line before (x ∷ front) [] line second after rest same good1 good2 breaks1 breaks2 =
    let is : second ≡ x = cc in
    let b : SomeBreak before second = rw append-nil at breaks2 in
    let P : Line → Type 0 = λ l. SomeBreak before l in
    let c : SomeBreak before x = subst P is b in
    absurd (good1.0 c.0 c.1.0 c.1.1)
one_line before (x ∷ front) (y ∷ other) line second after rest same good1 good2 breaks1 breaks2 =
    let is : y ≡ x = cc in
    let left : front ++ line ∷ after ≡ other ++ second ∷ rest = cc in
    let P : Line → Type 0 = λ l. AllGood (before ++ l ∷ []) other in
    let Q : List Line → Type 0 = λ l. SomeBreak l line in
    let R : List Line → Type 0 = λ l. SomeBreak l second in
    let at1 : before ++ x ∷ front ≡ (before ++ x ∷ []) ++ front = rw append_assoc refl in
    let at2 : before ++ y ∷ other ≡ (before ++ x ∷ []) ++ other = ap (λ (l : Line). before ++ l ∷ other) is ∙ joined before other x in
    let next = one_line (before ++ x ∷ []) front other line second after rest left good1.1 (subst P is good2.1) (subst Q at1 breaks1) (subst R at2 breaks2) in
    record { fronts = cc (next.fronts, is); lines_are = next.lines_are }

same_refusal : (r s : Refusal) → r.number ≡ s.number → r.place ≡ s.place → r ≡ s
same_refusal r s number place =
    let f : ℕ → Refusal = λ n. record { number = n; place = r.place } in
    let g : Place → Refusal = λ p. record { number = s.number; place = p } in
    ap f number ∙ ap g place

same_column : (rule other : StimulusRule) (part second : Part) → NoLater rule part other second → NoLater other second rule part → part.column ≡ second.column
same_column rule other part second (inl a) (inl b) = absurd (omega arith)
same_column rule other part second (inl a) (inr b) = absurd (omega (arith, b.0))
same_column rule other part second (inr a) b = a.0

same_number : (rule other : StimulusRule) (part second : Part) → NoLater rule part other second → NoLater other second rule part → rule_number rule ≡ rule_number other
same_number rule other part second (inl a) (inl b) = absurd (omega arith)
same_number rule other part second (inl a) (inr b) = absurd (omega (arith, b.0))
same_number rule other part second (inr a) (inl b) = absurd (omega (arith, a.0))
same_number rule other part second (inr a) (inr b) = omega (arith, a.1, b.1)

reported_same : (before other : List Line) (line second : Line) (r : Refusal) → before ≡ other → line ≡ second → Reported before line r → Reported other second r
reported_same before other line second r fronts lines_are h =
    let P : List Line → Type 0 = λ l. Reported l line r in
    let Q : Line → Type 0 = λ l. Reported other l r in
    subst Q lines_are (subst P fronts h)

-- what is reported of a line is fixed
one_reported : (before : List Line) (line : Line) (r s : Refusal) → Reported before line r → Reported before line s → r ≡ s
one_reported before line r s a b =
    let column : a.part.column ≡ b.part.column = same_column a.rule b.rule a.part b.part (a.first b.rule b.part b.breaks) (b.first a.rule a.part a.breaks) in
    let number : r.number ≡ s.number = a.number ∙ same_number a.rule b.rule a.part b.part (a.first b.rule b.part b.breaks) (b.first a.rule a.part a.breaks) ∙ sym b.number in
    same_refusal r s number (a.place ∙ rw column refl ∙ sym b.place)

pub break_once : (lines : List Line) (r s : Refusal) → FirstBreak lines r → FirstBreak lines s → r ≡ s
break_once lines r s a b =
    let one = one_line [] a.before b.before a.line b.line a.after b.after (sym a.split ∙ b.split) a.good b.good (a.rule, (a.part, a.breaks)) (b.rule, (b.part, b.breaks)) in
    one_reported b.before b.line r s (reported_same a.before b.before a.line b.line r one.fronts one.lines_are (record { rule = a.rule; part = a.part; breaks = a.breaks; number = a.number; place = a.place; first = a.first })) (record { rule = b.rule; part = b.part; breaks = b.breaks; number = b.number; place = b.place; first = b.first })

broken_from : (text : List ℕ) (refusal : Refusal) → (steps : Result (List Step) Refusal) → ReadAll [] (counting_lines text) steps → FirstBreak (counting_lines text) refusal → stimulus_from steps ≡ Err refusal
broken_from text refusal (Ok steps) h b =
    absurd (good_at [] b.before b.line b.after (goods_same (counting_lines text) (b.before ++ b.line ∷ b.after) [] b.split h.3) b.rule b.part b.breaks)
broken_from text refusal (Err reported) h b =
    ap Err (break_once (counting_lines text) reported refusal (record { before = h.front; line = h.line; after = h.after; rule = h.reported.rule; part = h.reported.part; split = h.split; good = h.goods; breaks = h.reported.breaks; number = h.reported.number; place = h.reported.place; first = h.reported.first }) b)

pub broken : (text : List ℕ) (refusal : Refusal) → length text ≤ LONGEST_STIMULUS → FirstBreak (counting_lines text) refusal → stimulus_of text ≡ Err refusal
broken text refusal short b = short_is text short ∙ broken_from text refusal (steps_of 0 0 (counting_lines text)) (all_lines text) b

-- ---- the clauses of a reader

pub reads_found : (text : List ℕ) (result : Result Stimulus (Stop Refusal)) → Reads (stimulus_of text) result → IfOk result (IsStimulus text)
reads_found text (Ok stimulus) h = found text stimulus h
reads_found text (Err (Refused refusal)) h = tt
reads_found text (Err NoMemory) h = tt

pub reads_whole : (text : List ℕ) (result : Result Stimulus (Stop Refusal)) → Reads (stimulus_of text) result → (stimulus : Stimulus) → IsStimulus text stimulus → Reads (Ok stimulus) result
reads_whole text result h stimulus is = rw (whole text stimulus is) at h

pub reads_refused : (text : List ℕ) (result : Result Stimulus (Stop Refusal)) → Reads (stimulus_of text) result → length text ≤ LONGEST_STIMULUS → IfRefused result (FirstBreak (counting_lines text))
reads_refused text (Ok stimulus) h short = tt
reads_refused text (Err (Refused refusal)) h short = refused_first text refusal short h
reads_refused text (Err NoMemory) h short = tt

pub reads_long : (text : List ℕ) (result : Result Stimulus (Stop Refusal)) → Reads (stimulus_of text) result → LONGEST_STIMULUS < length text → Reads (Err too_long_refusal) result
reads_long text result h long = rw (long_is text long) at h

pub reads_only_long : (text : List ℕ) (result : Result Stimulus (Stop Refusal)) → Reads (stimulus_of text) result → IfRefused result (λ refusal. refusal.number ≡ rule_number TooLong → LONGEST_STIMULUS < length text)
reads_only_long text (Ok stimulus) h = tt
reads_only_long text (Err (Refused refusal)) h = λ e.
    elim (cases_Bool (nat_lt LONGEST_STIMULUS (length text))) [
      | inl long ↦ grind (arith, nat_tests)
      | inr short ↦ (let first = refused_first text refusal (grind (arith, nat_tests)) h in absurd (not_too_long first.before first.line first.rule first.part first.breaks (sym first.number ∙ e)))
    ]
reads_only_long text (Err NoMemory) h = tt

pub reads_broken : (text : List ℕ) (result : Result Stimulus (Stop Refusal)) → Reads (stimulus_of text) result → length text ≤ LONGEST_STIMULUS → (refusal : Refusal) → FirstBreak (counting_lines text) refusal → Reads (Err refusal) result
reads_broken text result h short refusal b = rw (broken text refusal short b) at h

-- What is read line by line is a text exactly where no rule is broken, and else the first break is reported.
use Rattle.std.proofs.Common.{Bool, ◌≡◌, ◌<◌, ◌≤◌, ℕ, true, false, Result, Ok, Err, List, [], ◌∷◌, ◌++◌, ◌==◌, ◌&&◌, not, length, refl, sym, ap, ◌∙◌, inl, inr, arith, nat_lt, append_assoc, append-nil, subst, true≢false}
use Rattle.std.specs.Prelude.{All, IfOk}
use Rattle.std.proofs.lemmas.Bool.{cases_Bool}
use Rattle.std.proofs.lemmas.Bool.Decides.{nat_tests}
use Rattle.std.proofs.lemmas.List.Elements.{All-head, All-tail}
use Rattle.esi_base.specs.declared.place.Place.{Place}
use Rattle.esi_base.specs.declared.place.Refusal.{Refusal}
use Rattle.esi_base.specs.declared.stop.Stop.{Stop}
use Rattle.esi_base.specs.declared.stop.Stop.TheVariants.{Refused, NoMemory}
use Rattle.esi_base.specs.Answers.{AnswersAs, Reads, StopsAs, IfRefused}
use Rattle.small_text.specs.Lines.{Part, Line, place_of, counting_lines}
use Rattle.small_text.specs.LineLaws.{PartsAscend, each_ascends}
use Rattle.line_rules.specs.LineTests.{LineTest, Breaks, BreaksNone, NoLater, ReportsFirst, refusal_of, judged, InOrder}
use Rattle.line_rules.specs.TextRules.{TextRules, AllInOrder, AreSteps, IsText, FirstBreak, steps_from, too_long_refusal, steps_of}

-- ---- one line

no_later_than : (a b c d e f : ℕ) → NoLater a b c d → NoLater c d e f → NoLater a b e f
no_later_than a b c d e f (inl x) (inl y) = inl (omega arith)
no_later_than a b c d e f (inl x) (inr y) = inl (omega (arith, y.0))
no_later_than a b c d e f (inr x) (inl y) = inl (omega (arith, x.0))
no_later_than a b c d e f (inr x) (inr y) = inr (x.0 ∙ y.0, omega (arith, x.1, y.1))

-- each break comes no earlier than the place from which the tests stand in order
breaks_after : (tests : List LineTest) (column number : ℕ) → InOrder column number tests → (other : ℕ) (part : Part) → Breaks tests other part → NoLater column number part.column other
breaks_after [] column number order other part h = absurd h
breaks_after (test ∷ rest) column number order other part (inl h) =
    let c : test.part.column ≡ part.column = ap (λ (p : Part). p.column) h.part_is in
    let P : ℕ → Type 0 = λ k. NoLater column number k test.number in
    let Q : ℕ → Type 0 = λ k. NoLater column number part.column k in
    subst Q h.number_is (subst P c order.0)
breaks_after (test ∷ rest) column number order other part (inr h) =
    no_later_than column number test.part.column test.number part.column other order.0 (breaks_after rest test.part.column test.number order.1 other part h)

-- what a line's judgement says of it
abbrev pub Explains : {S : Type 0} → List LineTest → Line → S → Result S Refusal → Type 0
Explains tests line value (Ok step) = BreaksNone tests × (value ≡ step)
Explains tests line value (Err refusal) = ReportsFirst tests line refusal

none_more : (test : LineTest) (rest : List LineTest) → test.broken ≡ false → BreaksNone rest → BreaksNone (test ∷ rest)
none_more test rest whole none number part (inl h) = true≢false (sym h.broken ∙ whole)
none_more test rest whole none number part (inr h) = none number part h

first_more : (test : LineTest) (rest : List LineTest) (column number : ℕ) (other : ℕ) (part : Part) → test.broken ≡ false → ((n : ℕ) (p : Part) → Breaks rest n p → NoLater column number p.column n) → Breaks (test ∷ rest) other part → NoLater column number part.column other
first_more test rest column number other part whole first (inl h) = absurd (true≢false (sym h.broken ∙ whole))
first_more test rest column number other part whole first (inr h) = first other part h

explain_more : {S : Type 0} → (test : LineTest) (rest : List LineTest) (line : Line) (value : S) → test.broken ≡ false → (r : Result S Refusal) → Explains rest line value r → Explains (test ∷ rest) line value r
explain_more test rest line value whole (Ok step) h = (none_more test rest whole h.0, h.1)
explain_more test rest line value whole (Err refusal) h =
    record { part = h.part; breaks = inr h.breaks; place = h.place; first = λ n p b. first_more test rest h.part.column refusal.number n p whole h.first b }

explain_first : (test : LineTest) (rest : List LineTest) (line : Line) → test.broken ≡ true → InOrder test.part.column test.number rest → ReportsFirst (test ∷ rest) line (refusal_of line test)
explain_first test rest line broken order =
    record {
      part = test.part;
      breaks = inl (record { number_is = refl; part_is = refl; broken = broken });
      place = refl;
      first = λ n p b. breaks_after (test ∷ rest) test.part.column test.number (inr (refl, omega arith), order) n p b;
    }

judged_true : {S : Type 0} → (test : LineTest) (rest : List LineTest) (line : Line) (value : S) → test.broken ≡ true → judged line (test ∷ rest) value ≡ Err (refusal_of line test)
judged_true test rest line value e = rw e refl

judged_false : {S : Type 0} → (test : LineTest) (rest : List LineTest) (line : Line) (value : S) → test.broken ≡ false → judged line (test ∷ rest) value ≡ judged line rest value
judged_false test rest line value e = rw e refl

pub explain : {S : Type 0} → (tests : List LineTest) (column number : ℕ) (line : Line) (value : S) → InOrder column number tests → Explains tests line value (judged line tests value)
explain [] column number line value order = ((λ n p h. h), refl)
explain {S = S} (test ∷ rest) column number line value order =
    let P : Result S Refusal → Type 0 = λ r. Explains (test ∷ rest) line value r in
    elim (cases_Bool test.broken) [
      | inl e ↦ subst P (sym (judged_true test rest line value e)) (explain_first test rest line e order.1)
      | inr e ↦ subst P (sym (judged_false test rest line value e)) (explain_more test rest line value e (judged line rest value) (explain rest test.part.column test.number line value order.1))
    ]

-- a line that breaks no rule says its value
pub judged_whole : {S : Type 0} → (tests : List LineTest) (line : Line) (value : S) → BreaksNone tests → judged line tests value ≡ Ok value
judged_whole [] line value none = refl
judged_whole (test ∷ rest) line value none =
    elim (cases_Bool test.broken) [
      | inl e ↦ absurd (none test.number test.part (inl (record { number_is = refl; part_is = refl; broken = e })))
      | inr e ↦ judged_false test rest line value e ∙ judged_whole rest line value (λ n p h. none n p (inr h))
    ]

same_refusal : (r s : Refusal) → r.number ≡ s.number → r.place ≡ s.place → r ≡ s
same_refusal r s number place =
    let f : ℕ → Refusal = λ n. record { number = n; place = r.place } in
    let g : Place → Refusal = λ p. record { number = s.number; place = p } in
    ap f number ∙ ap g place

record SamePlace (a b c d : ℕ) : Type 0 where
  column : a ≡ c
  number : b ≡ d

both_first : (a b c d : ℕ) → NoLater a b c d → NoLater c d a b → SamePlace a b c d
both_first a b c d (inl x) (inl y) = absurd (omega arith)
both_first a b c d (inl x) (inr y) = absurd (omega (arith, y.0))
both_first a b c d (inr x) (inl y) = absurd (omega (arith, x.0))
both_first a b c d (inr x) (inr y) = record { column = x.0; number = omega (arith, x.1, y.1) }

-- what is reported of a line is fixed
one_reported : (tests : List LineTest) (line : Line) (r s : Refusal) → ReportsFirst tests line r → ReportsFirst tests line s → r ≡ s
one_reported tests line r s a b =
    let same : SamePlace a.part.column r.number b.part.column s.number = both_first a.part.column r.number b.part.column s.number (a.first s.number b.part b.breaks) (b.first r.number a.part a.breaks) in
    let columns : place_of line.number a.part ≡ place_of line.number b.part = rw same.column refl in
    same_refusal r s same.number (a.place ∙ columns ∙ sym b.place)

broken_by : {S : Type 0} → (tests : List LineTest) (line : Line) (value : S) (refusal : Refusal) → ReportsFirst tests line refusal → (r : Result S Refusal) → Explains tests line value r → r ≡ Err refusal
broken_by tests line value refusal h (Ok step) e = absurd (e.0 refusal.number h.part h.breaks)
broken_by tests line value refusal h (Err other) e = ap Err (one_reported tests line other refusal e h)

pub judged_broken : {S : Type 0} → (tests : List LineTest) (column number : ℕ) (line : Line) (value : S) (refusal : Refusal) → InOrder column number tests → ReportsFirst tests line refusal → judged line tests value ≡ Err refusal
judged_broken tests column number line value refusal order h =
    broken_by tests line value refusal h (judged line tests value) (explain tests column number line value order)

-- ---- lines

pub from_none : {S : Type 0} → (rules : TextRules S) (before : List S) → steps_from rules before [] ≡ Ok before
unfolding steps_from
from_none rules before = refl

pub from_ok : {S : Type 0} → (rules : TextRules S) (before : List S) (line : Line) (rest : List Line) (step : S) → judged line (rules.tests before line) (rules.said line) ≡ Ok step → steps_from rules before (line ∷ rest) ≡ steps_from rules (before ++ step ∷ []) rest
unfolding steps_from
from_ok rules before line rest step is = rw is refl

pub from_err : {S : Type 0} → (rules : TextRules S) (before : List S) (line : Line) (rest : List Line) (refusal : Refusal) → judged line (rules.tests before line) (rules.said line) ≡ Err refusal → steps_from rules before (line ∷ rest) ≡ Err refusal
unfolding steps_from
from_err rules before line rest refusal is = rw is refl

joined : {S : Type 0} → (before rest : List S) (step : S) → (before ++ step ∷ []) ++ rest ≡ before ++ step ∷ rest
joined before rest step = append_assoc before (step ∷ []) rest

-- lines that are steps are read as them, whatever lines are after them
from_front : {S : Type 0} → (rules : TextRules S) (front after : List Line) (before steps : List S) → AreSteps rules before front steps → steps_from rules before (front ++ after) ≡ steps_from rules (before ++ steps) after
from_front rules [] after before [] h = rw append-nil refl
from_front rules [] after before (step ∷ steps) h = absurd h
from_front rules (line ∷ rest) after before [] h = absurd h
from_front {S = S} rules (line ∷ rest) after before (step ∷ steps) h =
    from_ok rules before line (rest ++ after) step (judged_whole (rules.tests before line) line (rules.said line) h.0 ∙ ap Ok h.1)
    ∙ from_front rules rest after (before ++ step ∷ []) steps h.2
    ∙ ap (λ (l : List S). steps_from rules l after) (joined before steps step)

pub from_whole : {S : Type 0} → (rules : TextRules S) (lines : List Line) (steps : List S) → AreSteps rules [] lines steps → steps_from rules [] lines ≡ Ok steps
from_whole rules lines steps h =
    ap (λ (l : List Line). steps_from rules [] l) (sym (append-nil lines)) ∙ from_front rules lines [] [] steps h ∙ from_none rules steps

pub from_broken : {S : Type 0} → (rules : TextRules S) → AllInOrder rules → (lines : List Line) → All PartsAscend lines → (refusal : Refusal) → FirstBreak rules [] lines refusal → steps_from rules [] lines ≡ Err refusal
from_broken rules order lines up refusal h =
    ap (λ (l : List Line). steps_from rules [] l) h.split ∙ from_front rules h.front (h.line ∷ h.after) [] h.steps h.are
    ∙ from_err rules h.steps h.line h.after refusal (judged_broken (rules.tests h.steps h.line) h.line.word.column 0 h.line (rules.said h.line) refusal (order h.steps h.line (up_at h.front h.line h.after (subst (λ (l : List Line). All PartsAscend l) h.split up))) h.reports)
  where
    up_at : (front : List Line) (line : Line) (after : List Line) → All PartsAscend (front ++ line ∷ after) → PartsAscend line
    up_at [] line after a = All-head PartsAscend line after a
    up_at (x ∷ front) line after a = up_at front line after (All-tail PartsAscend x (front ++ line ∷ after) a)

-- what reading the lines that are left says of them
pub record ReadFrom {S : Type 0} (rules : TextRules S) (before : List S) (lines : List Line) (all : List S) : Type 0 where
  pub steps : List S
  pub whole : all ≡ before ++ steps
  pub are : AreSteps rules before lines steps

abbrev pub ReadAll : {S : Type 0} → TextRules S → List S → List Line → Result (List S) Refusal → Type 0
ReadAll rules before lines (Ok all) = ReadFrom rules before lines all
ReadAll rules before lines (Err refusal) = FirstBreak rules before lines refusal

read_more : {S : Type 0} → (rules : TextRules S) (before : List S) (line : Line) (rest : List Line) (step : S) → BreaksNone (rules.tests before line) → rules.said line ≡ step → (left : Result (List S) Refusal) → ReadAll rules (before ++ step ∷ []) rest left → ReadAll rules before (line ∷ rest) left
read_more rules before line rest step none says (Ok all) h =
    record { steps = step ∷ h.steps; whole = h.whole ∙ joined before h.steps step; are = (none, says, h.are) }
read_more {S = S} rules before line rest step none says (Err refusal) h =
    let P : List S → Type 0 = λ l. ReportsFirst (rules.tests l h.line) h.line refusal in
    record { front = line ∷ h.front; line = h.line; after = h.after; split = ap (λ (l : List Line). line ∷ l) h.split; steps = step ∷ h.steps; are = (none, says, h.are); reports = subst P (joined before h.steps step) h.reports }

read_line : {S : Type 0} → (rules : TextRules S) (before : List S) (line : Line) (rest : List Line) → ((longer : List S) → ReadAll rules longer rest (steps_from rules longer rest)) → (r : Result S Refusal) → judged line (rules.tests before line) (rules.said line) ≡ r → Explains (rules.tests before line) line (rules.said line) r → ReadAll rules before (line ∷ rest) (steps_from rules before (line ∷ rest))
read_line rules before line rest next (Ok step) is e =
    rw (from_ok rules before line rest step is) (read_more rules before line rest step e.0 e.1 _ (next (before ++ step ∷ [])))
read_line {S = S} rules before line rest next (Err refusal) is e =
    let P : List S → Type 0 = λ l. ReportsFirst (rules.tests l line) line refusal in
    rw (from_err rules before line rest refusal is) (record { front = []; line = line; after = rest; split = refl; steps = []; are = tt; reports = subst P (sym (append-nil before)) e })

pub read_all : {S : Type 0} → (rules : TextRules S) → AllInOrder rules → (lines : List Line) (before : List S) → All PartsAscend lines → ReadAll rules before lines (steps_from rules before lines)
read_all rules order [] before up =
    rw (from_none rules before) (record { steps = []; whole = sym (append-nil before); are = tt })
read_all rules order (line ∷ rest) before up =
    read_line rules before line rest (λ longer. read_all rules order rest longer (All-tail PartsAscend line rest up)) (judged line (rules.tests before line) (rules.said line)) refl
    (explain (rules.tests before line) line.word.column 0 line (rules.said line) (order before line (All-head PartsAscend line rest up)))

-- ---- whole texts

short_is : {S : Type 0} → (rules : TextRules S) (text : List ℕ) → length text ≤ rules.longest → steps_of rules text ≡ steps_from rules [] (counting_lines text)
unfolding steps_of
short_is rules text short = let e : nat_lt rules.longest (length text) ≡ false = grind (arith, nat_tests) in rw e refl

long_is : {S : Type 0} → (rules : TextRules S) (text : List ℕ) → rules.longest < length text → steps_of rules text ≡ Err (too_long_refusal rules)
unfolding steps_of
long_is rules text long = let e : nat_lt rules.longest (length text) ≡ true = grind (arith, nat_tests) in rw e refl

all_read : {S : Type 0} → (rules : TextRules S) → AllInOrder rules → (text : List ℕ) → length text ≤ rules.longest → ReadAll rules [] (counting_lines text) (steps_of rules text)
all_read {S = S} rules order text short =
    let P : Result (List S) Refusal → Type 0 = λ r. ReadAll rules [] (counting_lines text) r in
    subst P (sym (short_is rules text short)) (read_all rules order (counting_lines text) [] (each_ascends text))

is_read : {S : Type 0} → (rules : TextRules S) (text : List ℕ) (all : List S) → length text ≤ rules.longest → (r : Result (List S) Refusal) → r ≡ Ok all → ReadAll rules [] (counting_lines text) r → IsText rules text all
is_read {S = S} rules text all short (Ok other) is h =
    let same : h.steps ≡ all = (let e : other ≡ all = cc in sym h.whole ∙ e) in
    record { short = short; are = subst (λ (l : List S). AreSteps rules [] (counting_lines text) l) same h.are }
is_read rules text all short (Err refusal) is h = absurd (cc)

is_refused : {S : Type 0} → (rules : TextRules S) (text : List ℕ) (refusal : Refusal) → (r : Result (List S) Refusal) → r ≡ Err refusal → ReadAll rules [] (counting_lines text) r → FirstBreak rules [] (counting_lines text) refusal
is_refused rules text refusal (Ok other) is h = absurd (cc)
is_refused rules text refusal (Err other) is h =
    let same : other ≡ refusal = cc in
    subst (λ (r : Refusal). FirstBreak rules [] (counting_lines text) r) same h

-- A text is read exactly where it is one, and then as its steps.
pub found : {S : Type 0} → (rules : TextRules S) → AllInOrder rules → (text : List ℕ) (all : List S) → steps_of rules text ≡ Ok all → IsText rules text all
found rules order text all is =
    elim (cases_Bool (nat_lt rules.longest (length text))) [
      | inl e ↦ (let l : steps_of rules text ≡ Err (too_long_refusal rules) = long_is rules text (grind (arith, nat_tests)) in absurd (cc))
      | inr e ↦ (let short : length text ≤ rules.longest = grind (arith, nat_tests) in is_read rules text all short (steps_of rules text) is (all_read rules order text short))
    ]

pub whole : {S : Type 0} → (rules : TextRules S) (text : List ℕ) (steps : List S) → IsText rules text steps → steps_of rules text ≡ Ok steps
whole rules text steps h = short_is rules text h.short ∙ from_whole rules (counting_lines text) steps h.are

-- It is refused exactly where a line breaks a rule.
pub refused : {S : Type 0} → (rules : TextRules S) → AllInOrder rules → (text : List ℕ) (refusal : Refusal) → length text ≤ rules.longest → steps_of rules text ≡ Err refusal → FirstBreak rules [] (counting_lines text) refusal
refused rules order text refusal short is = is_refused rules text refusal (steps_of rules text) is (all_read rules order text short)

pub broken : {S : Type 0} → (rules : TextRules S) → AllInOrder rules → (text : List ℕ) (refusal : Refusal) → length text ≤ rules.longest → FirstBreak rules [] (counting_lines text) refusal → steps_of rules text ≡ Err refusal
broken rules order text refusal short h =
    short_is rules text short ∙ from_broken rules order (counting_lines text) (each_ascends text) refusal h

-- ---- the clauses of a reader whose answer is seen as steps

pub reads_found : {S T : Type 0} → (rules : TextRules S) → AllInOrder rules → (text : List ℕ) (view : T → List S) (result : Result T (Stop Refusal)) → AnswersAs view (steps_of rules text) result → IfOk result (λ value. IsText rules text (view value))
reads_found rules order text view (Ok value) h = found rules order text (view value) h
reads_found rules order text view (Err stop) h = tt

pub reads_whole : {S T : Type 0} → (rules : TextRules S) (text : List ℕ) (view : T → List S) (result : Result T (Stop Refusal)) → AnswersAs view (steps_of rules text) result → (steps : List S) → IsText rules text steps → AnswersAs view (Ok steps) result
reads_whole {S = S} rules text view result h steps is =
    subst (λ (m : Result (List S) Refusal). AnswersAs view m result) (whole rules text steps is) h

pub reads_refused : {S T : Type 0} → (rules : TextRules S) → AllInOrder rules → (text : List ℕ) (view : T → List S) (result : Result T (Stop Refusal)) → AnswersAs view (steps_of rules text) result → length text ≤ rules.longest → IfRefused result (FirstBreak rules [] (counting_lines text))
reads_refused rules order text view (Ok value) h short = tt
reads_refused rules order text view (Err (Refused refusal)) h short = refused rules order text refusal short h
reads_refused rules order text view (Err NoMemory) h short = tt

pub reads_broken : {S T : Type 0} → (rules : TextRules S) → AllInOrder rules → (text : List ℕ) (view : T → List S) (result : Result T (Stop Refusal)) → AnswersAs view (steps_of rules text) result → length text ≤ rules.longest → (refusal : Refusal) → FirstBreak rules [] (counting_lines text) refusal → AnswersAs view (Err refusal) result
reads_broken {S = S} rules order text view result h short refusal b =
    subst (λ (m : Result (List S) Refusal). AnswersAs view m result) (broken rules order text refusal short b) h

pub reads_long : {S T : Type 0} → (rules : TextRules S) (text : List ℕ) (view : T → List S) (result : Result T (Stop Refusal)) → AnswersAs view (steps_of rules text) result → rules.longest < length text → AnswersAs view (Err (too_long_refusal rules)) result
reads_long {S = S} rules text view result h long =
    subst (λ (m : Result (List S) Refusal). AnswersAs view m result) (long_is rules text long) h

-- ---- the same clauses where the answer is made of its steps alone

pub value_is : {S T : Type 0} → (view : T → List S) (made : List S → T) → ((value : T) → made (view value) ≡ value) → (value : T) (result : Result T (Stop Refusal)) → AnswersAs view (Ok (view value)) result → Reads (Ok value) result
value_is view made back value (Ok other) h =
    let e : view value ≡ view other = cc in
    ap Ok (sym (back value) ∙ ap made e ∙ back other)
value_is view made back value (Err (Refused refusal)) h = absurd (cc)
value_is view made back value (Err NoMemory) h = tt

pub refusal_is : {S T : Type 0} → (view : T → List S) (refusal : Refusal) (result : Result T (Stop Refusal)) → AnswersAs view (Err refusal) result → Reads (Err refusal) result
refusal_is view refusal (Ok value) h = absurd (cc)
refusal_is view refusal (Err (Refused other)) h = (let e : refusal ≡ other = cc in ap Err e)
refusal_is view refusal (Err NoMemory) h = tt

-- What a reader of a whole text promises, all at once.
pub record ReadsText {S T : Type 0} (rules : TextRules S) (view : T → List S) (text : List ℕ) (result : Result T (Stop Refusal)) : Type 0 where
  pub found : IfOk result (λ value. IsText rules text (view value))
  pub whole : (value : T) → IsText rules text (view value) → Reads (Ok value) result
  pub refused : length text ≤ rules.longest → IfRefused result (FirstBreak rules [] (counting_lines text))
  pub broken : length text ≤ rules.longest → (refusal : Refusal) → FirstBreak rules [] (counting_lines text) refusal → Reads (Err refusal) result
  pub too_long : rules.longest < length text → Reads (Err (too_long_refusal rules)) result
  pub only_too_long : IfRefused result (λ refusal. refusal.number ≡ rules.too_long → rules.longest < length text)

-- ---- one line more of a reader that keeps the steps so far

pub next_line : {S : Type 0} → (rules : TextRules S) (before : List S) (line : Line) (all rest : List Line) (step : S) (meaning : Result (List S) Refusal) → all ≡ line ∷ rest → judged line (rules.tests before line) (rules.said line) ≡ Ok step → steps_from rules before all ≡ meaning → steps_from rules (before ++ step ∷ []) rest ≡ meaning
next_line rules before line all rest step meaning cut is so =
    sym (from_ok rules before line rest step is) ∙ ap (λ (l : List Line). steps_from rules before l) (sym cut) ∙ so

pub last_line : {S : Type 0} → (rules : TextRules S) (before : List S) (all : List Line) (meaning : Result (List S) Refusal) → all ≡ [] → steps_from rules before all ≡ meaning → meaning ≡ Ok before
last_line rules before all meaning none so =
    sym so ∙ ap (λ (l : List Line). steps_from rules before l) none ∙ from_none rules before

pub stopped_line : {S : Type 0} → (rules : TextRules S) (before : List S) (line : Line) (all rest : List Line) (stop : Stop Refusal) (meaning : Result (List S) Refusal) → all ≡ line ∷ rest → StopsAs (judged line (rules.tests before line) (rules.said line)) stop → steps_from rules before all ≡ meaning → StopsAs meaning stop
stopped_line rules before line all rest (Refused refusal) meaning cut is so =
    sym so ∙ ap (λ (l : List Line). steps_from rules before l) cut ∙ from_err rules before line rest refusal is
stopped_line rules before line all rest NoMemory meaning cut is so = tt

-- ---- a text that is too long

-- No test of a line has the number of a text that is too long.
abbrev pub NoneTooLong : {S : Type 0} → TextRules S → Type 0
NoneTooLong {S} rules = (before : List S) (line : Line) (part : Part) → Breaks (rules.tests before line) rules.too_long part → ⊥

only_long : {S : Type 0} → (rules : TextRules S) → NoneTooLong rules → (lines : List Line) (refusal : Refusal) → refusal.number ≡ rules.too_long → FirstBreak rules [] lines refusal → ⊥
only_long rules none lines refusal is h =
    none h.steps h.line h.reports.part (subst (λ (n : ℕ). Breaks (rules.tests h.steps h.line) n h.reports.part) is h.reports.breaks)

pub reads_only_long : {S T : Type 0} → (rules : TextRules S) → AllInOrder rules → NoneTooLong rules → (text : List ℕ) (view : T → List S) (result : Result T (Stop Refusal)) → AnswersAs view (steps_of rules text) result → IfRefused result (λ refusal. refusal.number ≡ rules.too_long → rules.longest < length text)
reads_only_long rules order none text view (Ok value) h = tt
reads_only_long rules order none text view (Err (Refused refusal)) h = λ is.
    elim (cases_Bool (nat_lt rules.longest (length text))) [
      | inl e ↦ grind (arith, nat_tests)
      | inr e ↦ (let short : length text ≤ rules.longest = grind (arith, nat_tests) in absurd (only_long rules none (counting_lines text) refusal is (refused rules order text refusal short h)))
    ]
reads_only_long rules order none text view (Err NoMemory) h = tt

-- Each of the tests has another number than this one.
abbrev pub has_others : ℕ → List LineTest → Bool
has_others number [] = true
has_others number (test ∷ rest) = not (test.number == number) && has_others number rest

apart : (a b : ℕ) → a ≡ b → (a == b) ≡ false → ⊥
apart a b same e = grind (arith, nat_tests)

pub none_has : (number : ℕ) (tests : List LineTest) (part : Part) → has_others number tests ≡ true → Breaks tests number part → ⊥
none_has number [] part others h = h
none_has number (test ∷ rest) part others h =
    elim (cases_Bool (test.number == number)) [
      | inl e ↦ true≢false (sym (rw e at others))
      | inr e ↦ (let left : has_others number rest ≡ true = rw e at others in elim h [ inl b ↦ apart test.number number b.number_is e | inr b ↦ none_has number rest part left b ])
    ]

pub reads_text : {S T : Type 0} → (rules : TextRules S) → AllInOrder rules → NoneTooLong rules → (view : T → List S) (made : List S → T) → ((value : T) → made (view value) ≡ value) → (text : List ℕ) (result : Result T (Stop Refusal)) → AnswersAs view (steps_of rules text) result → ReadsText rules view text result
reads_text rules order none view made back text result h = record {
  found = reads_found rules order text view result h;
  whole = λ value is. value_is view made back value result (reads_whole rules text view result h (view value) is);
  refused = reads_refused rules order text view result h;
  broken = λ short refusal is. refusal_is view refusal result (reads_broken rules order text view result h short refusal is);
  too_long = λ long. refusal_is view (too_long_refusal rules) result (reads_long rules text view result h long);
  only_too_long = reads_only_long rules order none text view result h;
}

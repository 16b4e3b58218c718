-- The steps of a stimulus, one line at a time.
use Rattle.std.proofs.Common.{◌≡◌, ◌+◌, ◌<◌, ◌≤◌, ℕ, Bool, Option, Some, None, Result, Ok, Err, List, [], ◌∷◌, ◌++◌, refl, sym, ◌∙◌, inl, inr, arith, append_assoc, append-nil, nat_lt, nat_le}
use Rattle.std.proofs.lemmas.Bool.{cases_Bool}
use Rattle.std.specs.Prelude.{codes}
use Rattle.std.specs.Str.{bytes_eq}
use Rattle.std.proofs.lemmas.Bool.Decides.{nat_tests}
use Rattle.esi_base.specs.declared.place.Refusal.{Refusal}
use Rattle.esi_base.specs.declared.stop.Stop.{Stop}
use Rattle.esi_base.specs.declared.stop.Stop.TheVariants.{Refused, NoMemory}
use Rattle.esi_base.specs.Answers.{◌>>=◌, Reads}
use Rattle.small_text.specs.Lines.{Part, Line}
use Rattle.small_text.specs.Numbers.{number_of}
use Rattle.small_text.specs.Hexadecimal.{octets_of}
use Rattle.stimulus_text.specs.declared.limits.TheConstants.{LARGEST_RUN, STIMULUS_CYCLES, STIMULUS_LINES}
use Rattle.stimulus_text.specs.declared.step.Step.{Step}
use Rattle.stimulus_text.specs.Stimulus.{put_of, switch_of, ready_of, run_of, put_step, ready_step, run_step, step_of, cycles_of, steps_of}

-- steps that were read already, before those that are left
abbrev pub after_steps : List Step → Result (List Step) Refusal → Result (List Step) Refusal
after_steps front (Ok rest) = Ok (front ++ rest)
after_steps front (Err e) = Err e

-- one more step in front of those that are left
abbrev pub with_step : Step → Result (List Step) Refusal → Result (List Step) Refusal
with_step step (Ok rest) = Ok (step ∷ rest)
with_step step (Err e) = Err e

bound : (step : Step) (left : Result (List Step) Refusal) → (left >>= (λ steps. Ok (step ∷ steps))) ≡ with_step step left
bound step (Ok rest) = refl
bound step (Err e) = refl

pub steps_ok : (lines cycles : ℕ) (line : Line) (rest : List Line) (step : Step) → step_of lines cycles line ≡ Ok step → steps_of lines cycles (line ∷ rest) ≡ with_step step (steps_of (lines + 1) (cycles + cycles_of step) rest)
unfolding steps_of
steps_ok lines cycles line rest step is = rw is (bound step (steps_of (lines + 1) (cycles + cycles_of step) rest))

after_push : (front : List Step) (step : Step) (left : Result (List Step) Refusal) → after_steps (front ++ step ∷ []) left ≡ after_steps front (with_step step left)
after_push front step (Ok rest) = rw append_assoc refl
after_push front step (Err e) = refl

-- a line is read and the steps go on after it
pub steps_more : (front : List Step) (lines cycles : ℕ) (line : Line) (all rest : List Line) (step : Step) (whole : Result (List Step) Refusal) → all ≡ line ∷ rest → step_of lines cycles line ≡ Ok step → after_steps front (steps_of lines cycles all) ≡ whole → after_steps (front ++ step ∷ []) (steps_of (lines + 1) (cycles + cycles_of step) rest) ≡ whole
steps_more front lines cycles line all rest step whole cut is before =
    after_push front step (steps_of (lines + 1) (cycles + cycles_of step) rest) ∙ rw (sym (steps_ok lines cycles line rest step is), sym cut) before

-- a line is refused, and so are all
steps_stop : (front : List Step) (lines cycles : ℕ) (line : Line) (all rest : List Line) (e : Refusal) (whole : Result (List Step) Refusal) → all ≡ line ∷ rest → step_of lines cycles line ≡ Err e → after_steps front (steps_of lines cycles all) ≡ whole → whole ≡ Err e
unfolding steps_of
steps_stop front lines cycles line all rest e whole cut is before = sym before ∙ rw (cut, is) refl

-- no line is left
pub steps_end : (front : List Step) (lines cycles : ℕ) (all : List Line) (whole : Result (List Step) Refusal) → all ≡ [] → after_steps front (steps_of lines cycles all) ≡ whole → whole ≡ Ok front
unfolding steps_of
steps_end front lines cycles all whole none before = sym before ∙ rw (none, append-nil) refl

-- a line that is read keeps both limits
abbrev Bounded : ℕ → ℕ → Result Step Refusal → Type 0
Bounded lines cycles (Ok step) = (lines < STIMULUS_LINES) × (cycles + cycles_of step ≤ STIMULUS_CYCLES)
Bounded lines cycles (Err _) = Unit {0}

bounded_put_of : (lines cycles : ℕ) (line : Line) (name digits : Part) (read : Option (List ℕ)) → lines < STIMULUS_LINES → cycles ≤ STIMULUS_CYCLES → Bounded lines cycles (put_of line name digits read)
bounded_put_of lines cycles line name digits None few low = tt
bounded_put_of lines cycles line name digits (Some octets) few low = (few, omega arith)

bounded_ready_of : (lines cycles : ℕ) (line : Line) (name digit : Part) (read : Option Bool) → lines < STIMULUS_LINES → cycles ≤ STIMULUS_CYCLES → Bounded lines cycles (ready_of line name digit read)
bounded_ready_of lines cycles line name digit None few low = tt
bounded_ready_of lines cycles line name digit (Some on) few low = (few, omega arith)

bounded_run_of : (lines cycles : ℕ) (line : Line) (digits : Part) (read : Option ℕ) → lines < STIMULUS_LINES → Bounded lines cycles (run_of cycles line digits read)
bounded_run_of lines cycles line digits None few = tt
bounded_run_of lines cycles line digits (Some more) few =
    elim (cases_Bool (nat_lt STIMULUS_CYCLES (cycles + more))) [
      | inl e ↦ rw e tt
      | inr e ↦ rw e (few, grind (arith, nat_tests))
    ]

bounded_put : (lines cycles : ℕ) (line : Line) (others : List Part) → cycles ≤ STIMULUS_CYCLES → Bounded lines cycles (put_step lines line others)
bounded_put lines cycles line [] low = tt
bounded_put lines cycles line (a ∷ []) low = tt
bounded_put lines cycles line (a ∷ b ∷ []) low =
    elim (cases_Bool (nat_le STIMULUS_LINES lines)) [
      | inl e ↦ rw e tt
      | inr e ↦ rw e (bounded_put_of lines cycles line a b (octets_of b.octets) (grind (arith, nat_tests)) low)
    ]
bounded_put lines cycles line (a ∷ b ∷ c ∷ others) low = tt

bounded_ready : (lines cycles : ℕ) (line : Line) (others : List Part) → cycles ≤ STIMULUS_CYCLES → Bounded lines cycles (ready_step lines line others)
bounded_ready lines cycles line [] low = tt
bounded_ready lines cycles line (a ∷ []) low = tt
bounded_ready lines cycles line (a ∷ b ∷ []) low =
    elim (cases_Bool (nat_le STIMULUS_LINES lines)) [
      | inl e ↦ rw e tt
      | inr e ↦ rw e (bounded_ready_of lines cycles line a b (switch_of b.octets) (grind (arith, nat_tests)) low)
    ]
bounded_ready lines cycles line (a ∷ b ∷ c ∷ others) low = tt

bounded_run : (lines cycles : ℕ) (line : Line) (others : List Part) → Bounded lines cycles (run_step lines cycles line others)
bounded_run lines cycles line [] = tt
bounded_run lines cycles line (a ∷ []) =
    elim (cases_Bool (nat_le STIMULUS_LINES lines)) [
      | inl e ↦ rw e tt
      | inr e ↦ rw e (bounded_run_of lines cycles line a (number_of LARGEST_RUN a.octets) (grind (arith, nat_tests)))
    ]
bounded_run lines cycles line (a ∷ b ∷ others) = tt

bounded : (lines cycles : ℕ) (line : Line) → cycles ≤ STIMULUS_CYCLES → Bounded lines cycles (step_of lines cycles line)
unfolding step_of
bounded lines cycles line low =
    elim (cases_Bool (bytes_eq line.word.octets (codes "put"))) [
      | inl p ↦ rw p (bounded_put lines cycles line line.others low)
      | inr p ↦ elim (cases_Bool (bytes_eq line.word.octets (codes "ready"))) [
        | inl y ↦ rw (p, y) (bounded_ready lines cycles line line.others low)
        | inr y ↦ elim (cases_Bool (bytes_eq line.word.octets (codes "run"))) [
          | inl r ↦ rw (p, y, r) (bounded_run lines cycles line line.others)
          | inr r ↦ rw (p, y, r) tt
        ]
      ]
    ]

pub step_bounds : (lines cycles : ℕ) (line : Line) (step : Step) → cycles ≤ STIMULUS_CYCLES → step_of lines cycles line ≡ Ok step → (lines < STIMULUS_LINES) × (cycles + cycles_of step ≤ STIMULUS_CYCLES)
step_bounds lines cycles line step low is = rw is at (bounded lines cycles line low)

-- a line that stops the reader stops it for all
pub reads_stop : (front : List Step) (lines cycles : ℕ) (line : Line) (all rest : List Line) (stop : (Stop Refusal)) (whole : Result (List Step) Refusal) → all ≡ line ∷ rest → Reads (step_of lines cycles line) (Err stop) → after_steps front (steps_of lines cycles all) ≡ whole → Reads whole (Err stop)
reads_stop front lines cycles line all rest (Refused e) whole cut is before = steps_stop front lines cycles line all rest e whole cut is before
reads_stop front lines cycles line all rest NoMemory whole cut is before = tt

-- a line that is refused refuses the lines from it on
pub steps_err : (lines cycles : ℕ) (line : Line) (rest : List Line) (e : Refusal) → step_of lines cycles line ≡ Err e → steps_of lines cycles (line ∷ rest) ≡ Err e
unfolding steps_of
steps_err lines cycles line rest e is = rw is refl

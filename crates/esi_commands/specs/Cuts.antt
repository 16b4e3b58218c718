-- A text up to one octet above its limit means what the whole text means: it is too long where the whole text is, and else
-- it is the whole text.
use Rattle.std.specs.Prelude.{◌≡◌, ℕ, ◌+◌, ◌<◌, nat_lt, if◌then◌else◌, Ok, Err, List, length, take}
use Rattle.std.proofs.Common.{inl, inr, sym, ◌∙◌, ap, arith}
use Rattle.std.proofs.lemmas.List.{length-take, take_all}
use Rattle.std.proofs.lemmas.Bool.{cases_lt, lt-ltb}
use Rattle.esi_base.specs.Answers.{◌>>=◌}
use Rattle.small_text.specs.Lines.{counting_lines}
use Rattle.bundle_check.specs.Checking.{checked_of}
use Rattle.design_expressions.specs.declared.limits.TheConstants.{OPEN_EXPRESSIONS}
use Rattle.esi_text.specs.Designs.{design_of, design_of_depth, too_long, meaning_in, meaning_of_tokens}
use Rattle.esi_text.specs.declared.limits.TheConstants.{LONGEST_DESIGN}
use Rattle.stimulus_text.specs.Stimulus.{stimulus_of, steps_of, too_long_refusal}
use Rattle.stimulus_text.specs.declared.step.Stimulus.{Stimulus}
use Rattle.esi_commands.specs.Inputs.{in_file, input_of, pipe_of, pipe_in, actions_of_text, actions_of}
use Rattle.esi_commands.specs.declared.input.Input.{Input}
use Rattle.stimulus_text.specs.declared.limits.TheConstants.{LONGEST_STIMULUS}

-- a test for more than the limit comes out alike on the text and on its prefix
cut_text : {A : Type 0} (limit : ℕ) (text : List ℕ) (long : A) (meaning : List ℕ → A)
    → (if nat_lt limit (length (take (limit + 1) text)) then long else meaning (take (limit + 1) text)) ≡ (if nat_lt limit (length text) then long else meaning text)
cut_text limit text long meaning =
    elim (cases_lt limit (length text)) [
      | inl above ↦
          ap (λ b. if b then long else meaning (take (limit + 1) text)) (lt-ltb limit (length (take (limit + 1) text)) (omega (arith, length-take (limit + 1) text)))
          ∙ sym (ap (λ b. if b then long else meaning text) (lt-ltb limit (length text) above))
      | inr within ↦ ap (λ t. if nat_lt limit (length t) then long else meaning t) (take_all (limit + 1) text (omega arith))
    ]

pub design_cut : (text : List ℕ) → design_of (take (LONGEST_DESIGN + 1) text) ≡ design_of text
unfolding design_of_depth
design_cut text = cut_text LONGEST_DESIGN text (Err too_long) (λ t. meaning_in t (meaning_of_tokens OPEN_EXPRESSIONS t))

pub stimulus_cut : (text : List ℕ) → stimulus_of (take (LONGEST_STIMULUS + 1) text) ≡ stimulus_of text
unfolding stimulus_of
stimulus_cut text =
    cut_text LONGEST_STIMULUS text (Err too_long_refusal)
    (λ t. steps_of 0 0 (counting_lines t) >>= λ steps. let made : Stimulus = record { steps = steps } in Ok made)

-- a design that is too long is refused, whatever it says
long_pipe : (text : List ℕ) → LONGEST_DESIGN < length text → pipe_of text ≡ Err too_long
unfolding design_of_depth
long_pipe text above =
    ap (λ b. (if b then Err too_long else meaning_in text (meaning_of_tokens OPEN_EXPRESSIONS text)) >>= checked_of text >>= pipe_in) (lt-ltb LONGEST_DESIGN (length text) above)

pipe_cut : (text : List ℕ) → pipe_of (take (LONGEST_DESIGN + 1) text) ≡ pipe_of text
pipe_cut text =
    elim (cases_lt LONGEST_DESIGN (length text)) [
      | inl above ↦ long_pipe (take (LONGEST_DESIGN + 1) text) (omega (arith, length-take (LONGEST_DESIGN + 1) text)) ∙ sym (long_pipe text above)
      | inr within ↦ ap pipe_of (take_all (LONGEST_DESIGN + 1) text (omega arith))
    ]

-- so both texts of a simulation are checked as whole texts are
pub input_cut : (design stim : List ℕ) → input_of (take (LONGEST_DESIGN + 1) design) (take (LONGEST_STIMULUS + 1) stim) ≡ input_of design stim
unfolding input_of
input_cut design stim =
    ap (λ r. in_file 0 r >>= λ pipe. in_file 1 (actions_of_text pipe.0 (take (LONGEST_STIMULUS + 1) stim)) >>= λ ds. let input : Input = record { stages = pipe.1; steps = ds } in Ok input) (pipe_cut design)
    ∙ ap (λ r. in_file 0 (pipe_of design) >>= λ pipe. in_file 1 (r >>= λ read. actions_of pipe.0 read.steps) >>= λ ds. let input : Input = record { stages = pipe.1; steps = ds } in Ok input) (stimulus_cut stim)

-- What `sim` promises holds, and only what its files are read for counts.
use Rattle.std.specs.Prelude.{◌≡◌, zero, suc, ℕ, List, [], ◌∷◌, Result, Ok, Err, refl}
use Rattle.std.proofs.Common.{ap, arith, rules}
use Rattle.esi_base.specs.Answers.{◌>>=◌}
use Rattle.esi_base.specs.declared.place.Refusal.{Refusal}
use Rattle.cycle_rules.specs.declared.action.Action.{Action}
use Rattle.channel_types.specs.declared.esi_type.EsiType.{EsiType}
use Rattle.pipe_cells.specs.PipeRun.{pipe_hands_in_order, pipe_takes_in_order}
use Rattle.esi_text.specs.declared.limits.TheConstants.{LONGEST_DESIGN}
use Rattle.command_runs.specs.Account.{cut_texts}
use Rattle.command_runs.specs.declared.work.FileRefusal.{FileRefusal}
use Rattle.esi_commands.specs.Cuts.{input_cut}
use Rattle.esi_commands.specs.Inputs.{in_file, input_of, pipe_of, actions_of_text}
use Rattle.esi_commands.specs.Sim.{simulates, sim_meaning, HasStages, BlamesFirst, SimPromise}
use Rattle.esi_commands.specs.Texts.{text_at}
use Rattle.esi_commands.specs.declared.input.Input.{Input}
use Rattle.stimulus_text.specs.declared.limits.TheConstants.{LONGEST_STIMULUS}

pub sim_cut : (texts : List (List ℕ)) → sim_meaning (cut_texts (LONGEST_DESIGN ∷ LONGEST_STIMULUS ∷ []) texts) ≡ sim_meaning texts
sim_cut [] = refl
sim_cut (design ∷ []) = ap simulates (input_cut design [])
sim_cut (design ∷ stimulus ∷ others) = ap simulates (input_cut design stimulus)

-- the input of a pipe, after the stimulus that is checked by its type
abbrev behind : Result (EsiType × ℕ) Refusal → (EsiType → Result (List Action) Refusal) → Result Input FileRefusal
behind p q = in_file 0 p >>= λ pipe. in_file 1 (q pipe.0) >>= λ ds. let made : Input = record { stages = pipe.1; steps = ds } in Ok made

-- the design that was accepted has the stages of the input
first_ok : (p : Result (EsiType × ℕ) Refusal) (q : EsiType → Result (List Action) Refusal) (input : Input) → behind p q ≡ Ok input → HasStages p input.stages
first_ok (Ok pipe) q input e = of (q pipe.0) e
  where
    of : (r : Result (List Action) Refusal) → (in_file 1 r >>= λ ds. let made : Input = record { stages = pipe.1; steps = ds } in Ok made) ≡ Ok input → pipe.1 ≡ input.stages
    of (Ok ds) e = cc
    of (Err r) e = absurd (cc e)
first_ok (Err r) q input e = absurd (cc e)

abbrev word_of_refusal : Result Input FileRefusal → ℕ
word_of_refusal (Ok input) = 0
word_of_refusal (Err file_refusal) = file_refusal.word

abbrev refusal_in_file : Refusal → Result Input FileRefusal → Refusal
refusal_in_file other (Ok input) = other
refusal_in_file other (Err file_refusal) = file_refusal.refusal

-- a refusal that blames the first word is the design's, and one that blames the second comes after a design that is accepted
first_err : (p : Result (EsiType × ℕ) Refusal) (q : EsiType → Result (List Action) Refusal) (word : ℕ) (refusal : Refusal) → behind p q ≡ Err (record { word = word; refusal = refusal }) → BlamesFirst p word refusal
first_err (Ok pipe) q zero refusal e = of (q pipe.0) e
  where
    of : (r : Result (List Action) Refusal) → (in_file 1 r >>= λ ds. let made : Input = record { stages = pipe.1; steps = ds } in Ok made) ≡ Err (record { word = zero; refusal = refusal })
        → BlamesFirst {A = EsiType × ℕ} (Ok pipe) zero refusal
    of (Ok ds) e = absurd (cc e)
    of (Err r) e = let one : 1 ≡ 0 = ap word_of_refusal e in absurd (omega (arith, one))
first_err (Ok pipe) q (suc word) refusal e = search rules
first_err (Err r) q zero refusal e = ap (λ x. let made : Result (EsiType × ℕ) Refusal = Err x in made) (ap (refusal_in_file r) e)
first_err (Err r) q (suc word) refusal e = let none : 0 ≡ suc word = ap word_of_refusal e in absurd (omega (arith, none))

promised : (texts : List (List ℕ)) (meaning : Result Input FileRefusal) → input_of (text_at texts 0) (text_at texts 1) ≡ meaning → SimPromise texts (simulates meaning)
unfolding input_of
promised texts (Ok input) means = record {
  input = input;
  accepted = means;
  stages = first_ok (pipe_of (text_at texts 0)) (λ ty. actions_of_text ty (text_at texts 1)) input means;
  lines = refl;
  in_order = pipe_hands_in_order input.stages input.steps;
  taken_in_order = pipe_takes_in_order input.stages input.steps;
}
promised texts (Err file_refusal) means = first_err (pipe_of (text_at texts 0)) (λ ty. actions_of_text ty (text_at texts 1)) file_refusal.word file_refusal.refusal means

pub sim_promised : (texts : List (List ℕ)) → SimPromise texts (sim_meaning texts)
sim_promised texts = promised texts (input_of (text_at texts 0) (text_at texts 1)) refl

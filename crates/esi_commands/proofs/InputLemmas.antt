-- How the design and the stimulus are checked, one after the other, and the cycles of the actions.
use Rattle.std.proofs.Common.{◌≡◌, ℕ, ◌+◌, ◌≤◌, Bool, true, false, if◌then◌else◌, Result, Ok, Err, List, [], ◌∷◌, IfOk, codes, refl, sym, ◌∙◌, ap, subst, ◌||◌, arith}
use Rattle.std.specs.Prelude.{nat_lt, Contains}
use Rattle.std.specs.List.{sum_by}
use Rattle.std.specs.Str.{bytes_eq}
use Rattle.std.proofs.lemmas.Bool.{or_parts, ltb-false}
use Rattle.std.proofs.lemmas.List.Sums.{sum_by-cons}
use Rattle.esi_base.specs.Answers.{◌>>=◌, Reads, StopsAs}
use Rattle.esi_base.specs.declared.place.Refusal.{Refusal}
use Rattle.esi_base.specs.declared.stop.Stop.{Stop}
use Rattle.esi_base.specs.declared.stop.Stop.TheVariants.{Refused, NoMemory}
use Rattle.cycle_rules.specs.Simulation.{cycles_in, cycles_of_action}
use Rattle.cycle_rules.specs.declared.action.Action.{Action}
use Rattle.cycle_rules.specs.declared.action.Action.TheVariants.{Ready as ready}
use Rattle.channel_types.specs.declared.esi_type.EsiType.{EsiType}
use Rattle.channel_typing.specs.Misfits.{misfits}
use Rattle.name_tables.specs.FirstPlaces.{Nowhere}
use Rattle.name_tables.specs.PlaceLaws.{contains_here}
use Rattle.check_rules.specs.Checks.{Accepts, checks}
use Rattle.check_rules.specs.Counts.{outside}
use Rattle.check_rules.specs.declared.limits.TheConstants.{MIN_STAGES, MAX_STAGES}
use Rattle.bundle_check.specs.Checking.{checked_of}
use Rattle.design_tree.specs.declared.design.Pipe.{Pipe}
use Rattle.design_tree.specs.declared.design.DesignTree.{DesignTree}
use Rattle.design_tree.specs.declared.design.DesignTree.TheVariants as F
use Rattle.esi_text.specs.Designs.{design_of}
use Rattle.stimulus_text.specs.Stimulus.{cycles_of}
use Rattle.stimulus_text.specs.declared.step.Step.{Step}
use Rattle.stimulus_text.specs.declared.step.Step.TheVariants.{Put, Ready, Run}
use Rattle.esi_commands.specs.Inputs.{stimulus_refusal, in_file, input_of, pipe_in, pipe_of, actions_of_text, action_of, actions_of, put_of, word_of}
use Rattle.command_runs.specs.Work.{stop_in_file}
use Rattle.command_runs.specs.declared.work.FileRefusal.{FileRefusal}
use Rattle.esi_commands.specs.declared.input.Input.{Input}
use Rattle.stimulus_text.specs.declared.limits.TheConstants.{STIMULUS_CYCLES}
use Rattle.stimulus_text.specs.declared.rule.StimulusRule.TheVariants.{UnknownEndpoint}

-- what the stimulus makes of an input, after a pipe that was accepted
abbrev behind_pipe : List ℕ → EsiType × ℕ → Result Input FileRefusal
behind_pipe stimulus pipe = in_file 1 (actions_of_text pipe.0 stimulus) >>= λ ds. let input : Input = record { stages = pipe.1; steps = ds } in Ok input

-- both texts are accepted
pub input_of_both : (design stimulus : List ℕ) (pipe : EsiType × ℕ) (steps : List Action) → pipe_of design ≡ Ok pipe → actions_of_text pipe.0 stimulus ≡ Ok steps
    → input_of design stimulus ≡ Ok (record { stages = pipe.1; steps = steps })
unfolding input_of
input_of_both design stimulus pipe steps p q =
    ap (λ r. in_file 0 r >>= behind_pipe stimulus) p
    ∙ ap (λ r. in_file 1 r >>= λ ds. let input : Input = record { stages = pipe.1; steps = ds } in Ok input) q

-- the design stops it
pub stop_in_design : (design stimulus : List ℕ) (stop : (Stop Refusal)) → Reads (pipe_of design) (Err stop) → Reads (input_of design stimulus) (Err (stop_in_file 0 stop))
unfolding input_of
stop_in_design design stimulus (Refused refusal) p = ap (λ r. in_file 0 r >>= behind_pipe stimulus) p
stop_in_design design stimulus NoMemory p = tt

-- the stimulus stops it
pub stop_in_stimulus : (design stimulus : List ℕ) (pipe : EsiType × ℕ) (stop : (Stop Refusal)) → pipe_of design ≡ Ok pipe → Reads (actions_of_text pipe.0 stimulus) (Err stop)
    → Reads (input_of design stimulus) (Err (stop_in_file 1 stop))
unfolding input_of
stop_in_stimulus design stimulus pipe (Refused refusal) p q =
    ap (λ r. in_file 0 r >>= behind_pipe stimulus) p
    ∙ ap (λ r. in_file 1 r >>= λ ds. let input : Input = record { stages = pipe.1; steps = ds } in Ok input) q
stop_in_stimulus design stimulus pipe NoMemory p q = tt

-- ---- the design

-- the number of stages of a pipe that breaks no rule
few : (value at : ℕ) → Nowhere (Contains (outside MIN_STAGES MAX_STAGES value at)) → value ≤ MAX_STAGES
few value at kept = tested (nat_lt value MIN_STAGES || nat_lt MAX_STAGES value) refl kept
  where
    tested : (b : Bool) → (nat_lt value MIN_STAGES || nat_lt MAX_STAGES value) ≡ b → Nowhere (Contains (if b then at ∷ [] else [])) → value ≤ MAX_STAGES
    tested true e none = absurd (none at (contains_here at []))
    tested false e none = let parts = or_parts (nat_lt value MIN_STAGES) (nat_lt MAX_STAGES value) e in ltb-false MAX_STAGES value parts.1

pub few_stages : (pipe : Pipe) → Accepts (checks misfits (F.Pipe pipe)) → pipe.stages.value ≤ 64
few_stages pipe kept = few pipe.stages.value pipe.stages.at kept.0

-- the design was read and checked
pub pipe_checked : (text of : List ℕ) (tree checked : DesignTree) (result : Result (EsiType × ℕ) (Stop Refusal)) → design_of text ≡ Ok tree → of ≡ text → checked_of of tree ≡ Ok checked → Reads (pipe_in checked) result
    → Reads (pipe_of text) result
pipe_checked text of tree checked result read same check reads =
    subst (λ r. Reads (r >>= checked_of text >>= pipe_in) result) (sym read)
    (subst (λ r. Reads (r >>= pipe_in) result) (sym (ap (λ t. checked_of t tree) (sym same) ∙ check)) reads)

-- the check stops it
pub not_checked : (text of : List ℕ) (tree : DesignTree) (stop : Stop Refusal) → design_of text ≡ Ok tree → of ≡ text → StopsAs (checked_of of tree) stop → StopsAs (pipe_of text) stop
not_checked text of tree (Refused refusal) read same stops =
    ap (λ r. r >>= checked_of text >>= pipe_in) read ∙ ap (λ r. r >>= pipe_in) (ap (λ t. checked_of t tree) (sym same) ∙ stops)
not_checked text of tree NoMemory read same stops = tt

-- ---- the cycles of actions

abbrev cycles_of_result : Result Action Refusal → ℕ
cycles_of_result (Ok action) = cycles_of_action action
cycles_of_result (Err refusal) = 0

put_cycles : (word : Result (List Bool) Refusal) → cycles_of_result (put_of word) ≡ 0
put_cycles (Ok word) = refl
put_cycles (Err refusal) = refl

choice_cycles : (b : Bool) (good bad : Result Action Refusal) → cycles_of_result good ≡ 0 → cycles_of_result bad ≡ 0 → cycles_of_result (if b then good else bad) ≡ 0
choice_cycles true good bad p q = p
choice_cycles false good bad p q = q

-- a step runs as many cycles as it says
action_cycles : (ty : EsiType) (step : Step) (action : Action) → action_of ty step ≡ Ok action → cycles_of_action action ≡ cycles_of step
action_cycles ty (Put name octets place octets_place) action e =
    sym (ap cycles_of_result e) ∙ choice_cycles (bytes_eq name (codes "in")) (put_of (word_of ty octets octets_place)) (Err (stimulus_refusal UnknownEndpoint place)) (put_cycles (word_of ty octets octets_place)) refl
action_cycles ty (Ready name on place) action e =
    sym (ap cycles_of_result e) ∙ choice_cycles (bytes_eq name (codes "out")) (Ok (ready 0 on)) (Err (stimulus_refusal UnknownEndpoint place)) refl refl
action_cycles ty (Run cycles) action e = sym (ap cycles_of_result e)

abbrev all_cycles : Result (List Action) Refusal → ℕ
all_cycles (Ok actions) = cycles_in actions
all_cycles (Err refusal) = 0

joined : (first : Result Action Refusal) (rest : Result (List Action) Refusal) (actions : List Action) (n m : ℕ) → (first >>= λ d. rest >>= λ ds. Ok (d ∷ ds)) ≡ Ok actions
    → ((action : Action) → first ≡ Ok action → cycles_of_action action ≡ n) → ((ds : List Action) → rest ≡ Ok ds → cycles_in ds ≡ m) → cycles_in actions ≡ n + m
joined (Ok action) (Ok ds) actions n m e p q = sym (ap all_cycles e) ∙ ap (λ k. k + cycles_in ds) (p action refl) ∙ ap (λ k. n + k) (q ds refl)
joined (Ok action) (Err refusal) actions n m e p q = absurd (cc e)
joined (Err refusal) rest actions n m e p q = absurd (cc e)

pub actions_cycles : (ty : EsiType) (steps : List Step) (actions : List Action) → actions_of ty steps ≡ Ok actions → cycles_in actions ≡ sum_by cycles_of steps
unfolding actions_of
actions_cycles ty [] actions e = sym (ap all_cycles e)
actions_cycles ty (step ∷ steps) actions e =
    joined (action_of ty step) (actions_of ty steps) actions (cycles_of step) (sum_by cycles_of steps) e (λ action p. action_cycles ty step action p) (λ ds q. actions_cycles ty steps ds q) ∙ sym (sum_by-cons cycles_of step steps)

pub few_cycles : (ty : EsiType) (steps : List Step) (result : Result (List Action) (Stop Refusal)) → Reads (actions_of ty steps) result → sum_by cycles_of steps ≤ STIMULUS_CYCLES → IfOk result (λ actions. cycles_in actions ≤ STIMULUS_CYCLES)
few_cycles ty steps (Ok actions) reads few = let same = actions_cycles ty steps actions reads in omega arith
few_cycles ty steps (Err stop) reads few = tt

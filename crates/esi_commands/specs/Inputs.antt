-- What a design and a stimulus ask of a simulation, and which of them is refused.
use Rattle.std.specs.Prelude.{ℕ, Bool, Result, Ok, Err, List, [], ◌∷◌, if◌then◌else◌, codes}
use Rattle.std.specs.Str.{bytes_eq}
use Rattle.esi_base.specs.Answers.{◌>>=◌}
use Rattle.esi_base.specs.declared.place.Place.{Place}
use Rattle.esi_base.specs.declared.place.Refusal.{Refusal}
use Rattle.command_runs.specs.declared.work.FileRefusal.{FileRefusal}
use Rattle.cycle_rules.specs.declared.action.Action.{Action}
use Rattle.cycle_rules.specs.declared.action.Action.TheVariants.{Put as put, Ready as ready, Run as run}
use Rattle.esi_commands.specs.declared.input.Input.{Input}
use Rattle.esi_commands.specs.declared.simulation_rule.SimulationRule.TheVariants.{NoPipe}
use Rattle.esi_commands.specs.SimulationRules.{refusal_by}
use Rattle.bit_packing.specs.OctetRules.{word_from as unpacked}
use Rattle.bit_packing.specs.declared.octets.Unpacked.{Unpacked}
use Rattle.channel_types.specs.declared.esi_type.EsiType.{EsiType}
use Rattle.bundle_check.specs.Checking.{checked_of}
use Rattle.design_tree.specs.declared.design.DesignTree.{DesignTree}
use Rattle.design_tree.specs.declared.design.DesignTree.TheVariants.{Pipe, Modules}
use Rattle.esi_text.specs.Designs.{design_of}
use Rattle.stimulus_text.specs.RuleNumbers.{rule_number}
use Rattle.stimulus_text.specs.Stimulus.{stimulus_of}
use Rattle.stimulus_text.specs.declared.rule.StimulusRule.{StimulusRule}
use Rattle.stimulus_text.specs.declared.rule.StimulusRule.TheVariants.{UnknownEndpoint, NoValue}
use Rattle.stimulus_text.specs.declared.step.Step.{Step}
use Rattle.stimulus_text.specs.declared.step.Step.TheVariants.{Put, Ready, Run}

-- the refusal of a design that is no pipe
abbrev pub no_pipe : Refusal
no_pipe = refusal_by NoPipe (record { line = 1; column = 1 })

-- a refusal by a rule of the stimulus that is checked with the design
abbrev pub stimulus_refusal : StimulusRule → Place → Refusal
stimulus_refusal rule place = record { number = rule_number rule; place = place }

-- Octets that are a value of the type are its word; all others are none.
abbrev pub word_or_refusal : Place → Result (List Bool) Unpacked → Result (List Bool) Refusal
word_or_refusal place (Ok word) = Ok word
word_or_refusal place (Err cause) = Err (stimulus_refusal NoValue place)

abbrev pub word_of : EsiType → List ℕ → Place → Result (List Bool) Refusal
word_of ty octets place = word_or_refusal place (unpacked octets ty)

abbrev pub put_of : Result (List Bool) Refusal → Result Action Refusal
put_of (Ok word) = Ok (put 0 word)
put_of (Err refusal) = Err refusal

-- A pipe takes values at its endpoint `in` alone, and has a switch at its endpoint `out` alone.
abbrev pub action_of : EsiType → Step → Result Action Refusal
action_of ty (Put name octets place octets_place) =
    if bytes_eq name (codes "in") then put_of (word_of ty octets octets_place) else Err (stimulus_refusal UnknownEndpoint place)
action_of ty (Ready name on place) = if bytes_eq name (codes "out") then Ok (ready 0 on) else Err (stimulus_refusal UnknownEndpoint place)
action_of ty (Run cycles) = Ok (run cycles)

-- All steps, or the refusal of the first that is refused.
unfoldable pub actions_of : EsiType → List Step → Result (List Action) Refusal
actions_of ty [] = Ok []
actions_of ty (step ∷ steps) = do
  action ← action_of ty step
  actions ← actions_of ty steps
  Ok (action ∷ actions)

-- the type that a pipe carries, and how many stages it has; any other design is refused
abbrev pub pipe_in : DesignTree → Result (EsiType × ℕ) Refusal
pipe_in (Pipe pipe) = Ok (pipe.ty, pipe.stages.value)
pipe_in (Modules declarations top) = Err no_pipe

-- The pipe that a design text means: the text is read, its design is checked, and it is a pipe.
abbrev pub pipe_of : List ℕ → Result (EsiType × ℕ) Refusal
pipe_of text = design_of text >>= checked_of text >>= pipe_in

-- The actions that a stimulus means for values of the type.
abbrev pub actions_of_text : EsiType → List ℕ → Result (List Action) Refusal
actions_of_text ty text = stimulus_of text >>= λ stimulus. actions_of ty stimulus.steps

-- a refusal is of the file that this word names
abbrev pub in_file : {A : Type 0} → ℕ → Result A Refusal → Result A FileRefusal
in_file word (Ok a) = Ok a
in_file word (Err refusal) = Err (record { word = word; refusal = refusal })

-- What both texts ask for: the design is checked first, and then the stimulus.
unfoldable pub input_of : List ℕ → List ℕ → Result Input FileRefusal
input_of design stimulus = do
  pipe ← in_file 0 (pipe_of design)
  steps ← in_file 1 (actions_of_text pipe.0 stimulus)
  Ok (record { stages = pipe.1; steps = steps })

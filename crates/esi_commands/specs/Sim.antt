-- What `sim` is: the output of the simulation that the texts of its files ask for.
use Rattle.std.specs.Prelude.{◌≡◌, zero, suc, ℕ, List, [], ◌∷◌, Result, Ok, Err, IsOk}
use Rattle.esi_base.specs.declared.place.Refusal.{Refusal}
use Rattle.cycle_rules.specs.Puts.{TakesInOrder}
use Rattle.cycle_rules.specs.Order.{HandsInOrder}
use Rattle.channel_types.specs.declared.esi_type.EsiType.{EsiType}
use Rattle.esi_text.specs.declared.limits.TheConstants.{LONGEST_DESIGN}
use Rattle.command_runs.specs.Account.{Account}
use Rattle.command_runs.specs.Work.{Effects, Work}
use Rattle.command_runs.specs.declared.work.FileRefusal.{FileRefusal}
use Rattle.esi_commands.specs.Inputs.{input_of, pipe_of}
use Rattle.esi_commands.specs.Output.{simulation, output_of}
use Rattle.esi_commands.specs.Texts.{text_at, prints}
use Rattle.esi_commands.specs.declared.input.Input.{Input}
use Rattle.stimulus_text.specs.declared.limits.TheConstants.{LONGEST_STIMULUS}

-- an input is simulated and printed, and a refusal stands
abbrev pub simulates : Result Input FileRefusal → Work
simulates (Ok input) = Ok (prints (output_of input))
simulates (Err file_refusal) = Err file_refusal

abbrev pub sim_meaning : List (List ℕ) → Work
sim_meaning texts = simulates (input_of (text_at texts 0) (text_at texts 1))

-- the design is a pipe of so many stages
abbrev pub HasStages : Result (EsiType × ℕ) Refusal → ℕ → Type 0
HasStages (Ok pipe) stages = pipe.1 ≡ stages
HasStages (Err refusal) stages = ⊥

-- What a refusal says of the design alone: the design is refused so, or it is not and the stimulus is.
abbrev pub BlamesFirst : {A : Type 0} → Result A Refusal → ℕ → Refusal → Type 0
BlamesFirst design zero refusal = design ≡ Err refusal
BlamesFirst design (suc word) refusal = IsOk design

-- The texts mean an input, for the design's pipe. In what it prints the values handed are a prefix of those taken, and those
-- taken a prefix of those put.
pub record Simulates (design stimulus : List ℕ) (effects : Effects) : Type 0 where
  pub input : Input
  pub accepted : input_of design stimulus ≡ Ok input
  pub stages : HasStages (pipe_of design) input.stages
  pub lines : effects.lines ≡ output_of input
  pub in_order : HandsInOrder (simulation input)
  pub taken_in_order : TakesInOrder 0 input.steps (simulation input)

abbrev pub SimPromise : List (List ℕ) → Work → Type 0
SimPromise texts (Ok effects) = Simulates (text_at texts 0) (text_at texts 1) effects
SimPromise texts (Err file_refusal) = BlamesFirst (pipe_of (text_at texts 0)) file_refusal.word file_refusal.refusal

-- `sim DESIGN STIM`
abbrev pub sim_account : Account
sim_account = record { words = 2; limits = LONGEST_DESIGN ∷ LONGEST_STIMULUS ∷ []; targets = []; ends = 0 ∷ []; meaning = sim_meaning; promise = SimPromise }

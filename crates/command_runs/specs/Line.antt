-- What is reported of an ending: the outcome, and the status's line on `err`.
use Rattle.std.specs.Prelude.{◌≡◌, ◌<◌, ℕ, List, Option}
use Rattle.endpoint_hub.specs.declared.journal.Report.{Report}
use Rattle.esi_links.specs.Counts.{CountRose}
use Rattle.esi_links.specs.Growth.{Grows, GrowsByPrefix}
use Rattle.command_runs.specs.declared.ending.Ending.{Ending}
use Rattle.command_runs.specs.declared.ending.Ending.TheVariants.{Usage, Refused, ReadFault, WriteFault, NoMemory, Ended}
use Rattle.command_runs.specs.declared.outcome.Outcome.{Outcome}
use Rattle.command_runs.specs.declared.outcome.Told.{Told}
use Rattle.command_runs.specs.declared.outcome.Told.TheVariants as answers
use Rattle.command_runs.specs.Outside.{SinkView}
use Rattle.command_runs.specs.Statuses.{status_of, cause_of, line_of}

-- the sink got the whole line where `told` says so, and else a prefix of it that is not the whole
abbrev pub GetsLine : List ℕ → Option (List ℕ) → Option (List ℕ) → Told → Type 0
GetsLine line before now answers.Whole = Grows before now line
GetsLine line before now answers.Fault = GrowsByPrefix before now line
GetsLine line before now answers.NoMemory = GrowsByPrefix before now line

-- The line was written to `err`, or a prefix of it: a fault comes only with a rise of the count, and else the count stays.
pub record WritesLine (line : List ℕ) (before now : SinkView) (answer : Told) : Type 0 where
  pub text : GetsLine line before.octets now.octets answer
  pub fault : answer ≡ answers.Fault → CountRose before.faults now.faults
  pub quiet : (answer ≡ answers.Fault → ⊥) → now.faults ≡ before.faults

-- The outcome is that of the ending: its status, its cause, the report and the line on `err`.
pub record Concludes (names : List (List ℕ)) (ending : Ending) (reported : Option Report) (before now : SinkView) (outcome : Outcome) : Type 0 where
  pub status : outcome.status ≡ status_of ending
  pub cause : outcome.cause ≡ cause_of ending
  pub report : outcome.report ≡ reported
  pub line : WritesLine (line_of names ending) before now outcome.told

-- a refusal blames one of so many words
abbrev pub BlamesOne : Ending → ℕ → Type 0
BlamesOne Usage count = Unit {0}
BlamesOne (Refused file_refusal) count = file_refusal.word < count
BlamesOne ReadFault count = Unit {0}
BlamesOne WriteFault count = Unit {0}
BlamesOne NoMemory count = Unit {0}
BlamesOne (Ended end) count = Unit {0}

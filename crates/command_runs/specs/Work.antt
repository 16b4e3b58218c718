-- What a command makes of the texts of its files.
use Rattle.std.specs.Prelude.{ℕ, List, [], None, false, Result, codes}
use Rattle.esi_base.specs.declared.place.Refusal.{Refusal}
use Rattle.esi_base.specs.declared.stop.Stop.{Stop}
use Rattle.esi_base.specs.declared.stop.Stop.TheVariants.{Refused, NoMemory}
use Rattle.command_runs.specs.declared.finish.End.TheVariants.{Done}
use Rattle.command_runs.specs.declared.finish.Finish.{Finish}
use Rattle.command_runs.specs.declared.work.FileRefusal.{FileRefusal}
use Rattle.command_runs.specs.declared.work.FileText.{FileText}
use Rattle.command_runs.specs.declared.work.Suffix.{Suffix}
use Rattle.command_runs.specs.declared.work.Suffix.TheVariants.{Bare, Verilog, Json}

-- what is done where no text is refused: the files to write, in order, then the lines to print, and what that comes to, with
-- the closing lines
pub record Effects : Type 0 where
  pub written : List FileText
  pub lines : List ℕ
  pub finish : Finish

-- this is done, or a text is refused
abbrev pub Work : Type 0
Work = Result Effects FileRefusal

-- all is done, and nothing is reported or printed of it
abbrev pub all_done : Finish
all_done = record { end = Done; report = None; keeps_report = false; closing = [] }

-- what stands after a word in the name of a file that is written
abbrev pub suffix_text : Suffix → List ℕ
suffix_text Bare = []
suffix_text Verilog = codes ".v"
suffix_text Json = codes ".json"

-- a refusal is of the file that this word names
abbrev pub stop_in_file : ℕ → Stop Refusal → Stop FileRefusal
stop_in_file word (Refused refusal) = Refused (record { word = word; refusal = refusal })
stop_in_file word NoMemory = NoMemory

-- What `sim` prints.
use Rattle.std.specs.Prelude.{ℕ, Bool, true, false, List, [], ◌++◌, length, drop, codes}
use Rattle.std.specs.List.{flat_map}
use Rattle.std.specs.Fmt.{decimal}
use Rattle.esi_base.specs.Octets.{octets_of}
use Rattle.small_text.specs.Hexadecimal.{hex_of}
use Rattle.cycle_rules.specs.Circuit.{Bits}
use Rattle.cycle_rules.specs.Simulation.{Simulation}
use Rattle.cycle_rules.specs.declared.transfer.Transfer.{Transfer}
use Rattle.pipe_cells.specs.PipeRun.{pipe_run}
use Rattle.esi_commands.specs.declared.input.Input.{Input}

-- `got CYCLE NAME OCTETS`: a value handed, at the pipe's endpoint `out`
abbrev pub got_line : Transfer → List ℕ
got_line transfer = codes "got " ++ decimal transfer.cycle ++ codes " out " ++ hex_of (octets_of transfer.word) ++ codes "\n"

-- `done cycles N taken N handed N`
abbrev pub done_line : {S : Type 0} → Simulation S → List ℕ
done_line sim = codes "done cycles " ++ decimal sim.cycles ++ codes " taken " ++ decimal (length sim.taken) ++ codes " handed " ++ decimal (length sim.handed) ++ codes "\n"

-- a line for each value handed, in the order of the hands, and the last line
abbrev pub text_of : {S : Type 0} → Simulation S → List ℕ
text_of sim = flat_map got_line sim.handed ++ done_line sim

-- The same, as far as it is still to be printed: the lines of the values handed after so many, and the last line, unless all
-- was printed.
abbrev pub text_left : {S : Type 0} → Simulation S → ℕ → Bool → List ℕ
text_left sim printed true = []
text_left sim printed false = flat_map got_line (drop printed sim.handed) ++ done_line sim

-- the simulation of an input, and what is printed of it
abbrev pub simulation : Input → Simulation (List (List Bits))
simulation input = pipe_run input.stages input.steps

abbrev pub output_of : Input → List ℕ
output_of input = text_of (simulation input)

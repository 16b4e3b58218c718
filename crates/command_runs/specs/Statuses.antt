-- How a command ends: its status, its cause, and its line.
use Rattle.std.specs.Prelude.{ℕ, List, [], ◌++◌, slice_index_or, codes}
use Rattle.std.specs.Fmt.{decimal}
use Rattle.esi_base.specs.declared.place.Refusal.{Refusal}
use Rattle.command_runs.specs.declared.outcome.Cause.{Cause}
use Rattle.command_runs.specs.declared.outcome.Cause.TheVariants as causes
use Rattle.command_runs.specs.declared.finish.End.{End}
use Rattle.command_runs.specs.declared.finish.End.TheVariants.{Done, LinkFault, PeerFault, PeerStatus, Unfinished, TurnsSpent}
use Rattle.command_runs.specs.declared.ending.Ending.{Ending}
use Rattle.command_runs.specs.declared.ending.Ending.TheVariants.{Usage, Refused, ReadFault, WriteFault, NoMemory, Ended}

-- the status of what a work comes to
abbrev pub status_of_end : End → ℕ
status_of_end Done = 0
status_of_end LinkFault = 5
status_of_end (PeerFault code) = 6
status_of_end (PeerStatus name status) = 6
status_of_end (Unfinished count) = 7
status_of_end (TurnsSpent count) = 9

-- the status
abbrev pub status_of : Ending → ℕ
status_of Usage = 1
status_of (Refused file_refusal) = 2
status_of ReadFault = 3
status_of WriteFault = 4
status_of NoMemory = 8
status_of (Ended end) = status_of_end end

-- the cause of what a work comes to
abbrev pub cause_of_end : End → Cause
cause_of_end Done = causes.Plain
cause_of_end LinkFault = causes.Plain
cause_of_end (PeerFault code) = causes.PeerFault code
cause_of_end (PeerStatus name status) = causes.PeerStatus name status
cause_of_end (Unfinished count) = causes.Unfinished count
cause_of_end (TurnsSpent count) = causes.Turns count

-- the cause
abbrev pub cause_of : Ending → Cause
cause_of Usage = causes.Plain
cause_of (Refused file_refusal) = causes.Refused file_refusal.word file_refusal.refusal
cause_of ReadFault = causes.Plain
cause_of WriteFault = causes.Plain
cause_of NoMemory = causes.Plain
cause_of (Ended end) = cause_of_end end

-- all commands, whether they are built yet or not
abbrev pub usage_line : List ℕ
usage_line = codes "usage: esi_cosim sim|cycles|format|compile|vsim|replay|pair|flood|serve|call\n"

-- `refused FILE NUMBER LINE:COLUMN`
abbrev pub refused_line : List ℕ → Refusal → List ℕ
refused_line file refusal =
    codes "refused " ++ file ++ codes " " ++ decimal refusal.number ++ codes " " ++ decimal refusal.place.line ++ codes ":" ++ decimal refusal.place.column ++ codes "\n"

-- some words and a number
abbrev pub numbered_line : List ℕ → ℕ → List ℕ
numbered_line words number = words ++ decimal number ++ codes "\n"

-- `peer status CHANNEL N`
abbrev pub peer_status_line : List ℕ → ℕ → List ℕ
peer_status_line name status = codes "peer status " ++ name ++ numbered_line (codes " ") status

-- the line of what a work came to
abbrev pub line_of_end : End → List ℕ
line_of_end Done = []
line_of_end LinkFault = codes "link fault\n"
line_of_end (PeerFault code) = numbered_line (codes "peer fault ") code
line_of_end (PeerStatus name status) = peer_status_line name status
line_of_end (Unfinished count) = numbered_line (codes "unfinished ") count
line_of_end (TurnsSpent count) = numbered_line (codes "turns spent ") count

-- the line of an ending, of a command with these words after it
abbrev pub line_of : List (List ℕ) → Ending → List ℕ
line_of names Usage = usage_line
line_of names (Refused file_refusal) = refused_line (slice_index_or names file_refusal.word []) file_refusal.refusal
line_of names ReadFault = codes "read fault\n"
line_of names WriteFault = codes "write fault\n"
line_of names NoMemory = codes "no memory\n"
line_of names (Ended end) = line_of_end end

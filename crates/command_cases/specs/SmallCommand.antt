-- A small command, which shows every part of an account: `FIRST SECOND PREFIX` reads two files, writes PREFIX.v with the first text and
-- PREFIX.json with the second, prints both, and comes to the end that the first octet of the second text names, with the second text as
-- its closing lines.
use Rattle.std.specs.Prelude.{ℕ, ◌==◌, nat_lt, Bool, false, List, [], ◌∷◌, ◌++◌, length, Some, Ok, Err, if◌then◌else◌, codes}
use Rattle.endpoint_hub.specs.declared.journal.Report.{Report}
use Rattle.command_runs.specs.Account.{Account}
use Rattle.command_runs.specs.Work.{Effects, Work}
use Rattle.command_runs.specs.declared.finish.End.{End}
use Rattle.command_runs.specs.declared.finish.End.TheVariants.{Done, LinkFault, PeerFault, PeerStatus, Unfinished, TurnsSpent}
use Rattle.command_runs.specs.declared.finish.Finish.{Finish}
use Rattle.command_runs.specs.declared.work.FileRefusal.{FileRefusal}
use Rattle.command_runs.specs.declared.work.FileText.{FileText}
use Rattle.command_runs.specs.declared.work.Suffix.TheVariants.{Verilog, Json}
use Rattle.command_runs.specs.declared.work.Target.{Target}
use Rattle.command_cases.specs.declared.small.TheConstants.{LONGEST_TEXT, TOO_LONG}

-- `5`, `6`, `7` and `9` are the statuses, `s` is that of a channel, and every other octet is 0
abbrev pub end_by : ℕ → End
end_by octet =
    if octet == 53 then LinkFault
    else (if octet == 54 then PeerFault 1
    else (if octet == 55 then Unfinished 3
    else (if octet == 57 then TurnsSpent 4
    else (if octet == 115 then PeerStatus (codes "in") 2
    else Done))))

abbrev pub end_of : List ℕ → End
end_of [] = Done
end_of (octet ∷ rest) = end_by octet

-- `k` keeps the report
abbrev pub keeps_of : List ℕ → Bool
keeps_of [] = false
keeps_of (octet ∷ rest) = octet == 107

abbrev pub empty_report : Report
empty_report = record { cycles = 0; taken = []; handed = []; attached = []; registers = [] }

abbrev pub finish_of : List ℕ → Finish
finish_of second = record { end = end_of second; report = Some empty_report; keeps_report = keeps_of second; closing = second }

-- the files that are written
abbrev pub verilog : Target
verilog = record { word = 2; suffix = Verilog }

abbrev pub manifest : Target
manifest = record { word = 2; suffix = Json }

abbrev pub files_of : List ℕ → List ℕ → List FileText
files_of first second = (record { target = verilog; text = first }) ∷ (record { target = manifest; text = second }) ∷ []

abbrev pub effects_by : List ℕ → List ℕ → Effects
effects_by first second = record { written = files_of first second; lines = first ++ second; finish = finish_of second }

-- a text above its limit
abbrev pub too_long : ℕ → FileRefusal
too_long word = record { word = word; refusal = record { number = TOO_LONG; place = record { line = 1; column = 1 } } }

abbrev pub small_work : List ℕ → List ℕ → Work
small_work first second = if nat_lt LONGEST_TEXT (length first) then Err (too_long 0) else (if nat_lt LONGEST_TEXT (length second) then Err (too_long 1) else Ok (effects_by first second))

-- the work of the texts, which are two
abbrev pub small_meaning : List (List ℕ) → Work
small_meaning [] = Err (too_long 0)
small_meaning (first ∷ []) = Err (too_long 1)
small_meaning (first ∷ second ∷ others) = small_work first second

-- nothing more is promised
abbrev pub no_promise : List (List ℕ) → Work → Type 0
no_promise texts work = Unit {0}

abbrev pub small_account : Account
small_account = record {
  words = 3;
  limits = LONGEST_TEXT ∷ LONGEST_TEXT ∷ [];
  targets = verilog ∷ manifest ∷ [];
  ends = 0 ∷ 5 ∷ 6 ∷ 7 ∷ 9 ∷ [];
  meaning = small_meaning;
  promise = no_promise;
}

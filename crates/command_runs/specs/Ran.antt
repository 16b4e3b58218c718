-- What running a command is.
use Rattle.std.specs.Prelude.{◌≡◌, ◌⊎◌, ◌≤◌, ℕ, List, [], ◌∷◌, length, take, map, Option, None, IfSome, Bool, false, Ok, Err}
use Rattle.endpoint_hub.specs.declared.journal.Report.{Report}
use Rattle.esi_links.specs.Counts.{CountRose}
use Rattle.esi_links.specs.ReadLog.{AddsNotesOf, AreReadThrough, AreReadToFault, AreReadToCut}
use Rattle.esi_links.specs.Texts.{SameTexts}
use Rattle.esi_links.specs.declared.note.Note.{Note}
use Rattle.command_runs.specs.declared.ending.Ending.{Ending}
use Rattle.command_runs.specs.declared.ending.Ending.TheVariants.{Usage, Refused, ReadFault, WriteFault, NoMemory, Ended}
use Rattle.command_runs.specs.declared.outcome.Outcome.{Outcome}
use Rattle.command_runs.specs.Account.{Account, Among}
use Rattle.command_runs.specs.CarryOut.{CarriesOut, target_name}
use Rattle.command_runs.specs.Line.{Concludes, BlamesOne}
use Rattle.command_runs.specs.Outside.{Outside, FilesView, SinkView, NoFault, Frame}
use Rattle.command_runs.specs.Work.{Effects, Work}

-- ---- reading

-- the texts agree with all that is told under these names
abbrev pub Agree : (List ℕ → Option (List ℕ)) → List (List ℕ) → List (List ℕ) → Type 0
Agree told [] [] = Unit {0}
Agree told [] (text ∷ texts) = ⊥
Agree told (name ∷ names) [] = ⊥
Agree told (name ∷ names) (text ∷ texts) = IfSome (told name) (λ t. t ≡ text) × Agree told names texts

-- The reads that were made. Where the texts were checked, all files were read through, in order. Where one could not be read, those before
-- it were, and none after it. Where memory ran out, the first were read through and the next in part.
abbrev pub ReadsFor : List ℕ → List (List ℕ) → Option (List Note) → Option (List Note) → Ending → Type 0
ReadsFor limits names before now Usage = ⊥
ReadsFor limits names before now (Refused file_refusal) = AddsNotesOf before now (AreReadThrough limits names)
ReadsFor limits names before now ReadFault = AddsNotesOf before now (AreReadToFault limits names)
ReadsFor limits names before now WriteFault = AddsNotesOf before now (AreReadThrough limits names)
ReadsFor limits names before now NoMemory = AddsNotesOf before now (AreReadToCut limits names)
ReadsFor limits names before now (Ended end) = AddsNotesOf before now (AreReadThrough limits names)

-- the run ended after its texts were checked
abbrev pub HasCheckedTexts : Ending → Type 0
HasCheckedTexts Usage = ⊥
HasCheckedTexts (Refused file_refusal) = Unit {0}
HasCheckedTexts ReadFault = ⊥
HasCheckedTexts WriteFault = Unit {0}
HasCheckedTexts NoMemory = ⊥
HasCheckedTexts (Ended end) = Unit {0}

-- how a run can end that read its files
abbrev pub CanFollow : Ending → Type 0
CanFollow Usage = ⊥
CanFollow (Refused file_refusal) = Unit {0}
CanFollow ReadFault = ⊥
CanFollow WriteFault = Unit {0}
CanFollow NoMemory = Unit {0}
CanFollow (Ended end) = Unit {0}

-- something can be read under each name
abbrev pub AreReadable : (List ℕ → Bool) → List (List ℕ) → Type 0
AreReadable unreadable [] = Unit {0}
AreReadable unreadable (name ∷ names) = (unreadable name ≡ false) × AreReadable unreadable names

-- a count rose under one of these names
abbrev pub RoseAmong : (List ℕ → ℕ) → (List ℕ → ℕ) → List (List ℕ) → Type 0
RoseAmong before now [] = ⊥
RoseAmong before now (name ∷ names) = CountRose (before name) (now name) ⊎ RoseAmong before now names

-- ---- what comes of the work

-- how a run ends in which nothing was written: a text is refused, a file could not be read, which rose a count of one of them,
-- or memory ran out
abbrev pub EndsBefore : Work → List (List ℕ) → FilesView → FilesView → Ending → Type 0
EndsBefore work names before now Usage = ⊥
EndsBefore work names before now (Refused file_refusal) = (work ≡ Err file_refusal) × NoFault before now
EndsBefore work names before now ReadFault = RoseAmong before.read_faults now.read_faults names
EndsBefore work names before now WriteFault = ⊥
EndsBefore work names before now NoMemory = NoFault before now
EndsBefore work names before now (Ended end) = ⊥

-- nothing was written
pub record StopsBefore (work : Work) (names : List (List ℕ)) (files files' : FilesView) (sink sink' : SinkView) (ending : Ending) (reported : Option Report) : Type 0 where
  pub ends : EndsBefore work names files files' ending
  pub texts : SameTexts files.text files'.text
  pub out : sink' ≡ sink
  pub report : reported ≡ None

-- a work that refuses no text was carried out, whole or in part
pub record Carries (work : Work) (names : List (List ℕ)) (files files' : FilesView) (out out' : SinkView) (ending : Ending) (report : Option Report) : Type 0 where
  pub effects : Effects
  pub meant : work ≡ Ok effects
  pub carried : CarriesOut names effects files files' out out' ending report

-- Nothing was written, or the work was carried out. `reads` are the names of the files that are read, `names` all words.
abbrev pub Follows : Work → List (List ℕ) → List (List ℕ) → FilesView → FilesView → SinkView → SinkView → Ending → Option Report → Type 0
Follows work reads names files files' out out' ending report =
    StopsBefore work reads files files' out out' ending report ⊎ Carries work names files files' out out' ending report

-- There are texts that agree with all that the files tell, what is promised of their work holds, and it is this work that was done.
pub record Comes (account : Account) (reads names : List (List ℕ)) (files files' : FilesView) (out out' : SinkView) (ending : Ending) (report : Option Report) : Type 0 where
  pub texts : List (List ℕ)
  pub agree : Agree files.text reads texts
  pub promised : account.promise texts (account.meaning texts)
  pub follows : Follows (account.meaning texts) reads names files files' out out' ending report

-- ---- a run

-- A command was run on words that match it.
pub record Ran (account : Account) (names : List (List ℕ)) (before now : Outside) (outcome : Outcome) : Type 0 where
  -- How it ended. The outcome has the status and the cause of that, and the line on `err` is its line.
  pub ending : Ending
  pub concludes : Concludes names ending outcome.report before.err now.err outcome
  -- The status is 2, 3, 4 or 8, or one to which the work may come.
  pub statuses : Among outcome.status (2 ∷ 3 ∷ 4 ∷ 8 ∷ account.ends)
  -- A refusal blames a file that is read.
  pub blames : BlamesOne ending (length account.limits)
  -- There are texts that agree with all that the files tell, and it is their work that was done: what was written and printed, by
  -- the ending.
  pub comes : Comes account (take (length account.limits) names) names before.files now.files before.out now.out ending outcome.report
  -- The files are read through in the order of the words, all of them before a text is checked, each once, and no others.
  pub reads : ReadsFor account.limits (take (length account.limits) names) before.files.log now.files.log ending
  -- Where the texts were checked, all files could be read.
  pub readable : HasCheckedTexts ending → AreReadable before.files.unreadable (take (length account.limits) names)
  -- No file changed but those that the command may write, and no count fell.
  pub frame : Frame (map (target_name names) account.targets) before now

-- The words match no command: only the usage line was written.
pub record PrintsUsage (before now : Outside) (outcome : Outcome) : Type 0 where
  pub concludes : Concludes [] Usage None before.err now.err outcome
  pub texts : SameTexts before.files.text now.files.text
  pub unreadables : (name : List ℕ) → now.files.unreadable name ≡ before.files.unreadable name
  pub none_read : now.files.log ≡ before.files.log
  pub no_fault : NoFault before.files now.files
  pub out : now.out ≡ before.out
  pub err_count : before.err.faults ≤ now.err.faults

-- What it is to run a command on words: they match it where they are as many as it takes.
pub record Runs (account : Account) (names : List (List ℕ)) (before now : Outside) (outcome : Outcome) : Type 0 where
  pub matched : length names ≡ account.words → Ran account names before now outcome
  pub unmatched : (length names ≡ account.words → ⊥) → PrintsUsage before now outcome

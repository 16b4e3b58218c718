-- How far a work that refuses no text is carried out: its files are written first, in order, then its lines and its closing lines are
-- printed.
use Rattle.std.specs.Prelude.{◌≡◌, ◌≢◌, ◌<◌, ◌⊎◌, ℕ, List, [], ◌∷◌, ◌++◌, length, take, slice_get, slice_index_or, Option, Some, None, IfSome, IsSome, if◌then◌else◌}
use Rattle.endpoint_hub.specs.declared.journal.Report.{Report}
use Rattle.esi_links.specs.Counts.{CountRose, NoneFell}
use Rattle.esi_links.specs.Growth.{Grows, GrowsByPrefix}
use Rattle.esi_links.specs.Texts.{SameElsewhere}
use Rattle.command_runs.specs.declared.ending.Ending.{Ending}
use Rattle.command_runs.specs.declared.ending.Ending.TheVariants.{Usage, Refused, ReadFault, WriteFault, NoMemory, Ended}
use Rattle.command_runs.specs.declared.finish.End.TheVariants.{Done}
use Rattle.command_runs.specs.declared.finish.Finish.{Finish}
use Rattle.command_runs.specs.declared.work.FileText.{FileText}
use Rattle.command_runs.specs.declared.work.Target.{Target}
use Rattle.command_runs.specs.Outside.{FilesView, SinkView, NoFault, SameFiles}
use Rattle.command_runs.specs.Work.{Effects, suffix_text}

-- ---- files

-- the name of a file that is written, where these words stand after the command
abbrev pub target_name : List (List ℕ) → Target → List ℕ
target_name names target = slice_index_or names target.word [] ++ suffix_text target.suffix

-- A file was written: where its text is told, it is this one. All else is told as before, and no call failed.
pub record PutsText (name text : List ℕ) (before now : FilesView) : Type 0 where
  pub put : IfSome (now.text name) (λ t. t ≡ text)
  pub told : IfSome (before.text name) (λ _. IsSome (now.text name))
  pub elsewhere : SameElsewhere name before.text now.text
  pub unreadables : (other : List ℕ) → other ≢ name → now.unreadable other ≡ before.unreadable other
  pub quiet : NoFault before now

-- A file could not be written: any text may stand under its name, and its count of failed writes rose. All else is told as before.
pub record FailsToPut (name : List ℕ) (before now : FilesView) : Type 0 where
  pub elsewhere : SameElsewhere name before.text now.text
  pub unreadables : (other : List ℕ) → other ≢ name → now.unreadable other ≡ before.unreadable other
  pub rose : CountRose (before.write_faults name) (now.write_faults name)
  pub reads : NoneFell before.read_faults now.read_faults
  pub writes : NoneFell before.write_faults now.write_faults

-- these files were written, in this order, and no others
abbrev pub PutsTexts : List (List ℕ) → List FileText → FilesView → FilesView → Type 0
PutsTexts names [] before now = SameFiles before now
PutsTexts names (file ∷ files) before now = (between : FilesView)
    × PutsText (target_name names file.target) file.text before between × PutsTexts names files between now

-- the first of the files were written, the next one could not be, and no others were written
pub record FailsAtFile (names : List (List ℕ)) (files : List FileText) (before now : FilesView) : Type 0 where
  pub count : ℕ
  pub file : FileText
  pub next : slice_get files count ≡ Some file
  pub between : FilesView
  pub written : PutsTexts names (take count files) before between
  pub failed : FailsToPut (target_name names file.target) between now

-- the first of the files were written, but not all, since memory ran out
pub record LacksAtFile (names : List (List ℕ)) (files : List FileText) (before now : FilesView) : Type 0 where
  pub count : ℕ
  pub within : count < length files
  pub written : PutsTexts names (take count files) before now

-- how a run ends where a file was not written
abbrev pub EndsAtFile : List (List ℕ) → List FileText → FilesView → FilesView → Ending → Type 0
EndsAtFile names files before now Usage = ⊥
EndsAtFile names files before now (Refused file_refusal) = ⊥
EndsAtFile names files before now ReadFault = ⊥
EndsAtFile names files before now WriteFault = FailsAtFile names files before now
EndsAtFile names files before now NoMemory = LacksAtFile names files before now
EndsAtFile names files before now (Ended end) = ⊥

-- ---- what is printed

-- all the lines were printed, and a prefix of the closing lines that is not the whole
pub record CutsClosing (lines closing : List ℕ) (before now : Option (List ℕ)) : Type 0 where
  pub count : ℕ
  pub within : count < length closing
  pub grows : Grows before now (lines ++ take count closing)

-- the report that is given where status 4 takes the place of the end
abbrev pub report_after_cut : Finish → Option Report
report_after_cut finish = if finish.keeps_report then finish.report else None

-- A fault of `out` in the lines is status 4. In the closing lines it is so after status 0 only.
abbrev pub FailsToPrint : List ℕ → Finish → Option (List ℕ) → Option (List ℕ) → Option Report → Type 0
FailsToPrint lines finish before now report =
    (GrowsByPrefix before now lines × (report ≡ None))
    ⊎ ((finish.end ≡ Done) × CutsClosing lines finish.closing before now × (report ≡ report_after_cut finish))

-- All was printed. Or a fault of `out` cut the closing lines short, and the end stands, which is not that of status 0.
abbrev pub ComesToEnd : List ℕ → Finish → SinkView → SinkView → Type 0
ComesToEnd lines finish before now =
    (Grows before.octets now.octets (lines ++ finish.closing) × (now.faults ≡ before.faults))
    ⊎ ((finish.end ≢ Done) × CutsClosing lines finish.closing before.octets now.octets × CountRose before.faults now.faults)

-- How a run ends that prints these lines, and after them the closing lines of the finish: status 4 comes only with a rise of the
-- count, and where memory ran out a prefix of all was printed that is not the whole.
abbrev pub EndsInPrint : List ℕ → Finish → SinkView → SinkView → Ending → Option Report → Type 0
EndsInPrint lines finish before now Usage report = ⊥
EndsInPrint lines finish before now (Refused file_refusal) report = ⊥
EndsInPrint lines finish before now ReadFault report = ⊥
EndsInPrint lines finish before now WriteFault report = FailsToPrint lines finish before.octets now.octets report × CountRose before.faults now.faults
EndsInPrint lines finish before now NoMemory report =
    GrowsByPrefix before.octets now.octets (lines ++ finish.closing) × (now.faults ≡ before.faults) × (report ≡ None)
EndsInPrint lines finish before now (Ended end) report =
    (end ≡ finish.end) × (report ≡ finish.report) × ComesToEnd lines finish before now

-- ---- both

-- a file was not written, and nothing was printed
pub record StopsAtFile (names : List (List ℕ)) (effects : Effects) (files files' : FilesView) (sink sink' : SinkView) (ending : Ending) (reported : Option Report) : Type 0 where
  pub ends : EndsAtFile names effects.written files files' ending
  pub out : sink' ≡ sink
  pub report : reported ≡ None

-- all files were written, and then it was printed
pub record Prints (names : List (List ℕ)) (effects : Effects) (files files' : FilesView) (sink sink' : SinkView) (ending : Ending) (reported : Option Report) : Type 0 where
  pub written : PutsTexts names effects.written files files'
  pub ends : EndsInPrint effects.lines effects.finish sink sink' ending reported

-- how a work that refuses no text is carried out
abbrev pub CarriesOut : List (List ℕ) → Effects → FilesView → FilesView → SinkView → SinkView → Ending → Option Report → Type 0
CarriesOut names effects files files' out out' ending report =
    StopsAtFile names effects files files' out out' ending report ⊎ Prints names effects files files' out out' ending report

-- What is seen of the outside at one moment, and how it moves through a run.
use Rattle.std.specs.Prelude.{◌≡◌, ◌≢◌, ◌≤◌, ℕ, List, [], ◌∷◌, Option, Bool}
use Rattle.esi_links.specs.Counts.{NoneFell, SameCounts}
use Rattle.esi_links.specs.Texts.{SameTexts}
use Rattle.esi_links.specs.declared.files.Files.{Ghosts as FilesGhosts}
use Rattle.esi_links.specs.declared.note.Note.{Note}
use Rattle.esi_links.specs.declared.sink.Sink.{Ghosts as SinkGhosts}

-- what files tell: their texts, where nothing can be read, the reads that were made, and how many calls failed under each name
pub record FilesView : Type 0 where
  pub text : List ℕ → Option (List ℕ)
  pub unreadable : List ℕ → Bool
  pub log : Option (List Note)
  pub read_faults : List ℕ → ℕ
  pub write_faults : List ℕ → ℕ

-- what a sink tells: the octets written, and how many writes failed
pub record SinkView : Type 0 where
  pub octets : Option (List ℕ)
  pub faults : ℕ

pub record Outside : Type 0 where
  pub files : FilesView
  pub out : SinkView
  pub err : SinkView

abbrev pub files_view : (List ℕ → Option (List ℕ)) → (List ℕ → Bool) → Option (List Note) → (List ℕ → ℕ) → (List ℕ → ℕ) → FilesView
files_view text unreadable log read_faults write_faults =
    record { text = text; unreadable = unreadable; log = log; read_faults = read_faults; write_faults = write_faults }

abbrev pub sink_view : Option (List ℕ) → ℕ → SinkView
sink_view octets faults = record { octets = octets; faults = faults }

abbrev pub outside : FilesView → SinkView → SinkView → Outside
outside files out err = record { files = files; out = out; err = err }

-- The outside at one moment: objects, each by what its type tells.
abbrev pub outside_of : {F O E : Type 0} → FilesGhosts F → SinkGhosts O → SinkGhosts E → F → O → E → Outside
outside_of tell out_tells err_tells files out err =
    outside (files_view (tell.text files) (tell.unreadable files) (tell.log files) (tell.read_faults files) (tell.write_faults files))
    (sink_view (out_tells.octets out) (out_tells.faults out)) (sink_view (err_tells.octets err) (err_tells.faults err))

-- no read and no write of files failed
pub record NoFault (before now : FilesView) : Type 0 where
  pub reads : SameCounts before.read_faults now.read_faults
  pub writes : SameCounts before.write_faults now.write_faults

-- files tell the same texts, and no call failed
pub record SameFiles (before now : FilesView) : Type 0 where
  pub texts : SameTexts before.text now.text
  pub unreadables : (name : List ℕ) → now.unreadable name ≡ before.unreadable name
  pub quiet : NoFault before now

-- the name is none of these
abbrev pub IsOther : List ℕ → List (List ℕ) → Type 0
IsOther name [] = Unit {0}
IsOther name (other ∷ others) = (name ≢ other) × IsOther name others

-- What stays through every run, where only the files with these names may change, and that no count falls.
pub record Frame (changed : List (List ℕ)) (before now : Outside) : Type 0 where
  pub texts : (name : List ℕ) → IsOther name changed → now.files.text name ≡ before.files.text name
  pub unreadables : (name : List ℕ) → IsOther name changed → now.files.unreadable name ≡ before.files.unreadable name
  pub read_counts : NoneFell before.files.read_faults now.files.read_faults
  pub write_counts : NoneFell before.files.write_faults now.files.write_faults
  pub out_count : before.out.faults ≤ now.out.faults
  pub err_count : before.err.faults ≤ now.err.faults

-- What a command is: its files, and what it makes of their texts.
use Rattle.std.specs.Prelude.{◌≡◌, ◌<◌, ◌≤◌, ◌⊎◌, ℕ, ◌+◌, List, [], ◌∷◌, length, take, Result, Ok, Err}
use Rattle.esi_base.specs.declared.stop.Stop.{Stop}
use Rattle.esi_base.specs.declared.stop.Stop.TheVariants.{Refused, NoMemory}
use Rattle.command_runs.specs.declared.command.Output.{Output}
use Rattle.command_runs.specs.declared.finish.Finish.{Finish}
use Rattle.command_runs.specs.declared.work.FileText.{FileText}
use Rattle.command_runs.specs.declared.work.Target.{Target}
use Rattle.command_runs.specs.declared.work.FileRefusal.{FileRefusal}
use Rattle.command_runs.specs.Statuses.{status_of_end}
use Rattle.command_runs.specs.Work.{Effects, Work}

-- What a command is.
pub record Account : Type 1 where
  -- how many words stand after the command's own
  pub words : ℕ
  -- The first of them are the names of the files that are read. The longest text of each, in octets.
  pub limits : List ℕ
  -- the files that may be written
  pub targets : List Target
  -- the statuses to which the work may come
  pub ends : List ℕ
  -- what is made of the texts of the files that are read
  pub meaning : List (List ℕ) → Work
  -- what is promised of that
  pub promise : List (List ℕ) → Work → Type 0

-- it is one of these
abbrev pub Among : {A : Type 0} → A → List A → Type 0
Among x [] = ⊥
Among x (y ∷ ys) = (x ≡ y) ⊎ Among x ys

-- each is at most so much
abbrev pub AllWithin : ℕ → List ℕ → Type 0
AllWithin most [] = Unit {0}
AllWithin most (n ∷ ns) = (n ≤ most) × AllWithin most ns

-- each text up to one octet above its limit
abbrev pub cut_texts : List ℕ → List (List ℕ) → List (List ℕ)
cut_texts [] texts = []
cut_texts (limit ∷ limits) [] = []
cut_texts (limit ∷ limits) (text ∷ texts) = take (limit + 1) text ∷ cut_texts limits texts

-- what is done where this is the output of the work
abbrev pub effects_of : {L : Type 0} → (L → List ℕ) → (L → Finish) → Output L → Effects
effects_of left finish made = record { written = made.written; lines = left made.lines; finish = finish made.lines }

-- each file is one of these
abbrev pub AreAmong : List FileText → List Target → Type 0
AreAmong [] targets = Unit {0}
AreAmong (file ∷ files) targets = Among file.target targets × AreAmong files targets

-- each is named by one of so many words
abbrev pub AreNamed : ℕ → List FileText → Type 0
AreNamed words [] = Unit {0}
AreNamed words (file ∷ files) = (file.target.word < words) × AreNamed words files

-- The work comes to one of the command's ends, writes its files alone, and blames a file that was read.
abbrev pub StaysWithin : {L : Type 0} → Account → (L → Finish) → Result (Output L) (Stop FileRefusal) → Type 0
StaysWithin account finish (Ok made) = Among (status_of_end (finish made.lines).end) account.ends × AreAmong made.written account.targets × AreNamed account.words made.written
StaysWithin account finish (Err (Refused file_refusal)) = file_refusal.word < length account.limits
StaysWithin account finish (Err NoMemory) = Unit {0}

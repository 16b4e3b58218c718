-- The log of reads: what one read adds, and what reading a file through adds.
use Rattle.std.specs.Prelude.{◌≡◌, ℕ, ◌+◌, ◌<◌, ◌≤◌, List, [], ◌∷◌, ◌++◌, Option, Some, None, Result, Ok, Err, unwrap_or, ◌⊎◌}
use Rattle.std.specs.Option.{option_map}
use Rattle.esi_links.specs.declared.note.Note.{Note}
use Rattle.esi_links.specs.declared.stop.OutStop.{OutStop}
use Rattle.esi_links.specs.declared.stop.OutStop.TheVariants.{Fault, NoMemory}

-- the notes told grow at their end by these, and are told where they were told
pub record AddsNotes (before now : Option (List Note)) (notes : List Note) : Type 0 where
  pub told : now ≡ option_map (λ old. old ++ notes) before

-- the notes told grow by notes of this kind
pub record AddsNotesOf (before now : Option (List Note)) (Kind : List Note → Type 0) : Type 0 where
  pub notes : List Note
  pub told : AddsNotes before now notes
  pub are : Kind notes

-- a read of a file from an octet on, for at most so many
abbrev pub read_note : List ℕ → ℕ → ℕ → Option ℕ → Note
read_note name at room count = record { name = name; at = at; room = room; count = count }

-- what one read notes: that it was done or that it failed. A read that ran out of memory notes nothing.
abbrev pub notes_of : List ℕ → ℕ → ℕ → Result ℕ OutStop → List Note
notes_of name at room (Ok count) = read_note name at room (Some count) ∷ []
notes_of name at room (Err Fault) = read_note name at room None ∷ []
notes_of name at room (Err NoMemory) = []

-- A read of this file from this octet on: it asked for at least one octet, and for none past the first one above the limit.
pub record IsReadAt (limit : ℕ) (name : List ℕ) (at : ℕ) (note : Note) : Type 0 where
  pub file : note.name ≡ name
  pub offset : note.at ≡ at
  pub some : 0 < note.room
  pub within : at + note.room ≤ limit + 1

-- how many octets were found
abbrev pub count_of : Note → ℕ
count_of note = unwrap_or note.count 0

-- such a read that found octets, no more than it asked for
pub record FindsAt (limit : ℕ) (name : List ℕ) (at : ℕ) (note : Note) : Type 0 where
  pub read : IsReadAt limit name at note
  pub some : 0 < count_of note
  pub fits : count_of note ≤ note.room

-- Reads of this file, one after the other, that each found octets: the first from one octet on, each where the one before ended,
-- and the last ended at `end`. There may be none.
abbrev pub AreInRow : ℕ → List ℕ → ℕ → ℕ → List Note → Type 0
AreInRow limit name at end [] = at ≡ end
AreInRow limit name at end (note ∷ rest) = FindsAt limit name at note × AreInRow limit name (at + count_of note) end rest

-- a read that found the end of the file there, and no read where the first octet above the limit was read already
abbrev pub IsEnd : ℕ → List ℕ → ℕ → List Note → Type 0
IsEnd limit name end [] = end ≡ limit + 1
IsEnd limit name end (note ∷ []) = IsReadAt limit name end note × (note.count ≡ Some 0)
IsEnd limit name end (note ∷ other ∷ rest) = ⊥

-- one read there that found this many octets, 0 at the end of the file
pub record IsPieceRead (limit : ℕ) (name : List ℕ) (at count : ℕ) (notes : List Note) : Type 0 where
  pub note : Note
  pub alone : notes ≡ note ∷ []
  pub read : IsReadAt limit name at note
  pub found : note.count ≡ Some count
  pub fits : count ≤ note.room

-- A file was read through, from an octet on: up to its end, or up to the first octet above the limit. `end` is where the octets ended.
pub record ReadThrough (limit : ℕ) (name : List ℕ) (at end : ℕ) (notes : List Note) : Type 0 where
  pub row : List Note
  pub last : List Note
  pub parts : notes ≡ row ++ last
  pub in_row : AreInRow limit name at end row
  pub is_end : IsEnd limit name end last

-- the reading of a file ended with a read that failed
pub record ReadFailed (limit : ℕ) (name : List ℕ) (at : ℕ) (notes : List Note) : Type 0 where
  pub row : List Note
  pub last : Note
  pub end : ℕ
  pub parts : notes ≡ row ++ last ∷ []
  pub in_row : AreInRow limit name at end row
  pub is_read : IsReadAt limit name end last
  pub failed : last.count ≡ None

-- the reading of a file stopped, out of memory, after reads of which none failed
pub record ReadCut (limit : ℕ) (name : List ℕ) (at : ℕ) (notes : List Note) : Type 0 where
  pub end : ℕ
  pub in_row : AreInRow limit name at end notes
  pub within : end ≤ limit + 1

-- Files were read through from their first octet on, in this order, one after the other, each up to one octet above its limit.
abbrev pub AreReadThrough : List ℕ → List (List ℕ) → List Note → Type 0
AreReadThrough [] [] notes = notes ≡ []
AreReadThrough [] (name ∷ names) notes = ⊥
AreReadThrough (limit ∷ limits) [] notes = ⊥
AreReadThrough (limit ∷ limits) (name ∷ names) notes = (first : List Note) × (rest : List Note) × (end : ℕ)
    × (notes ≡ first ++ rest) × ReadThrough limit name 0 end first × AreReadThrough limits names rest

-- Of files that are to be read so, the first were read through, the reading of the next one ended with a read that failed, and no
-- others were read.
abbrev pub AreReadToFault : List ℕ → List (List ℕ) → List Note → Type 0
AreReadToFault [] names notes = ⊥
AreReadToFault (limit ∷ limits) [] notes = ⊥
AreReadToFault (limit ∷ limits) (name ∷ names) notes = ReadFailed limit name 0 notes
    ⊎ ((first : List Note) × (rest : List Note) × (end : ℕ)
    × (notes ≡ first ++ rest) × ReadThrough limit name 0 end first × AreReadToFault limits names rest)

-- Of files that are to be read so, the first were read through, the reading of the next one, if there is one, stopped out of memory, and no
-- others were read.
abbrev pub AreReadToCut : List ℕ → List (List ℕ) → List Note → Type 0
AreReadToCut [] [] notes = notes ≡ []
AreReadToCut [] (name ∷ names) notes = ⊥
AreReadToCut (limit ∷ limits) [] notes = ⊥
AreReadToCut (limit ∷ limits) (name ∷ names) notes = ReadCut limit name 0 notes
    ⊎ ((first : List Note) × (rest : List Note) × (end : ℕ)
    × (notes ≡ first ++ rest) × ReadThrough limit name 0 end first × AreReadToCut limits names rest)

-- A list of calls of a hub, and the law of its rings: what joined a ring is what left it and what
-- still stands in it.
use Rattle.std.specs.Prelude.{◌≡◌, ℕ, ◌+◌, ◌<◌, ◌==◌, false, Some, List, [], ◌∷◌, ◌++◌, length, if◌then◌else◌}
use Rattle.endpoint_hub.specs.declared.journal.Attachment.{Attachment}
use Rattle.endpoint_hub.specs.declared.journal.Handed.{Handed}
use Rattle.cycle_rules.specs.Rings.{ring_at, front_of}
use Rattle.endpoint_hub.specs.Entries.{words_noted}
use Rattle.endpoint_hub.specs.Holdings.{Holdings, Takes, Pops, Pushes, Hands, Attaches, Closes, BeginsCycle, was_attached}
use Rattle.esi_base.specs.declared.word.Word.{Word}

-- a call that changed the hub, with the word that joined a ring or left it
pub data Call : Type 0 where
  Take : (channel conn stream : ℕ) → (word : Word) → Call
  Pop : (channel : ℕ) → (word : Word) → Call
  Push : (channel : ℕ) → (word : Word) → Call
  Hand : (channel : ℕ) → (word : Word) → Call
  Attach : (channel conn stream : ℕ) → Call
  Close : (channel : ℕ) → Call
  NextCycle : Call

-- the call found the one hub and left the other
abbrev pub Step : Holdings → Call → Holdings → Type 0
Step old (Take channel conn stream word) new =
    (channel < length old.to_server) × Takes old new channel conn stream word
Step old (Pop channel word) new =
    (front_of old.to_server channel ≡ Some word) × Pops old new channel
Step old (Push channel word) new =
    (channel < length old.to_client) × Pushes old new channel word
Step old (Hand channel word) new =
    (front_of old.to_client channel ≡ Some word) × Hands old new channel
Step old (Attach channel conn stream) new =
    (channel < length old.to_client) × (was_attached old.journal channel ≡ false) × Attaches old new channel conn stream
Step old (Close channel) new =
    (channel < length old.to_client) × Closes old new channel
Step old NextCycle new = BeginsCycle old new

-- the calls, one after another, lead from the one hub to the other
abbrev pub IsRun : Holdings → List Call → Holdings → Type 0
IsRun old [] new = old ≡ new
IsRun old (call ∷ calls) new = (between : Holdings) × (Step old call between × IsRun between calls new)

-- the word, where the channel is the one that is asked for
abbrev pub only : ℕ → ℕ → Word → List Word
only asked channel word = if channel == asked then word ∷ [] else []

-- the words that were taken on a to-server channel
abbrev pub words_taken : ℕ → List Call → List Word
words_taken asked [] = []
words_taken asked (Take channel conn stream word ∷ calls) = only asked channel word ++ words_taken asked calls
words_taken asked (Pop channel word ∷ calls) = words_taken asked calls
words_taken asked (Push channel word ∷ calls) = words_taken asked calls
words_taken asked (Hand channel word ∷ calls) = words_taken asked calls
words_taken asked (Attach channel conn stream ∷ calls) = words_taken asked calls
words_taken asked (Close channel ∷ calls) = words_taken asked calls
words_taken asked (NextCycle ∷ calls) = words_taken asked calls

-- the words that were popped from a to-server channel
abbrev pub words_popped : ℕ → List Call → List Word
words_popped asked [] = []
words_popped asked (Take channel conn stream word ∷ calls) = words_popped asked calls
words_popped asked (Pop channel word ∷ calls) = only asked channel word ++ words_popped asked calls
words_popped asked (Push channel word ∷ calls) = words_popped asked calls
words_popped asked (Hand channel word ∷ calls) = words_popped asked calls
words_popped asked (Attach channel conn stream ∷ calls) = words_popped asked calls
words_popped asked (Close channel ∷ calls) = words_popped asked calls
words_popped asked (NextCycle ∷ calls) = words_popped asked calls

-- the words that were pushed on a to-client channel
abbrev pub words_pushed : ℕ → List Call → List Word
words_pushed asked [] = []
words_pushed asked (Take channel conn stream word ∷ calls) = words_pushed asked calls
words_pushed asked (Pop channel word ∷ calls) = words_pushed asked calls
words_pushed asked (Push channel word ∷ calls) = only asked channel word ++ words_pushed asked calls
words_pushed asked (Hand channel word ∷ calls) = words_pushed asked calls
words_pushed asked (Attach channel conn stream ∷ calls) = words_pushed asked calls
words_pushed asked (Close channel ∷ calls) = words_pushed asked calls
words_pushed asked (NextCycle ∷ calls) = words_pushed asked calls

-- the words that were handed on a to-client channel
abbrev pub words_handed : ℕ → List Call → List Word
words_handed asked [] = []
words_handed asked (Take channel conn stream word ∷ calls) = words_handed asked calls
words_handed asked (Pop channel word ∷ calls) = words_handed asked calls
words_handed asked (Push channel word ∷ calls) = words_handed asked calls
words_handed asked (Hand channel word ∷ calls) = only asked channel word ++ words_handed asked calls
words_handed asked (Attach channel conn stream ∷ calls) = words_handed asked calls
words_handed asked (Close channel ∷ calls) = words_handed asked calls
words_handed asked (NextCycle ∷ calls) = words_handed asked calls

-- the streams that were attached, in order
abbrev pub streams_attached : List Call → List Attachment
streams_attached [] = []
streams_attached (Take channel conn stream word ∷ calls) = streams_attached calls
streams_attached (Pop channel word ∷ calls) = streams_attached calls
streams_attached (Push channel word ∷ calls) = streams_attached calls
streams_attached (Hand channel word ∷ calls) = streams_attached calls
streams_attached (Attach channel conn stream ∷ calls) = record { channel = channel; conn = conn; stream = stream } ∷ streams_attached calls
streams_attached (Close channel ∷ calls) = streams_attached calls
streams_attached (NextCycle ∷ calls) = streams_attached calls

-- how many hands a journal notes on a channel
abbrev pub times_handed : ℕ → List Handed → ℕ
times_handed asked [] = 0
times_handed asked (handed ∷ rest) = (if handed.channel == asked then 1 else 0) + times_handed asked rest

-- how many streams a journal notes as attached to a channel
abbrev pub times_attached : ℕ → List Attachment → ℕ
times_attached asked [] = 0
times_attached asked (attachment ∷ rest) = (if attachment.channel == asked then 1 else 0) + times_attached asked rest

-- what the calls did to the rings and the journal of one channel, and which streams they attached
pub record IsAccounted (old : Holdings) (calls : List Call) (new : Holdings) (channel : ℕ) : Type 0 where
  pub to_server : ring_at old.to_server channel ++ words_taken channel calls
      ≡ words_popped channel calls ++ ring_at new.to_server channel
  pub to_client : ring_at old.to_client channel ++ words_pushed channel calls
      ≡ words_handed channel calls ++ ring_at new.to_client channel
  pub taken : words_noted channel new.journal.taken
      ≡ words_noted channel old.journal.taken ++ words_taken channel calls
  pub handed : times_handed channel new.journal.handed
      ≡ times_handed channel old.journal.handed + length (words_handed channel calls)
  pub attached : new.journal.attached ≡ old.journal.attached ++ streams_attached calls

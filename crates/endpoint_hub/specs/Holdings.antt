-- What a hub holds, and what each call that changes it does.
use Rattle.std.specs.Prelude.{◌≡◌, ℕ, ◌+◌, ◌==◌, Bool, true, false, List, [], ◌∷◌, ◌++◌, replicate}
use Rattle.std.specs.List.{list_any, slice_set}
use Rattle.endpoint_hub.specs.declared.journal.Attachment.{Attachment}
use Rattle.endpoint_hub.specs.declared.journal.Journal.{Journal}
use Rattle.cycle_rules.specs.Rings.{rings_with, rings_without_front}
use Rattle.esi_base.specs.declared.word.Word.{Word}

-- the rings of both sides, one for each channel, of each to-client channel whether a stream was attached that has not ended, and
-- what the session has noted
pub record Holdings : Type 0 where
  pub to_server : List (List Word)
  pub to_client : List (List Word)
  pub has_stream : List Bool
  pub journal : Journal

-- the journal of a session in which nothing has happened
abbrev pub empty_journal : Journal
empty_journal = record { cycles = 0; taken = []; handed = []; attached = [] }

-- the hub has an empty ring for each channel and no stream, and nothing is noted
pub record IsNew (hub : Holdings) (to_server_count to_client_count : ℕ) : Type 0 where
  pub to_server : hub.to_server ≡ replicate to_server_count []
  pub to_client : hub.to_client ≡ replicate to_client_count []
  pub has_stream : hub.has_stream ≡ replicate to_client_count false
  pub journal : hub.journal ≡ empty_journal

-- the journal with one more value taken, in the cycle that runs
abbrev pub with_taken : Journal → ℕ → ℕ → ℕ → Word → Journal
with_taken journal channel conn stream word =
    record journal { taken = journal.taken ++ record { cycle = journal.cycles; channel = channel; conn = conn; stream = stream; word = word } ∷ [] }

-- the journal with one more value handed, in the cycle that runs
abbrev pub with_handed : Journal → ℕ → Journal
with_handed journal channel =
    record journal { handed = journal.handed ++ record { cycle = journal.cycles; channel = channel } ∷ [] }

-- the journal with one more stream attached
abbrev pub with_attached : Journal → ℕ → ℕ → ℕ → Journal
with_attached journal channel conn stream =
    record journal { attached = journal.attached ++ record { channel = channel; conn = conn; stream = stream } ∷ [] }

-- whether a stream is noted as attached to a channel
abbrev pub is_noted : List Attachment → ℕ → Bool
is_noted attached channel = list_any (λ (a : Attachment). a.channel == channel) attached

-- whether a stream was attached to the channel in this session
abbrev pub was_attached : Journal → ℕ → Bool
was_attached journal channel = is_noted journal.attached channel

-- a value joins the end of its to-server ring, and is noted as taken
pub record Takes (old new : Holdings) (channel conn stream : ℕ) (word : Word) : Type 0 where
  pub to_server : new.to_server ≡ rings_with old.to_server channel word
  pub to_client : new.to_client ≡ old.to_client
  pub has_stream : new.has_stream ≡ old.has_stream
  pub journal : new.journal ≡ with_taken old.journal channel conn stream word

-- a to-server ring loses its front
pub record Pops (old new : Holdings) (channel : ℕ) : Type 0 where
  pub to_server : new.to_server ≡ rings_without_front old.to_server channel
  pub to_client : new.to_client ≡ old.to_client
  pub has_stream : new.has_stream ≡ old.has_stream
  pub journal : new.journal ≡ old.journal

-- a word joins the end of its to-client ring
pub record Pushes (old new : Holdings) (channel : ℕ) (word : Word) : Type 0 where
  pub to_server : new.to_server ≡ old.to_server
  pub to_client : new.to_client ≡ rings_with old.to_client channel word
  pub has_stream : new.has_stream ≡ old.has_stream
  pub journal : new.journal ≡ old.journal

-- a to-client ring loses its front, and this is noted as handed
pub record Hands (old new : Holdings) (channel : ℕ) : Type 0 where
  pub to_server : new.to_server ≡ old.to_server
  pub to_client : new.to_client ≡ rings_without_front old.to_client channel
  pub has_stream : new.has_stream ≡ old.has_stream
  pub journal : new.journal ≡ with_handed old.journal channel

-- a channel has a stream, and this is noted as attached
pub record Attaches (old new : Holdings) (channel conn stream : ℕ) : Type 0 where
  pub to_server : new.to_server ≡ old.to_server
  pub to_client : new.to_client ≡ old.to_client
  pub has_stream : new.has_stream ≡ slice_set old.has_stream channel true
  pub journal : new.journal ≡ with_attached old.journal channel conn stream

-- a channel has no stream any more
pub record Closes (old new : Holdings) (channel : ℕ) : Type 0 where
  pub to_server : new.to_server ≡ old.to_server
  pub to_client : new.to_client ≡ old.to_client
  pub has_stream : new.has_stream ≡ slice_set old.has_stream channel false
  pub journal : new.journal ≡ old.journal

-- the next cycle begins
pub record BeginsCycle (old new : Holdings) : Type 0 where
  pub to_server : new.to_server ≡ old.to_server
  pub to_client : new.to_client ≡ old.to_client
  pub has_stream : new.has_stream ≡ old.has_stream
  pub journal : new.journal ≡ record old.journal { cycles = old.journal.cycles + 1 }

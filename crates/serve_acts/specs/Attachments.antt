-- Which streams were attached to the to-client channels, and which values were handed to each.
use Rattle.std.specs.Prelude.{ℕ, ◌==◌, Bool, true, is_none, Option, Some, None, List, [], ◌∷◌, ◌++◌, length, if◌then◌else◌}
use Rattle.cycle_rules.specs.Circuit.{Bits}
use Rattle.serve_acts.specs.Acts.{Act}
use Rattle.serve_acts.specs.Acts.Act.{Attaches, Hands}
use Rattle.serve_acts.specs.Served.{Replies}
use Rattle.serve_acts.specs.Streams.{is_stream, held}

-- the words that a channel handed, in order
abbrev pub handed_on : ℕ → List Act → List Bits
handed_on channel [] = []
handed_on channel (Hands other conn stream word ∷ t) = if other == channel then handed_on channel t ++ word ∷ [] else handed_on channel t
handed_on channel (act ∷ t) = handed_on channel t

-- those that were handed to a stream
abbrev pub handed_to : ℕ → ℕ → List Act → List Bits
handed_to c s [] = []
handed_to c s (Hands channel conn stream word ∷ t) = if is_stream conn stream c s then handed_to c s t ++ word ∷ [] else handed_to c s t
handed_to c s (act ∷ t) = handed_to c s t

-- a stream that is attached to a channel begins with the first value that was not handed before: `first` is how many were
pub record Attachment : Type 0 where
  pub channel : ℕ
  pub conn : ℕ
  pub stream : ℕ
  pub first : ℕ

-- all of them, in order
abbrev pub attachments : List Act → List Attachment
attachments [] = []
attachments (Attaches channel conn stream flow ∷ t) = attachments t ++ record { channel = channel; conn = conn; stream = stream; first = length (handed_on channel t) } ∷ []
attachments (act ∷ t) = attachments t

-- a channel's newest
abbrev pub newest : ℕ → List Act → Option Attachment
newest k [] = None
newest k (Attaches channel conn stream flow ∷ t) = if channel == k then Some (record { channel = channel; conn = conn; stream = stream; first = length (handed_on channel t) }) else newest k t
newest k (act ∷ t) = newest k t

-- that of a stream
abbrev pub attachment : ℕ → ℕ → List Act → Option Attachment
attachment c s [] = None
attachment c s (Attaches channel conn stream flow ∷ t) = if is_stream conn stream c s then Some (record { channel = channel; conn = conn; stream = stream; first = length (handed_on channel t) }) else attachment c s t
attachment c s (act ∷ t) = attachment c s t

-- no stream is attached to the channel, or none any more
abbrev pub is_free_by : Replies → Option Attachment → List Act → Bool
is_free_by replies None t = true
is_free_by replies (Some there) t = is_none (held replies there.conn there.stream t)

abbrev pub is_free : Replies → ℕ → List Act → Bool
is_free replies channel t = is_free_by replies (newest channel t) t

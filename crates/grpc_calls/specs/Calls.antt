-- What a deframer holds, what its calls do, and lists of calls.
use Rattle.std.specs.Prelude.{◌≡◌, ℕ, List, [], ◌∷◌, ◌++◌}
use Rattle.grpc_calls.specs.Messages.{IsMessage}
use Rattle.grpc_calls.specs.Streams.{End, Ends}

-- the limit of a message's length, and the octets that were fed and not yet given
pub record Deframing : Type 0 where
  pub limit : ℕ
  pub unread : List ℕ

-- the octets stand after those that were fed before
pub record Feeds (old : Deframing) (octets : List ℕ) (new : Deframing) : Type 0 where
  pub limit : new.limit ≡ old.limit
  pub unread : new.unread ≡ old.unread ++ octets

-- the message that stood first is handed out, and what was after it is left
pub record HandsOut (old : Deframing) (message : List ℕ) (new : Deframing) : Type 0 where
  pub limit : new.limit ≡ old.limit
  pub first : IsMessage old.limit old.unread message new.unread

-- a call: octets that are fed, a message that is handed out, an answer without a message, or out of memory
pub data Call : Type 0 where
  Feed : (octets : List ℕ) → Call
  HandOut : (message : List ℕ) → Call
  NoMessage : (end : End) → Call
  NoMemory : Call

-- the call found the one deframer and left the other
abbrev pub Step : Deframing → Call → Deframing → Type 0
Step old (Feed octets) new = Feeds old octets new
Step old (HandOut message) new = HandsOut old message new
Step old (NoMessage end) new = Ends old.limit old.unread end × (new ≡ old)
Step old NoMemory new = new ≡ old

-- the calls, one after another, lead from the one deframer to the other
abbrev pub IsRun : Deframing → List Call → Deframing → Type 0
IsRun old [] new = old ≡ new
IsRun old (call ∷ calls) new = (between : Deframing) × Step old call between × IsRun between calls new

-- the octets that were fed, joined
abbrev pub octets_fed : List Call → List ℕ
octets_fed [] = []
octets_fed (Feed octets ∷ calls) = octets ++ octets_fed calls
octets_fed (HandOut message ∷ calls) = octets_fed calls
octets_fed (NoMessage end ∷ calls) = octets_fed calls
octets_fed (NoMemory ∷ calls) = octets_fed calls

-- the messages that were given, in order
abbrev pub messages_given : List Call → List (List ℕ)
messages_given [] = []
messages_given (Feed octets ∷ calls) = messages_given calls
messages_given (HandOut message ∷ calls) = message ∷ messages_given calls
messages_given (NoMessage end ∷ calls) = messages_given calls
messages_given (NoMemory ∷ calls) = messages_given calls

-- each answer without a message among them is this one
abbrev pub AreAllEnds : End → List Call → Type 0
AreAllEnds end [] = Unit {0}
AreAllEnds end (Feed octets ∷ calls) = AreAllEnds end calls
AreAllEnds end (HandOut message ∷ calls) = AreAllEnds end calls
AreAllEnds end (NoMessage other ∷ calls) = (other ≡ end) × AreAllEnds end calls
AreAllEnds end (NoMemory ∷ calls) = AreAllEnds end calls

-- no message was given, each answer was this refusal, and the next one is
pub record StaysRefused (calls : List Call) (new : Deframing) (end : End) : Type 0 where
  pub none : messages_given calls ≡ []
  pub answers : AreAllEnds end calls
  pub ends : Ends new.limit new.unread end

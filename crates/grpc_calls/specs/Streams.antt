-- The messages of a whole stream.
use Rattle.std.specs.Prelude.{◌≡◌, ℕ, List, [], ◌∷◌}
use Rattle.grpc_calls.specs.Messages.{IsMessage, IsCompressed, IsTooLong, IsUnfinished}

-- how a stream goes on after its whole messages
pub data End : Type 0 where
  Compressed : End
  TooLong : End
  Unfinished : End

-- the octets, in which the next message would stand, end the stream so
abbrev pub Ends : ℕ → List ℕ → End → Type 0
Ends limit octets Compressed = IsCompressed octets
Ends limit octets TooLong = IsTooLong limit octets
Ends limit octets Unfinished = IsUnfinished limit octets

-- the octets are these messages, one after another, and then the rest
abbrev pub AreMessages : ℕ → List ℕ → List (List ℕ) → List ℕ → Type 0
AreMessages limit octets [] rest = octets ≡ rest
AreMessages limit octets (message ∷ messages) rest =
    (after : List ℕ) × IsMessage limit octets message after × AreMessages limit after messages rest

-- the octets are these messages and no others: then comes a refusal, or less than a message
pub record IsStream (limit : ℕ) (octets : List ℕ) (messages : List (List ℕ)) (rest : List ℕ) (end : End) : Type 0 where
  pub are : AreMessages limit octets messages rest
  pub ends : Ends limit rest end

-- there are such messages
pub record HasStream (limit : ℕ) (octets : List ℕ) : Type 0 where
  pub messages : List (List ℕ)
  pub rest : List ℕ
  pub end : End
  pub stream : IsStream limit octets messages rest end

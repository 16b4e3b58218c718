-- What can stand first in the octets of a stream of messages, by "gRPC over HTTP/2", Length-Prefixed-Message:
-- a Compressed-Flag of one octet, a Message-Length of four octets, the most significant first, and the Message.
use Rattle.std.specs.Prelude.{◌≡◌, ℕ, ◌+◌, ◌*◌, ◌^◌, ◌/◌, ◌%◌, ◌<◌, ◌≤◌, ◌⊎◌, List, ◌∷◌, [], ◌++◌, length}
use Rattle.grpc_calls.specs.declared.prefix.TheConstants.{PREFIX_OCTETS}

-- the number that four octets are, the most significant first
abbrev pub big_endian : ℕ → ℕ → ℕ → ℕ → ℕ
big_endian a b c d = ((a * 2 ^ 8 + b) * 2 ^ 8 + c) * 2 ^ 8 + d

-- the four octets of a number below 2^32, the most significant first
abbrev pub big_endian_octets : ℕ → List ℕ
big_endian_octets n = n / 2 ^ 24 ∷ n / 2 ^ 16 % 2 ^ 8 ∷ n / 2 ^ 8 % 2 ^ 8 ∷ n % 2 ^ 8 ∷ []

-- a message with its prefix, whose flag is 0
abbrev pub prefixed_of : List ℕ → List ℕ
prefixed_of message = 0 ∷ (big_endian_octets (length message) ++ message)

-- first stands a whole message of at most `limit` octets that is not compressed, and then what is after it
pub record IsMessage (limit : ℕ) (octets message after : List ℕ) : Type 0 where
  pub a : ℕ
  pub b : ℕ
  pub c : ℕ
  pub d : ℕ
  pub whole : octets ≡ 0 ∷ a ∷ b ∷ c ∷ d ∷ (message ++ after)
  pub count : length message ≡ big_endian a b c d
  pub within : length message ≤ limit

abbrev pub HoldsMessage : ℕ → List ℕ → Type 0
HoldsMessage limit octets = (message : List ℕ) × (after : List ℕ) × IsMessage limit octets message after

-- first stands a prefix whose flag is not 0
pub record IsCompressed (octets : List ℕ) : Type 0 where
  pub flag : ℕ
  pub a : ℕ
  pub b : ℕ
  pub c : ℕ
  pub d : ℕ
  pub rest : List ℕ
  pub whole : octets ≡ flag ∷ a ∷ b ∷ c ∷ d ∷ rest
  pub flagged : 0 < flag

-- first stands a prefix with the flag 0, whose length passes the limit
pub record IsTooLong (limit : ℕ) (octets : List ℕ) : Type 0 where
  pub a : ℕ
  pub b : ℕ
  pub c : ℕ
  pub d : ℕ
  pub rest : List ℕ
  pub whole : octets ≡ 0 ∷ a ∷ b ∷ c ∷ d ∷ rest
  pub beyond : limit < big_endian a b c d

-- first stands a prefix of a message that is allowed, of which not all octets stand
pub record IsCut (limit : ℕ) (octets : List ℕ) : Type 0 where
  pub a : ℕ
  pub b : ℕ
  pub c : ℕ
  pub d : ℕ
  pub rest : List ℕ
  pub whole : octets ≡ 0 ∷ a ∷ b ∷ c ∷ d ∷ rest
  pub within : big_endian a b c d ≤ limit
  pub missing : length rest < big_endian a b c d

-- less than a message: no whole prefix, or less than its message after it
abbrev pub IsUnfinished : ℕ → List ℕ → Type 0
IsUnfinished limit octets = (length octets < PREFIX_OCTETS) ⊎ IsCut limit octets

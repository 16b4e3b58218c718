-- What a circuit answers in a cycle, whatever it is made of.
use Rattle.std.specs.Prelude.{◌≡◌, ℕ, Bool, List, length, Option}

-- a word, as its bits
abbrev pub Bits : Type 0
Bits = List Bool

-- A circuit has so many channels to the server and to the client. In a cycle each to-server channel offers a word (Some) or
-- none, and each to-client channel has room or not. `readies` says which offers the circuit takes, `words` which word it
-- offers to each to-client channel, `next` what is in it in the next cycle. It answers for all of its channels.
pub record Circuit (S : Type 0) : Type 0 where
  pub to_server_count : ℕ
  pub to_client_count : ℕ
  pub readies : S → List (Option Bits) → List Bool → List Bool
  pub words : S → List (Option Bits) → List Bool → List (Option Bits)
  pub next : S → List (Option Bits) → List Bool → S
  pub all_readies : (state : S) (offers : List (Option Bits)) (rooms : List Bool) → length offers ≡ to_server_count → length rooms ≡ to_client_count
      → length (readies state offers rooms) ≡ to_server_count
  pub all_words : (state : S) (offers : List (Option Bits)) (rooms : List Bool) → length offers ≡ to_server_count → length rooms ≡ to_client_count
      → length (words state offers rooms) ≡ to_client_count

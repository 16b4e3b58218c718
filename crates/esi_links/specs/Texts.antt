-- What reading and writing do to the texts that files tell.
use Rattle.std.specs.Prelude.{◌≡◌, ◌≢◌, ℕ, ◌+◌, ◌≤◌, List, Option, length, take, drop, IfSome}

-- the piece holds the octets that stand in the text from `at` on, and an empty one is its end
pub record PieceAt (told : Option (List ℕ)) (at : ℕ) (piece : List ℕ) : Type 0 where
  pub here : IfSome told (λ text. take (length piece) (drop at text) ≡ piece)
  pub end : IfSome told (λ text. length piece ≡ 0 → length text ≤ at)

-- every text is told as before
abbrev pub SameTexts : (List ℕ → Option (List ℕ)) → (List ℕ → Option (List ℕ)) → Type 0
SameTexts before now = (name : List ℕ) → now name ≡ before name

-- every text but the one under this name is told as before
abbrev pub SameElsewhere : List ℕ → (List ℕ → Option (List ℕ)) → (List ℕ → Option (List ℕ)) → Type 0
SameElsewhere name before now = (other : List ℕ) → other ≢ name → now other ≡ before other

-- the octets are the prefix of the text, up to one octet above the limit
pub record ReadUpTo (limit : ℕ) (told : Option (List ℕ)) (octets : List ℕ) : Type 0 where
  pub within : length octets ≤ limit + 1
  pub prefix : IfSome told (λ text. take (limit + 1) text ≡ octets)

-- the octets are a prefix of the text
pub record PrefixOf (told : Option (List ℕ)) (octets : List ℕ) : Type 0 where
  pub prefix : IfSome told (λ text. take (length octets) text ≡ octets)

-- this many octets were read after a prefix, 0 of them at the end of the text
pub record ReadsOn (count : ℕ) (told : Option (List ℕ)) (before now : List ℕ) : Type 0 where
  pub prefix : PrefixOf told now
  pub longer : length now ≡ length before + count
  pub whole : count ≡ 0 → IfSome told (λ text. text ≡ now)

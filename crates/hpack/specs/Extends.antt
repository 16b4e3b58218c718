-- Octets that were added at the end.
use Rattle.std.specs.Prelude.{◌≡◌, ℕ, List, ◌++◌}

-- new octets are the old ones with others after them
pub record Extends (old new : List ℕ) : Type 0 where
  pub more : List ℕ
  pub whole : new ≡ old ++ more

-- What was given to a stream to send, and what was put on it.
use Rattle.std.specs.Prelude.{◌≡◌, ℕ, ◌++◌, Option, Some, None, List}
use Rattle.serve_acts.specs.Prefixes.{Begins}
use Rattle.serve_acts.specs.Streams.{Held}

-- the DATA that was put on a stream is a prefix of what it was given to send; and all of it but what it still holds
abbrev pub Fits : List ℕ → List ℕ → Option Held → Type 0
Fits given put None = Begins put given
Fits given put (Some there) = given ≡ put ++ there.unsent

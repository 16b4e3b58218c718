-- Values are taken in the order in which their calls arrived, and each once.
use Rattle.std.specs.Prelude.{◌≡◌, ℕ, List, ◌++◌, filter}
use Rattle.serve_acts.specs.Acts.{Act}
use Rattle.serve_acts.specs.Calls.{is_on, taken, refused, waiting, kept}

-- A channel's calls that were not withdrawn are, in order of arrival: first those whose values were taken, then those that were
-- answered that the session is full, then those that wait.
pub record IsInOrder (channel : ℕ) (t : List Act) : Type 0 where
  pub order : kept channel t ≡ filter (is_on channel) (taken t) ++ (filter (is_on channel) (refused t) ++ waiting channel t)

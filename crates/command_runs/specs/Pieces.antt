-- Output that is printed in pieces.
use Rattle.std.specs.Prelude.{◌≡◌, ℕ, List, ◌++◌, Option}
use Rattle.esi_links.specs.Growth.{Grows}

-- some of all that was to be printed was, and this is left
pub record PrintsSome (before now : Option (List ℕ)) (all left : List ℕ) : Type 0 where
  pub piece : List ℕ
  pub parts : all ≡ piece ++ left
  pub grows : Grows before now piece

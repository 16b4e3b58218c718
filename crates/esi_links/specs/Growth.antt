-- How the octets that a sink tells grow.
use Rattle.std.specs.Prelude.{◌≡◌, ℕ, ◌<◌, List, Option, ◌++◌, length, take}
use Rattle.std.specs.Option.{option_map}

-- the octets told grow at their end by exactly these, and are told where they were told
pub record Grows (before now : Option (List ℕ)) (octets : List ℕ) : Type 0 where
  pub told : now ≡ option_map (λ old. old ++ octets) before

-- the octets told grow by a prefix of these that is not the whole
pub record GrowsByPrefix (before now : Option (List ℕ)) (octets : List ℕ) : Type 0 where
  pub count : ℕ
  pub within : count < length octets
  pub grows : Grows before now (take count octets)

use Rattle.small_text.proofs.PartPlaces.{places_are_right}
use Rattle.small_text.proofs.laws.places_law.Goals as goal

pub returns : goal.returns
returns c = places_are_right

-- The nets that a net reads, as a list.
use Rattle.std.specs.Prelude.{ℕ, List, [], ◌∷◌}
use Rattle.netlist.specs.declared.net.Sources.{Sources}
use Rattle.netlist.specs.declared.net.Sources.TheVariants.{None, One, Two, Three}

abbrev pub listed : Sources → List ℕ
listed None = []
listed (One a) = a ∷ []
listed (Two a b) = a ∷ b ∷ []
listed (Three a b c) = a ∷ b ∷ c ∷ []

use Rattle.std.proofs.Common.{◌≡◌, length, ◌++◌}
use Rattle.h2_layouts.specs.Rules.{settings_of as settings_in}
use Rattle.h2_layouts.proofs.settings_frame.settings_of.Given as goal

-- the settings so far, and those of what is left, are those of all
abbrev pub invariant-settings : goal.invariant-settings
invariant-settings l = l.pairs ++ settings_in l.rest ≡ settings_in l.fn.octets

abbrev pub decreases-settings : goal.decreases-settings
decreases-settings l = length l.rest

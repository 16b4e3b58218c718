-- The words that a cell holds.
use Rattle.std.specs.Prelude.{List, [], ◌∷◌}
use Rattle.cycle_rules.specs.Circuit.{Bits}
use Rattle.pipe_cells.specs.declared.cell.Content.{Content}
use Rattle.pipe_cells.specs.declared.cell.Content.TheVariants.{Empty, One, Two}

-- the older word first
abbrev pub words_held : Content → List Bits
words_held Empty = []
words_held (One word) = word ∷ []
words_held (Two older newer) = older ∷ newer ∷ []

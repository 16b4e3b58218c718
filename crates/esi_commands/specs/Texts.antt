-- The texts of a command's files.
use Rattle.std.specs.Prelude.{ℕ, List, [], slice_index_or}
use Rattle.command_runs.specs.Work.{Effects, all_done}

-- the text of the file with this index, in the order of the words
abbrev pub text_at : List (List ℕ) → ℕ → List ℕ
text_at texts at = slice_index_or texts at []

-- these lines are printed, and nothing else is done
abbrev pub prints : List ℕ → Effects
prints lines = record { written = []; lines = lines; finish = all_done }

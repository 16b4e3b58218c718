-- What changes from one cycle to the next, and how many nets are evaluated.
use Rattle.std.specs.Prelude.{ℕ, ◌==◌, ◌||◌, Bool, true, false, not, if◌then◌else◌, List, [], ◌∷◌, Option, Some, None, count_by}
use Rattle.std.specs.List.{slice_index_or, slice_set}
use Rattle.esi_base.specs.Bits.{same_bits}
use Rattle.netlist.specs.declared.net.Net.{Net}
use Rattle.netlist.specs.Nets.{Bits, word_at, sources, is_computed}

-- whether a word is another one
abbrev pub is_changed : Bits → Bits → Bool
is_changed old new = not (same_bits old new)

-- whether at least one of some nets has another word than before
abbrev pub some_differs : List Bits → List Bits → List ℕ → Bool
some_differs before words [] = false
some_differs before words (i ∷ is) = is_changed (word_at before i) (word_at words i) || some_differs before words is

-- Whether a net is evaluated in a cycle that comes to these words. In the first cycle those are the nets
-- that are neither inputs nor registers. Behind a cycle with the words `before` they are the nets of which
-- at least one source has another word than then; inputs and registers have no sources.
abbrev pub is_evaluated : Option (List Bits) → List Bits → Net → Bool
is_evaluated None words net = is_computed net
is_evaluated (Some before) words net = some_differs before words (sources net)

-- how many nets are evaluated in such a cycle
abbrev pub steps_of : List Net → Option (List Bits) → List Bits → ℕ
steps_of nets last words = count_by (is_evaluated last words) nets

-- ---- marks

-- whether a place is marked
abbrev pub is_marked : List Bool → ℕ → Bool
is_marked marks place = slice_index_or marks place false

abbrev pub is_among : List ℕ → ℕ → Bool
is_among [] i = false
is_among (j ∷ js) i = (j == i) || is_among js i

-- the marks with those of some places set, of which a test chooses
abbrev pub with_marks : (ℕ → Bool) → List ℕ → List Bool → List Bool
with_marks chosen [] marks = marks
with_marks chosen (i ∷ is) marks = with_marks chosen is (if chosen i then slice_set marks i true else marks)

-- the same where a word is another one, else as they were
abbrev pub marks_put : (ℕ → Bool) → List ℕ → Bits → Bits → List Bool → List Bool
marks_put chosen users old new marks = if is_changed old new then with_marks chosen users marks else marks

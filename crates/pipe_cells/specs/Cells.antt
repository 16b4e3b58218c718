-- A pipe as a row of cells, each with at most two words, its oldest first. All transfers of a cycle depend on the cells as they
-- were before it.
use Rattle.std.specs.Prelude.{nat_lt, Bool, false, if◌then◌else◌, List, [], ◌∷◌, ◌++◌, length, drop, Option, None, option_to_list, refl}
use Rattle.cycle_rules.specs.Circuit.{Bits, Circuit}
use Rattle.cycle_rules.specs.Lists.{first}

-- a cell takes a word where it has fewer than two
abbrev pub is_ready : List Bits → Bool
is_ready cell = nat_lt (length cell) 2

-- whether what follows takes a word: the next cell, or after the last one the ring, where it has room
abbrev pub next_ready : List (List Bits) → Bool → Bool
next_ready [] room = room
next_ready (cell ∷ cells) room = is_ready cell

-- the word that comes out of the row: the last cell's first, and through no cell what was offered
abbrev pub word_out : Option Bits → List (List Bits) → Option Bits
word_out offered [] = offered
word_out offered (cell ∷ cells) = word_out (first cell) cells

-- a cell after a cycle: without its first word where what follows takes it, and with the word offered to it where it is ready
abbrev pub cell_after : Option Bits → List Bits → Bool → List Bits
cell_after offered cell gives = (if gives then drop 1 cell else cell) ++ (if is_ready cell then option_to_list offered else [])

-- the row after a cycle
abbrev pub row_after : Option Bits → List (List Bits) → Bool → List (List Bits)
row_after offered [] room = []
row_after offered (cell ∷ cells) room = cell_after offered cell (next_ready cells room) ∷ row_after (first cell) cells room

-- the one channel's offer, and its room
abbrev pub only_offer : List (Option Bits) → Option Bits
only_offer [] = None
only_offer (offer ∷ offers) = offer

abbrev pub only_room : List Bool → Bool
only_room [] = false
only_room (room ∷ rooms) = room

-- the row as a circuit of one channel each way
abbrev pub pipe_circuit : Circuit (List (List Bits))
pipe_circuit = record {
  to_server_count = 1;
  to_client_count = 1;
  readies = λ cells offers rooms. next_ready cells (only_room rooms) ∷ [];
  words = λ cells offers rooms. word_out (only_offer offers) cells ∷ [];
  next = λ cells offers rooms. row_after (only_offer offers) cells (only_room rooms);
  all_readies = λ cells offers rooms offered roomy. refl;
  all_words = λ cells offers rooms offered roomy. refl;
}

-- the words in the row, the oldest first: those of the last cell come first
abbrev pub words_in : List (List Bits) → List Bits
words_in [] = []
words_in (cell ∷ cells) = words_in cells ++ cell

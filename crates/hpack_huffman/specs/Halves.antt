-- The tables of the code as a machine that reads four bits at a time.
use Rattle.std.specs.Prelude.{ℕ, ◌+◌, ◌*◌, ◌/◌, ◌%◌, ◌==◌, if◌then◌else◌, nat_lt, List, [], ◌∷◌, Option, Some, None, slice_index}
use Rattle.hpack_huffman.specs.declared.steps.TheConstants.{NEXT_NODES, SYMBOLS}
use Rattle.hpack_huffman.specs.Machines.{joined}

-- What the two entries of a node and four bits stand for: at most one symbol, and the node after it.
abbrev pub entry_reading : ℕ → ℕ → Option (List ℕ × ℕ)
entry_reading symbol next = if nat_lt symbol 256 then Some (symbol ∷ [], next) else (if symbol == 256 then None else Some ([], next))

-- Four bits more.
unfoldable pub half_turn : ℕ → ℕ → Option (List ℕ × ℕ)
half_turn node half = entry_reading (slice_index SYMBOLS (16 * node + half)) (slice_index NEXT_NODES (16 * node + half))

abbrev pub octet_turn : ℕ → ℕ → Option (List ℕ × ℕ)
octet_turn node octet = joined (half_turn node (octet / 16)) (λ next. half_turn next (octet % 16))

-- The symbols of octets, and the node after them.
abbrev pub read_from : ℕ → List ℕ → Option (List ℕ × ℕ)
read_from node [] = Some ([], node)
read_from node (octet ∷ octets) = joined (octet_turn node octet) (λ next. read_from next octets)

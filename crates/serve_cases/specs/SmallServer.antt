-- A small server, to work turns with: a pipe of two stages, and calls of one frame of DATA.
use Rattle.std.specs.Prelude.{ℕ, ◌+◌, ◌/◌, ◌%◌, ◌==◌, if◌then◌else◌, Bool, List, [], ◌∷◌, length, codes}
use Rattle.cycle_rules.specs.Circuit.{Bits}
use Rattle.hpack.specs.declared.header.Header.{Header}
use Rattle.hpack.specs.StaticTable.{field}
use Rattle.pipe_cells.specs.Cells.{pipe_circuit}
use Rattle.serve_acts.specs.Served.{Served, Replies}
use Rattle.serve_acts.specs.declared.decline.Decline.{Decline}
use Rattle.serve_acts.specs.declared.decline.Decline.TheVariants.{Http, Status}

-- ---- words of eight bits

abbrev bit : ℕ → ℕ → Bool
bit weight octet = octet / weight % 2 == 1

abbrev pub octet_bits : ℕ → Bits
octet_bits octet = bit 128 octet ∷ bit 64 octet ∷ bit 32 octet ∷ bit 16 octet ∷ bit 8 octet ∷ bit 4 octet ∷ bit 2 octet ∷ bit 1 octet ∷ []

-- the number whose bits stand behind those of another
abbrev number_behind : ℕ → Bits → ℕ
number_behind n [] = n
number_behind n (b ∷ bits) = number_behind (n + n + (if b then 1 else 0)) bits

abbrev pub number_of : Bits → ℕ
number_of bits = number_behind 0 bits

-- ---- replies: a field of its own tells how a call went

abbrev declined : Decline → List Header
declined (Http status) = field (codes ":status") (codes "400") ∷ []
declined (Status status) = field (codes ":status") (codes "200") ∷ field (codes "retry-after") [] ∷ []

abbrev pub small_replies : Replies
small_replies = record {
  begin = field (codes ":status") (codes "200") ∷ [];
  trailers = field (codes "age") [] ∷ [];
  decline = declined;
  taken = 0 ∷ 0 ∷ 0 ∷ 0 ∷ 0 ∷ [];
  message = λ channel word. 0 ∷ 0 ∷ 0 ∷ 0 ∷ 3 ∷ 10 ∷ 1 ∷ number_of word ∷ [];
}

abbrev pub small : Served (List (List Bits))
small = record { circuit = pipe_circuit; start = [] ∷ [] ∷ []; is_value = λ channel word. length word == 8; replies = small_replies }

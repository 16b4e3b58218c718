-- Worked examples of weights and loads, and a row that runs. Each of them holds by computing.
use Rattle.std.specs.Prelude.{◌≡◌, ℕ, zero, suc, ◌+◌, ◌*◌, nat_lt, Bool, true, List, [], ◌∷◌, ◌++◌, length, map, drop, get_or, if◌then◌else◌, refl}
use Rattle.esi_base.specs.Bits.{bits_of}
use Rattle.element_laws.specs.Signals.{Bits, Signals, is_transfer, transferred}
use Rattle.element_laws.specs.Histories.{Channel, transfers}
use Rattle.element_laws.specs.Elements.{Element, Contents}
use Rattle.element_laws.specs.Elements.Element.{stage, fifo, as_vr, scan_by, fork, join}
use Rattle.element_rows.specs.Flat.{Placed, at, flow}
use Rattle.element_rows.specs.Rows.{Running, AreRunning, server_lists}
use Rattle.element_rows.specs.Examples.{pipe}
use Rattle.element_load.specs.Load.{weight, load, CanTake}
use Rattle.element_load.specs.LoadLaws.{befores, lost, greatest}

abbrev pub octet : ℕ → Bits
octet n = bits_of 8 n

abbrev placed : Element → List ℕ → Placed
placed element sources = record { element = element; sources = sources }

-- ---- weights

-- two stages before an endpoint: 2, 3, 4
pipe_weights : map (weight 1 pipe (2 ∷ [])) (0 ∷ 1 ∷ 2 ∷ []) ≡ 4 ∷ 3 ∷ 2 ∷ []
pipe_weights = refl

-- so three values need 3 * (2 + 4) cycles at most
pipe_settles : 3 * (2 + greatest (weight 1 pipe (2 ∷ [])) 1) ≡ 18
pipe_settles = refl

-- a scan, a fork with one branch to an endpoint and one through a fifo and an as_vr: (1 + 2) + (1 + (1 + 2))
summed_weights : map (weight 1 (placed (scan_by (λ a b. a) []) (0 ∷ []) ∷ placed (fork 2) (1 ∷ []) ∷ placed (fifo 2) (3 ∷ []) ∷ placed as_vr (4 ∷ []) ∷ []) (2 ∷ 5 ∷ []))
    (0 ∷ 1 ∷ 2 ∷ 3 ∷ 4 ∷ 5 ∷ []) ≡ 7 ∷ 7 ∷ 2 ∷ 3 ∷ 2 ∷ 2 ∷ []
summed_weights = refl

-- no join can be weighed
join_cannot : CanTake join → ⊥
join_cannot can = can

-- ---- the pipe of two stages, run as one would program it

-- what stands in line, what the stages hold, and whether the endpoint takes a word
pub record Cycle : Type 0 where
  pub line : List Bits
  pub first : List Bits
  pub second : List Bits
  pub takes : Bool

-- a channel that offers the oldest of some words to a reader with room or not
abbrev pub from : List Bits → Bool → Signals
from words ready = record { valid = nat_lt 0 (length words); word = get_or words 0 []; ready = ready }

abbrev pub channels : ℕ → Channel Cycle
channels zero cycle = from cycle.line (nat_lt (length cycle.first) 2)
channels (suc zero) cycle = from cycle.first (nat_lt (length cycle.second) 2)
channels (suc (suc c)) cycle = from cycle.second cycle.takes

abbrev pub left_of : List Bits → Signals → List Bits
left_of words s = if is_transfer s then drop 1 words else words

abbrev pub next : Bool → Cycle → Cycle
next takes cycle = record {
  line = left_of cycle.line (channels 0 cycle);
  first = left_of cycle.first (channels 1 cycle) ++ transferred (channels 0 cycle);
  second = left_of cycle.second (channels 2 cycle) ++ transferred (channels 1 cycle);
  takes = takes;
}

abbrev pub holding : List Bits → Contents
holding words = record { held = words; state = []; flags = [] }

abbrev pub row : List (Running Cycle)
row =
    record { placed = placed stage (0 ∷ []); before = λ c. holding c.first; after = λ c. holding (next true c).first }
    ∷ record { placed = placed stage (1 ∷ []); before = λ c. holding c.second; after = λ c. holding (next true c).second } ∷ []

-- three values in line
abbrev pub started : Cycle
started = record { line = map octet (1 ∷ 2 ∷ 3 ∷ []); first = []; second = []; takes = true }

-- so many cycles, all of them with an open end, the newest first
abbrev pub newest : List Cycle → Cycle
newest [] = started
newest (cycle ∷ earlier) = next true cycle

abbrev pub run : ℕ → List Cycle
run zero = []
run (suc n) = newest (run n) ∷ run n

abbrev load_in : Cycle → ℕ
load_in cycle = load (weight 1 pipe (2 ∷ [])) 1 pipe (λ c. length cycle.line) (befores row cycle)

-- the load cycle by cycle, the newest first: it falls by two for a word that goes out and one for each stage that takes one
loads : map load_in (run 6) ≡ 0 ∷ 2 ∷ 5 ∷ 9 ∷ 11 ∷ 12 ∷ []
loads = refl

losses : map (lost channels 1 row (2 ∷ [])) (run 6) ≡ 0 ∷ 2 ∷ 3 ∷ 4 ∷ 2 ∷ 1 ∷ []
losses = refl

-- the values come out in cycles 2, 3 and 4
came_out : map (λ n. length (transfers (channels 2) (run n))) (1 ∷ 2 ∷ 3 ∷ 4 ∷ 5 ∷ 6 ∷ []) ≡ 0 ∷ 0 ∷ 1 ∷ 2 ∷ 3 ∷ 3 ∷ []
came_out = refl

-- and are all that the stream function gives
arrived : transfers (channels 2) (run 6) ≡ at (flow pipe (server_lists (λ c. transfers (channels c) (run 6)) 1)) 2
arrived = refl

-- this is a run of the row, so what the laws say of it is not empty
row_runs : AreRunning channels 1 row (run 3)
row_runs = (
  (record { offers = refl; ready = refl; next = refl }, refl, (record { offers = refl; ready = refl; next = refl }, refl, (record { offers = refl; ready = refl; next = refl }, refl, tt))),
  ((record { offers = refl; ready = refl; next = refl }, refl, (record { offers = refl; ready = refl; next = refl }, refl, (record { offers = refl; ready = refl; next = refl }, refl, tt))), tt),
)

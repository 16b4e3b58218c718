-- The simulation of a pipe from empty.
use Rattle.std.specs.Prelude.{◌≡◌, ℕ, zero, suc, List, [], ◌++◌, replicate, refl}
use Rattle.std.proofs.Common.{ap, sym, arith}
use Rattle.cycle_rules.specs.Circuit.{Bits}
use Rattle.cycle_rules.specs.Puts.{waiting_on, LosesNone, TakesInOrder}
use Rattle.cycle_rules.specs.PutsLemmas.{loses_none}
use Rattle.cycle_rules.specs.PipeSimulation.{simulation_of, at_start}
use Rattle.cycle_rules.specs.Order.{HandsInOrder}
use Rattle.cycle_rules.specs.OrderLemmas.{stays_in_order, hands_in_order}
use Rattle.cycle_rules.specs.Simulation.{Simulation, after_actions}
use Rattle.cycle_rules.specs.declared.action.Action.{Action}
use Rattle.pipe_cells.specs.Cells.{pipe_circuit, words_in}
use Rattle.pipe_cells.specs.CellsOrder.{pipe_keeps_order}

-- a row of so many empty cells, driven by the actions
abbrev pub pipe_run : ℕ → List Action → Simulation (List (List Bits))
pipe_run stages actions = after_actions pipe_circuit actions (simulation_of (at_start (replicate stages [])))

none_in_empty : (stages : ℕ) → words_in (replicate stages []) ≡ []
none_in_empty zero = refl
none_in_empty (suc stages) = ap (λ (words : List Bits). words ++ []) (none_in_empty stages)

pub pipe_hands_in_order : (stages : ℕ) (actions : List Action) → HandsInOrder (pipe_run stages actions)
pipe_hands_in_order stages actions =
    hands_in_order pipe_circuit words_in actions (at_start (replicate stages []))
    (stays_in_order pipe_circuit words_in pipe_keeps_order (replicate stages []) actions (none_in_empty stages))

pub pipe_takes_in_order : (stages : ℕ) (actions : List Action) → TakesInOrder 0 actions (pipe_run stages actions)
pipe_takes_in_order stages actions =
    let start : Simulation (List (List Bits)) = simulation_of (at_start (replicate stages [])) in
    let none_lost : LosesNone 0 actions start (pipe_run stages actions) =
    loses_none pipe_circuit 0 (omega arith) actions start (record { waiting = refl; rings = record { to_server = refl; to_client = refl }; switches = refl }) in
    record { others = waiting_on 0 (pipe_run stages actions); prefix = sym none_lost.values }

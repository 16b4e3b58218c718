-- A worked example: the nets of one stage of eight bits, between a ready input and a ready output.
use Rattle.std.specs.Prelude.{◌≡◌, true, false, List, [], ◌∷◌, Some, None, drop, map, refl}
use Rattle.netlist.specs.declared.net.Net.{Net}
use Rattle.netlist.specs.declared.net.Net.TheVariants.{Input, Register, Not, And, Or, Choose}
use Rattle.netlist.specs.Nets.{Bits, result_of}
use Rattle.netlist.specs.Settled.{operands}
use Rattle.cycle_sim.specs.Changes.{steps_of}

-- inputs valid, word and ready; registers V0, V1, D0 and D1; and the ten nets behind them
abbrev one_stage : List Net
one_stage = (Input 1) ∷ (Input 8) ∷ (Input 1) ∷ (Register (false ∷ [])) ∷ (Register (false ∷ [])) ∷ (Register (false ∷ false ∷ false ∷ false ∷ false ∷ false ∷ false ∷ false ∷ [])) ∷ (Register (false ∷ false ∷ false ∷ false ∷ false ∷ false ∷ false ∷ false ∷ [])) ∷ (Not 4) ∷ (And 0 7) ∷ (And 3 2) ∷ (Not 9) ∷ (And 3 10) ∷ (Or 4 8) ∷ (Or 11 12) ∷ (And 11 12) ∷ (Choose 4 6 1) ∷ (Choose 11 5 15) ∷ []

-- an empty stage with nothing offered
abbrev idle : List Bits
idle = (false ∷ []) ∷ (false ∷ false ∷ false ∷ false ∷ false ∷ false ∷ false ∷ false ∷ []) ∷ (true ∷ []) ∷ (false ∷ []) ∷ (false ∷ []) ∷ (false ∷ false ∷ false ∷ false ∷ false ∷ false ∷ false ∷ false ∷ []) ∷ (false ∷ false ∷ false ∷ false ∷ false ∷ false ∷ false ∷ false ∷ []) ∷ (true ∷ []) ∷ (false ∷ []) ∷ (false ∷ []) ∷ (true ∷ []) ∷ (false ∷ []) ∷ (false ∷ []) ∷ (false ∷ []) ∷ (false ∷ []) ∷ (false ∷ false ∷ false ∷ false ∷ false ∷ false ∷ false ∷ false ∷ []) ∷ (false ∷ false ∷ false ∷ false ∷ false ∷ false ∷ false ∷ false ∷ []) ∷ []

-- an empty stage to which the word 3 is offered
abbrev offered : List Bits
offered = (true ∷ []) ∷ (true ∷ true ∷ false ∷ false ∷ false ∷ false ∷ false ∷ false ∷ []) ∷ (true ∷ []) ∷ (false ∷ []) ∷ (false ∷ []) ∷ (false ∷ false ∷ false ∷ false ∷ false ∷ false ∷ false ∷ false ∷ []) ∷ (false ∷ false ∷ false ∷ false ∷ false ∷ false ∷ false ∷ false ∷ []) ∷ (true ∷ []) ∷ (true ∷ []) ∷ (false ∷ []) ∷ (true ∷ []) ∷ (false ∷ []) ∷ (true ∷ []) ∷ (true ∷ []) ∷ (false ∷ []) ∷ (true ∷ true ∷ false ∷ false ∷ false ∷ false ∷ false ∷ false ∷ []) ∷ (true ∷ true ∷ false ∷ false ∷ false ∷ false ∷ false ∷ false ∷ []) ∷ []

idle_settled : map (λ net. result_of net (operands net idle)) (drop 7 one_stage) ≡ drop 7 idle
idle_settled = refl

offered_settled : map (λ net. result_of net (operands net offered)) (drop 7 one_stage) ≡ drop 7 offered
offered_settled = refl

-- the first cycle evaluates the ten nets, the same again none, and the offer six of them
first_steps : steps_of one_stage None idle ≡ 10
first_steps = refl

same_steps : steps_of one_stage (Some idle) idle ≡ 0
same_steps = refl

offer_steps : steps_of one_stage (Some idle) offered ≡ 6
offer_steps = refl

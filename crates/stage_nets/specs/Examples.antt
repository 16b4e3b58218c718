-- The netlist of one stage of eight bits between two ports, net by net, worked by computing.
use Rattle.std.specs.Prelude.{◌≡◌, ◌++◌, [], ◌∷◌, Some, None, false, length, replicate, refl}
use Rattle.netlist.specs.declared.net.Net.TheVariants.{Input, Register, Not, And, Or, Choose}
use Rattle.netlist.specs.Plans.{Plan, empty_plan}
use Rattle.net_lists.specs.Lists.{with_nets}
use Rattle.stage_nets.specs.declared.stage.StageNets.{StageNets}
use Rattle.stage_nets.specs.Stage.{stage_registers, stage_ready, stage_next, stage_linked}

-- behind the valid and the word of one port, and the ready of the other
abbrev one_stage : StageNets
one_stage = record { width = 8; registers = 3; valid = 0; word = 1; ready = 2; room = 7 }

abbrev laid_out : Plan
laid_out = stage_linked (with_nets empty_plan ((Input 1 ∷ Input 8 ∷ Input 1 ∷ []) ++ stage_registers 8 ++ stage_ready 3 ++ stage_next one_stage 8)) 3 8

-- seventeen nets
its_nets :
    laid_out.nets
    ≡ (Input 1
    ∷ Input 8
    ∷ Input 1
    ∷ Register (false ∷ [])
    ∷ Register (false ∷ [])
    ∷ Register (replicate 8 false)
    ∷ Register (replicate 8 false)
    ∷ Not 4
    ∷ And 0 7
    ∷ And 3 2
    ∷ Not 9
    ∷ And 3 10
    ∷ Or 4 8
    ∷ Or 11 12
    ∷ And 11 12
    ∷ Choose 4 6 1
    ∷ Choose 11 5 15
    ∷ [])
its_nets = refl

their_count : length laid_out.nets ≡ 17
their_count = refl

-- and the next nets of its four registers
its_next_nets : laid_out.nexts ≡ (None ∷ None ∷ None ∷ Some 13 ∷ Some 14 ∷ Some 16 ∷ Some 15 ∷ None ∷ None ∷ None ∷ None ∷ None ∷ None ∷ None ∷ None ∷ None ∷ None ∷ [])
its_next_nets = refl

their_widths : laid_out.widths ≡ (1 ∷ 8 ∷ 1 ∷ 1 ∷ 1 ∷ 8 ∷ 8 ∷ 1 ∷ 1 ∷ 1 ∷ 1 ∷ 1 ∷ 1 ∷ 1 ∷ 1 ∷ 8 ∷ 8 ∷ [])
their_widths = refl

-- The nets of a fork of two branches and of a FIFO of two words, net by net, worked by computing.
use Rattle.std.specs.Prelude.{◌≡◌, ◌+◌, ◌++◌, [], ◌∷◌, Some, None, true, false, length, replicate, refl}
use Rattle.std.specs.Int.Count.{count_leading_zeros}
use Rattle.netlist.specs.declared.net.Net.TheVariants.{Input, Register, Const, Not, And, Or, Equal, Add, Sub, Choose, Concat}
use Rattle.netlist.specs.Plans.{Plan, empty_plan}
use Rattle.net_lists.specs.Lists.{with_nets}
use Rattle.looped_nets.specs.declared.fork.ForkPlaces.{ForkPlaces}
use Rattle.looped_nets.specs.declared.fifo.FifoPlaces.{FifoPlaces}
use Rattle.looped_nets.specs.Forks.{fork_registers, fork_front, fork_back, fork_next, fork_linked}
use Rattle.looped_nets.specs.Fifos.{count_bits, fifo_registers, fifo_front, fifo_back, fifo_next, fifo_linked}

-- ---- a fork: behind the valid and the word of one port, and the ready nets of two others

abbrev fork : ForkPlaces
fork = record { valid = 0; word = 1; registers = 4; forward = 6; backward = 10 }

abbrev forked : Plan
forked = fork_linked (with_nets empty_plan ((Input 1 ∷ Input 8 ∷ Input 1 ∷ Input 1 ∷ []) ++ fork_registers 2 ++ fork_front 2 4 0 6 ++ fork_back 4 (2 ∷ 3 ∷ []) 10 ++ fork_next fork (2 ∷ 3 ∷ []) 13)) 4 13 2

its_nets :
    forked.nets
    ≡ (Input 1
    ∷ Input 8
    ∷ Input 1
    ∷ Input 1
    ∷ Register (false ∷ [])
    ∷ Register (false ∷ [])
    ∷ Not 4
    ∷ And 0 6
    ∷ Not 5
    ∷ And 0 8
    ∷ Or 4 2
    ∷ Or 5 3
    ∷ And 10 11
    ∷ And 0 12
    ∷ Not 13
    ∷ And 7 2
    ∷ Or 4 15
    ∷ And 14 16
    ∷ And 9 3
    ∷ Or 5 18
    ∷ And 14 19
    ∷ [])
its_nets = refl

-- and the next nets of its two flags
its_next_nets : forked.nexts ≡ replicate 4 None ++ (Some 17 ∷ Some 20 ∷ []) ++ replicate 15 None
its_next_nets = refl

-- of three branches, each chain joins what is joined so far
three_wait_nets : fork_back 4 (1 ∷ 2 ∷ 3 ∷ []) 20 ≡ (Or 4 1 ∷ Or 5 2 ∷ Or 6 3 ∷ And 20 21 ∷ And 23 22 ∷ [])
three_wait_nets = refl

-- ---- a FIFO: behind the valid and the word of one port, and the rden of the other

abbrev fifo : FifoPlaces
fifo = record { width = 8; depth = 2; valid = 0; word = 1; rden = 2; registers = 3; forward = 6; backward = 8 }

-- its count has two bits: 0, 1 and 2 words
its_count : (count_bits 2 ≡ 2) × (count_bits 3 ≡ 2) × (count_bits 4 ≡ 3) × (count_bits 63 ≡ 6) × (count_bits 64 ≡ 7)
unfolding count_bits count_leading_zeros
its_count = (refl, refl, refl, refl, refl)

abbrev stored : Plan
stored = fifo_linked (with_nets empty_plan ((Input 1 ∷ Input 8 ∷ Input 1 ∷ []) ++ fifo_registers 8 2 ++ fifo_front 2 3 6 ++ fifo_back 2 3 8 ++ fifo_next fifo 11)) fifo 11

their_nets :
    stored.nets
    ≡ (Input 1
    ∷ Input 8
    ∷ Input 1
    ∷ Register (false ∷ false ∷ [])
    ∷ Register (replicate 8 false)
    ∷ Register (replicate 8 false)
    ∷ Const (false ∷ false ∷ [])
    ∷ Equal 3 6
    ∷ Const (false ∷ true ∷ [])
    ∷ Equal 3 8
    ∷ Not 9
    ∷ And 0 10
    ∷ Const (false ∷ [])
    ∷ Concat 12 11
    ∷ Concat 12 2
    ∷ Sub 3 14
    ∷ Add 15 13
    ∷ Const (false ∷ false ∷ [])
    ∷ Equal 15 17
    ∷ And 11 18
    ∷ Choose 2 5 4
    ∷ Choose 19 1 20
    ∷ Const (true ∷ false ∷ [])
    ∷ Equal 15 22
    ∷ And 11 23
    ∷ Choose 24 1 5
    ∷ [])
unfolding count_bits count_leading_zeros
their_nets = refl

their_next_nets : stored.nexts ≡ replicate 3 None ++ (Some 16 ∷ Some 21 ∷ Some 25 ∷ []) ++ replicate 20 None
unfolding count_bits count_leading_zeros
their_next_nets = refl

-- a fork of n branches has 8 n + 1 nets, a FIFO of n words 6 n + 11
their_numbers : (length forked.nets ≡ 4 + 17) × (length stored.nets ≡ 3 + 23)
unfolding count_bits count_leading_zeros
their_numbers = (refl, refl)

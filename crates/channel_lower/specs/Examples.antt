-- Worked by computing, against what the table of lowering gives by hand: the netlist of a pipe of one stage, and that of a fork whose two branches are
-- joined. And that the pipe is a flat list that can be lowered.
use Rattle.std.specs.Prelude.{◌≡◌, ℕ, zero, suc, ◌<◌, false, List, [], ◌∷◌, Some, None, get_or, replicate, refl}
use Rattle.std.proofs.Common.{arith}
use Rattle.std.proofs.lemmas.List.Elements.{All-cons, All-nil}
use Rattle.netlist.specs.declared.net.Net.{Net}
use Rattle.netlist.specs.declared.net.Net.TheVariants.{Input, Register, Not, And, Or, Choose, Concat}
use Rattle.netlist.specs.declared.part.Part.{Part}
use Rattle.netlist.specs.declared.part.Part.TheVariants.{Stage, Fork, Join}
use Rattle.netlist.specs.Plans.{IsWidth}
use Rattle.flat_design.specs.declared.element.Flat.{Flat}
use Rattle.channel_lower.specs.Lowerable.{FitsBetween, IsLowerable}
use Rattle.channel_lower.specs.Lowering.{element_at, channel_at, lowered}
use Rattle.channel_lower.specs.Ports.{ports_of}

abbrev bit : Net
bit = Register (false ∷ [])

abbrev octet : Net
octet = Register (replicate 8 false)

-- ---- a pipe

abbrev stages : List Part
stages = Stage 8 ∷ []

abbrev pipe : Flat
pipe = record { elements = record { part = 0; sources = 0 ∷ []; sinks = 1 ∷ [] } ∷ []; widths = 8 ∷ 8 ∷ [] }

pipe_nets : (lowered stages pipe 1 (1 ∷ [])).netlist.nets
    ≡ Input 1 ∷ Input 8 ∷ Input 1 ∷ bit ∷ bit ∷ octet ∷ octet ∷ Not 4 ∷ And 0 7 ∷ And 3 2 ∷ Not 9 ∷ And 3 10 ∷ Or 4 8 ∷ Or 11 12 ∷ And 11 12 ∷ Choose 4 6 1 ∷ Choose 11 5 15 ∷ []
pipe_nets = refl

pipe_nexts : (lowered stages pipe 1 (1 ∷ [])).netlist.nexts
    ≡ None ∷ None ∷ None ∷ Some 13 ∷ Some 14 ∷ Some 16 ∷ Some 15 ∷ None ∷ None ∷ None ∷ None ∷ None ∷ None ∷ None ∷ None ∷ None ∷ None ∷ []
pipe_nexts = refl

pipe_server : ports_of (lowered stages pipe 1 (1 ∷ [])) (0 ∷ []) ≡ record { valid = 0; word = 1; ready = 7 } ∷ []
pipe_server = refl

pipe_client : ports_of (lowered stages pipe 1 (1 ∷ [])) (1 ∷ []) ≡ record { valid = 3; word = 5; ready = 2 } ∷ []
pipe_client = refl

-- ---- a fork whose branches are joined

abbrev forked : List Part
forked = Fork 2 ∷ Join ∷ []

abbrev twice : Flat
twice = record {
  elements = record { part = 0; sources = 0 ∷ []; sinks = 1 ∷ 2 ∷ [] } ∷ record { part = 1; sources = 1 ∷ 2 ∷ []; sinks = 3 ∷ [] } ∷ [];
  widths = 8 ∷ 8 ∷ 8 ∷ 16 ∷ [];
}

twice_nets : (lowered forked twice 1 (3 ∷ [])).netlist.nets
    ≡ Input 1 ∷ Input 8 ∷ Input 1 ∷ bit ∷ bit
    ∷ Not 3 ∷ And 0 5 ∷ Not 4 ∷ And 0 7 ∷ And 6 8 ∷ Concat 1 1
    ∷ And 2 8 ∷ And 2 6 ∷ Or 3 11 ∷ Or 4 12 ∷ And 13 14
    ∷ And 0 15 ∷ Not 16 ∷ And 6 11 ∷ Or 3 18 ∷ And 17 19 ∷ And 8 12 ∷ Or 4 21 ∷ And 17 22 ∷ []
twice_nets = refl

twice_server : ports_of (lowered forked twice 1 (3 ∷ [])) (0 ∷ []) ≡ record { valid = 0; word = 1; ready = 15 } ∷ []
twice_server = refl

twice_client : ports_of (lowered forked twice 1 (3 ∷ [])) (3 ∷ []) ≡ record { valid = 9; word = 10; ready = 2 } ∷ []
twice_client = refl

-- ---- a pipe can be lowered

only : (k : ℕ) → k < 1 → get_or pipe.widths (channel_at (1 ∷ []) k) 0 ≡ 8
only zero lt = refl
only (suc k) lt = absurd (omega arith)

each : (k : ℕ) → k < 1 → FitsBetween stages pipe.widths (element_at pipe.elements k)
each zero lt = record {
  there = omega arith;
  good = record { low = omega arith; high = omega arith };
  takes = refl;
  makes = refl;
  width = 8;
  gives = refl;
  made = only;
}
each (suc k) lt = absurd (omega arith)

wide : (c : ℕ) → c < 1 → IsWidth (get_or pipe.widths c 0)
wide zero lt = record { low = omega arith; high = omega arith }
wide (suc c) lt = absurd (omega arith)

pipe_can_be_lowered : IsLowerable stages pipe 1 (1 ∷ [])
pipe_can_be_lowered = record {
  design = record {
    numbered = (refl, All-cons (λ c. c < 1) 0 [] (omega arith) (All-nil (λ c. c < 1)), refl);
    handed = All-cons (λ c. c < 2) 1 [] (omega arith) (All-nil (λ c. c < 2));
    once = λ f. omega arith;
  };
  fit = each;
  wide = wide;
}

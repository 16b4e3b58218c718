-- The nets of a formula: those of its operands, from the first one to the last, then the net of its own operator.
use Rattle.std.specs.Prelude.{◌≡◌, ℕ, ◌+◌, List, [], ◌∷◌, ◌++◌, Some, length, map, ◌<◌, Option, IsSome}
use Rattle.std.specs.List.{slice_index_or}
use Rattle.netlist.specs.declared.net.Net.{Net}
use Rattle.netlist.specs.declared.net.Net.TheVariants.{Const, Not, And, Or, Xor, Add, Sub, Equal, Less, Choose, Slice, Concat}
use Rattle.netlist.specs.declared.formula.Half.{Half}
use Rattle.netlist.specs.declared.formula.Half.TheVariants.{High, Low}
use Rattle.netlist.specs.declared.formula.Formula.{Formula}
use Rattle.netlist.specs.declared.formula.Formula.TheOpen.{Formula-F}
use Rattle.netlist.specs.declared.formula.Formula.TheFolds.{fold-Formula}
use Rattle.netlist.specs.Nets.{Bits, width_at, word_at}
use Rattle.netlist.specs.Plans.{Plan}
use Rattle.netlist.specs.Settled.{IsSettled}
use Rattle.netlist.specs.Formulas.{worth, size}
use Rattle.net_lists.specs.Lists.{StandFrom}

-- nets in order, and the number of the net that carries the word of what they compute
pub record Made : Type 0 where
  pub nets : List Net
  pub net : ℕ

-- the nets of something, by the place from which they stand on
abbrev pub Making : Type 0
Making = ℕ → Made

-- what a net carries that there is already
abbrev pub standing : ℕ → Making
standing net at = record { nets = []; net = net }

-- the nets of what is operated on, then the operator's
abbrev pub lone : Net → Making
lone own at = record { nets = own ∷ []; net = at }

abbrev pub behind_one : (ℕ → Net) → Made → ℕ → Made
behind_one own a at = record { nets = a.nets ++ own a.net ∷ []; net = at + length a.nets }

abbrev pub of_one : (ℕ → Net) → Making → Making
of_one own a at = behind_one own (a at) at

abbrev pub behind_two : (ℕ → ℕ → Net) → Made → Made → ℕ → Made
behind_two own a b at = record { nets = a.nets ++ b.nets ++ own a.net b.net ∷ []; net = at + length a.nets + length b.nets }

abbrev pub of_two : (ℕ → ℕ → Net) → Making → Making → Making
of_two own a b at = behind_two own (a at) (b (at + length (a at).nets)) at

abbrev pub behind_three : (ℕ → ℕ → ℕ → Net) → Made → Made → Made → ℕ → Made
behind_three own a b c at = record { nets = a.nets ++ b.nets ++ c.nets ++ own a.net b.net c.net ∷ []; net = at + length a.nets + length b.nets + length c.nets }

abbrev pub third_at : (ℕ → ℕ → ℕ → Net) → Made → Made → Making → ℕ → Made
third_at own a b c at = behind_three own a b (c (at + length a.nets + length b.nets)) at

abbrev pub of_three : (ℕ → ℕ → ℕ → Net) → Making → Making → Making → Making
of_three own a b c at = third_at own (a at) (b (at + length (a at).nets)) c at

-- a concatenation of what is joined so far and the next value
abbrev pub join_net : Half → ℕ → ℕ → Net
join_net High so_far next = Concat so_far next
join_net Low so_far next = Concat next so_far

-- what is joined so far, then each of the others
abbrev pub joined_to : Half → Making → List Making → Making
joined_to half so_far [] = so_far
joined_to half so_far (part ∷ parts) = joined_to half (of_two (join_net half) so_far part) parts

abbrev pub of_parts : Half → List Making → Making
of_parts half [] = standing 0
of_parts half (part ∷ parts) = joined_to half part parts

-- of a concatenation, the half that is named comes first
abbrev pub of_halves : Half → Making → Making → Making
of_halves High high low = of_two Concat high low
of_halves Low high low = of_two (λ l h. Concat h l) low high

abbrev pub making_step : List ℕ → Formula-F Making → Making
making_step variables (Formula-F.Var i) = standing (slice_index_or variables i 0)
making_step variables (Formula-F.Const word) = lone (Const word)
making_step variables (Formula-F.Not a) = of_one Not a
making_step variables (Formula-F.And a b) = of_two And a b
making_step variables (Formula-F.Or a b) = of_two Or a b
making_step variables (Formula-F.Xor a b) = of_two Xor a b
making_step variables (Formula-F.Add a b) = of_two Add a b
making_step variables (Formula-F.Sub a b) = of_two Sub a b
making_step variables (Formula-F.Equal a b) = of_two Equal a b
making_step variables (Formula-F.Less a b) = of_two Less a b
making_step variables (Formula-F.Choose test one other) = of_three Choose test one other
making_step variables (Formula-F.Slice of high low) = of_one (λ net. Slice net high low) of
making_step variables (Formula-F.Concat high low first) = of_halves first high low
making_step variables (Formula-F.Join parts so_far) = of_parts so_far parts

-- the nets of a formula whose variables are carried by these nets
abbrev pub making : List ℕ → Formula → Making
making variables = fold-Formula Making (making_step variables)

abbrev pub formula_nets : List ℕ → Formula → ℕ → List Net
formula_nets variables formula at = (making variables formula at).nets

abbrev pub formula_net : List ℕ → Formula → ℕ → ℕ
formula_net variables formula at = (making variables formula at).net

-- how wide a formula is whose variables are carried by these nets
abbrev pub formula_size : Plan → List ℕ → Formula → Option ℕ
formula_size plan variables formula = size (map (width_at plan.widths) variables) formula

-- A formula may be pushed: its variables are carried by nets that there are, and it is good for their widths.
pub record IsFormulaReady (plan : Plan) (variables : List ℕ) (formula : Formula) : Type 0 where
  pub standing : (i : ℕ) → i < length variables → slice_index_or variables i 0 < length plan.nets
  pub good : IsSome (formula_size plan variables formula)

-- Where the nets of a formula stand in a netlist, in every settled assignment the last of them carries what the formula is worth.
abbrev pub FormulasCompute : Type 0
FormulasCompute = (plan : Plan) (variables : List ℕ) (formula : Formula) (width at : ℕ) (inputs held words : List Bits) → size (map (width_at plan.widths) variables) formula ≡ Some width → StandFrom plan.nets at (formula_nets variables formula at) → IsSettled plan inputs held words
    → word_at words (formula_net variables formula at) ≡ worth (map (word_at words) variables) formula

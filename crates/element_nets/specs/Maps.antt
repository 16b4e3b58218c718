-- The nets of a map: those of its body, whose variable is the word that comes in.
use Rattle.std.specs.Prelude.{◌≡◌, ℕ, List, [], ◌∷◌, Some, refl}
use Rattle.netlist.specs.declared.formula.Formula.{Formula}
use Rattle.netlist.specs.Nets.{Bits}
use Rattle.netlist.specs.Plans.{Plan}
use Rattle.netlist.specs.Formulas.{worth}
use Rattle.element_laws.specs.Histories.{Channel}
use Rattle.element_laws.specs.Elements.Element.{map_by}
use Rattle.net_lists.specs.Lists.{StandFrom}
use Rattle.net_lists.specs.Runs.{ChannelNets, carried, IsNetRun}
use Rattle.net_lists.specs.Passing.{ObeysAlone, RunsAlone, passing_runs, alone_obeys}
use Rattle.formula_nets.specs.Making.{formula_nets, formula_net, formula_size}
use Rattle.formula_nets.specs.MadeLaws.{formulas_do_compute}

-- A map stands in a netlist between its input's nets and the ready net of its output, which is its input's ready: its body's nets stand from a
-- place on, and the body is good for the width of the word.
pub record HasMap (plan : Plan) (input : ChannelNets) (body : Formula) (width at : ℕ) : Type 0 where
  pub nets : StandFrom plan.nets at (formula_nets (input.word ∷ []) body at)
  pub good : formula_size plan (input.word ∷ []) body ≡ Some width

-- the function of a map
abbrev pub map_of : Formula → Bits → Bits
map_of body word = worth (word ∷ []) body

-- A map that stands in a netlist obeys its law in every run: what goes out is what the body is worth for each word that came in.
abbrev pub MapsObey : Type 0
MapsObey = (plan : Plan) (input : ChannelNets) (body : Formula) (width at : ℕ) (offers history : List (List Bits)) → HasMap plan input body width at → IsNetRun plan offers history
    → ObeysAlone (map_by (map_of body)) (λ k. carried input) (λ k. carried (record { valid = input.valid; word = formula_net (input.word ∷ []) body at; ready = input.ready })) history

-- the channels between which it stands
abbrev pub map_input : ChannelNets → ℕ → Channel (List Bits)
map_input input k = carried input

abbrev pub map_output : ChannelNets → Formula → ℕ → ℕ → Channel (List Bits)
map_output input body at k = carried (record { valid = input.valid; word = formula_net (input.word ∷ []) body at; ready = input.ready })

-- A map that stands in a netlist is a map in each cycle of a run.
pub maps_do_run : (plan : Plan) (input : ChannelNets) (body : Formula) (width at : ℕ) (offers history : List (List Bits)) → HasMap plan input body width at → IsNetRun plan offers history
    → RunsAlone (map_by (map_of body)) (map_input input) (map_output input body at) history
maps_do_run plan input body width at offers history has run =
    passing_runs plan offers history (map_by (map_of body)) (map_input input) (map_output input body at) refl
    (λ earlier words c. record { valid = refl; word = formulas_do_compute plan (input.word ∷ []) body width at c.inputs _ words has.good has.nets c.settled; ready = refl })
    run

pub maps_do_obey : MapsObey
maps_do_obey plan input body width at offers history has run = alone_obeys (map_by (map_of body)) (map_input input) (map_output input body at) history refl (maps_do_run plan input body width at offers history has run)

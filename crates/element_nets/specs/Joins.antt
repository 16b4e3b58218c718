-- The nets of a join: a word of two channels each, joined.
use Rattle.std.specs.Prelude.{ℕ, ◌+◌, ◌≤◌, ◌==◌, List, [], ◌∷◌, if◌then◌else◌, length, refl}
use Rattle.std.proofs.Common.{◌∙◌, ap}
use Rattle.netlist.specs.declared.limits.TheConstants.{MAX_WIDTH}
use Rattle.netlist.specs.declared.net.Net.{Net}
use Rattle.netlist.specs.declared.net.Net.TheVariants.{And, Concat}
use Rattle.netlist.specs.Nets.{Bits, width_at}
use Rattle.netlist.specs.Plans.{Plan}
use Rattle.element_laws.specs.Histories.{Channel}
use Rattle.element_laws.specs.Elements.Element.{join}
use Rattle.net_lists.specs.Lists.{StandFrom, Carries}
use Rattle.net_lists.specs.ListLaws.{stand_first}
use Rattle.net_lists.specs.Runs.{bit_of, carried, IsNetRun}
use Rattle.net_lists.specs.RunLemmas.{computed_word, word_in, bit_word, and_bits}
use Rattle.net_lists.specs.Passing.{ObeysAlone, RunsAlone, passing_runs, alone_obeys}
use Rattle.element_nets.specs.declared.join.JoinNets.{JoinNets}

-- v = And lv rv; d = Concat ld rd
abbrev pub join_forward : JoinNets → List Net
join_forward s = And s.left_valid s.right_valid ∷ Concat s.left_word s.right_word ∷ []

-- lr = And or rv; rr = And or lv
abbrev pub join_backward : JoinNets → ℕ → List Net
join_backward s ready = And ready s.right_valid ∷ And ready s.left_valid ∷ []

-- the forward nets of a join may be pushed
pub record IsJoinReady (plan : Plan) (s : JoinNets) : Type 0 where
  pub left : Carries plan s.left_valid 1
  pub right : Carries plan s.right_valid 1
  pub left_within : s.left_word + 1 ≤ length plan.nets
  pub right_within : s.right_word + 1 ≤ length plan.nets
  pub narrow : width_at plan.widths s.left_word + width_at plan.widths s.right_word ≤ MAX_WIDTH

-- a join stands in a netlist, its forward and its backward nets from a place on each
pub record HasJoin (plan : Plan) (s : JoinNets) (ready forward backward : ℕ) : Type 0 where
  pub front : StandFrom plan.nets forward (join_forward s)
  pub back : StandFrom plan.nets backward (join_backward s ready)
  pub left : Carries plan s.left_valid 1
  pub right : Carries plan s.right_valid 1
  pub ready_bit : Carries plan ready 1

abbrev pub join_input : JoinNets → ℕ → ℕ → Channel (List Bits)
join_input s backward k words = if k == 0 then carried (record { valid = s.left_valid; word = s.left_word; ready = backward }) words else carried (record { valid = s.right_valid; word = s.right_word; ready = backward + 1 }) words

-- A join that stands in a netlist obeys its law in every run.
abbrev pub JoinsObey : Type 0
JoinsObey = (plan : Plan) (s : JoinNets) (ready forward backward : ℕ) (offers history : List (List Bits)) → HasJoin plan s ready forward backward → IsNetRun plan offers history
    → ObeysAlone join (join_input s backward) (λ k. carried (record { valid = forward; word = forward + 1; ready = ready })) history

abbrev pub join_output : ℕ → ℕ → ℕ → Channel (List Bits)
join_output forward ready k = carried (record { valid = forward; word = forward + 1; ready = ready })

-- A join that stands in a netlist is a join in each cycle of a run.
pub joins_do_run : (plan : Plan) (s : JoinNets) (ready forward backward : ℕ) (offers history : List (List Bits)) → HasJoin plan s ready forward backward → IsNetRun plan offers history
    → RunsAlone join (join_input s backward) (join_output forward ready) history
joins_do_run plan s ready forward backward offers history has run =
    passing_runs plan offers history join (join_input s backward) (join_output forward ready) refl
    (λ earlier words c.
    let lv = bit_word plan earlier words s.left_valid c has.left.wide in
    let rv = bit_word plan earlier words s.right_valid c has.right.wide in
    let out = bit_word plan earlier words ready c has.ready_bit.wide in
    let v = computed_word plan earlier words forward (And s.left_valid s.right_valid) c refl (stand_first plan.nets forward _ _ has.front) ∙ and_bits _ _ _ _ lv rv in
    let d = word_in plan earlier words forward (join_forward s) 1 (Concat s.left_word s.right_word) c has.front refl refl in
    let l = computed_word plan earlier words backward (And ready s.right_valid) c refl (stand_first plan.nets backward _ _ has.back) ∙ and_bits _ _ _ _ out rv in
    let r = word_in plan earlier words backward (join_backward s ready) 1 (And ready s.left_valid) c has.back refl refl ∙ and_bits _ _ _ _ out lv in
    record { valid = ap bit_of v; word = d; left_ready = ap bit_of l; right_ready = ap bit_of r })
    run

pub joins_do_obey : JoinsObey
joins_do_obey plan s ready forward backward offers history has run = alone_obeys join (join_input s backward) (join_output forward ready) history refl (joins_do_run plan s ready forward backward offers history has run)

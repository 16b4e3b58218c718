-- The nets that change a channel's signalling: from valid-ready to FIFO signalling, and back.
use Rattle.std.specs.Prelude.{◌≡◌, ℕ, not, Bool, true, false, List, [], ◌∷◌, refl}
use Rattle.std.proofs.Common.{◌∙◌, ap}
use Rattle.netlist.specs.declared.net.Net.{Net}
use Rattle.netlist.specs.declared.net.Net.TheVariants.{Not, And}
use Rattle.netlist.specs.Nets.{Bits}
use Rattle.netlist.specs.Plans.{Plan}
use Rattle.element_laws.specs.Histories.{Channel}
use Rattle.element_laws.specs.Elements.Element.{as_fifo, as_vr}
use Rattle.net_lists.specs.Lists.{StandFrom, Carries}
use Rattle.net_lists.specs.ListLaws.{stand_first}
use Rattle.net_lists.specs.Runs.{bit_of, bit_at, carried, fifo_carried, IsNetRun}
use Rattle.net_lists.specs.RunLemmas.{computed_word, bit_word, and_bits, not_bits}
use Rattle.net_lists.specs.Passing.{ObeysAlone, RunsAlone, passing_runs, alone_obeys}

-- the nets between which such an element stands: the valid and the word of its input (`empty` in FIFO signalling), and the ready of
-- its output (`rden`)
pub record PassingNets : Type 0 where
  pub valid : ℕ
  pub word : ℕ
  pub ready : ℕ

-- E = Not iv
abbrev pub as_fifo_empty : ℕ → List Net
as_fifo_empty valid = Not valid ∷ []

-- V = Not e
abbrev pub as_vr_valid : ℕ → List Net
as_vr_valid empty = Not empty ∷ []

-- n = And or V
abbrev pub as_vr_rden : ℕ → ℕ → List Net
as_vr_rden ready valid = And ready valid ∷ []

pub record HasAsFifo (plan : Plan) (s : PassingNets) (empty : ℕ) : Type 0 where
  pub nets : StandFrom plan.nets empty (as_fifo_empty s.valid)
  pub valid : Carries plan s.valid 1

pub record HasAsVr (plan : Plan) (s : PassingNets) (valid rden : ℕ) : Type 0 where
  pub forward : StandFrom plan.nets valid (as_vr_valid s.valid)
  pub backward : StandFrom plan.nets rden (as_vr_rden s.ready valid)
  pub empty : Carries plan s.valid 1
  pub ready : Carries plan s.ready 1

-- An as_fifo that stands in a netlist obeys its law in every run.
abbrev pub AsFifosObey : Type 0
AsFifosObey = (plan : Plan) (s : PassingNets) (empty : ℕ) (offers history : List (List Bits)) → HasAsFifo plan s empty → IsNetRun plan offers history
    → ObeysAlone as_fifo (λ k. carried (record { valid = s.valid; word = s.word; ready = s.ready })) (λ k. fifo_carried (record { valid = empty; word = s.word; ready = s.ready })) history

-- An as_vr that stands in a netlist obeys its law in every run; so it reads only where there is something to read.
abbrev pub AsVrsObey : Type 0
AsVrsObey = (plan : Plan) (s : PassingNets) (valid rden : ℕ) (offers history : List (List Bits)) → HasAsVr plan s valid rden → IsNetRun plan offers history
    → ObeysAlone as_vr (λ k. fifo_carried (record { valid = s.valid; word = s.word; ready = rden })) (λ k. carried (record { valid = valid; word = s.word; ready = s.ready })) history

twice : (a : Bool) → not (not a) ≡ a
twice true = refl
twice false = refl

-- the channels between which an as_fifo and an as_vr stand
abbrev pub as_fifo_input : PassingNets → ℕ → Channel (List Bits)
as_fifo_input s k = carried (record { valid = s.valid; word = s.word; ready = s.ready })

abbrev pub as_fifo_output : PassingNets → ℕ → ℕ → Channel (List Bits)
as_fifo_output s empty k = fifo_carried (record { valid = empty; word = s.word; ready = s.ready })

abbrev pub as_vr_input : PassingNets → ℕ → ℕ → Channel (List Bits)
as_vr_input s rden k = fifo_carried (record { valid = s.valid; word = s.word; ready = rden })

abbrev pub as_vr_output : PassingNets → ℕ → ℕ → Channel (List Bits)
as_vr_output s valid k = carried (record { valid = valid; word = s.word; ready = s.ready })

-- An as_fifo that stands in a netlist is an as_fifo in each cycle of a run.
pub as_fifos_do_run : (plan : Plan) (s : PassingNets) (empty : ℕ) (offers history : List (List Bits)) → HasAsFifo plan s empty → IsNetRun plan offers history → RunsAlone as_fifo (as_fifo_input s) (as_fifo_output s empty) history
as_fifos_do_run plan s empty offers history has run =
    passing_runs plan offers history as_fifo (as_fifo_input s) (as_fifo_output s empty) refl
    (λ earlier words c.
    let iv = bit_word plan earlier words s.valid c has.valid.wide in
    let e : bit_at empty words ≡ not (bit_at s.valid words) = ap bit_of (computed_word plan earlier words empty (Not s.valid) c refl (stand_first plan.nets empty _ _ has.nets) ∙ not_bits _ _ iv) in
    record { valid = ap not e ∙ twice (bit_at s.valid words); word = refl; ready = refl })
    run

pub as_fifos_do_obey : AsFifosObey
as_fifos_do_obey plan s empty offers history has run = alone_obeys as_fifo (as_fifo_input s) (as_fifo_output s empty) history refl (as_fifos_do_run plan s empty offers history has run)

-- An as_vr that stands in a netlist is an as_vr in each cycle of a run.
pub as_vrs_do_run : (plan : Plan) (s : PassingNets) (valid rden : ℕ) (offers history : List (List Bits)) → HasAsVr plan s valid rden → IsNetRun plan offers history → RunsAlone as_vr (as_vr_input s rden) (as_vr_output s valid) history
as_vrs_do_run plan s valid rden offers history has run =
    passing_runs plan offers history as_vr (as_vr_input s rden) (as_vr_output s valid) refl
    (λ earlier words c.
    let e = bit_word plan earlier words s.valid c has.empty.wide in
    let ready = bit_word plan earlier words s.ready c has.ready.wide in
    let v = computed_word plan earlier words valid (Not s.valid) c refl (stand_first plan.nets valid _ _ has.forward) ∙ not_bits _ _ e in
    let n = computed_word plan earlier words rden (And s.ready valid) c refl (stand_first plan.nets rden _ _ has.backward) ∙ and_bits _ _ _ _ ready v in
    record { valid = ap bit_of v; word = refl; ready = ap bit_of n })
    run

pub as_vrs_do_obey : AsVrsObey
as_vrs_do_obey plan s valid rden offers history has run = alone_obeys as_vr (as_vr_input s rden) (as_vr_output s valid) history refl (as_vrs_do_run plan s valid rden offers history has run)

-- What an element holds that stands in a netlist, and that it runs as its law has it.
use Rattle.std.specs.Prelude.{◌≡◌, ℕ, ◌+◌, ◌<◌, List}
use Rattle.std.proofs.Common.{sym, ◌∙◌, ap, subst, arith}
use Rattle.netlist.specs.declared.formula.Formula.{Formula}
use Rattle.netlist.specs.declared.part.Part.{Part}
use Rattle.netlist.specs.declared.part.Part.TheVariants.{Stage, Fifo, AsFifo, AsVr, Map, Scan, Fork, Join}
use Rattle.netlist.specs.Nets.{Bits}
use Rattle.netlist.specs.Plans.{Plan}
use Rattle.element_laws.specs.Signals.{ReadsHeld}
use Rattle.element_laws.specs.Histories.{Channel, Always}
use Rattle.element_laws.specs.Elements.{Element, input_count, output_count, Contents, nothing}
use Rattle.element_laws.specs.Elements.Element.{stage, fifo, as_fifo, as_vr, map_by, scan_by, fork, join}
use Rattle.element_laws.specs.Laws.{IsElementRun}
use Rattle.element_wires.specs.Wires.{stage_words, fifo_words}
use Rattle.element_wires.specs.WireLaws.{holding}
use Rattle.net_lists.specs.Runs.{ChannelNets, carried, fifo_carried, IsNetRun}
use Rattle.stage_nets.specs.Stage.{stage_now, stage_after, stage_input, stage_output}
use Rattle.stage_nets.specs.StageLemmas.{stages_do_obey}
use Rattle.stage_nets.specs.Signalling.{as_fifo_input, as_fifo_output, as_vr_input, as_vr_output, as_fifos_do_run, as_vrs_do_run}
use Rattle.looped_nets.specs.Fifos.{fifo_now, fifo_after, fifo_input, fifo_output}
use Rattle.looped_nets.specs.FifoLemmas.{fifos_do_obey}
use Rattle.looped_nets.specs.Forks.{with_flags, flag_place, fork_input, fork_output}
use Rattle.looped_nets.specs.ForkLemmas.{forks_do_run}
use Rattle.element_nets.specs.Joins.{join_input, join_output, joins_do_run}
use Rattle.element_nets.specs.Maps.{map_of, map_input, map_output, maps_do_run}
use Rattle.element_nets.specs.Scans.{step_of, with_state, scan_input, scan_output, scans_do_run}
use Rattle.element_rows.specs.Signalling.{gives_fifo, takes_fifo, IsRunIfRead}
use Rattle.design_flow.specs.Elements.{element_of}
use Rattle.lowered_laws.specs.Standing.{signalled, StageStands, FifoStands, AsFifoStands, AsVrStands, MapStands, ScanStands, ForkStands, JoinStands, IsStanding}
use Rattle.lowered_laws.specs.CycleLemmas.{run_same, the_only, the_two}

-- what it holds before a cycle, and after it
abbrev pub before_of : (plan : Plan) (part : Part) (inputs outputs : ℕ → ChannelNets) → IsStanding plan part inputs outputs → List Bits → Contents
before_of plan (Stage width) inputs outputs s words = holding (stage_words (stage_now s.stage words))
before_of plan (Fifo width places) inputs outputs s words = holding (fifo_words (fifo_now s.fifo words))
before_of plan AsFifo inputs outputs s words = nothing
before_of plan AsVr inputs outputs s words = nothing
before_of plan (Map body) inputs outputs s words = nothing
before_of plan (Scan reset body) inputs outputs s words = with_state s.scan.register words
before_of plan (Fork count) inputs outputs s words = with_flags s.fork (λ j. s.fork.registers + j) words
before_of plan Join inputs outputs s words = nothing

abbrev pub after_of : (plan : Plan) (part : Part) (inputs outputs : ℕ → ChannelNets) → IsStanding plan part inputs outputs → List Bits → Contents
after_of plan (Stage width) inputs outputs s words = holding (stage_words (stage_after s.next words))
after_of plan (Fifo width places) inputs outputs s words = holding (fifo_words (fifo_after s.fifo words))
after_of plan AsFifo inputs outputs s words = nothing
after_of plan AsVr inputs outputs s words = nothing
after_of plan (Map body) inputs outputs s words = nothing
after_of plan (Scan reset body) inputs outputs s words = with_state (s.next + 1) words
after_of plan (Fork count) inputs outputs s words = with_flags s.fork (λ j. flag_place s.fork j + 2) words
after_of plan Join inputs outputs s words = nothing

module _ (plan : Plan) (offers history : List (List Bits)) (run : IsNetRun plan offers history) (i o : ℕ → Channel (List Bits)) where
  abbrev C : Type 0
  C = Channel (List Bits)

  stage_there : (input output : ChannelNets) (s : StageStands plan input output) → i 0 ≡ carried input → o 0 ≡ carried output
      → IsElementRun stage (λ words. holding (stage_words (stage_now s.stage words))) (λ words. holding (stage_words (stage_after s.next words))) i o history
  stage_there input output s e f =
      run_same stage (λ words. holding (stage_words (stage_now s.stage words))) (λ words. holding (stage_words (stage_after s.next words))) (λ k. stage_input s.stage) i (λ k. stage_output s.stage) o history
      (the_only (λ k. stage_input s.stage ≡ i k) (sym (e ∙ ap carried s.takes))) (the_only (λ k. stage_output s.stage ≡ o k) (sym (f ∙ ap carried s.makes)))
      (stages_do_obey plan s.stage s.next offers history s.has run).run.runs

  fifo_there : (places : ℕ) (input output : ChannelNets) (s : FifoStands plan places input output) → i 0 ≡ carried input → o 0 ≡ fifo_carried output → Always (λ cycle. ReadsHeld (o 0 cycle)) history
      → IsElementRun (fifo places) (λ words. holding (fifo_words (fifo_now s.fifo words))) (λ words. holding (fifo_words (fifo_after s.fifo words))) i o history
  fifo_there places input output s e f reads =
      let own : o 0 ≡ fifo_output s.fifo = f ∙ ap fifo_carried s.makes in
      let well : Always (λ cycle. ReadsHeld (fifo_output s.fifo cycle)) history = subst (λ (ch : C). Always (λ cycle. ReadsHeld (ch cycle)) history) own reads in
      run_same (fifo places) (λ words. holding (fifo_words (fifo_now s.fifo words))) (λ words. holding (fifo_words (fifo_after s.fifo words))) (λ k. fifo_input s.fifo) i (λ k. fifo_output s.fifo) o history
      (the_only (λ k. fifo_input s.fifo ≡ i k) (sym (e ∙ ap carried s.takes))) (the_only (λ k. fifo_output s.fifo ≡ o k) (sym own))
      (subst (λ n. IsElementRun (fifo n) (λ words. holding (fifo_words (fifo_now s.fifo words))) (λ words. holding (fifo_words (fifo_after s.fifo words))) (λ k. fifo_input s.fifo) (λ k. fifo_output s.fifo) history) s.deep
      (fifos_do_obey plan s.fifo offers history s.has run well).run.runs)

  as_fifo_there : (input output : ChannelNets) (s : AsFifoStands plan input output) → i 0 ≡ carried input → o 0 ≡ fifo_carried output → IsElementRun as_fifo (λ words. nothing) (λ words. nothing) i o history
  as_fifo_there input output s e f =
      run_same as_fifo (λ words. nothing) (λ words. nothing) (as_fifo_input s.passing) i (as_fifo_output s.passing s.empty) o history
      (the_only (λ k. as_fifo_input s.passing k ≡ i k) (sym (e ∙ ap carried s.takes))) (the_only (λ k. as_fifo_output s.passing s.empty k ≡ o k) (sym (f ∙ ap fifo_carried s.makes)))
      (as_fifos_do_run plan s.passing s.empty offers history s.has run)

  as_vr_there : (input output : ChannelNets) (s : AsVrStands plan input output) → i 0 ≡ fifo_carried input → o 0 ≡ carried output → IsElementRun as_vr (λ words. nothing) (λ words. nothing) i o history
  as_vr_there input output s e f =
      run_same as_vr (λ words. nothing) (λ words. nothing) (as_vr_input s.passing s.rden) i (as_vr_output s.passing s.valid) o history
      (the_only (λ k. as_vr_input s.passing s.rden k ≡ i k) (sym (e ∙ ap fifo_carried s.takes))) (the_only (λ k. as_vr_output s.passing s.valid k ≡ o k) (sym (f ∙ ap carried s.makes)))
      (as_vrs_do_run plan s.passing s.valid s.rden offers history s.has run)

  map_there : (body : Formula) (input output : ChannelNets) (s : MapStands plan body input output) → i 0 ≡ carried input → o 0 ≡ carried output
      → IsElementRun (map_by (map_of body)) (λ words. nothing) (λ words. nothing) i o history
  map_there body input output s e f =
      run_same (map_by (map_of body)) (λ words. nothing) (λ words. nothing) (map_input input) i (map_output input body s.at) o history
      (the_only (λ k. map_input input k ≡ i k) (sym e)) (the_only (λ k. map_output input body s.at k ≡ o k) (sym (f ∙ ap carried s.makes)))
      (maps_do_run plan input body s.width s.at offers history s.has run)

  scan_there : (reset : Bits) (body : Formula) (input output : ChannelNets) (s : ScanStands plan reset body input output) → i 0 ≡ carried input → o 0 ≡ carried output
      → IsElementRun (scan_by (step_of body) reset) (with_state s.scan.register) (with_state (s.next + 1)) i o history
  scan_there reset body input output s e f =
      run_same (scan_by (step_of body) reset) (with_state s.scan.register) (with_state (s.next + 1)) (λ k. scan_input s.scan s.word) i (λ k. scan_output s.scan) o history
      (the_only (λ k. scan_input s.scan s.word ≡ i k) (sym (e ∙ ap carried s.takes))) (the_only (λ k. scan_output s.scan ≡ o k) (sym (f ∙ ap carried s.makes)))
      (scans_do_run plan s.scan reset s.word body s.width s.at s.next offers history s.has run)

  fork_there : (count : ℕ) (input : ChannelNets) (outputs : ℕ → ChannelNets) (s : ForkStands plan count input outputs) → i 0 ≡ carried input → ((k : ℕ) → k < count → o k ≡ carried (outputs k))
      → IsElementRun (fork count) (with_flags s.fork (λ j. s.fork.registers + j)) (with_flags s.fork (λ j. flag_place s.fork j + 2)) i o history
  fork_there count input outputs s e f =
      run_same (fork count) (with_flags s.fork (λ j. s.fork.registers + j)) (with_flags s.fork (λ j. flag_place s.fork j + 2)) (λ k. fork_input s.fork) i (fork_output s.fork) o history
      (the_only (λ k. fork_input s.fork ≡ i k) (sym (e ∙ ap carried s.takes))) (λ k lt. sym (f k lt ∙ ap carried (s.makes k lt)))
      (subst (λ n. IsElementRun (fork n) (with_flags s.fork (λ j. s.fork.registers + j)) (with_flags s.fork (λ j. flag_place s.fork j + 2)) (λ k. fork_input s.fork) (fork_output s.fork) history) s.many
      (forks_do_run plan s.fork offers history s.has run))

  join_there : (left right output : ChannelNets) (s : JoinStands plan left right output) → i 0 ≡ carried left → i 1 ≡ carried right → o 0 ≡ carried output → IsElementRun join (λ words. nothing) (λ words. nothing) i o history
  join_there left right output s e f g =
      run_same join (λ words. nothing) (λ words. nothing) (join_input s.join s.backward) i (join_output s.forward s.ready) o history
      (the_two (λ k. join_input s.join s.backward k ≡ i k) (sym (e ∙ ap carried s.takes_left)) (sym (f ∙ ap carried s.takes_right))) (the_only (λ k. join_output s.forward s.ready k ≡ o k) (sym (g ∙ ap carried s.makes)))
      (joins_do_run plan s.join s.ready s.forward s.backward offers history s.has run)

-- An element that stands in a netlist runs as it does, where its output is read well.
pub standing_runs : (plan : Plan) (offers history : List (List Bits)) → IsNetRun plan offers history → (i o : ℕ → Channel (List Bits)) (part : Part) (inputs outputs : ℕ → ChannelNets) (s : IsStanding plan part inputs outputs)
    → ((k : ℕ) → k < input_count (element_of part) → i k ≡ signalled (takes_fifo (element_of part)) (inputs k)) → ((k : ℕ) → k < output_count (element_of part) → o k ≡ signalled (gives_fifo (element_of part)) (outputs k))
    → IsRunIfRead (element_of part) (before_of plan part inputs outputs s) (after_of plan part inputs outputs s) i o history
standing_runs plan offers history run i o (Stage width) inputs outputs s e f = λ read. stage_there plan offers history run i o (inputs 0) (outputs 0) s (e 0 (omega arith)) (f 0 (omega arith))
standing_runs plan offers history run i o (Fifo width places) inputs outputs s e f = λ read. fifo_there plan offers history run i o places (inputs 0) (outputs 0) s (e 0 (omega arith)) (f 0 (omega arith)) read
standing_runs plan offers history run i o AsFifo inputs outputs s e f = λ read. as_fifo_there plan offers history run i o (inputs 0) (outputs 0) s (e 0 (omega arith)) (f 0 (omega arith))
standing_runs plan offers history run i o AsVr inputs outputs s e f = λ read. as_vr_there plan offers history run i o (inputs 0) (outputs 0) s (e 0 (omega arith)) (f 0 (omega arith))
standing_runs plan offers history run i o (Map body) inputs outputs s e f = λ read. map_there plan offers history run i o body (inputs 0) (outputs 0) s (e 0 (omega arith)) (f 0 (omega arith))
standing_runs plan offers history run i o (Scan reset body) inputs outputs s e f = λ read. scan_there plan offers history run i o reset body (inputs 0) (outputs 0) s (e 0 (omega arith)) (f 0 (omega arith))
standing_runs plan offers history run i o (Fork count) inputs outputs s e f = λ read. fork_there plan offers history run i o count (inputs 0) outputs s (e 0 (omega arith)) f
standing_runs plan offers history run i o Join inputs outputs s e f = λ read. join_there plan offers history run i o (inputs 0) (inputs 1) (outputs 0) s (e 0 (omega arith)) (e 1 (omega arith)) (f 0 (omega arith))

-- Each part stands between its channels, once all its nets do.
use Rattle.std.specs.Prelude.{◌≡◌, ℕ, ◌+◌, ◌*◌, ◌<◌, ◌==◌, if◌then◌else◌, Bool, true, false, List, [], ◌∷◌, Option, Some, None, length, get_or, refl}
use Rattle.std.proofs.Common.{sym, ◌∙◌, ap, subst, arith}
use Rattle.std.proofs.lemmas.Bool.{eqb-true}
use Rattle.netlist.specs.declared.net.Net.TheVariants.{And}
use Rattle.netlist.specs.declared.formula.Formula.{Formula}
use Rattle.netlist.specs.declared.part.Part.{Part}
use Rattle.netlist.specs.declared.part.Part.TheVariants.{Stage, AsFifo, AsVr, Map, Scan, Join}
use Rattle.netlist.specs.Formulas.{size}
use Rattle.netlist.specs.Nets.{Bits, width_at}
use Rattle.netlist.specs.Parts.{part_width, only_width}
use Rattle.netlist.specs.Plans.{Plan}
use Rattle.net_lists.specs.Lists.{StandFrom, Carries}
use Rattle.net_lists.specs.ListLaws.{stand_first, register_carries}
use Rattle.net_lists.specs.Runs.{ChannelNets}
use Rattle.formula_nets.specs.Making.{formula_net}
use Rattle.buffer_stage.specs.declared.laid.Wire.{Wire}
use Rattle.buffer_stage.specs.declared.laid.Laid.{Laid}
use Rattle.buffer_stage.specs.GoodParts.{one_width}
use Rattle.buffer_stage.specs.Passes.{input_count, output_count, wire_at, ready_at, first_output, first_ready, stage_of, scan_of, join_of}
use Rattle.lowered_laws.specs.Standing.{StageStands, AsFifoStands, AsVrStands, MapStands, ScanStands, JoinStands}
use Rattle.lowered_nets.specs.Elements.{channel, HasAll}

-- ---- widths

if_size : (asked given width : ℕ) (test : Bool) → (width == asked) ≡ test → (if test then Some asked else None) ≡ Some given → width ≡ asked
if_size asked given width true t e = eqb-true width asked t
if_size asked given width false t e = absurd (cc)

only_size : (asked given : ℕ) (width : Option ℕ) → only_width asked width ≡ Some given → width ≡ Some asked
only_size asked given None e = absurd (cc)
only_size asked given (Some width) e = ap (λ w. Some w) (if_size asked given width (width == asked) refl e)

-- ---- each part

module _ (plan : Plan) (laid : Laid) (widths : List ℕ) (inputs outputs : ℕ → ChannelNets) where
  abbrev Has : Part → Type 0
  Has part = HasAll plan part laid widths inputs outputs

  abbrev wire : ℕ → Wire
  wire j = wire_at laid.inputs j

  -- the first channel on each side
  pub first_in : (part : Part) → Has part → 0 < input_count part → inputs 0 ≡ channel (wire 0).valid (wire 0).word (first_ready part laid.readies laid.backward)
  first_in part h lt = h.ins 0 lt ∙ ap (λ n. channel (wire 0).valid (wire 0).word n) (let e : first_ready part laid.readies laid.backward + 0 ≡ first_ready part laid.readies laid.backward = omega arith in e)

  pub first_out : (part : Part) → Has part → 0 < output_count part
      → outputs 0 ≡ channel (first_output part laid.registers laid.inputs laid.forward).valid (first_output part laid.registers laid.inputs laid.forward).word (ready_at laid.readies 0)
  first_out part h lt =
      h.outs 0 lt ∙ ap (λ n. channel n laid.output.word (ready_at laid.readies 0)) (let e : laid.output.valid + 2 * 0 ≡ laid.output.valid = omega arith in e)
      ∙ ap (λ (w : Wire). channel w.valid w.word (ready_at laid.readies 0)) h.output

  pub stage_there : (width : ℕ) → Has (Stage width) → StageStands plan (inputs 0) (outputs 0)
  stage_there width h =
      let nexts = h.linked.nexts in
      record {
        stage = stage_of width laid;
        next = h.linked.at;
        has = record {
          registers = h.registers;
          room = h.backward;
          next = h.linked.nets;
          next_v0 = nexts.0;
          next_v1 = nexts.1;
          next_d0 = nexts.2;
          next_d1 = nexts.3;
          valid = h.fit.valid 0 (omega arith);
          ready = h.back.bits 0 (omega arith);
        };
        takes = first_in (Stage width) h (omega arith);
        makes = first_out (Stage width) h (omega arith);
      }

  pub as_fifo_there : Has AsFifo → AsFifoStands plan (inputs 0) (outputs 0)
  as_fifo_there h = record {
    passing = record { valid = (wire 0).valid; word = (wire 0).word; ready = ready_at laid.readies 0 };
    empty = laid.forward;
    has = record { nets = h.forward; valid = h.fit.valid 0 (omega arith) };
    takes = first_in AsFifo h (omega arith);
    makes = first_out AsFifo h (omega arith);
  }

  pub as_vr_there : Has AsVr → AsVrStands plan (inputs 0) (outputs 0)
  as_vr_there h = record {
    passing = record { valid = (wire 0).valid; word = (wire 0).word; ready = ready_at laid.readies 0 };
    valid = laid.forward;
    rden = laid.backward;
    has = record {
      forward = h.forward;
      backward = subst (λ n. StandFrom plan.nets laid.backward (And (ready_at laid.readies 0) n ∷ [])) (ap (λ (w : Wire). w.valid) h.output) h.backward;
      empty = h.fit.valid 0 (omega arith);
      ready = h.back.bits 0 (omega arith);
    };
    takes = first_in AsVr h (omega arith);
    makes = first_out AsVr h (omega arith);
  }

  pub map_there : (body : Formula) → Has (Map body) → MapStands plan body (inputs 0) (outputs 0)
  map_there body h =
      let one = one_width widths h.fit.count in
      let word = h.fit.word 0 (omega arith) in
      let here : MapStands plan body (channel (wire 0).valid (wire 0).word (ready_at laid.readies 0)) (outputs 0) =
      record {
        width = h.width;
        at = laid.forward;
        has = record {
          nets = h.forward;
          good = subst (λ n. size (n ∷ []) body ≡ Some h.width) (sym word.wide) (subst (λ (ws : List ℕ). part_width (Map body) ws ≡ Some h.width) one h.gives);
        };
        makes = first_out (Map body) h (omega arith);
      } in
      subst (λ (c : ChannelNets). MapStands plan body c (outputs 0)) (sym (first_in (Map body) h (omega arith))) here

  pub scan_there : (reset : Bits) (body : Formula) → Has (Scan reset body) → ScanStands plan reset body (inputs 0) (outputs 0)
  scan_there reset body h =
      let one = one_width widths h.fit.count in
      let word = h.fit.word 0 (omega arith) in
      let stands = stand_first plan.nets laid.registers _ _ h.registers in
      let state : Carries plan laid.registers (length reset) = register_carries plan laid.registers (length reset) reset h.kept stands refl in
      let given : only_width (length reset) (size (length reset ∷ get_or widths 0 0 ∷ []) body) ≡ Some h.width = subst (λ (ws : List ℕ). part_width (Scan reset body) ws ≡ Some h.width) one h.gives in
      let sized : size (length reset ∷ get_or widths 0 0 ∷ []) body ≡ Some (length reset) = only_size (length reset) h.width _ given in
      let last : laid.output.word ≡ formula_net (laid.registers ∷ (wire 0).word ∷ []) body laid.forward = ap (λ (w : Wire). w.word) h.output in
      record {
        scan = scan_of laid;
        word = (wire 0).word;
        width = length reset;
        at = laid.forward;
        next = h.linked.at;
        has = record {
          register = stands;
          nets = h.forward;
          out = last;
          good = subst (λ n. size (n ∷ width_at plan.widths (wire 0).word ∷ []) body ≡ Some (length reset)) (sym state.wide)
              (subst (λ n. size (length reset ∷ n ∷ []) body ≡ Some (length reset)) (sym word.wide) sized);
          next_nets = h.linked.nets;
          next_state = h.linked.nexts;
          valid = h.fit.valid 0 (omega arith);
          ready = h.back.bits 0 (omega arith);
        };
        takes = first_in (Scan reset body) h (omega arith);
        makes = first_out (Scan reset body) h (omega arith) ∙ ap (λ n. channel (wire 0).valid n (ready_at laid.readies 0)) (sym last);
      }

  pub join_there : Has Join → JoinStands plan (inputs 0) (inputs 1) (outputs 0)
  join_there h = record {
    join = join_of (wire 0) (wire 1);
    ready = ready_at laid.readies 0;
    forward = laid.forward;
    backward = laid.backward;
    has = record {
      front = h.forward;
      back = h.backward;
      left = h.fit.valid 0 (omega arith);
      right = h.fit.valid 1 (omega arith);
      ready_bit = h.back.bits 0 (omega arith);
    };
    takes_left = first_in Join h (omega arith);
    takes_right = h.ins 1 (omega arith);
    makes = first_out Join h (omega arith);
  }

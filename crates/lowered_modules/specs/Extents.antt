-- A list of nets that goes on with nets that are no inputs: what the passes behind the ports do.
use Rattle.std.specs.Prelude.{◌≡◌, ℕ, zero, suc, ◌≤◌, ◌++◌, false, List, [], ◌∷◌, length, get_or}
use Rattle.std.proofs.Common.{sym, ◌∙◌, ap, arith, append-nil, append_assoc}
use Rattle.std.proofs.lemmas.Option.{same_Some, none-some}
use Rattle.netlist.specs.declared.net.Net.{Net}
use Rattle.netlist.specs.declared.part.Part.{Part}
use Rattle.netlist.specs.Nets.{is_input}
use Rattle.netlist.specs.Plans.{Stands}
use Rattle.net_lists.specs.Lists.{with_nets}
use Rattle.net_lists.specs.ListLaws.{with_nets-nets}
use Rattle.flat_design.specs.declared.element.Element.{Element}
use Rattle.flat_design.specs.declared.element.Flat.{Flat}
use Rattle.buffer_stage.specs.Passes.{register_nets, forward_nets, backward_nets, next_nets}
use Rattle.channel_lower.specs.declared.lowering.Lowering.{Lowering}
use Rattle.channel_lower.specs.Growth.{linked_up_nets}
use Rattle.channel_lower.specs.Lowering.{turns, element_at, part_of, laid_of, wires_at, readies_at, from_end, register_turn, forward_turn, backward_turn, next_turn, with_ports, lowered, register_pass, forward_pass, backward_pass}
use Rattle.lowered_modules.specs.NoInputs.{AreNoInputs, none_append, register_none, forward_none, backward_none, next_none}

pub record Extends (old new : List Net) : Type 0 where
  pub more : List Net
  pub is : new ≡ old ++ more
  pub none : AreNoInputs more

extends_same : (nets : List Net) → Extends nets nets
extends_same nets = record { more = []; is = sym (append-nil nets); none = tt }

extends_on : (old now new : List Net) → Extends old now → Extends now new → Extends old new
extends_on old now new a b = record {
  more = a.more ++ b.more;
  is = b.is ∙ ap (λ ns. ns ++ b.more) a.is ∙ append_assoc old a.more b.more;
  none = none_append a.more b.more a.none b.none;
}

turns_extend : (turn : ℕ → Lowering → Lowering) → ((k : ℕ) (s : Lowering) → Extends s.netlist.nets (turn k s).netlist.nets) → (s : Lowering) (n : ℕ) → Extends s.netlist.nets (turns turn n s).netlist.nets
turns_extend turn each s zero = extends_same s.netlist.nets
turns_extend turn each s (suc n) = extends_on s.netlist.nets (turns turn n s).netlist.nets (turn n (turns turn n s)).netlist.nets (turns_extend turn each s n) (each n (turns turn n s))

module _ (parts : List Part) (flat : Flat) (servers : ℕ) (clients : List ℕ) where
  abbrev element : ℕ → Element
  element k = element_at flat.elements k

  abbrev part : ℕ → Part
  part k = part_of parts (element k)

  abbrev count : ℕ
  count = length flat.elements

  abbrev last_first : ℕ → ℕ
  last_first d = from_end flat.elements d

  register_extends : (k : ℕ) (s : Lowering) → Extends s.netlist.nets (register_turn (part k) s).netlist.nets
  register_extends k s = record { more = register_nets (part k); is = with_nets-nets s.netlist (register_nets (part k)); none = register_none (part k) }

  forward_extends : (k : ℕ) (s : Lowering) → Extends s.netlist.nets (forward_turn (part k) (element k) k s).netlist.nets
  forward_extends k s =
      let nets : List Net = forward_nets (part k) (get_or s.registers k 0) (wires_at s.wires (element k).sources) (length s.netlist.nets) in
      record { more = nets; is = with_nets-nets s.netlist nets; none = forward_none (part k) (get_or s.registers k 0) (wires_at s.wires (element k).sources) (length s.netlist.nets) }

  backward_extends : (d : ℕ) (s : Lowering) → Extends s.netlist.nets (backward_turn (part (last_first d)) (element (last_first d)) (last_first d) s).netlist.nets
  backward_extends d s =
      let k : ℕ = last_first d in
      let nets : List Net = backward_nets (part k) (laid_of s.row k) (readies_at s.readies (element k).sinks) (length s.netlist.nets) in
      record { more = nets; is = with_nets-nets s.netlist nets; none = backward_none (part k) (laid_of s.row k) (readies_at s.readies (element k).sinks) (length s.netlist.nets) }

  next_extends : (k : ℕ) (s : Lowering) → Extends s.netlist.nets (next_turn (part k) k s).netlist.nets
  next_extends k s =
      let nets : List Net = next_nets (part k) (laid_of s.row k) (length s.netlist.nets) in
      record {
        more = nets;
        is = linked_up_nets (part k) (laid_of s.row k) (length s.netlist.nets) (with_nets s.netlist nets) ∙ with_nets-nets s.netlist nets;
        none = next_none (part k) (laid_of s.row k) (length s.netlist.nets);
      }

  -- the nets behind the ports
  pub extends_ports : Extends (with_ports flat servers clients).netlist.nets (lowered parts flat servers clients).netlist.nets
  extends_ports =
      let s1 : Lowering = with_ports flat servers clients in
      let s2 : Lowering = register_pass parts flat.elements count s1 in
      let s3 : Lowering = forward_pass parts flat.elements count s2 in
      let s4 : Lowering = backward_pass parts flat.elements count s3 in
      let whole : List Net = (lowered parts flat servers clients).netlist.nets in
      extends_on s1.netlist.nets s2.netlist.nets whole (turns_extend (λ k. register_turn (part k)) register_extends s1 count)
      (extends_on s2.netlist.nets s3.netlist.nets whole (turns_extend (λ k. forward_turn (part k) (element k) k) forward_extends s2 count)
      (extends_on s3.netlist.nets s4.netlist.nets whole (turns_extend (λ d. backward_turn (part (last_first d)) (element (last_first d)) (last_first d)) backward_extends s3 count)
      (turns_extend (λ k. next_turn (part k) k) next_extends s4 count)))

-- ---- what stands behind is no input

none_stands : (nets : List Net) (n : ℕ) (net : Net) → AreNoInputs nets → Stands nets n net → is_input net ≡ false
none_stands [] n net none s = absurd (none-some net s)
none_stands (x ∷ nets) zero net none s = sym (ap is_input (same_Some x net s)) ∙ none.0
none_stands (x ∷ nets) (suc n) net none s = none_stands nets n net none.1 s

pub behind_none : (front back : List Net) (n : ℕ) (net : Net) → AreNoInputs back → length front ≤ n → Stands (front ++ back) n net → is_input net ≡ false
behind_none [] back n net none le s = none_stands back n net none s
behind_none (x ∷ front) back zero net none le s = absurd (omega (arith, le))
behind_none (x ∷ front) back (suc n) net none le s = behind_none front back n net none (omega (arith, le)) s

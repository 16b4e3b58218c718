-- Which inputs each pass of lowering adds: those of the ports, in order, and no others.
use Rattle.std.specs.Prelude.{◌≡◌, ℕ, zero, suc, ◌+◌, List, [], ◌∷◌, ◌++◌, get_or, length, map, replicate, refl}
use Rattle.std.proofs.Common.{sym, ◌∙◌, ap, append_assoc, append-nil, add-one}
use Rattle.netlist.specs.declared.net.Net.{Net}
use Rattle.netlist.specs.declared.net.Net.TheVariants.{Input}
use Rattle.netlist.specs.declared.part.Part.{Part}
use Rattle.netlist.specs.Plans.{Plan}
use Rattle.net_lists.specs.Lists.{with_nets}
use Rattle.net_lists.specs.ListLaws.{with_nets-nets}
use Rattle.flat_design.specs.declared.element.Element.{Element}
use Rattle.flat_design.specs.declared.element.Flat.{Flat}
use Rattle.flat_design.specs.Laying.{count_up}
use Rattle.buffer_stage.specs.Passes.{register_nets, forward_nets, backward_nets, next_nets}
use Rattle.channel_lower.specs.declared.lowering.Lowering.{Lowering}
use Rattle.channel_lower.specs.Growth.{linked_up_nets}
use Rattle.channel_lower.specs.Lowering.{turns, laid_of, wires_at, readies_at, element_at, part_of, from_end, nothing, register_turn, forward_turn, backward_turn, next_turn, server_pass, client_pass, register_pass, forward_pass, backward_pass, with_ports, lowered}
use Rattle.channel_lower.specs.Whole.{one_more}
use Rattle.session_rules.specs.Ports.{two_each}
use Rattle.lowered_ports.specs.InputWidths.{input_widths, widths_joined}
use Rattle.lowered_ports.specs.Bare.{AreBare, registers_bare, forward_bare, backward_bare, next_bare}

abbrev inputs_in : Lowering → List ℕ
inputs_in s = input_widths s.netlist.nets

added : (plan : Plan) (nets : List Net) → input_widths (with_nets plan nets).nets ≡ input_widths plan.nets ++ input_widths nets
added plan nets = ap input_widths (with_nets-nets plan nets) ∙ widths_joined plan.nets nets

added_bare : (plan : Plan) (nets : List Net) → AreBare nets → input_widths (with_nets plan nets).nets ≡ input_widths plan.nets
added_bare plan nets bare = added plan nets ∙ (ap (λ (l : List ℕ). input_widths plan.nets ++ l) bare.none ∙ append-nil (input_widths plan.nets))

-- turns of which none adds an input
pub record AddsNone (turn : ℕ → Lowering → Lowering) : Type 0 where
  pub each : (k : ℕ) (s : Lowering) → inputs_in (turn k s) ≡ inputs_in s

passed : (turn : ℕ → Lowering → Lowering) (n : ℕ) (s : Lowering) → AddsNone turn → inputs_in (turns turn n s) ≡ inputs_in s
passed turn zero s none = refl
passed turn (suc n) s none = none.each n (turns turn n s) ∙ passed turn n s none

module _ (parts : List Part) (elements : List Element) where
  registers_none : AddsNone (λ k. register_turn (part_of parts (element_at elements k)))
  registers_none = record { each = λ k s. let part = part_of parts (element_at elements k) in added_bare s.netlist (register_nets part) (registers_bare part) }

  forward_none : AddsNone (λ k. forward_turn (part_of parts (element_at elements k)) (element_at elements k) k)
  forward_none = record {
    each = λ k s.
        let part = part_of parts (element_at elements k) in
        let inputs = wires_at s.wires (element_at elements k).sources in
        added_bare s.netlist (forward_nets part (get_or s.registers k 0) inputs (length s.netlist.nets)) (forward_bare part (get_or s.registers k 0) inputs (length s.netlist.nets));
  }

  backward_none : AddsNone (λ k. backward_turn (part_of parts (element_at elements (from_end elements k))) (element_at elements (from_end elements k)) (from_end elements k))
  backward_none = record {
    each = λ k s.
        let j = from_end elements k in
        let part = part_of parts (element_at elements j) in
        let outs = readies_at s.readies (element_at elements j).sinks in
        added_bare s.netlist (backward_nets part (laid_of s.row j) outs (length s.netlist.nets)) (backward_bare part (laid_of s.row j) outs (length s.netlist.nets));
  }

  next_none : AddsNone (λ k. next_turn (part_of parts (element_at elements k)) k)
  next_none = record {
    each = λ k s.
        let part = part_of parts (element_at elements k) in
        let nets = next_nets part (laid_of s.row k) (length s.netlist.nets) in
        ap input_widths (linked_up_nets part (laid_of s.row k) (length s.netlist.nets) (with_nets s.netlist nets)) ∙ added_bare s.netlist nets (next_bare part (laid_of s.row k) (length s.netlist.nets));
  }

-- ---- the ports

two_joined : (xs ys : List ℕ) → two_each (xs ++ ys) ≡ two_each xs ++ two_each ys
two_joined [] ys = refl
two_joined (x ∷ xs) ys = ap (λ (l : List ℕ). 1 ∷ x ∷ l) (two_joined xs ys)

map_joined : (f : ℕ → ℕ) (xs ys : List ℕ) → map f (xs ++ ys) ≡ map f xs ++ map f ys
map_joined f [] ys = refl
map_joined f (x ∷ xs) ys = ap (λ (l : List ℕ). f x ∷ l) (map_joined f xs ys)

abbrev pub channel_widths : List ℕ → ℕ → List ℕ
channel_widths widths count = map (λ c. get_or widths c 0) (count_up 0 count)

one_channel : (widths : List ℕ) (n : ℕ) → two_each (channel_widths widths (suc n)) ≡ two_each (channel_widths widths n) ++ 1 ∷ get_or widths n 0 ∷ []
one_channel widths n =
    ap (λ k. two_each (channel_widths widths k)) (sym (add-one n))
    ∙ (ap (λ (l : List ℕ). two_each (map (λ c. get_or widths c 0) l)) (one_more n)
    ∙ (ap two_each (map_joined (λ c. get_or widths c 0) (count_up 0 n) (n ∷ [])) ∙ two_joined (channel_widths widths n) (get_or widths n 0 ∷ [])))

served : (widths : List ℕ) (n : ℕ) (s : Lowering) → inputs_in s ≡ [] → inputs_in (server_pass widths n s) ≡ two_each (channel_widths widths n)
served widths zero s none = none
served widths (suc n) s none =
    let before : Lowering = server_pass widths n s in
    added before.netlist (Input 1 ∷ Input (get_or widths n 0) ∷ []) ∙ (ap (λ (l : List ℕ). l ++ 1 ∷ get_or widths n 0 ∷ []) (served widths n s none) ∙ sym (one_channel widths n))

abbrev pub one_each : ℕ → List ℕ
one_each n = replicate n 1

ones_more : (n : ℕ) → one_each n ++ 1 ∷ [] ≡ one_each (suc n)
ones_more zero = refl
ones_more (suc n) = ap (λ (l : List ℕ). 1 ∷ l) (ones_more n)

handed : (clients : List ℕ) (n : ℕ) (s : Lowering) → inputs_in (client_pass clients n s) ≡ inputs_in s ++ one_each n
handed clients zero s = sym (append-nil (inputs_in s))
handed clients (suc n) s =
    let before : Lowering = client_pass clients n s in
    added before.netlist (Input 1 ∷ [])
    ∙ (ap (λ (l : List ℕ). l ++ 1 ∷ []) (handed clients n s) ∙ (append_assoc (inputs_in s) (one_each n) (1 ∷ []) ∙ ap (λ (l : List ℕ). inputs_in s ++ l) (ones_more n)))

-- of the whole netlist
pub lowered_inputs : (parts : List Part) (flat : Flat) (servers : ℕ) (clients : List ℕ) → input_widths (lowered parts flat servers clients).netlist.nets ≡ two_each (channel_widths flat.widths servers) ++ one_each (length clients)
lowered_inputs parts flat servers clients =
    let n : ℕ = length flat.elements in
    let w2 : Lowering = with_ports flat servers clients in
    let w3 : Lowering = register_pass parts flat.elements n w2 in
    let w4 : Lowering = forward_pass parts flat.elements n w3 in
    let w5 : Lowering = backward_pass parts flat.elements n w4 in
    passed _ n w5 (next_none parts flat.elements)
    ∙ (passed _ n w4 (backward_none parts flat.elements)
    ∙ (passed _ n w3 (forward_none parts flat.elements)
    ∙ (passed _ n w2 (registers_none parts flat.elements)
    ∙ (handed clients (length clients) (server_pass flat.widths servers (nothing (length flat.widths)))
    ∙ ap (λ (l : List ℕ). l ++ one_each (length clients)) (served flat.widths servers (nothing (length flat.widths)) refl)))))

-- What is lowered has its ports.
use Rattle.std.specs.Prelude.{◌≡◌, ℕ, zero, suc, ◌+◌, ◌<◌, ◌≤◌, List, [], ◌∷◌, ◌++◌, get_or, length, map, refl}
use Rattle.std.proofs.Common.{sym, ◌∙◌, ap, subst, inl, inr, arith}
use Rattle.netlist.specs.declared.part.Part.{Part}
use Rattle.netlist.specs.Nets.{width_at}
use Rattle.netlist.specs.Settled.{input_place}
use Rattle.flat_design.specs.declared.element.Flat.{Flat}
use Rattle.flat_design.specs.Laying.{count_up}
use Rattle.channel_lower.specs.declared.lowered.Lowered.{Lowered}
use Rattle.channel_lower.specs.declared.lowered.Port.{Port}
use Rattle.channel_lower.specs.declared.lowering.Lowering.{Lowering}
use Rattle.channel_lower.specs.Lowerable.{IsLowerable, place_of}
use Rattle.channel_lower.specs.Lowering.{channel_at, lowered}
use Rattle.channel_lower.specs.Numbers.{place_low, place_end, used}
use Rattle.channel_lower.specs.Ports.{port_of, ports_of}
use Rattle.channel_lower.specs.Progress.{Progress, IsReady}
use Rattle.endpoint_hub.specs.declared.limits.TheConstants.{SIDE_CHANNELS}
use Rattle.session_rules.specs.Ports.{port_at, port_width, port_widths, two_each, ArePorts, HasPorts, IsPort}
use Rattle.lowered_ports.specs.InputWidths.{input_widths, input_total, input_width_at}
use Rattle.lowered_ports.specs.PassInputs.{channel_widths, one_each, lowered_inputs}

-- the whole of a flat list is lowered
abbrev pub IsWhole : List Part → Flat → ℕ → List ℕ → Type 0
IsWhole parts flat servers clients =
    Progress parts flat clients (lowered parts flat servers clients) (place_of servers flat.elements (length flat.elements)) (length clients) (length flat.elements) (length flat.elements) (length flat.elements) (length flat.elements)

-- the netlist and the ports are those of this flat list
pub record IsLoweredOf (l : Lowered) (parts : List Part) (flat : Flat) (servers : ℕ) (clients : List ℕ) : Type 0 where
  pub net : l.net ≡ (lowered parts flat servers clients).netlist
  pub servers_are : l.servers ≡ ports_of (lowered parts flat servers clients) (count_up 0 servers)
  pub clients_are : l.clients ≡ ports_of (lowered parts flat servers clients) clients

length_up : (p k : ℕ) → length (count_up p k) ≡ k
length_up p zero = refl
length_up p (suc k) = ap suc (length_up (p + 1) k)

length_map : {A B : Type 0} (f : A → B) (xs : List A) → length (map f xs) ≡ length xs
length_map f [] = refl
length_map f (x ∷ xs) = ap suc (length_map f xs)

up_at : (p k i : ℕ) → i < k → get_or (count_up p k) i 0 ≡ p + i
up_at p zero i lt = absurd (omega arith)
up_at p (suc k) zero lt = omega arith
up_at p (suc k) (suc i) lt = let rest = up_at (p + 1) k i (omega arith) in omega (arith, rest)

map_at : (f : ℕ → Port) (xs : List ℕ) (i : ℕ) → i < length xs → port_at (map f xs) i ≡ f (get_or xs i 0)
map_at f [] i lt = absurd (omega arith)
map_at f (x ∷ xs) zero lt = refl
map_at f (x ∷ xs) (suc i) lt = map_at f xs i (omega arith)

map_up : (f : Port → ℕ) (g : ℕ → Port) (h : ℕ → ℕ) (p k limit : ℕ) → p + k ≤ limit → ((c : ℕ) → c < limit → f (g c) ≡ h c) → map f (map g (count_up p k)) ≡ map h (count_up p k)
map_up f g h p zero limit le same = refl
map_up f g h p (suc k) limit le same = ap (λ n. n ∷ map f (map g (count_up (p + 1) k))) (same p (omega arith)) ∙ ap (λ (l : List ℕ). h p ∷ l) (map_up f g h (p + 1) k limit (omega arith) same)

ones : (g : ℕ → Port) (xs : List ℕ) → map {B = ℕ} (λ (port : Port). 1) (map g xs) ≡ one_each (length xs)
ones g [] = refl
ones g (x ∷ xs) = ap (λ (l : List ℕ). 1 ∷ l) (ones g xs)

module _ (parts : List Part) (flat : Flat) (servers : ℕ) (clients : List ℕ) (lowerable : IsLowerable parts flat servers clients) (whole : IsWhole parts flat servers clients) where
  abbrev s : Lowering
  s = lowered parts flat servers clients

  made_is : place_of servers flat.elements (length flat.elements) ≡ length flat.widths
  made_is = place_end servers (length flat.widths) flat.elements lowerable.design.numbered

  server_below : (c : ℕ) → c < servers → c < length flat.widths
  server_below c lt = let low = place_low servers flat.elements (length flat.elements) in omega (arith, lt, made_is, low)

  is_ready : (c : ℕ) → c < length flat.widths → IsReady s c
  is_ready c lt =
      elim (used servers flat clients c lowerable.design lt) [
        | inl out ↦ subst (λ k. IsReady s k) out.is (whole.handed_ready out.place out.within)
        | inr taken ↦ subst (λ k. IsReady s k) taken.at.is (whole.sources taken.element taken.at.place taken.there (omega arith) taken.at.within)
      ]

  is_port : (c : ℕ) → c < length flat.widths → IsPort s.netlist (port_of s c)
  is_port c lt =
      let wire = whole.wires c (subst (λ n. c < n) (sym made_is) lt) in
      record { valid = wire.valid.below; word = wire.word.below; ready = (is_ready c lt).below }

  are_ports : (channels : List ℕ) → ((k : ℕ) → k < length channels → channel_at channels k < length flat.widths) → ArePorts s.netlist (ports_of s channels)
  are_ports channels below = record {
    each = λ k lt.
        let within : k < length channels = subst (λ n. k < n) (length_map (port_of s) channels) lt in
        subst (λ (p : Port). IsPort s.netlist p) (sym (map_at (port_of s) channels k within)) (is_port (channel_at channels k) (below k within));
  }

  widths_are : port_widths (record { net = s.netlist; servers = ports_of s (count_up 0 servers); clients = ports_of s clients }) ≡ input_widths s.netlist.nets
  widths_are =
      ap (λ (l : List ℕ). two_each l ++ map (λ (port : Port). 1) (ports_of s clients))
      (map_up (port_width s.netlist) (port_of s) (λ c. get_or flat.widths c 0) 0 servers servers (omega arith) (λ c lt. (whole.wires c (subst (λ n. c < n) (sym made_is) (server_below c lt))).word.wide))
      ∙ (ap (λ (l : List ℕ). two_each (channel_widths flat.widths servers) ++ l) (ones (port_of s) clients) ∙ sym (lowered_inputs parts flat servers clients))

  abbrev own : Lowered
  own = record { net = s.netlist; servers = ports_of s (count_up 0 servers); clients = ports_of s clients }

  own_has : servers ≤ SIDE_CHANNELS → length clients ≤ SIDE_CHANNELS → HasPorts own
  own_has few fewer = record {
    few_servers = subst (λ n. n ≤ SIDE_CHANNELS) (sym (length_map (port_of s) (count_up 0 servers) ∙ length_up 0 servers)) few;
    few_clients = subst (λ n. n ≤ SIDE_CHANNELS) (sym (length_map (port_of s) clients)) fewer;
    servers = are_ports (count_up 0 servers)
        (λ k lt.
        let within : k < servers = subst (λ n. k < n) (length_up 0 servers) lt in
        subst (λ c. c < length flat.widths) (sym (up_at 0 servers k within)) (server_below (0 + k) (omega arith)));
    clients = are_ports clients (λ k lt. lowerable.design.handed k 0 lt);
    input_count = input_total s.netlist.nets ∙ ap length (sym widths_are);
    input_width = λ place width stands. ap (λ (ws : List ℕ). width_at ws (input_place s.netlist.nets place)) widths_are ∙ input_width_at s.netlist.nets place width stands;
  }

  pub whole_has_ports : (l : Lowered) → IsLoweredOf l parts flat servers clients → servers ≤ SIDE_CHANNELS → length clients ≤ SIDE_CHANNELS → HasPorts l
  whole_has_ports l is few fewer =
      let same : l ≡ own = ap (λ n. let m : Lowered = record { net = n; servers = l.servers; clients = l.clients } in m) is.net
      ∙ (ap (λ (ps : List Port). let m : Lowered = record { net = s.netlist; servers = ps; clients = l.clients } in m) is.servers_are
      ∙ ap (λ (ps : List Port). let m : Lowered = record { net = s.netlist; servers = ports_of s (count_up 0 servers); clients = ps } in m) is.clients_are) in
      subst HasPorts (sym same) (own_has few fewer)

abbrev pub LoweredHavePorts : Type 0
LoweredHavePorts = (parts : List Part) (flat : Flat) (servers : ℕ) (clients : List ℕ) (l : Lowered) → IsLowerable parts flat servers clients → IsWhole parts flat servers clients → IsLoweredOf l parts flat servers clients
    → servers ≤ SIDE_CHANNELS → length clients ≤ SIDE_CHANNELS → HasPorts l

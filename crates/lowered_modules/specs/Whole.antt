-- The endpoints and ports of a lowered netlist are an interface of it.
use Rattle.std.specs.Prelude.{◌≡◌, ℕ, ◌+◌, ◌<◌, ◌≤◌, ◌++◌, false, List, Some, length, map, get_or, slice_get}
use Rattle.std.proofs.Common.{sym, ◌∙◌, ap, subst, arith, length-append}
use Rattle.std.proofs.lemmas.List.{length-map}
use Rattle.std.proofs.lemmas.Option.{slice_get_within, get_or_from_slice_get}
use Rattle.channel_types.specs.Types.{width_of}
use Rattle.netlist.specs.declared.net.Net.{Net}
use Rattle.netlist.specs.declared.net.Net.TheVariants.{Input}
use Rattle.netlist.specs.declared.part.Part.{Part}
use Rattle.netlist.specs.Nets.{is_input}
use Rattle.netlist.specs.Plans.{Plan, Stands, IsComplete}
use Rattle.net_lists.specs.Lists.{Carries}
use Rattle.flat_design.specs.declared.element.Flat.{Flat}
use Rattle.flat_design.specs.Laying.{count_up}
use Rattle.buffer_stage.specs.Passes.{wire_at, ready_at}
use Rattle.channel_lower.specs.declared.lowering.Lowering.{Lowering}
use Rattle.channel_lower.specs.Growth.{stands_more}
use Rattle.channel_lower.specs.Lowerable.{IsLowerable}
use Rattle.channel_lower.specs.Lowering.{channel_at, lowered}
use Rattle.channel_lower.specs.Ports.{port_of, ports_of}
use Rattle.verilog_module.specs.declared.module.EndpointLine.{EndpointLine}
use Rattle.verilog_module.specs.declared.module.Offer.{Offer}
use Rattle.verilog_module.specs.GoodLaws.{fitting_from, modules_are_good}
use Rattle.verilog_module.specs.Modules.{input_widths, input_count}
use Rattle.verilog_module.specs.Statements.{IsNet, ReadyNet, OfferNets, IsInterfaceOf}
use Rattle.lowered_modules.specs.Extents.{extends_ports, behind_none}
use Rattle.lowered_modules.specs.Inputs.{server_nets, client_nets, ports_are, length_all, inputs_stand}
use Rattle.lowered_modules.specs.Interfaces.{ready_of, offer_of, AreEnds, lowered_interface, LoweredInterfaces, LoweredModulesAreGood}
use Rattle.lowered_modules.specs.Ports.{mapped_at, counted_at, length-count, servers_below, carries_wire, carries_ready}

is_net : (plan : Plan) (width net : ℕ) → Carries plan net width → IsNet plan width net
is_net plan width net c = record { there = c.below; wide = c.wide }

module _ (parts : List Part) (flat : Flat) (servers : ℕ) (clients title : List ℕ) (to_server to_client : List EndpointLine)
    (lowerable : IsLowerable parts flat servers clients) (complete : IsComplete (lowered parts flat servers clients).netlist) (ends : AreEnds flat servers clients title to_server to_client) where
  abbrev whole : Lowering
  whole = lowered parts flat servers clients

  abbrev plan : Plan
  plan = whole.netlist

  abbrev front : List Net
  front = server_nets flat.widths servers ++ client_nets (length clients)

  abbrev more : List Net
  more = (extends_ports parts flat servers clients).more

  -- the nets are the ports' and others
  nets_are : plan.nets ≡ front ++ more
  nets_are = (extends_ports parts flat servers clients).is ∙ ap (λ ns. ns ++ more) (ports_are flat servers clients)

  front_count : input_count to_server to_client ≡ length front
  front_count = omega (arith, length_all flat.widths servers (length clients), ends.servers_all, ends.clients_all)

  server_within : (c : ℕ) (end : EndpointLine) → slice_get to_server c ≡ Some end → c < servers
  server_within c end e = omega (arith, slice_get_within to_server c end e, ends.servers_all)

  inputs : (n : ℕ) → n < input_count to_server to_client → Stands plan.nets n (Input (get_or (input_widths to_server to_client) n 0))
  inputs n lt =
      subst (λ ns. Stands ns n (Input (get_or (input_widths to_server to_client) n 0))) (sym nets_are)
      (stands_more front more n (Input (get_or (input_widths to_server to_client) n 0))
      (inputs_stand flat.widths servers (length clients) to_server to_client ends.servers_all ends.clients_all ends.server_widths server_within n lt))

  others : (n : ℕ) (net : Net) → input_count to_server to_client ≤ n → Stands plan.nets n net → is_input net ≡ false
  others n net le s = behind_none front more n net (extends_ports parts flat servers clients).none (omega (arith, le, front_count)) (subst (λ ns. Stands ns n net) nets_are s)

  enough : input_count to_server to_client ≤ length plan.nets
  enough = omega (arith, front_count, ap length nets_are, length-append front more)

  -- ---- the nets of the output ports

  ready_net : (k : ℕ) (end : EndpointLine) (ready : ℕ) → slice_get to_server k ≡ Some end → slice_get (map ready_of (ports_of whole (count_up 0 servers))) k ≡ Some ready → ReadyNet plan (0 + k) end ready
  ready_net k end ready p q =
      let port = mapped_at ready_of (ports_of whole (count_up 0 servers)) k ready q in
      let channel = mapped_at (port_of whole) (count_up 0 servers) k port.item port.at in
      let c : ℕ = channel.item in
      let here : c ≡ 0 + k = counted_at 0 servers k c channel.at in
      let below : c < length flat.widths = omega (arith, here, server_within k end p, servers_below parts flat servers clients lowerable complete.plan_kept) in
      subst (λ r. IsNet plan 1 r) (ap ready_of channel.made ∙ port.made) (is_net plan 1 (ready_at whole.readies c) (carries_ready parts flat servers clients lowerable complete.plan_kept c below))

  offer_net : (k : ℕ) (end : EndpointLine) (offer : Offer) → slice_get to_client k ≡ Some end → slice_get (map offer_of (ports_of whole clients)) k ≡ Some offer → OfferNets plan (0 + k) end offer
  offer_net k end offer p q =
      let port = mapped_at offer_of (ports_of whole clients) k offer q in
      let channel = mapped_at (port_of whole) clients k port.item port.at in
      let c : ℕ = channel.item in
      let there : k < length clients = slice_get_within clients k c channel.at in
      let here : channel_at clients k ≡ c = get_or_from_slice_get clients k c 0 channel.at in
      let below : c < length flat.widths = subst (λ d. d < length flat.widths) here (lowerable.design.handed k 0 there) in
      let wire = carries_wire parts flat servers clients lowerable complete.plan_kept c below in
      let wide : get_or flat.widths c 0 ≡ width_of end.ty = sym (ends.client_widths k end p ∙ ap (λ d. get_or flat.widths d 0) here) in
      subst (λ (o : Offer). IsNet plan 1 o.valid × IsNet plan (width_of end.ty) o.word) (ap offer_of channel.made ∙ port.made)
      (is_net plan 1 (wire_at whole.wires c).valid wire.valid, subst (λ w. IsNet plan w (wire_at whole.wires c).word) wide (is_net plan (get_or flat.widths c 0) (wire_at whole.wires c).word wire.word))

  is_interface : IsInterfaceOf plan (lowered_interface parts flat servers clients title to_server to_client)
  is_interface = record {
    inputs = inputs;
    others = others;
    enough = enough;
    readies =
        fitting_from (ReadyNet plan) 0 to_server (map ready_of (ports_of whole (count_up 0 servers)))
        (ends.servers_all ∙ sym (length-map (ports_of whole (count_up 0 servers)) ready_of ∙ length-map (count_up 0 servers) (port_of whole) ∙ length-count 0 servers)) ready_net;
    offers =
        fitting_from (OfferNets plan) 0 to_client (map offer_of (ports_of whole clients)) (ends.clients_all ∙ sym (length-map (ports_of whole clients) offer_of ∙ length-map clients (port_of whole)))
        offer_net;
    title = ends.title_word;
    server_count = ends.server_count;
    client_count = ends.client_count;
    server_ends = ends.server_ends;
    client_ends = ends.client_ends;
  }

pub interfaces_are_lowered : LoweredInterfaces
interfaces_are_lowered parts flat servers clients title to_server to_client lowerable complete ends = is_interface parts flat servers clients title to_server to_client lowerable complete ends

pub lowered_modules_are_good : LoweredModulesAreGood
lowered_modules_are_good parts flat servers clients title to_server to_client lowerable complete ends =
    modules_are_good (lowered parts flat servers clients).netlist (lowered_interface parts flat servers clients title to_server to_client) complete
    (interfaces_are_lowered parts flat servers clients title to_server to_client lowerable complete ends)

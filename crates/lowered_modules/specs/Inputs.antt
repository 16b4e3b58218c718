-- The nets of the ports are the inputs that the endpoints have, in the order of the module line.
use Rattle.std.specs.Prelude.{◌≡◌, ℕ, zero, suc, ◌+◌, ◌*◌, ◌<◌, ◌++◌, List, [], ◌∷◌, Some, length, get_or, slice_get, refl}
use Rattle.std.proofs.Common.{sym, ◌∙◌, ap, subst, arith, inl, inr, append-nil, append_assoc, length-append}
use Rattle.std.proofs.lemmas.Bool.{cases_lt}
use Rattle.channel_types.specs.Types.{width_of}
use Rattle.netlist.specs.declared.net.Net.{Net}
use Rattle.netlist.specs.declared.net.Net.TheVariants.{Input}
use Rattle.netlist.specs.Plans.{Stands}
use Rattle.net_lists.specs.ListLaws.{with_nets-nets}
use Rattle.looped_nets.specs.Loops.{nets_upto}
use Rattle.flat_design.specs.declared.element.Flat.{Flat}
use Rattle.channel_lower.specs.declared.lowering.Lowering.{Lowering}
use Rattle.channel_lower.specs.Growth.{stands_more}
use Rattle.channel_lower.specs.Lowering.{nothing, server_pass, client_pass, with_ports}
use Rattle.verilog_module.specs.declared.module.EndpointLine.{EndpointLine}
use Rattle.verilog_module.specs.Modules.{server_inputs, client_inputs, input_widths, input_count}

-- ---- the nets of the ports, as a list

abbrev pub server_nets : List ℕ → ℕ → List Net
server_nets widths zero = []
server_nets widths (suc c) = server_nets widths c ++ Input 1 ∷ Input (get_or widths c 0) ∷ []

abbrev pub client_nets : ℕ → List Net
client_nets k = nets_upto (λ i. Input 1 ∷ []) k

served_is : (widths : List ℕ) (start : Lowering) (c : ℕ) → start.netlist.nets ≡ [] → (server_pass widths c start).netlist.nets ≡ server_nets widths c
served_is widths start zero e = e
served_is widths start (suc c) e =
    with_nets-nets (server_pass widths c start).netlist (Input 1 ∷ Input (get_or widths c 0) ∷ [])
    ∙ ap (λ ns. ns ++ Input 1 ∷ Input (get_or widths c 0) ∷ []) (served_is widths start c e)

handed_is : (clients : List ℕ) (s : Lowering) (k : ℕ) → (client_pass clients k s).netlist.nets ≡ s.netlist.nets ++ client_nets k
handed_is clients s zero = sym (append-nil s.netlist.nets)
handed_is clients s (suc k) =
    with_nets-nets (client_pass clients k s).netlist (Input 1 ∷ [])
    ∙ ap (λ ns. ns ++ Input 1 ∷ []) (handed_is clients s k)
    ∙ append_assoc s.netlist.nets (client_nets k) (Input 1 ∷ [])

pub ports_are : (flat : Flat) (servers : ℕ) (clients : List ℕ) → (with_ports flat servers clients).netlist.nets ≡ server_nets flat.widths servers ++ client_nets (length clients)
ports_are flat servers clients =
    handed_is clients (server_pass flat.widths servers (nothing (length flat.widths))) (length clients)
    ∙ ap (λ ns. ns ++ client_nets (length clients)) (served_is flat.widths (nothing (length flat.widths)) servers refl)

-- ---- where each of them stands

pub length_servers : (widths : List ℕ) (c : ℕ) → length (server_nets widths c) ≡ 2 * c
length_servers widths zero = refl
length_servers widths (suc c) = omega (arith, length-append (server_nets widths c) (Input 1 ∷ Input (get_or widths c 0) ∷ []), length_servers widths c)

pub length_clients : (k : ℕ) → length (client_nets k) ≡ k
length_clients zero = refl
length_clients (suc k) = omega (arith, length-append (client_nets k) (Input 1 ∷ []), length_clients k)

stands_behind : (front back : List Net) (k : ℕ) (net : Net) → Stands back k net → Stands (front ++ back) (length front + k) net
stands_behind [] back k net s = let e : k ≡ 0 + k = omega arith in subst (λ p. Stands back p net) e s
stands_behind (x ∷ front) back k net s = let e : suc (length front + k) ≡ suc (length front) + k = omega arith in subst (λ p. Stands (x ∷ (front ++ back)) p net) e (stands_behind front back k net s)

stands_at : (nets : List Net) (p q : ℕ) (net : Net) → p ≡ q → Stands nets p net → Stands nets q net
stands_at nets p q net e s = subst (λ r. Stands nets r net) e s

pub record IsServerPort (nets : List Net) (c width : ℕ) : Type 0 where
  pub valid : Stands nets (2 * c) (Input 1)
  pub word : Stands nets (2 * c + 1) (Input width)

servers_stand : (widths : List ℕ) (m c : ℕ) → c < m → IsServerPort (server_nets widths m) c (get_or widths c 0)
servers_stand widths zero c lt = absurd (omega (arith, lt))
servers_stand widths (suc m) c lt =
    let front : List Net = server_nets widths m in
    let back : List Net = Input 1 ∷ Input (get_or widths m 0) ∷ [] in
    elim (cases_lt c m) [
      | inl less ↦ (let old = servers_stand widths m c less in record {
        valid = stands_more front back (2 * c) (Input 1) old.valid;
        word = stands_more front back (2 * c + 1) (Input (get_or widths c 0)) old.word;
      })
      | inr ge ↦ (let same : m ≡ c = omega (arith, lt, ge) in subst (λ d. IsServerPort (front ++ back) d (get_or widths d 0)) same (record {
        valid = stands_at (front ++ back) (length front + 0) (2 * m) (Input 1) (omega (arith, length_servers widths m)) (stands_behind front back 0 (Input 1) refl);
        word = stands_at (front ++ back) (length front + 1) (2 * m + 1) (Input (get_or widths m 0)) (omega (arith, length_servers widths m)) (stands_behind front back 1 (Input (get_or widths m 0)) refl);
      }))
    ]

clients_stand : (m k : ℕ) → k < m → Stands (client_nets m) k (Input 1)
clients_stand zero k lt = absurd (omega (arith, lt))
clients_stand (suc m) k lt =
    elim (cases_lt k m) [
      | inl less ↦ stands_more (client_nets m) (Input 1 ∷ []) k (Input 1) (clients_stand m k less)
      | inr ge ↦ stands_at (client_nets m ++ Input 1 ∷ []) (length (client_nets m) + 0) k (Input 1) (omega (arith, lt, ge, length_clients m)) (stands_behind (client_nets m) (Input 1 ∷ []) 0 (Input 1) refl)
    ]

-- the nets of both, in order
module _ (widths : List ℕ) (servers clients : ℕ) where
  abbrev all : List Net
  all = server_nets widths servers ++ client_nets clients

  server_stands : (c : ℕ) → c < servers → IsServerPort all c (get_or widths c 0)
  server_stands c lt =
      let one = servers_stand widths servers c lt in
      record {
        valid = stands_more (server_nets widths servers) (client_nets clients) (2 * c) (Input 1) one.valid;
        word = stands_more (server_nets widths servers) (client_nets clients) (2 * c + 1) (Input (get_or widths c 0)) one.word;
      }

  client_stands : (k : ℕ) → k < clients → Stands all (2 * servers + k) (Input 1)
  client_stands k lt =
      stands_at all (length (server_nets widths servers) + k) (2 * servers + k) (Input 1) (omega (arith, length_servers widths servers))
      (stands_behind (server_nets widths servers) (client_nets clients) k (Input 1) (clients_stand clients k lt))

  pub length_all : length all ≡ 2 * servers + clients
  length_all = omega (arith, length-append (server_nets widths servers) (client_nets clients), length_servers widths servers, length_clients clients)

-- ---- the widths of the input ports

length_client_inputs : (ends : List EndpointLine) → length (client_inputs ends) ≡ length ends
length_client_inputs [] = refl
length_client_inputs (end ∷ ends) = ap suc (length_client_inputs ends)

client_input : (ends : List EndpointLine) (k : ℕ) → k < length ends → get_or (client_inputs ends) k 0 ≡ 1
client_input [] k lt = absurd (omega (arith, lt))
client_input (end ∷ ends) zero lt = refl
client_input (end ∷ ends) (suc k) lt = client_input ends k (omega (arith, lt))

-- from endpoint c on
inputs_from : (nets : List Net) (ends : List EndpointLine) (behind : List ℕ) (c : ℕ)
    → ((j : ℕ) (end : EndpointLine) → slice_get ends j ≡ Some end → IsServerPort nets (c + j) (width_of end.ty))
    → ((k : ℕ) → k < length behind → Stands nets (2 * (c + length ends) + k) (Input (get_or behind k 0)))
    → (n : ℕ) → n < 2 * length ends + length behind → Stands nets (2 * c + n) (Input (get_or (server_inputs ends behind) n 0))
inputs_from nets [] behind c ports others n lt = stands_at nets (2 * (c + 0) + n) (2 * c + n) (Input (get_or behind n 0)) (omega arith) (others n (omega (arith, lt)))
inputs_from nets (end ∷ ends) behind c ports others zero lt = stands_at nets (2 * (c + 0)) (2 * c + zero) (Input 1) (omega arith) (ports 0 end refl).valid
inputs_from nets (end ∷ ends) behind c ports others (suc zero) lt = stands_at nets (2 * (c + 0) + 1) (2 * c + suc zero) (Input (width_of end.ty)) (omega arith) (ports 0 end refl).word
inputs_from nets (end ∷ ends) behind c ports others (suc (suc n)) lt =
    let later : (j : ℕ) (one : EndpointLine) → slice_get ends j ≡ Some one → IsServerPort nets (c + 1 + j) (width_of one.ty) =
    λ j one e. let same : c + suc j ≡ c + 1 + j = omega arith in subst (λ d. IsServerPort nets d (width_of one.ty)) same (ports (suc j) one e) in
    let behind_them : (k : ℕ) → k < length behind → Stands nets (2 * (c + 1 + length ends) + k) (Input (get_or behind k 0)) =
    λ k less. stands_at nets (2 * (c + suc (length ends)) + k) (2 * (c + 1 + length ends) + k) (Input (get_or behind k 0)) (omega arith) (others k less) in
    stands_at nets (2 * (c + 1) + n) (2 * c + suc (suc n)) (Input (get_or (server_inputs ends behind) n 0)) (omega arith) (inputs_from nets ends behind (c + 1) later behind_them n (omega (arith, lt)))

-- each input port has its net
pub inputs_stand : (widths : List ℕ) (servers clients : ℕ) (to_server to_client : List EndpointLine) → length to_server ≡ servers → length to_client ≡ clients
    → ((c : ℕ) (end : EndpointLine) → slice_get to_server c ≡ Some end → width_of end.ty ≡ get_or widths c 0) → ((c : ℕ) (end : EndpointLine) → slice_get to_server c ≡ Some end → c < servers)
    → (n : ℕ) → n < input_count to_server to_client → Stands (server_nets widths servers ++ client_nets clients) n (Input (get_or (input_widths to_server to_client) n 0))
inputs_stand widths servers clients to_server to_client server_count client_count wide within n lt =
    let nets : List Net = server_nets widths servers ++ client_nets clients in
    let behind : List ℕ = client_inputs to_client in
    let ports : (j : ℕ) (end : EndpointLine) → slice_get to_server j ≡ Some end → IsServerPort nets (0 + j) (width_of end.ty) =
    λ j end e.
    let same : j ≡ 0 + j = omega arith in
    subst (λ d. IsServerPort nets d (width_of end.ty)) same (subst (λ w. IsServerPort nets j w) (sym (wide j end e)) (server_stands widths servers clients j (within j end e))) in
    let others : (k : ℕ) → k < length behind → Stands nets (2 * (0 + length to_server) + k) (Input (get_or behind k 0)) =
    λ k less.
    let there : k < length to_client = omega (arith, less, length_client_inputs to_client) in
    subst (λ w. Stands nets (2 * (0 + length to_server) + k) (Input w)) (sym (client_input to_client k there))
    (stands_at nets (2 * servers + k) (2 * (0 + length to_server) + k) (Input 1) (omega (arith, server_count)) (client_stands widths servers clients k (omega (arith, there, client_count)))) in
    stands_at nets (2 * 0 + n) n (Input (get_or (input_widths to_server to_client) n 0)) (omega arith)
    (inputs_from nets to_server behind 0 ports others n (omega (arith, lt, length_client_inputs to_client)))

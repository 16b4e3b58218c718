-- A netlist only grows, turn by turn and pass by pass.
use Rattle.std.specs.Prelude.{◌≡◌, ℕ, zero, suc, ◌+◌, ◌<◌, ◌≤◌, ◌∷◌, [], List, length, get_or}
use Rattle.std.proofs.Common.{sym, ◌∙◌, ap, subst, arith, inl, inr}
use Rattle.std.proofs.lemmas.Bool.{cases_lt}
use Rattle.netlist.specs.declared.net.Net.TheVariants.{Input}
use Rattle.netlist.specs.declared.part.Part.{Part}
use Rattle.net_lists.specs.Lists.{with_nets}
use Rattle.net_lists.specs.ListLaws.{length-with_nets}
use Rattle.flat_design.specs.declared.element.Element.{Element}
use Rattle.buffer_stage.specs.Passes.{register_nets, forward_nets, backward_nets, next_nets}
use Rattle.channel_lower.specs.declared.lowering.Lowering.{Lowering}
use Rattle.channel_lower.specs.Growth.{linked_up_nets}
use Rattle.channel_lower.specs.Lowering.{turns, laid_of, wires_at, readies_at, element_at, part_of, channel_at, from_end, server_turn, client_turn, register_turn, forward_turn, backward_turn, next_turn}

abbrev pub size : Lowering → ℕ
size s = length s.netlist.nets

-- what each turn of some kind does
pub record OnlyGrows (turn : ℕ → Lowering → Lowering) : Type 0 where
  pub each : (k : ℕ) (s : Lowering) → size s ≤ size (turn k s)

pub turns_grow : (turn : ℕ → Lowering → Lowering) (s : Lowering) (a b : ℕ) → OnlyGrows turn → a ≤ b → size (turns turn a s) ≤ size (turns turn b s)
turns_grow turn s zero zero grows le = omega arith
turns_grow turn s (suc a) zero grows le = absurd (omega arith)
turns_grow turn s a (suc b) grows le =
    elim (cases_lt a (suc b)) [
      | inl lt ↦ omega (arith, turns_grow turn s a b grows (omega arith), grows.each b (turns turn b s))
      | inr ge ↦ let e : a ≡ suc b = omega arith in let same = ap (λ n. size (turns turn n s)) e in omega (arith, same)
    ]

-- a turn that finds no room
pub too_long : (turn : ℕ → Lowering → Lowering) (s now : Lowering) (at n limit : ℕ) → OnlyGrows turn → at < n → now ≡ turns turn at s → limit < size (turn at now) → limit < size (turns turn n s)
too_long turn s now at n limit grows lt is many =
    let here : limit < size (turns turn (suc at) s) = subst (λ w. limit < size (turn at w)) is many in
    let rest = turns_grow turn s (suc at) n grows (omega arith) in
    omega (arith, here, rest)

-- ---- each kind of turn

pub size_server : (width : ℕ) (s : Lowering) → size (server_turn width s) ≡ size s + 2
size_server width s = length-with_nets s.netlist (Input 1 ∷ Input width ∷ [])

pub size_client : (channel : ℕ) (s : Lowering) → size (client_turn channel s) ≡ size s + 1
size_client channel s = length-with_nets s.netlist (Input 1 ∷ [])

pub size_register : (part : Part) (s : Lowering) → size (register_turn part s) ≡ size s + length (register_nets part)
size_register part s = length-with_nets s.netlist (register_nets part)

pub size_forward : (part : Part) (element : Element) (k : ℕ) (s : Lowering) → size (forward_turn part element k s) ≡ size s + length (forward_nets part (get_or s.registers k 0) (wires_at s.wires element.sources) (size s))
size_forward part element k s = length-with_nets s.netlist (forward_nets part (get_or s.registers k 0) (wires_at s.wires element.sources) (size s))

pub size_backward : (part : Part) (element : Element) (k : ℕ) (s : Lowering) → size (backward_turn part element k s) ≡ size s + length (backward_nets part (laid_of s.row k) (readies_at s.readies element.sinks) (size s))
size_backward part element k s = length-with_nets s.netlist (backward_nets part (laid_of s.row k) (readies_at s.readies element.sinks) (size s))

pub size_next : (part : Part) (k : ℕ) (s : Lowering) → size (next_turn part k s) ≡ size s + length (next_nets part (laid_of s.row k) (size s))
size_next part k s =
    let nets = next_nets part (laid_of s.row k) (size s) in
    ap length (linked_up_nets part (laid_of s.row k) (size s) (with_nets s.netlist nets)) ∙ length-with_nets s.netlist nets

pub servers_grow : (widths : List ℕ) → OnlyGrows (λ c. server_turn (get_or widths c 0))
servers_grow widths = record { each = λ c s. omega (arith, size_server (get_or widths c 0) s) }

pub clients_grow : (clients : List ℕ) → OnlyGrows (λ k. client_turn (channel_at clients k))
clients_grow clients = record { each = λ k s. omega (arith, size_client (channel_at clients k) s) }

module _ (parts : List Part) (elements : List Element) where
  pub registers_grow : OnlyGrows (λ k. register_turn (part_of parts (element_at elements k)))
  registers_grow = record { each = λ k s. omega (arith, size_register (part_of parts (element_at elements k)) s) }

  pub forward_grows : OnlyGrows (λ k. forward_turn (part_of parts (element_at elements k)) (element_at elements k) k)
  forward_grows = record { each = λ k s. omega (arith, size_forward (part_of parts (element_at elements k)) (element_at elements k) k s) }

  pub backward_grows : OnlyGrows (λ k. backward_turn (part_of parts (element_at elements (from_end elements k))) (element_at elements (from_end elements k)) (from_end elements k))
  backward_grows = record { each = λ k s. let j = from_end elements k in omega (arith, size_backward (part_of parts (element_at elements j)) (element_at elements j) j s) }

  pub next_grows : OnlyGrows (λ k. next_turn (part_of parts (element_at elements k)) k)
  next_grows = record { each = λ k s. omega (arith, size_next (part_of parts (element_at elements k)) k s) }

pub pass_grows : (turn : ℕ → Lowering → Lowering) (s : Lowering) (n : ℕ) → OnlyGrows turn → size s ≤ size (turns turn n s)
pass_grows turn s n grows = turns_grow turn s 0 n grows (omega arith)

-- where there is no room for a turn's nets, its netlist is too long
pub server_long : (width limit : ℕ) (s : Lowering) → limit < size s + 2 → limit < size (server_turn width s)
server_long width limit s h = subst (λ n. limit < n) (sym (size_server width s)) h

pub client_long : (channel limit : ℕ) (s : Lowering) → limit < size s + 1 → limit < size (client_turn channel s)
client_long channel limit s h = subst (λ n. limit < n) (sym (size_client channel s)) h

pub register_long : (p q : Part) (limit : ℕ) (s : Lowering) → q ≡ p → limit < size s + length (register_nets q) → limit < size (register_turn p s)
register_long p q limit s e h = subst (λ (r : Part). limit < size (register_turn r s)) e (subst (λ n. limit < n) (sym (size_register q s)) h)

pub forward_long : (p q : Part) (x y : Element) (k limit : ℕ) (s : Lowering) → q ≡ p → y ≡ x → limit < size s + length (forward_nets q (get_or s.registers k 0) (wires_at s.wires y.sources) (size s)) → limit < size (forward_turn p x k s)
forward_long p q x y k limit s e f h =
    subst (λ (z : Element). limit < size (forward_turn p z k s)) f (subst (λ (r : Part). limit < size (forward_turn r y k s)) e (subst (λ n. limit < n) (sym (size_forward q y k s)) h))

pub backward_long : (p q : Part) (x y : Element) (k limit : ℕ) (s : Lowering) → q ≡ p → y ≡ x → limit < size s + length (backward_nets q (laid_of s.row k) (readies_at s.readies y.sinks) (size s)) → limit < size (backward_turn p x k s)
backward_long p q x y k limit s e f h =
    subst (λ (z : Element). limit < size (backward_turn p z k s)) f (subst (λ (r : Part). limit < size (backward_turn r y k s)) e (subst (λ n. limit < n) (sym (size_backward q y k s)) h))

pub next_long : (p q : Part) (k limit : ℕ) (s : Lowering) → q ≡ p → limit < size s + length (next_nets q (laid_of s.row k) (size s)) → limit < size (next_turn p k s)
next_long p q k limit s e h = subst (λ (r : Part). limit < size (next_turn r k s)) e (subst (λ n. limit < n) (sym (size_next q k s)) h)

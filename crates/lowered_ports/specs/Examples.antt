-- Worked by computing: a pipe of one stage has ports, and a value that it takes in cycle 0 leaves it in cycle 1, and not before.
use Rattle.std.specs.Prelude.{◌≡◌, ℕ, zero, suc, ◌<◌, true, false, List, [], ◌∷◌, length, replicate, refl}
use Rattle.std.proofs.Common.{sym, ap, ◌∙◌, arith}
use Rattle.netlist.specs.declared.part.Part.{Part}
use Rattle.netlist.specs.declared.part.Part.TheVariants.{Stage}
use Rattle.std.specs.List.{slice_index_or}
use Rattle.netlist.specs.Nets.{Bits}
use Rattle.netlist.specs.Settled.{input_place}
use Rattle.flat_design.specs.declared.element.Flat.{Flat}
use Rattle.channel_lower.specs.Lowering.{lowered}
use Rattle.channel_lower.specs.Ports.{ports_of}
use Rattle.channel_lower.specs.declared.lowered.Lowered.{Lowered}
use Rattle.endpoint_hub.specs.declared.journal.Handed.{Handed}
use Rattle.endpoint_hub.specs.declared.journal.Taken.{Taken}
use Rattle.lowered_ports.specs.InputWidths.{input_widths, input_total, input_width_at}
use Rattle.session_rules.specs.Ports.{circuit_of, start_of, port_at, port_widths, HasPorts, IsPort}
use Rattle.session_rules.specs.Registers.{held_words}
use Rattle.session_rules.specs.Replay.{replayed, outs}
use Rattle.session_rules.specs.SettledWords.{words_below}

abbrev stages : List Part
stages = Stage 8 ∷ []

abbrev pipe : Flat
pipe = record { elements = record { part = 0; sources = 0 ∷ []; sinks = 1 ∷ [] } ∷ []; widths = 8 ∷ 8 ∷ [] }

abbrev pipe_lowered : Lowered
pipe_lowered = record { net = (lowered stages pipe 1 (1 ∷ [])).netlist; servers = ports_of (lowered stages pipe 1 (1 ∷ [])) (0 ∷ []); clients = ports_of (lowered stages pipe 1 (1 ∷ [])) (1 ∷ []) }

net_count : length pipe_lowered.net.nets ≡ 17
net_count = refl

widths_are : input_widths pipe_lowered.net.nets ≡ port_widths pipe_lowered
widths_are = refl

pipe_has_ports : HasPorts pipe_lowered
pipe_has_ports = record {
  few_servers = omega arith;
  few_clients = omega arith;
  servers = record { each = server };
  clients = record { each = client };
  input_count = input_total pipe_lowered.net.nets ∙ ap length widths_are;
  input_width = λ place width stands. ap (λ (ws : List ℕ). slice_index_or ws (input_place pipe_lowered.net.nets place) 0) (sym widths_are) ∙ input_width_at pipe_lowered.net.nets place width stands;
}
  where
    server : (channel : ℕ) → channel < 1 → IsPort pipe_lowered.net (port_at pipe_lowered.servers channel)
    server zero lt = record { valid = omega (arith, net_count); word = omega (arith, net_count); ready = omega (arith, net_count) }
    server (suc channel) lt = absurd (omega arith)

    client : (channel : ℕ) → channel < 1 → IsPort pipe_lowered.net (port_at pipe_lowered.clients channel)
    client zero lt = record { valid = omega (arith, net_count); word = omega (arith, net_count); ready = omega (arith, net_count) }
    client (suc channel) lt = absurd (omega arith)

abbrev one : Bits
one = true ∷ replicate 7 false

abbrev taken : List Taken
taken = record { cycle = 0; channel = 0; conn = 5; stream = 7; word = one } ∷ []

abbrev handed : ℕ → List Handed
handed cycle = record { cycle = cycle; channel = 0 } ∷ []

comes_out : outs (circuit_of pipe_lowered) (start_of pipe_lowered) taken (handed 1) 0 2 ≡ one ∷ []
unfolding outs replayed words_below
comes_out = refl

not_before : outs (circuit_of pipe_lowered) (start_of pipe_lowered) taken (handed 0) 0 1 ≡ []
unfolding outs replayed words_below
not_before = refl

-- behind cycle 0 the stage holds it
held : held_words pipe_lowered.net.nets (replayed (circuit_of pipe_lowered) (start_of pipe_lowered) taken [] 1).state ≡ (true ∷ []) ∷ (false ∷ []) ∷ one ∷ one ∷ []
unfolding replayed words_below
held = refl

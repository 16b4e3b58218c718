-- A cycle of the server, and so many of them.
use Rattle.std.specs.Prelude.{ℕ, zero, suc, List, ◌∷◌}
use Rattle.serve_acts.specs.Acts.{Act}
use Rattle.serve_acts.specs.Acts.Act.{Settles, Cycles}
use Rattle.serve_acts.specs.Served.{Served}
use Rattle.serve_rule.specs.Handing.{handed_from}
use Rattle.serve_rule.specs.Moves.{Moves}
use Rattle.serve_rule.specs.Polls.{polled_all}
use Rattle.serve_rule.specs.Taking.{taken_from}

-- takes; all transfers; then every stream with unsent octets is polled; then hands
unfoldable pub after_cycle : {S : Type 0} → (served : Served S) → Moves served → List Act → List Act
after_cycle served moves t =
    Cycles ∷ handed_from served.circuit.to_client_count served moves 0 (polled_all served.replies (Settles ∷ taken_from served.circuit.to_server_count served moves 0 t))

unfoldable pub after_cycles : {S : Type 0} → ℕ → (served : Served S) → Moves served → List Act → List Act
after_cycles zero served moves t = t
after_cycles (suc count) served moves t = after_cycles count served moves (after_cycle served moves t)

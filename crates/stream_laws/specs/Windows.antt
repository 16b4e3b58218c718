-- The calls of the ledger of windows that a history comes to, from the beginning of a connection.
use Rattle.std.specs.Prelude.{List, ◌++◌}
use Rattle.h2_flow.specs.History.{Call}
use Rattle.h2_history.specs.FlowCalls.{flow_calls}
use Rattle.h2_history.specs.History.{Entry, outs, first_puts}
use Rattle.h2_history.specs.Standing.{first_standing}
use Rattle.h2_layouts.specs.declared.role.Role.{Role}

-- the frames with which an end begins are the first entries
abbrev pub window_calls : Role → List Entry → List Call
window_calls role entries = flow_calls (outs (first_puts role) ++ entries) (first_standing role)

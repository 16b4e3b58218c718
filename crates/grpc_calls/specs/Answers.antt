-- What `poll_message` answered.
use Rattle.std.specs.Prelude.{◌≡◌, ℕ, List, Result, Ok, Err}
use Rattle.esi_base.specs.declared.poll.Poll.{Poll}
use Rattle.esi_base.specs.declared.poll.Poll.TheVariants.{Ready, Pending}
use Rattle.grpc_calls.specs.declared.deframer.DeframeStop.{DeframeStop}

abbrev pub Answer : Type 0
Answer = Poll (Result (List ℕ) DeframeStop)

-- where it is a message, this is true of it
abbrev pub IfMessage : Answer → (List ℕ → Type 0) → Type 0
IfMessage (Ready (Ok message)) P = P message
IfMessage (Ready (Err stop)) P = Unit {0}
IfMessage Pending P = Unit {0}

-- where it is no message, this is true
abbrev pub OnNoMessage : Answer → Type 0 → Type 0
OnNoMessage (Ready (Ok message)) P = Unit {0}
OnNoMessage (Ready (Err stop)) P = P
OnNoMessage Pending P = P

-- it is this stop
abbrev pub IsStop : DeframeStop → Answer → Type 0
IsStop stop answer = answer ≡ Ready (Err stop)

abbrev pub IsPending : Answer → Type 0
IsPending answer = answer ≡ Pending

-- What is served: a circuit between the rings, and what is written in replies.
use Rattle.std.specs.Prelude.{ℕ, ◌==◌, not, Bool, true, List}
use Rattle.cycle_rules.specs.Circuit.{Bits, Circuit}
use Rattle.hpack.specs.declared.header.Header.{Header}
use Rattle.serve_acts.specs.declared.decline.Decline.{Decline}
use Rattle.serve_acts.specs.declared.decline.Decline.TheVariants.{Http, Status}

-- the status says that the call failed: that of gRPC is OK where it is 0
abbrev pub is_failure : Decline → Bool
is_failure (Http status) = true
is_failure (Status status) = not (status == 0)

-- the header lists and messages of replies
pub record Replies : Type 0 where
  -- a reply begins, and messages follow
  pub begin : List Header
  -- it ends, and all went well
  pub trailers : List Header
  -- the whole of a reply that is a header list alone
  pub decline : Decline → List Header
  -- the octets of the message that answers a value that was taken, and of that with a value of a channel
  pub taken : List ℕ
  pub message : ℕ → Bits → List ℕ

-- `start` is what is in the circuit at first, and `is_value` tells which words a to-server channel takes
pub record Served (S : Type 0) : Type 0 where
  pub circuit : Circuit S
  pub start : S
  pub is_value : ℕ → Bits → Bool
  pub replies : Replies

use Rattle.std.proofs.Common.{◌≡◌, length}
use Rattle.grpc_calls.specs.Fields.{first_value}
use Rattle.grpc_calls.proofs.fields.first_value.Given as goal

abbrev pub invariant-loop-rest : goal.invariant-loop-rest
invariant-loop-rest l = first_value l.name l.rest ≡ first_value l.name l.initial.headers

abbrev pub decreases-loop-rest : goal.decreases-loop-rest
decreases-loop-rest l = length l.rest

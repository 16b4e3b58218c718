-- A side has no more endpoints than it may have.
use Rattle.std.proofs.Common.{◌≤◌, length}
use Rattle.esi_types.specs.declared.directory.TheConstants.{SIDE_ENDPOINTS}
use Rattle.design_cases.proofs.directories.endpoints.Given as goal

abbrev pub invariant-loop-name : goal.invariant-loop-name
invariant-loop-name l = length l.endpoints ≤ SIDE_ENDPOINTS

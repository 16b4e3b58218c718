use Rattle.std.proofs.Common.{◌≡◌, ◌++◌, map}
use Rattle.std.specs.Prelude.{take}
use Rattle.serde_json.specs.View.{view}
use Rattle.design_manifest.specs.Manifest.{endpoints_of}
use Rattle.design_manifest.proofs.value.add_endpoints.Given as goal

abbrev pub invariant-loop-endpoint : goal.invariant-loop-endpoint
invariant-loop-endpoint l = map view l.values.items ≡ map view l.initial.values.items ++ endpoints_of l.side (take l.endpoint-index l.endpoints)

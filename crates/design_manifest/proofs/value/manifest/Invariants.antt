use Rattle.std.proofs.Common.{◌≡◌, map}
use Rattle.std.specs.Prelude.{take}
use Rattle.serde_json.specs.View.{view}
use Rattle.design_manifest.specs.Manifest.{request_of}
use Rattle.design_manifest.proofs.value.manifest.Given as goal

abbrev pub invariant-loop-request : goal.invariant-loop-request
invariant-loop-request l = map view l.asked.items ≡ map request_of (take l.request-index l.requests)

use Rattle.std.proofs.Common.{◌≡◌, ◌++◌, string_bytes}
use Rattle.std.specs.Prelude.{drop}
use Rattle.design_manifest.specs.Manifest.{characters}
use Rattle.design_manifest.proofs.value.string.Given as goal

-- what is left follows what there is
abbrev pub invariant-loop-octet : goal.invariant-loop-octet
invariant-loop-octet l = string_bytes l.text ++ characters (drop l.octet-index l.octets) ≡ characters l.octets

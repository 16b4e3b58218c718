-- A manifest has no float and is three levels deep, so its compact text is known, and is read as the manifest again.
use Rattle.std.proofs.Common.{◌≡◌, ◌≤◌, ◌++◌, refl, append-nil, List, [], ◌∷◌, map, false, Some, ℕ, arith, sym, ap, subst, ◌∙◌}
use Rattle.serde_json.specs.Data.{Data, depth, items_depth}
use Rattle.serde_json.specs.Read.{read, max_depth}
use Rattle.serde_json.specs.View.{items_of}
use Rattle.serde_json.specs.Written.{has_float, items_have_float, compact_text}
use Rattle.esi_types.specs.declared.directory.Directory.{Directory}
use Rattle.esi_types.specs.declared.directory.Side.{Side}
use Rattle.esi_types.specs.declared.directory.Side.TheVariants.{ToServer, ToClient}
use Rattle.esi_types.specs.declared.endpoint.Endpoint.{Endpoint}
use Rattle.design_manifest.specs.declared.asked.Asked.{Asked}
use Rattle.design_manifest.specs.Manifest.{endpoints_of, request_of, manifest_of, IsManifestText}

-- rows that have no float, and nothing inside what stands in them
abbrev ArePlain : List Data → Type 0
ArePlain rows = (items_have_float (items_of rows) ≡ false) × (items_depth (items_of rows) ≤ 1)

endpoints_are_plain : (side : Side) (endpoints : List Endpoint) (rows : List Data) → ArePlain rows → ArePlain (endpoints_of side endpoints ++ rows)
endpoints_are_plain side [] rows plain = plain
endpoints_are_plain side (endpoint ∷ endpoints) rows plain =
    let others = endpoints_are_plain side endpoints rows plain in
    (others.0, omega (arith, others.1))

requests_are_plain : (requests : List Asked) → ArePlain (map request_of requests)
requests_are_plain [] = (refl, omega arith)
requests_are_plain (request ∷ requests) =
    let others = requests_are_plain requests in
    (others.0, omega (arith, others.1))

manifest_is_plain : (title : List ℕ) (directory : Directory) (requests : List Asked) → (has_float (manifest_of title directory requests) ≡ false) × (depth (manifest_of title directory requests) ≤ max_depth)
manifest_is_plain title directory requests =
    let none : ArePlain [] = (refl, omega arith) in
    let clients : ArePlain (endpoints_of ToClient directory.to_client) = subst ArePlain (append-nil _) (endpoints_are_plain ToClient directory.to_client [] none) in
    let endpoints = endpoints_are_plain ToServer directory.to_server _ clients in
    let asked = requests_are_plain requests in
    (grind (arith, endpoints.0, asked.0), omega (arith, endpoints.1, asked.1))

pub line_is_manifest : (title : List ℕ) (directory : Directory) (requests : List Asked) (value : Data) (json text : List ℕ)
    → value ≡ manifest_of title directory requests
    → (has_float value ≡ false → json ≡ compact_text value)
    → (depth value ≤ max_depth → read json ≡ Some value)
    → text ≡ json ++ 10 ∷ []
    → IsManifestText (manifest_of title directory requests) text
line_is_manifest title directory requests value json text is_manifest written read_again ended =
    let plain = manifest_is_plain title directory requests in
    let json_is = written (subst (λ d. has_float d ≡ false) (sym is_manifest) plain.0) in
    let again = read_again (subst (λ d. depth d ≤ max_depth) (sym is_manifest) plain.1) in
    record {
      line = ended ∙ ap (λ front. front ++ 10 ∷ []) (json_is ∙ ap compact_text is_manifest);
      reads_back = subst (λ d. read (compact_text d) ≡ Some d) is_manifest (subst (λ front. read front ≡ Some value) json_is again);
    }

-- The manifest of a design (docs/manifest.md), as a JSON value and as a text.
use Rattle.std.specs.Prelude.{◌≡◌, ℕ, List, [], ◌∷◌, ◌++◌, codes, map, encode_utf8, Some}
use Rattle.std.specs.List.{flat_map}
use Rattle.serde_json.specs.Data.{Data, unsigned, number, string, array, object, Members, no_members, member}
use Rattle.serde_json.specs.View.{items_of}
use Rattle.serde_json.specs.Read.{read}
use Rattle.serde_json.specs.Written.{compact_text}
use Rattle.channel_types.specs.Text.{text_of}
use Rattle.channel_types.specs.Types.{width_of}
use Rattle.esi_types.specs.declared.directory.Directory.{Directory}
use Rattle.esi_types.specs.declared.directory.Side.{Side}
use Rattle.esi_types.specs.declared.directory.Side.TheVariants.{ToServer, ToClient}
use Rattle.esi_types.specs.declared.endpoint.Endpoint.{Endpoint}
use Rattle.design_manifest.specs.declared.asked.Asked.{Asked}

-- The characters that have the numbers of these octets, in UTF-8 (RFC 3629). Octets below 128, of which all names of a design
-- are made, stand for themselves.
abbrev pub characters : List ℕ → List ℕ
characters octets = flat_map encode_utf8 octets

-- a member whose value is the characters of octets
abbrev pub says : List ℕ → List ℕ → Members → Members
says key octets members = member key (string (characters octets)) members

abbrev pub direction : Side → List ℕ
direction ToServer = codes "to_server"
direction ToClient = codes "to_client"

abbrev pub endpoint_of : Side → Endpoint → Data
endpoint_of side endpoint =
    object
    (member (codes "dir") (string (direction side))
    (says (codes "name") endpoint.name
    (says (codes "type") (text_of endpoint.ty)
    (member (codes "width") (number (unsigned (width_of endpoint.ty))) no_members))))

abbrev pub endpoints_of : Side → List Endpoint → List Data
endpoints_of side endpoints = map (endpoint_of side) endpoints

abbrev pub request_of : Asked → Data
request_of request =
    object (says (codes "bundle") request.bundle (says (codes "id") request.id (says (codes "service") request.service no_members)))

-- The manifest: to-server endpoints first, and the keys of each object in the order of their octets.
abbrev pub manifest_of : List ℕ → Directory → List Asked → Data
manifest_of title directory requests =
    object
    (says (codes "design") title
    (member (codes "endpoints") (array (items_of (endpoints_of ToServer directory.to_server ++ endpoints_of ToClient directory.to_client)))
    (member (codes "requests") (array (items_of (map request_of requests)))
    (member (codes "version") (number (unsigned 1)) no_members))))

-- The text of a manifest is its compact JSON and a line feed. Read as JSON, it is the manifest again.
pub record IsManifestText (manifest : Data) (text : List ℕ) : Type 0 where
  pub line : text ≡ compact_text manifest ++ 10 ∷ []
  pub reads_back : read (compact_text manifest) ≡ Some manifest

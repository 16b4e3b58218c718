-- The endpoints of a directory, found by their names.
use Rattle.std.specs.Prelude.{◌≡◌, ◌≢◌, ℕ, Option, List, All, IsSomeAnd, position, slice_get, take}
use Rattle.std.specs.Option.{option_map, option_or}
use Rattle.std.specs.Str.{bytes_eq}
use Rattle.esi_types.specs.declared.directory.Directory.{Directory}
use Rattle.esi_types.specs.declared.directory.Side.{Side}
use Rattle.esi_types.specs.declared.directory.Side.TheVariants.{ToServer, ToClient}
use Rattle.esi_types.specs.declared.endpoint.Endpoint.{Endpoint}

-- the index, from 0, of the first of these endpoints that has the name
abbrev pub index_of : List ℕ → List Endpoint → Option ℕ
index_of name endpoints = position (λ e. bytes_eq e.name name) endpoints

-- the side and the index of the first endpoint of the name, where to-server endpoints come first
abbrev pub find_of : Directory → List ℕ → Option (Side × ℕ)
find_of directory name =
    option_or
    (option_map (λ index. (ToServer, index)) (index_of name directory.to_server))
    (option_map (λ index. (ToClient, index)) (index_of name directory.to_client))

-- the endpoints of a side
abbrev pub endpoints_of : Directory → Side → List Endpoint
endpoints_of directory ToServer = directory.to_server
endpoints_of directory ToClient = directory.to_client

-- none of these endpoints has the name
abbrev pub NoneNamed : List ℕ → List Endpoint → Type 0
NoneNamed name endpoints = All (λ e. e.name ≢ name) endpoints

-- no endpoint of either side has the name
pub record IsUnknown (directory : Directory) (name : List ℕ) : Type 0 where
  pub to_server : NoneNamed name directory.to_server
  pub to_client : NoneNamed name directory.to_client

-- The endpoint at this index of this side has the name, and no endpoint before it has: neither one of its own side, nor
-- a to-server endpoint where it is a to-client one.
pub record IsFirstNamed (directory : Directory) (name : List ℕ) (side : Side) (index : ℕ) : Type 0 where
  pub named : IsSomeAnd (slice_get (endpoints_of directory side) index) (λ e. e.name ≡ name)
  pub before : NoneNamed name (take index (endpoints_of directory side))
  pub other_side : side ≡ ToClient → NoneNamed name directory.to_server

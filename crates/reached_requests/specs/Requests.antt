-- The requests that are reached from the top of a design (docs/design-text.md, "Names").
use Rattle.std.specs.Prelude.{ℕ, Bool, Option, Some, None, List, [], ◌∷◌, ◌++◌, map, flat_map, find}
use Rattle.std.specs.Fmt.{decimal}
use Rattle.design_tree.specs.declared.leaves.Name.{Name}
use Rattle.design_tree.specs.declared.leaves.ApplicationId.{ApplicationId}
use Rattle.design_tree.specs.declared.statements.Statement.{Statement}
use Rattle.design_tree.specs.declared.statements.Statement.TheVariants as S
use Rattle.design_tree.specs.declared.declarations.Module.{Module}
use Rattle.design_tree.specs.declared.declarations.Declaration.{Declaration}
use Rattle.design_tree.specs.declared.top.Top.{Top}
use Rattle.check_rules.specs.Scopes.{modules_of, statement_in, is_name}

-- A request that is reached from the top of a design, or from a module's body.
pub record Reached : Type 0 where
  -- the application ids down to it, with a dot between each two
  pub id : List ℕ
  pub service : Name
  pub port : Name
  -- where its statement stands
  pub at : ℕ

abbrev pub index_text : Option ℕ → List ℕ
index_text None = []
index_text (Some index) = 91 ∷ (decimal index ++ 93 ∷ [])

-- the text of an application id: `add`, `add[3]`
abbrev pub id_text : ApplicationId → List ℕ
id_text id = id.name.octets ++ index_text id.index

-- a request whose id stands behind a prefix
abbrev pub inside : List ℕ → Reached → Reached
inside prefix r = record { id = prefix ++ r.id; service = r.service; port = r.port; at = r.at }

-- a module, and the requests that its body reaches
pub record Known : Type 0 where
  pub source : Module
  pub requests : List Reached

abbrev pub requests_found : Option Known → List Reached
requests_found None = []
requests_found (Some known) = known.requests

abbrev pub is_called : Name → Known → Bool
is_called name known = is_name name known.source.name

-- what the first module of a name reaches
abbrev pub requests_in : Name → List Known → List Reached
requests_in name known = requests_found (find (is_called name) known)

-- What a statement reaches: a request is one, and an instance reaches what its module does, which has to stand before it.
abbrev pub requests_by : List Known → Statement → List Reached
requests_by before (S.Request at service port id) = record { id = id_text id; service = service; port = port; at = at } ∷ []
requests_by before (S.Instance at id source bindings) = map (inside (id_text id ++ 46 ∷ [])) (requests_in source before)
requests_by before (S.Channels at names operation) = []
requests_by before (S.Drive at sink source) = []

abbrev pub body_requests : List Known → List Statement → List Reached
body_requests before statements = flat_map (requests_by before) statements

-- the modules, each with what it reaches over those before it
unfoldable pub known_from : List Known → List Module → List Known
known_from before [] = before
known_from before (m ∷ more) = known_from (before ++ record { source = m; requests = body_requests before m.body } ∷ []) more

abbrev pub known_of : List Module → List Known
known_of = known_from []

-- The requests that are reached from the top, in the order of its text, those of an instance in its place.
abbrev pub requests_of : List Declaration → Top → List Reached
requests_of declarations top = body_requests (known_of (modules_of declarations)) (flat_map statement_in top.body)

-- What the tables of a design and of a body are.
use Rattle.std.specs.Prelude.{◌≡◌, ℕ, Option, Some, None, List, [], ◌∷◌, ◌++◌, map, flat_map, take, slice_get}
use Rattle.design_tree.specs.declared.leaves.Name.{Name}
use Rattle.design_tree.specs.declared.statements.Statement.{Statement}
use Rattle.design_tree.specs.declared.statements.Statement.TheVariants as S
use Rattle.design_tree.specs.declared.declarations.ModulePort.{ModulePort}
use Rattle.design_tree.specs.declared.declarations.Declaration.{Declaration}
use Rattle.design_tree.specs.declared.declarations.Bundle.{Bundle}
use Rattle.design_tree.specs.declared.top.Top.{Top}
use Rattle.name_tables.specs.Labels.{Label}
use Rattle.name_tables.specs.Lists.{index_in}
use Rattle.check_rules.specs.declared.referent.Resolution.{Resolution}
use Rattle.check_rules.specs.declared.referent.Resolution.TheVariants.{To, Undeclared}
use Rattle.check_rules.specs.declared.referent.Referent.TheVariants as K
use Rattle.check_rules.specs.Scopes.{Scope, bundles_of, services_of, modules_of, and_then, find_service, find_service_port, find_bundle}
use Rattle.check_rules.specs.References.{named, id_named, channels_of, port_referent}
use Rattle.design_scopes.specs.declared.body.Body.{Body}
use Rattle.design_scopes.specs.declared.body_names.BodyNames.{BodyNames}
use Rattle.design_scopes.specs.declared.declared.Declared.{Declared}
use Rattle.design_scopes.specs.Bodies.{referred, AreBodies}
use Rattle.design_scopes.specs.Tables.{port_label, name_label}

-- The tables are those of these declarations.
pub record AreDeclared (declarations : List Declaration) (d : Declared) : Type 0 where
  pub bundles_are : d.bundles ≡ bundles_of declarations
  pub services_are : d.services ≡ services_of declarations
  pub modules_are : d.modules ≡ modules_of declarations

-- What the walks have is of this design.
pub record AreTables (declarations : List Declaration) (top : Top) (d : Declared) (bodies : List Body) : Type 0 where
  pub declared_are : AreDeclared declarations d
  pub bodies_are : AreBodies declarations top bodies

-- a body, with what is declared in tables
abbrev pub scope_in : Declared → Body → Scope
scope_in d b = record {
  bundles = d.bundles;
  services = d.services;
  modules = take b.before d.modules;
  ports = b.ports.now;
  statements = referred b.statements;
  implements = referred b.implements;
}

-- ---- the names of a body's own

-- the application id of a request or an instance, and the statement itself
abbrev pub id_labels : Statement → List Label
id_labels (S.Request at service port id) = (id_named id).label ∷ []
id_labels (S.Instance at id body bindings) = (id_named id).label ∷ []
id_labels (S.Channels at names operation) = []
id_labels (S.Drive at sink source) = []

abbrev pub id_owners : Statement → List Statement
id_owners (S.Request at service port id) = S.Request at service port id ∷ []
id_owners (S.Instance at id body bindings) = S.Instance at id body bindings ∷ []
id_owners (S.Channels at names operation) = []
id_owners (S.Drive at sink source) = []

-- The tables are those of the body.
pub record IsNamesOf (b : Body) (n : BodyNames) : Type 0 where
  pub own_is : n.own ≡ map port_label b.ports.now ++ flat_map (λ s. map name_label (channels_of s.now)) b.statements
  pub ids_are : n.ids ≡ flat_map (λ s. id_labels s.now) b.statements
  pub owners_are : referred n.owners ≡ flat_map (λ s. id_owners s.now) b.statements

-- a port, or else a channel
abbrev pub port_or_channel : Option ModulePort → Resolution
port_or_channel None = To K.Channel
port_or_channel (Some p) = To (port_referent p)

-- a name of a port or a channel, by the index at which it was found
abbrev pub own_at_index : List ModulePort → Name → Option ℕ → Resolution
own_at_index ports name None = Undeclared name.at
own_at_index ports name (Some i) = port_or_channel (slice_get ports i)

-- the names of a body's own, as its table has them
abbrev pub own_labels : Body → List Label
own_labels b = map port_label b.ports.now ++ flat_map (λ s. map name_label (channels_of s.now)) b.statements

abbrev pub own_of : Body → Name → Resolution
own_of b name = own_at_index b.ports.now name (index_in (named name).label (own_labels b))

-- the bundle that a request gives
abbrev pub requested : Declared → Name → Name → Option Bundle
requested d service port = and_then (find_service service d.services) (λ s. and_then (find_service_port port s.ports) (λ p. find_bundle p.bundle d.bundles))

-- Declarations are found by the index of their name.
use Rattle.std.proofs.Common.{◌≡◌, ℕ, List, map, take, ap, ◌∙◌}
use Rattle.std.specs.Prelude.{Option, slice_get}
use Rattle.design_tree.specs.declared.leaves.Name.{Name}
use Rattle.design_tree.specs.declared.declarations.Member.{Member}
use Rattle.design_tree.specs.declared.declarations.Bundle.{Bundle}
use Rattle.design_tree.specs.declared.declarations.ServicePort.{ServicePort}
use Rattle.design_tree.specs.declared.declarations.Service.{Service}
use Rattle.design_tree.specs.declared.declarations.ModulePort.{ModulePort}
use Rattle.design_tree.specs.declared.declarations.Module.{Module}
use Rattle.name_tables.specs.Labels.{Label}
use Rattle.name_tables.specs.Lists.{index_in}
use Rattle.check_rules.specs.Scopes.{and_then, find_bundle, find_member, find_service, find_service_port, find_port, find_module}
use Rattle.check_rules.specs.References.{named}
use Rattle.design_scopes.specs.Tables.{bundle_label, member_label, service_label, service_port_label, port_label, module_label, get_below}
use Rattle.design_scopes.proofs.Finding.{find_named, find_before}

pub member_found : (name : Name) (members : List Member) (labels : List Label) (o : Option ℕ) → labels ≡ map member_label members → o ≡ index_in (named name).label labels
    → and_then o (slice_get members) ≡ find_member name members
member_found name members labels o e h = ap (λ i. and_then i (slice_get members)) (h ∙ ap (index_in (named name).label) e) ∙ find_named name (λ m. m.name) members

pub bundle_found : (name : Name) (bundles : List Bundle) (labels : List Label) (o : Option ℕ) → labels ≡ map bundle_label bundles → o ≡ index_in (named name).label labels
    → and_then o (slice_get bundles) ≡ find_bundle name bundles
bundle_found name bundles labels o e h = ap (λ i. and_then i (slice_get bundles)) (h ∙ ap (index_in (named name).label) e) ∙ find_named name (λ b. b.name) bundles

pub service_port_found : (name : Name) (ports : List ServicePort) (labels : List Label) (o : Option ℕ) → labels ≡ map service_port_label ports → o ≡ index_in (named name).label labels
    → and_then o (slice_get ports) ≡ find_service_port name ports
service_port_found name ports labels o e h = ap (λ i. and_then i (slice_get ports)) (h ∙ ap (index_in (named name).label) e) ∙ find_named name (λ p. p.name) ports

pub service_found : (name : Name) (services : List Service) (labels : List Label) (o : Option ℕ) → labels ≡ map service_label services → o ≡ index_in (named name).label labels
    → and_then o (slice_get services) ≡ find_service name services
service_found name services labels o e h = ap (λ i. and_then i (slice_get services)) (h ∙ ap (index_in (named name).label) e) ∙ find_named name (λ s. s.name) services

pub port_found : (name : Name) (ports : List ModulePort) (labels : List Label) (o : Option ℕ) → labels ≡ map port_label ports → o ≡ index_in (named name).label labels
    → and_then o (slice_get ports) ≡ find_port name ports
port_found name ports labels o e h = ap (λ i. and_then i (slice_get ports)) (h ∙ ap (index_in (named name).label) e) ∙ find_named name (λ p. p.name) ports

pub module_found : (name : Name) (n : ℕ) (modules : List Module) (labels : List Label) (o : Option ℕ) → labels ≡ map module_label modules → o ≡ index_in (named name).label labels
    → and_then o (get_below n modules) ≡ find_module name (take n modules)
module_found name n modules labels o e h = ap (λ i. and_then i (get_below n modules)) (h ∙ ap (index_in (named name).label) e) ∙ find_before name (λ m. m.name) n modules

-- The bodies of a design, as the walks have them.
use Rattle.std.specs.Prelude.{◌≡◌, ℕ, ◌+◌, List, [], ◌∷◌, map, take}
use Rattle.std.specs.Borrow.{Bor}
use Rattle.design_tree.specs.declared.leaves.Name.{Name}
use Rattle.design_tree.specs.declared.statements.Statement.{Statement}
use Rattle.design_tree.specs.declared.declarations.Declaration.{Declaration}
use Rattle.design_tree.specs.declared.top.Top.{Top}
use Rattle.design_tree.specs.declared.declarations.ModulePort.{ModulePort}
use Rattle.design_tree.specs.declared.declarations.Module.{Module}
use Rattle.check_rules.specs.Scopes.{Scope, bundles_of, services_of, modules_of, scopes}
use Rattle.design_scopes.specs.declared.body.Body.{Body}

-- what some references refer to
abbrev pub referred : {A : Type 0} → List (Bor A) → List A
referred = map (λ r. r.now)

abbrev pub statements_in : Body → List Statement
statements_in b = referred b.statements

-- a body, with what can be named in it
abbrev pub scope_of : List Declaration → Body → Scope
scope_of declarations b = record {
  bundles = bundles_of declarations;
  services = services_of declarations;
  modules = take b.before (modules_of declarations);
  ports = b.ports.now;
  statements = referred b.statements;
  implements = referred b.implements;
}

-- The body has these ports, statements and implemented services.
pub record IsBody (before : ℕ) (ports : List ModulePort) (statements : List Statement) (implements : List Name) (b : Body) : Type 0 where
  pub before_is : b.before ≡ before
  pub ports_are : b.ports.now ≡ ports
  pub statements_are : referred b.statements ≡ statements
  pub implements_are : referred b.implements ≡ implements

-- The bodies are those of the design.
abbrev pub AreBodies : List Declaration → Top → List Body → Type 0
AreBodies declarations top bodies = map (scope_of declarations) bodies ≡ scopes declarations top

-- a design, as the walks see it
pub record DesignText : Type 0 where
  pub declarations : List Declaration
  pub top : Top

abbrev pub bodies_in : DesignText → List Scope
bodies_in d = scopes d.declarations d.top

-- The bodies are those of the modules, before the first of which so many others stand.
abbrev pub AreModuleBodies : ℕ → List Module → List Body → Type 0
AreModuleBodies before [] [] = Unit {0}
AreModuleBodies before [] (b ∷ bs) = ⊥
AreModuleBodies before (m ∷ ms) [] = ⊥
AreModuleBodies before (m ∷ ms) (b ∷ bs) = IsBody before m.ports m.body [] b × AreModuleBodies (before + 1) ms bs

abbrev pub text_of : List Declaration → Top → DesignText
text_of declarations top = record { declarations = declarations; top = top }

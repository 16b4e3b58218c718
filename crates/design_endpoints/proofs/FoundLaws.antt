-- What is found in a list has what all of the list have.
use Rattle.std.specs.Prelude.{◌≡◌, Bool, true, false, Option, Some, None, List, [], ◌∷◌, All, find, if◌then◌else◌}
use Rattle.std.proofs.Common.{subst}
use Rattle.std.proofs.lemmas.List.Elements.{All-head, All-tail}
use Rattle.design_tree.specs.declared.leaves.Name.{Name}
use Rattle.design_tree.specs.declared.declarations.Bundle.{Bundle}
use Rattle.design_tree.specs.declared.declarations.Service.{Service}
use Rattle.check_rules.specs.Scopes.{and_then, find_bundle, find_service, find_service_port}
use Rattle.design_endpoints.specs.Endpoints.{has_good_types}

some_is : {A : Type 0} (x y : A) → Some x ≡ Some y → x ≡ y
some_is x y e = cc

found_has : {X : Type 0} (P : X → Type 0) (test : X → Bool) (xs : List X) (x : X) → find test xs ≡ Some x → All P xs → P x
found_has P test [] x e all = absurd (cc)
found_has P test (y ∷ ys) x e all = by_test (test y) e (All-head P y ys all) (λ later. found_has P test ys x later (All-tail P y ys all))
  where
    by_test : (b : Bool) → (if b then Some y else find test ys) ≡ Some x → P y → (find test ys ≡ Some x → P x) → P x
    by_test true is first later = subst P (some_is y x is) first
    by_test false is first later = later is

through : {A B : Type 0} {G : Type 0} (o : Option A) (f : A → Option B) (b : B) → and_then o f ≡ Some b → ((a : A) → f a ≡ Some b → G) → G
through None f b e more = absurd (cc)
through (Some a) f b e more = more a e

-- the bundle that a request asks for has good types, where all have
pub asked_good : (bundles : List Bundle) (services : List Service) (service port : Name) (bundle : Bundle)
    → and_then (find_service service services) (λ s. and_then (find_service_port port s.ports) (λ p. find_bundle p.bundle bundles)) ≡ Some bundle → All has_good_types bundles → has_good_types bundle
asked_good bundles services service port bundle e all =
    through (find_service service services) (λ s. and_then (find_service_port port s.ports) (λ p. find_bundle p.bundle bundles)) bundle e
    (λ s es. through (find_service_port port s.ports) (λ p. find_bundle p.bundle bundles) bundle es
    (λ p ep. found_has has_good_types _ bundles bundle ep all))

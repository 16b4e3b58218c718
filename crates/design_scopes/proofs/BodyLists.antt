-- The bodies of modules and of the top are those of the design.
use Rattle.std.proofs.Common.{◌≡◌, ℕ, ◌+◌, ◌<◌, ◌≤◌, List, [], ◌∷◌, ◌++◌, map, length, get_or, take, refl, ap, sym, ◌∙◌, subst, append_assoc, arith}
use Rattle.std.specs.List.{flat_map, take-map}
use Rattle.std.proofs.Math.Seq.{take-append_seam}
use Rattle.std.specs.Borrow.{Bor}
use Rattle.std.proofs.lemmas.List.{map-append, map_more, length_push, length-map, length-take-le, take_all}
use Rattle.design_tree.specs.declared.declarations.Module.{Module}
use Rattle.design_tree.specs.declared.declarations.Declaration.{Declaration}
use Rattle.design_tree.specs.declared.top.Top.{Top}
use Rattle.check_rules.specs.Scopes.{bundles_of, services_of, modules_of, module_scope, module_scopes, top_scope, statement_in, implement_in}
use Rattle.design_scopes.specs.declared.body.Body.{Body}
use Rattle.design_scopes.specs.Bodies.{referred, scope_of, IsBody, AreBodies, AreModuleBodies}

-- one body more
pub bodies_more : (before n : ℕ) (ms : List Module) (bs : List Body) (m : Module) (b : Body) → n ≡ before + length ms → AreModuleBodies before ms bs → IsBody n m.ports m.body [] b
    → AreModuleBodies before (ms ++ m ∷ []) (bs ++ b ∷ [])
bodies_more before n [] [] m b e are is = (subst (λ k. IsBody k m.ports m.body [] b) (let same : n ≡ before = omega arith in same) is, tt)
bodies_more before n [] (x ∷ bs) m b e are is = absurd are
bodies_more before n (y ∷ ms) [] m b e are is = absurd are
bodies_more before n (y ∷ ms) (x ∷ bs) m b e are is = (are.0, bodies_more (before + 1) n ms bs m b (omega arith) are.1 is)

module_scope_is : (declarations : List Declaration) (front ms : List Module) (m : Module) (b : Body) → modules_of declarations ≡ front ++ ms → IsBody (length front) m.ports m.body [] b
    → scope_of declarations b ≡ module_scope (bundles_of declarations) (services_of declarations) front m
module_scope_is declarations front ms m b e is =
    let before : take b.before (modules_of declarations) ≡ front = (λ i. take (is.before_is i) (e i)) ∙ take-append_seam front ms in
    λ i. record { bundles = bundles_of declarations; services = services_of declarations; modules = before i; ports = is.ports_are i; statements = is.statements_are i; implements = is.implements_are i }

module_scopes_are : (declarations : List Declaration) (front ms : List Module) (bs : List Body) → modules_of declarations ≡ front ++ ms → AreModuleBodies (length front) ms bs
    → map (scope_of declarations) bs ≡ module_scopes (bundles_of declarations) (services_of declarations) front ms
module_scopes_are declarations front [] [] e are = refl
module_scopes_are declarations front [] (b ∷ bs) e are = absurd are
module_scopes_are declarations front (m ∷ ms) [] e are = absurd are
module_scopes_are declarations front (m ∷ ms) (b ∷ bs) e are =
    let later = module_scopes_are declarations (front ++ m ∷ []) ms bs (e ∙ sym (append_assoc front (m ∷ []) ms)) (subst (λ n. AreModuleBodies n ms bs) (sym (length_push front m)) are.1) in
    λ i. module_scope_is declarations front (m ∷ ms) m b e are.0 i ∷ later i

top_scope_is : (declarations : List Declaration) (top : Top) (n : ℕ) (b : Body) → n ≡ length (modules_of declarations) → IsBody n [] (flat_map statement_in top.body) (flat_map implement_in top.body) b
    → scope_of declarations b ≡ top_scope declarations top
top_scope_is declarations top n b e is =
    let past : length (modules_of declarations) ≤ b.before = omega (arith, is.before_is) in
    let all : take b.before (modules_of declarations) ≡ modules_of declarations = take_all b.before (modules_of declarations) past in
    λ i. record { bundles = bundles_of declarations; services = services_of declarations; modules = all i; ports = is.ports_are i; statements = is.statements_are i; implements = is.implements_are i }

-- the bodies of all modules, and the top's after them
pub bodies_are : (declarations : List Declaration) (top : Top) (ms : List Module) (bs : List Body) (n : ℕ) (b : Body) → ms ≡ modules_of declarations → n ≡ length ms → AreModuleBodies 0 ms bs
    → IsBody n [] (flat_map statement_in top.body) (flat_map implement_in top.body) b → AreBodies declarations top (bs ++ b ∷ [])
bodies_are declarations top ms bs n b e many are is =
    map-append (scope_of declarations) bs (b ∷ [])
    ∙ (λ i. module_scopes_are declarations [] (modules_of declarations) bs refl (subst (λ l. AreModuleBodies 0 l bs) e are) i
    ++ top_scope_is declarations top n b (many ∙ ap length e) is i ∷ [])

-- one module more, of a walk
pub bodies_next : (modules : List (Bor Module)) (i : ℕ) (m : Bor Module) (bs : List Body) (b : Body) (more : List Body) → i < length modules → m ≡ get_or modules i m
    → AreModuleBodies 0 (take i (referred modules)) bs → IsBody i m.now.ports m.now.body [] b → more ≡ bs ++ b ∷ [] → AreModuleBodies 0 (take (i + 1) (referred modules)) more
bodies_next modules i m bs b more within is are one e =
    let next : take (i + 1) (referred modules) ≡ take i (referred modules) ++ m.now ∷ [] =
    take-map (λ (r : Bor Module). r.now) (i + 1) modules ∙ map_more (λ (r : Bor Module). r.now) modules i m within
    ∙ ap (λ l. l ++ (get_or modules i m).now ∷ []) (sym (take-map (λ (r : Bor Module). r.now) i modules)) ∙ ap (λ r. take i (referred modules) ++ r.now ∷ []) (sym is) in
    let long : length (take i (referred modules)) ≡ i = length-take-le i (referred modules) (let same : length (referred modules) ≡ length modules = length-map modules (λ (r : Bor Module). r.now) in omega arith) in
    let many : i ≡ 0 + length (take i (referred modules)) = omega arith in
    subst (λ l. AreModuleBodies 0 (take (i + 1) (referred modules)) l) (sym e)
    (subst (λ l. AreModuleBodies 0 l (bs ++ b ∷ [])) (sym next) (bodies_more 0 i (take i (referred modules)) bs m.now b many are one))

pub many_referred : (modules : List (Bor Module)) → length modules ≡ length (referred modules)
many_referred modules = sym (length-map modules (λ (r : Bor Module). r.now))

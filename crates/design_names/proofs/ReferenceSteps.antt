-- Steps of the walks over references.
use Rattle.std.proofs.Common.{◌≡◌, ℕ, List, [], ◌∷◌, ◌++◌, map, refl, ap, sym, ◌∙◌}
use Rattle.std.specs.Prelude.{Option, Some, None}
use Rattle.std.specs.List.{flat_map}
use Rattle.std.specs.Option.{option_to_list}
use Rattle.std.proofs.lemmas.List.{append-nil}
use Rattle.design_tree.specs.declared.leaves.Name.{Name}
use Rattle.design_tree.specs.declared.leaves.ApplicationId.{ApplicationId}
use Rattle.design_tree.specs.declared.leaves.Reference.{Reference}
use Rattle.design_tree.specs.declared.statements.Binding.{Binding}
use Rattle.design_tree.specs.declared.statements.Operation.{Operation}
use Rattle.design_tree.specs.declared.statements.Statement.{Statement}
use Rattle.design_tree.specs.declared.statements.Statement.TheVariants as S
use Rattle.design_tree.specs.declared.declarations.Module.{Module}
use Rattle.name_tables.specs.FirstPlaces.{least_from}
use Rattle.name_tables.specs.PlaceLaws.{least_from-append}
use Rattle.check_rules.specs.Scopes.{Scope, find_module}
use Rattle.check_rules.specs.References.{operation_sources, reference_place, resolve}
use Rattle.check_rules.specs.Directions.{is_sink, unless, ports_of, statement_directions}
use Rattle.check_rules.specs.Undeclared.{references_undeclared, statement_undeclared}
use Rattle.design_names.specs.ReferencePlaces.{wrong_source, binding_wrong, binding_out, reference_undeclared, binding_undeclared, implement_undeclared, body_undeclared}
use Rattle.design_scopes.specs.declared.body.Body.{Body}
use Rattle.design_scopes.specs.declared.declared.Declared.{Declared}
use Rattle.design_scopes.specs.Resolving.{scope_in}
use Rattle.std.specs.Borrow.{Bor}
use Rattle.design_scopes.specs.Flat.{flat_map_of_map}

-- ---- the sources of an operation

pub one_source : {A : Type 0} (F : A → List ℕ) (first : Option ℕ) (xs : List A) (a : A) → xs ≡ a ∷ option_to_list None → least_from first (F a) ≡ least_from first (flat_map F xs)
one_source F first xs a e = ap (least_from first) (sym (append-nil (F a)) ∙ ap (flat_map F) (sym e))

pub two_sources : {A : Type 0} (F : A → List ℕ) (first : Option ℕ) (xs : List A) (a b : A) → xs ≡ a ∷ option_to_list (Some b)
    → least_from (least_from first (F a)) (F b) ≡ least_from first (flat_map F xs)
two_sources F first xs a b e = sym (least_from-append first (F a) (F b)) ∙ ap (λ l. least_from first (F a ++ l)) (sym (append-nil (F b))) ∙ ap (λ l. least_from first (flat_map F l)) (sym e)

-- ---- directions of a statement

no_outs : (bindings : List Binding) → flat_map (binding_out []) bindings ≡ []
no_outs [] = refl
no_outs (b ∷ bs) = no_outs bs

pub no_module_outs : (first : Option ℕ) (bindings : List Binding) → first ≡ least_from first (flat_map (binding_out []) bindings)
no_module_outs first bindings = ap (least_from first) (sym (no_outs bindings))

pub instance_directions : (scope : Scope) (first : Option ℕ) (at : ℕ) (id : ApplicationId) (body : Name) (bindings : List Binding)
    → least_from (least_from first (flat_map (binding_wrong scope) bindings)) (flat_map (binding_out (ports_of (find_module body scope.modules))) bindings)
    ≡ least_from first (statement_directions scope (S.Instance at id body bindings))
instance_directions scope first at id body bindings =
    sym (least_from-append first (flat_map (binding_wrong scope) bindings) (flat_map (binding_out (ports_of (find_module body scope.modules))) bindings))
    ∙ ap (λ l. least_from first (l ++ flat_map (binding_out (ports_of (find_module body scope.modules))) bindings)) (sym (flat_map_of_map (wrong_source scope) (λ (b : Binding). b.source) bindings) ∙ sym (append-nil (flat_map (wrong_source scope) (map (λ (b : Binding). b.source) bindings))))

pub channels_directions : (scope : Scope) (first : Option ℕ) (at : ℕ) (names : List Name) (operation : Operation)
    → least_from first (flat_map (wrong_source scope) (operation_sources operation)) ≡ least_from first (statement_directions scope (S.Channels at names operation))
channels_directions scope first at names operation =
    let a = flat_map (wrong_source scope) (operation_sources operation) in
    ap (least_from first) (sym (append-nil a) ∙ sym (append-nil (a ++ [])))

pub drive_directions : (scope : Scope) (first : Option ℕ) (at : ℕ) (sink source : Reference)
    → least_from (least_from first (wrong_source scope source)) (unless is_sink (reference_place sink) (resolve scope sink)) ≡ least_from first (statement_directions scope (S.Drive at sink source))
drive_directions scope first at sink source =
    let a = wrong_source scope source in
    let b = unless is_sink (reference_place sink) (resolve scope sink) in
    sym (least_from-append first a b) ∙ ap (λ l. least_from first (l ++ b)) (sym (append-nil a)) ∙ ap (least_from first) (sym (append-nil ((a ++ []) ++ b)))

-- the same, with what the walk has
pub instance_step : (scope : Scope) (first place last : Option ℕ) (at : ℕ) (id : ApplicationId) (body : Name) (bindings bs cs : List Binding) (found : Option Module) (statement : Statement)
    → statement ≡ S.Instance at id body bindings → bs ≡ bindings → cs ≡ bindings → place ≡ least_from first (flat_map (binding_wrong scope) bs) → found ≡ find_module body scope.modules
    → last ≡ least_from place (flat_map (binding_out (ports_of found)) cs) → last ≡ least_from first (statement_directions scope statement)
instance_step scope first place last at id body bindings bs cs found statement is same same_too before m after =
    after ∙ (λ i. least_from ((before ∙ ap (λ l. least_from first (flat_map (binding_wrong scope) l)) same) i) (flat_map (binding_out (ports_of (m i))) (same_too i)))
    ∙ instance_directions scope first at id body bindings ∙ ap (λ s. least_from first (statement_directions scope s)) (sym is)

-- ---- references of a statement

pub instance_references : (scope : Scope) (first : Option ℕ) (at : ℕ) (id : ApplicationId) (body : Name) (bindings : List Binding)
    → least_from first (flat_map (binding_undeclared scope) bindings) ≡ least_from first (references_undeclared scope (S.Instance at id body bindings))
instance_references scope first at id body bindings = ap (least_from first) (sym (flat_map_of_map (reference_undeclared scope) (λ (b : Binding). b.source) bindings))

pub drive_references : (scope : Scope) (first : Option ℕ) (at : ℕ) (sink source : Reference)
    → least_from (least_from first (reference_undeclared scope sink)) (reference_undeclared scope source) ≡ least_from first (references_undeclared scope (S.Drive at sink source))
drive_references scope first at sink source =
    sym (least_from-append first (reference_undeclared scope sink) (reference_undeclared scope source))
    ∙ ap (λ l. least_from first (reference_undeclared scope sink ++ l)) (sym (append-nil (reference_undeclared scope source)))

pub instance_references_step : (scope : Scope) (first place : Option ℕ) (at : ℕ) (id : ApplicationId) (body : Name) (bindings bs : List Binding) (statement : Statement)
    → statement ≡ S.Instance at id body bindings → bs ≡ bindings → place ≡ least_from first (flat_map (binding_undeclared scope) bs) → place ≡ least_from first (references_undeclared scope statement)
instance_references_step scope first place at id body bindings bs statement is same walked =
    walked ∙ ap (λ l. least_from first (flat_map (binding_undeclared scope) l)) same ∙ instance_references scope first at id body bindings ∙ ap (λ s. least_from first (references_undeclared scope s)) (sym is)

-- ---- a body

pub body_step : (d : Declared) (b : Body) (first place last : Option ℕ) (sts : List (Bor Statement)) (implements : List (Bor Name)) → sts ≡ b.statements → implements ≡ b.implements
    → place ≡ least_from first (flat_map (λ s. statement_undeclared (scope_in d b) s.now) sts) → last ≡ least_from place (flat_map (λ n. implement_undeclared d.services n.now) implements)
    → last ≡ least_from first (body_undeclared d b)
body_step d b first place last sts implements same same_too one two =
    two ∙ (λ i. least_from ((one ∙ ap (λ l. least_from first (flat_map (λ s. statement_undeclared (scope_in d b) s.now) l)) same) i) (flat_map (λ n. implement_undeclared d.services n.now) (same_too i)))
    ∙ sym (least_from-append first (flat_map (λ s. statement_undeclared (scope_in d b) s.now) b.statements) (flat_map (λ n. implement_undeclared d.services n.now) b.implements))

-- The bodies of a design in its tables, and what is planned of them.
use Rattle.std.proofs.Common.{◌≡◌, ℕ, List, [], ◌∷◌, map, take, refl, ap, sym, ◌∙◌, subst}
use Rattle.std.specs.Prelude.{Result, Ok, Err}
use Rattle.esi_base.specs.Answers.{Reads}
use Rattle.esi_base.specs.declared.stop.Stop.{Stop}
use Rattle.name_tables.specs.Labels.{Label}
use Rattle.design_tree.specs.declared.declarations.Declaration.{Declaration}
use Rattle.design_tree.specs.declared.top.Top.{Top}
use Rattle.check_rules.specs.Scopes.{Scope, scopes, modules_of}
use Rattle.channel_typing.specs.Misfits.{misfits}
use Rattle.channel_typing.specs.Walk.{first_or}
use Rattle.design_scopes.specs.declared.body.Body.{Body}
use Rattle.design_scopes.specs.declared.declared.Declared.{Declared}
use Rattle.design_scopes.specs.Bodies.{referred, scope_of, AreBodies}
use Rattle.design_scopes.specs.Resolving.{scope_in, AreDeclared}
use Rattle.design_scopes.specs.Tables.{module_label}
use Rattle.body_plans.specs.declared.ordered.OrderedElement.{OrderedElement}
use Rattle.design_plans.specs.declared.design_plans.DesignPlans.{DesignPlans}
use Rattle.design_plans.specs.DesignLaws.{planned}
use Rattle.element_parts.specs.declared.design_parts.DesignParts.{DesignParts}
use Rattle.element_parts.specs.Listing.{parts_of}
use Rattle.tree_plans.specs.declared.planned_design.PlannedDesign.{PlannedDesign}
use Rattle.tree_plans.specs.Trees.{planned_with, planned_bodies}

-- the bodies of a design in its tables are those of the design
same_scopes : (declarations : List Declaration) (top : Top) (d : Declared) (bodies : List Body) → AreDeclared declarations d → AreBodies declarations top bodies
    → map (scope_in d) bodies ≡ scopes declarations top
same_scopes declarations top d bodies are bodies_are = sym (each bodies) ∙ bodies_are
  where
    same_scope : (b : Body) → scope_of declarations b ≡ scope_in d b
    same_scope b =
        let bs = sym are.bundles_are in let ss = sym are.services_are in let ms = sym are.modules_are in
        λ i. record {
          bundles = bs i;
          services = ss i;
          modules = take b.before (ms i);
          ports = b.ports.now;
          statements = referred b.statements;
          implements = referred b.implements;
        }

    each : (bs : List Body) → map (scope_of declarations) bs ≡ map (scope_in d) bs
    each [] = refl
    each (b ∷ bs) = λ i. same_scope b i ∷ each bs i

-- what is planned of the bodies in the tables is planned of the design
pub read_same : (declarations : List Declaration) (top : Top) (d : Declared) (bodies slice : List Body) (names : List Label) (result : Result PlannedDesign (Stop ℕ)) → AreDeclared declarations d → AreBodies declarations top bodies
    → slice ≡ bodies → names ≡ map module_label (modules_of declarations) → Reads (first_or (misfits (map (scope_in d) slice)) (planned_bodies names (map (scope_in d) slice))) result
    → Reads (first_or (misfits (scopes declarations top)) (planned_bodies (map module_label (modules_of declarations)) (scopes declarations top))) result
read_same declarations top d bodies slice names result are bodies_are is named reads =
    subst (λ (ss : List Scope). Reads (first_or (misfits ss) (planned_bodies (map module_label (modules_of declarations)) ss)) result) (ap (map (scope_in d)) is ∙ same_scopes declarations top d bodies are bodies_are)
    (subst (λ (ns : List Label). Reads (first_or (misfits (map (scope_in d) slice)) (planned_bodies ns (map (scope_in d) slice))) result) named reads)

-- what is made of the parts that were found, and a refusal
pub value_kept : (names : List Label) (bodies : List Scope) (places : List ℕ) (found : DesignParts) (ordered : List (List OrderedElement)) (plans : DesignPlans) → first_or places (parts_of bodies) ≡ Ok found → ordered ≡ found.ordered
    → plans ≡ planned names ordered bodies → first_or places (planned_bodies names bodies) ≡ Ok (record { plans = plans; parts = found.parts })
value_kept names bodies [] found ordered plans e is planned_is =
    let same : parts_of bodies ≡ found = cc in
    let own : planned names found.ordered bodies ≡ plans = ap (λ (o : List (List OrderedElement)). planned names o bodies) (sym is) ∙ sym planned_is in
    ap (λ (p : DesignParts). let r : Result PlannedDesign ℕ = Ok (planned_with names bodies p) in r) same
    ∙ ap (λ (p : DesignPlans). let r : Result PlannedDesign ℕ = Ok (record { plans = p; parts = found.parts }) in r) own
value_kept names bodies (at ∷ more) found ordered plans e is planned_is = absurd (cc)

pub stop_kept : (names : List Label) (bodies : List Scope) (places : List ℕ) (at : ℕ) → first_or places (parts_of bodies) ≡ Err at → first_or places (planned_bodies names bodies) ≡ Err at
stop_kept names bodies [] at e = absurd (cc)
stop_kept names bodies (place ∷ more) at e = let same : place ≡ at = cc in ap (λ (n : ℕ). let r : Result PlannedDesign ℕ = Err n in r) same

-- The lists of places are those at which the rules are broken.
use Rattle.std.proofs.Common.{◌≡◌, ℕ, List, ◌++◌, map, take, refl, ap, sym, ◌∙◌, subst}
use Rattle.std.specs.Prelude.{Option, Contains}
use Rattle.std.specs.List.{flat_map}
use Rattle.std.specs.Borrow.{Bor}
use Rattle.std.proofs.lemmas.Grind.{flat_map-append}
use Rattle.design_tree.specs.declared.leaves.Name.{Name}
use Rattle.design_tree.specs.declared.statements.Binding.{Binding}
use Rattle.design_tree.specs.declared.statements.Statement.{Statement}
use Rattle.design_tree.specs.declared.statements.Statement.TheVariants as S
use Rattle.design_tree.specs.declared.declarations.Declaration.{Declaration}
use Rattle.design_tree.specs.declared.top.Top.{Top}
use Rattle.name_tables.specs.Labels.{Occurrence}
use Rattle.name_tables.specs.FirstPlaces.{Reports, least}
use Rattle.name_tables.specs.PlaceLaws.{least_tells, least_reports}
use Rattle.name_tables.specs.Lists.{repeats}
use Rattle.name_tables.specs.ListLaws.{repeats_are, are_repeats}
use Rattle.check_rules.specs.Scopes.{Scope, scopes, bundles_of, services_of}
use Rattle.check_rules.specs.Undeclared.{service_undeclared, statement_undeclared, scope_undeclared, undeclared_places, BreaksUndeclared}
use Rattle.check_rules.specs.References.{named, channels_of, references_of, reference_named}
use Rattle.check_rules.specs.DeclaredTwice.{declaration_named, declaration_spaces, statement_spaces, scope_spaces, name_spaces, port_named, ids_of, IsRepeatInOne, BreaksDeclaredTwice}
use Rattle.check_rules.specs.Counts.{statement_counts, scope_counts, BreaksCounts}
use Rattle.check_rules.specs.Directions.{statement_directions, scope_directions, BreaksDirections}
use Rattle.check_rules.specs.Uses.{bound_in, scope_uses, BreaksUsedTwice}
use Rattle.design_scopes.specs.declared.body.Body.{Body}
use Rattle.design_scopes.specs.declared.declared.Declared.{Declared}
use Rattle.design_scopes.specs.Resolving.{scope_in, AreDeclared}
use Rattle.design_names.specs.ReferencePlaces.{body_wrong, implement_undeclared, body_undeclared}
use Rattle.design_scopes.specs.Bodies.{referred, scope_of, AreBodies}
use Rattle.statement_checks.specs.Counted.{body_counts}
use Rattle.design_names.specs.Places.{repeats_in, declaration_repeats, statement_repeats, own_named, body_ids, body_repeats, statement_used, body_used, statement_bound, body_uses}
use Rattle.design_scopes.specs.Flat.{flat_map_flat, map_flat, flat_map_of_map, map_of_map, flat_map_same, contains_flat, flat_contains}

now_of : Bor Statement → Statement
now_of s = s.now

-- what follows of the bodies, of the design's
of_bodies : (F : Scope → List ℕ) (G : Body → List ℕ) (declarations : List Declaration) (top : Top) (bodies : List Body) → AreBodies declarations top bodies
    → ((b : Body) → F (scope_of declarations b) ≡ G b) → flat_map F (scopes declarations top) ≡ flat_map G bodies
of_bodies F G declarations top bodies are same =
    ap (flat_map F) (sym are) ∙ flat_map_of_map F (scope_of declarations) bodies ∙ flat_map_same (λ b. F (scope_of declarations b)) G bodies same

-- ---- counts

counts_are : (declarations : List Declaration) (b : Body) → scope_counts (scope_of declarations b) ≡ body_counts b
counts_are declarations b = flat_map_of_map statement_counts (λ (s : Bor Statement). s.now) b.statements

pub reports_counts : (declarations : List Declaration) (top : Top) (bodies : List Body) (first : Option ℕ) → AreBodies declarations top bodies → first ≡ least (flat_map body_counts bodies)
    → Reports (BreaksCounts (scopes declarations top)) first
reports_counts declarations top bodies first are e =
    let places : flat_map scope_counts (scopes declarations top) ≡ flat_map body_counts bodies = of_bodies scope_counts body_counts declarations top bodies are (counts_are declarations) in
    subst (Reports (BreaksCounts (scopes declarations top))) (ap least places ∙ sym e) (least_reports (flat_map scope_counts (scopes declarations top)))

-- ---- repeats in one of some lists

one_of : (lists : List (List Occurrence)) (at : ℕ) → Contains (repeats_in lists) at → IsRepeatInOne lists at
one_of lists at c = let o = contains_flat repeats lists at c in record { names = o.item; one = o.there; twice = repeats_are o.item at o.one }

of_one : (lists : List (List Occurrence)) (at : ℕ) → IsRepeatInOne lists at → Contains (repeats_in lists) at
of_one lists at h = flat_contains repeats lists h.names at h.one (are_repeats h.names at h.twice)

reports_repeats : (lists : List (List Occurrence)) (places : List ℕ) (first : Option ℕ) → repeats_in lists ≡ places → first ≡ least places → Reports (IsRepeatInOne lists) first
reports_repeats lists places first same e = subst (Reports (IsRepeatInOne lists)) (ap least same ∙ sym e) (least_tells (IsRepeatInOne lists) (repeats_in lists) (one_of lists) (of_one lists))

-- ---- names that are declared twice

repeats_of : (declarations : List Declaration) (b : Body) → repeats_in (scope_spaces (scope_of declarations b)) ≡ body_repeats b
repeats_of declarations b =
    let own : map port_named b.ports.now ++ map named (flat_map channels_of (referred b.statements)) ≡ own_named b =
    ap (λ l. map port_named b.ports.now ++ l) (map_flat named channels_of (referred b.statements) ∙ flat_map_of_map (λ s. map named (channels_of s)) (λ (s : Bor Statement). s.now) b.statements) in
    let ids : flat_map ids_of (referred b.statements) ≡ body_ids b = flat_map_of_map ids_of (λ (s : Bor Statement). s.now) b.statements in
    let implements : map named (referred b.implements) ≡ map (λ (n : Bor Name). named n.now) b.implements = map_of_map named (λ (n : Bor Name). n.now) b.implements in
    let rest : repeats_in (flat_map statement_spaces (referred b.statements)) ≡ flat_map (λ (s : Bor Statement). statement_repeats s.now) b.statements =
    flat_map_flat repeats statement_spaces (referred b.statements) ∙ flat_map_of_map statement_repeats (λ (s : Bor Statement). s.now) b.statements in
    λ i. repeats (own i) ++ (repeats (ids i) ++ (repeats (implements i) ++ rest i))

repeats_of_all : (declarations : List Declaration) (top : Top) (bodies : List Body) → AreBodies declarations top bodies
    → repeats_in (name_spaces declarations (scopes declarations top)) ≡ repeats (map declaration_named declarations) ++ (flat_map declaration_repeats declarations ++ flat_map body_repeats bodies)
repeats_of_all declarations top bodies are =
    ap (λ l. repeats (map declaration_named declarations) ++ l)
    (flat_map-append repeats (flat_map declaration_spaces declarations) (flat_map scope_spaces (scopes declarations top))
    ∙ (λ i. flat_map_flat repeats declaration_spaces declarations i
    ++ (flat_map_flat repeats scope_spaces (scopes declarations top) ∙ of_bodies (λ scope. repeats_in (scope_spaces scope)) body_repeats declarations top bodies are (repeats_of declarations)) i))

pub reports_declared_twice : (declarations : List Declaration) (top : Top) (bodies : List Body) (first : Option ℕ) → AreBodies declarations top bodies
    → first ≡ least (repeats (map declaration_named declarations) ++ (flat_map declaration_repeats declarations ++ flat_map body_repeats bodies))
    → Reports (BreaksDeclaredTwice declarations (scopes declarations top)) first
reports_declared_twice declarations top bodies first are e =
    reports_repeats (name_spaces declarations (scopes declarations top))
    (repeats (map declaration_named declarations) ++ (flat_map declaration_repeats declarations ++ flat_map body_repeats bodies)) first (repeats_of_all declarations top bodies are) e

-- ---- what is used twice

used_by : (s : Statement) → map reference_named (references_of s) ≡ statement_used s
used_by (S.Request at service port id) = refl
used_by (S.Instance at id body bindings) = map_of_map reference_named (λ (b : Binding). b.source) bindings
used_by (S.Channels at names operation) = refl
used_by (S.Drive at sink source) = refl

pub used_of : (b : Body) → map reference_named (flat_map references_of (referred b.statements)) ≡ body_used b
used_of b =
    map_flat reference_named references_of (referred b.statements) ∙ flat_map_of_map (λ s. map reference_named (references_of s)) (λ (s : Bor Statement). s.now) b.statements
    ∙ flat_map_same (λ (s : Bor Statement). map reference_named (references_of s.now)) (λ s. statement_used s.now) b.statements (λ s. used_by s.now)

uses_of : (declarations : List Declaration) (b : Body) → repeats_in (scope_uses (scope_of declarations b)) ≡ body_uses b
uses_of declarations b =
    let bound : repeats_in (flat_map bound_in (referred b.statements)) ≡ flat_map (λ (s : Bor Statement). statement_bound s.now) b.statements =
    flat_map_flat repeats bound_in (referred b.statements) ∙ flat_map_of_map statement_bound (λ (s : Bor Statement). s.now) b.statements in
    λ i. repeats (used_of b i) ++ bound i

pub reports_used_twice : (declarations : List Declaration) (top : Top) (bodies : List Body) (first : Option ℕ) → AreBodies declarations top bodies → first ≡ least (flat_map body_uses bodies)
    → Reports (BreaksUsedTwice (scopes declarations top)) first
reports_used_twice declarations top bodies first are e =
    reports_repeats (flat_map scope_uses (scopes declarations top)) (flat_map body_uses bodies) first
    (flat_map_flat repeats scope_uses (scopes declarations top) ∙ of_bodies (λ scope. repeats_in (scope_uses scope)) body_uses declarations top bodies are (uses_of declarations)) e

-- ---- references that go the wrong way

-- a body has the same scope in tables of the declarations
pub same_scope : (declarations : List Declaration) (d : Declared) (b : Body) → AreDeclared declarations d → scope_of declarations b ≡ scope_in d b
same_scope declarations d b are =
    let bs = sym are.bundles_are in let ss = sym are.services_are in let ms = sym are.modules_are in
    λ i. record {
      bundles = bs i;
      services = ss i;
      modules = take b.before (ms i);
      ports = b.ports.now;
      statements = referred b.statements;
      implements = referred b.implements;
    }

wrong_are : (declarations : List Declaration) (d : Declared) → AreDeclared declarations d → (b : Body) → scope_directions (scope_of declarations b) ≡ body_wrong d b
wrong_are declarations d are b =
    ap scope_directions (same_scope declarations d b are) ∙ flat_map_of_map (statement_directions (scope_in d b)) (λ (s : Bor Statement). s.now) b.statements

pub reports_directions : (declarations : List Declaration) (top : Top) (d : Declared) (bodies : List Body) (first : Option ℕ) → AreDeclared declarations d → AreBodies declarations top bodies
    → first ≡ least (flat_map (body_wrong d) bodies) → Reports (BreaksDirections (scopes declarations top)) first
reports_directions declarations top d bodies first are_declared are e =
    let places : flat_map scope_directions (scopes declarations top) ≡ flat_map (body_wrong d) bodies = of_bodies scope_directions (body_wrong d) declarations top bodies are (wrong_are declarations d are_declared) in
    subst (Reports (BreaksDirections (scopes declarations top))) (ap least places ∙ sym e) (least_reports (flat_map scope_directions (scopes declarations top)))

-- ---- names that are not declared

undeclared_are : (declarations : List Declaration) (d : Declared) → AreDeclared declarations d → (b : Body) → scope_undeclared (scope_of declarations b) ≡ body_undeclared d b
undeclared_are declarations d are b =
    ap scope_undeclared (same_scope declarations d b are)
    ∙ (λ i. flat_map_of_map (statement_undeclared (scope_in d b)) (λ (s : Bor Statement). s.now) b.statements i
    ++ flat_map_of_map (implement_undeclared d.services) (λ (n : Bor Name). n.now) b.implements i)

pub reports_undeclared : (declarations : List Declaration) (top : Top) (d : Declared) (bodies : List Body) (first : Option ℕ) → AreDeclared declarations d → AreBodies declarations top bodies
    → first ≡ least (flat_map (service_undeclared d.bundles) d.services ++ flat_map (body_undeclared d) bodies)
    → Reports (BreaksUndeclared (bundles_of declarations) (services_of declarations) (scopes declarations top)) first
reports_undeclared declarations top d bodies first are_declared are e =
    let all = undeclared_places (bundles_of declarations) (services_of declarations) (scopes declarations top) in
    let inner : flat_map scope_undeclared (scopes declarations top) ≡ flat_map (body_undeclared d) bodies = of_bodies scope_undeclared (body_undeclared d) declarations top bodies are (undeclared_are declarations d are_declared) in
    let bs = sym are_declared.bundles_are in
    let ss = sym are_declared.services_are in
    let places : all ≡ flat_map (service_undeclared d.bundles) d.services ++ flat_map (body_undeclared d) bodies = λ i. flat_map (service_undeclared (bs i)) (ss i) ++ inner i in
    subst (Reports (BreaksUndeclared (bundles_of declarations) (services_of declarations) (scopes declarations top))) (ap least places ∙ sym e) (least_reports all)

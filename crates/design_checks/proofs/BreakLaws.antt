-- What is reported of several checks.
use Rattle.std.proofs.Common.{◌≡◌, ℕ, map, take, List, [], ◌∷◌, ◌++◌, ap, sym, subst, refl, inl, inr, ◌∙◌}
use Rattle.std.specs.Prelude.{Option, Some, None, Result, Ok, Err, IfOk, Contains, option_map}
use Rattle.std.specs.List.{flat_map}
use Rattle.name_tables.specs.FirstPlaces.{Reports}
use Rattle.design_scopes.specs.declared.body.Body.{Body}
use Rattle.design_scopes.specs.declared.declared.Declared.{Declared}
use Rattle.design_scopes.specs.Bodies.{referred, scope_of, AreBodies}
use Rattle.design_scopes.specs.Resolving.{scope_in, AreDeclared}
use Rattle.design_tree.specs.declared.declarations.Declaration.{Declaration}
use Rattle.design_tree.specs.declared.top.Top.{Top}
use Rattle.name_tables.specs.PlaceLaws.{contains_here, contains_later}
use Rattle.check_rules.specs.Checks.{Check, by_place, by_order, Accepts, Refuses}
use Rattle.check_rules.specs.Dependencies.{elements_of, BreaksDependencies}
use Rattle.check_rules.specs.Scopes.{Scope, scopes}
use Rattle.check_rules.specs.Signalling.{signalling_breaks, in_order, wrong_signalling}
use Rattle.check_rules.specs.declared.rule.CheckRule.{CheckRule}
use Rattle.check_rules.specs.declared.rule.CheckRule.TheVariants as R
use Rattle.body_order.specs.BodyLaws.{BreaksInOne, EachCycle, EachSignal}
use Rattle.body_order.specs.Cycles.{AreOnce}
use Rattle.body_order.specs.Signals.{first_of}
use Rattle.design_checks.specs.declared.rule_break.RuleBreak.{RuleBreak}
use Rattle.design_checks.specs.declared.bodies.BodyBreaks.{BodyBreaks}
use Rattle.design_checks.specs.BodyBreaks.{body_signals, AreBreaksOf}
use Rattle.design_checks.specs.Breaks.{broken_at, or_break, order_break, body_checks, ReportsBreak}

-- ---- one check, then others

-- what is reported of one check
abbrev pub ReportsOne : Check → Option ℕ → Type 0
ReportsOne c None = c.Kept
ReportsOne c (Some at) = c.Reported at

pub one_more : (c : Check) (cs : List Check) (found : Option ℕ) (rest : Option RuleBreak) → ReportsOne c found → ReportsBreak cs rest
    → ReportsBreak (c ∷ cs) (or_break (option_map (broken_at c.rule) found) rest)
one_more c cs None None kept more = (kept, more)
one_more c cs None (Some b) kept more = inr (kept, more)
one_more c cs (Some at) rest found more = inl (refl, found)

pub one_alone : (c : Check) (found : Option ℕ) → ReportsOne c found → ReportsBreak (c ∷ []) (option_map (broken_at c.rule) found)
one_alone c None kept = (kept, tt)
one_alone c (Some at) found = inl (refl, found)

pub kept_then : (xs ys : List Check) (found : Option RuleBreak) → Accepts xs → ReportsBreak ys found → ReportsBreak (xs ++ ys) found
kept_then [] ys found kept more = more
kept_then (c ∷ xs) ys None kept more = (kept.0, kept_then xs ys None kept.1 more)
kept_then (c ∷ xs) ys (Some b) kept more = inr (kept.0, kept_then xs ys (Some b) kept.1 more)

pub broken_before : (xs ys : List Check) (rule : CheckRule) (at : ℕ) → Refuses xs rule at → Refuses (xs ++ ys) rule at
broken_before [] ys rule at r = absurd r
broken_before (c ∷ xs) ys rule at (inl here) = inl here
broken_before (c ∷ xs) ys rule at (inr later) = inr (later.0, broken_before xs ys rule at later.1)

-- ---- a rule by place, and one by order

pub by_place_reported : (rule : CheckRule) (Broken : ℕ → Type 0) (found : Option ℕ) → Reports Broken found → ReportsOne (by_place rule Broken) found
by_place_reported rule Broken None r = r
by_place_reported rule Broken (Some at) r = r

pub by_order_reported : (rule : CheckRule) (places : List ℕ) → ReportsOne (by_order rule places) (first_of places)
by_order_reported rule [] = refl
by_order_reported rule (at ∷ more) = record { more = more; split = refl }

-- ---- the bodies of a design

flat_map_same : (F G : Scope → List ℕ) (xs : List Scope) → ((x : Scope) → Contains xs x → F x ≡ G x) → flat_map F xs ≡ flat_map G xs
flat_map_same F G [] same = refl
flat_map_same F G (x ∷ xs) same = λ i. same x (contains_here x xs) i ++ flat_map_same F G xs (λ y c. same y (contains_later x xs y c)) i

cycle_reported : (bodies : List Scope) → ((at : ℕ) → BreaksDependencies bodies at → BreaksInOne bodies at) → ((at : ℕ) → BreaksInOne bodies at → BreaksDependencies bodies at)
    → (found : Option ℕ) → Reports (BreaksInOne bodies) found → Reports (BreaksDependencies bodies) found
cycle_reported bodies to from None r = λ at b. r at (to at b)
cycle_reported bodies to from (Some x) r = record { here = from x r.here; first = λ at b. r.first at (to at b) }

pub bodies_reported : (misfits : List Scope → List ℕ) (bodies : List Scope) (b : BodyBreaks) → EachCycle → EachSignal
    → ((body : Scope) → Contains bodies body → AreOnce (elements_of body.statements)) → AreBreaksOf misfits bodies b
    → ReportsBreak (body_checks misfits bodies) (order_break b)
bodies_reported misfits bodies b cycles signals once are =
    let signal_same : signalling_breaks bodies ≡ flat_map body_signals bodies =
    flat_map_same (λ body. flat_map (wrong_signalling body) (in_order body)) body_signals bodies (λ body there. signals body (once body there)) in
    let signal_first : b.signal ≡ first_of (signalling_breaks bodies) = are.signal ∙ ap first_of (sym signal_same) in
    one_more (by_place R.DependsOnItself (BreaksDependencies bodies)) (by_order R.WrongSignalling (signalling_breaks bodies) ∷ by_order R.WrongType (misfits bodies) ∷ []) b.cycle
    (or_break (option_map (broken_at R.WrongSignalling) b.signal) (option_map (broken_at R.WrongType) b.misfit))
    (by_place_reported R.DependsOnItself (BreaksDependencies bodies) b.cycle (cycle_reported bodies (λ at. (cycles bodies once at).0) (λ at. (cycles bodies once at).1) b.cycle are.cycle))
    (one_more (by_order R.WrongSignalling (signalling_breaks bodies)) (by_order R.WrongType (misfits bodies) ∷ []) b.signal (option_map (broken_at R.WrongType) b.misfit)
    (subst (ReportsOne (by_order R.WrongSignalling (signalling_breaks bodies))) (sym signal_first) (by_order_reported R.WrongSignalling (signalling_breaks bodies)))
    (one_alone (by_order R.WrongType (misfits bodies)) b.misfit (subst (ReportsOne (by_order R.WrongType (misfits bodies))) (sym are.misfit) (by_order_reported R.WrongType (misfits bodies)))))

-- ---- answers of calls

pub kept_then_ok : {F : Type 0} (xs ys : List Check) (r : Result (Option RuleBreak) F) → Accepts xs → IfOk r (ReportsBreak ys) → IfOk r (ReportsBreak (xs ++ ys))
kept_then_ok xs ys (Ok found) kept reports = kept_then xs ys found kept reports
kept_then_ok xs ys (Err e) kept reports = reports

-- the bodies of a design in its tables are those of the design
pub same_scopes : (declarations : List Declaration) (top : Top) (d : Declared) (bodies : List Body) → AreDeclared declarations d → AreBodies declarations top bodies
    → map (scope_in d) bodies ≡ scopes declarations top
same_scopes declarations top d bodies are bodies_are = sym (each bodies) ∙ bodies_are
  where
    same_scope : (b : Body) → scope_of declarations b ≡ scope_in d b
    same_scope b =
        let bs = sym are.bundles_are in let ss = sym are.services_are in let ms = sym are.modules_are in
        λ i. record {
          bundles = bs i;
          services = ss i;
          modules = take b.before (ms i);
          ports = b.ports.now;
          statements = referred b.statements;
          implements = referred b.implements;
        }

    each : (bs : List Body) → map (scope_of declarations) bs ≡ map (scope_in d) bs
    each [] = refl
    each (b ∷ bs) = λ i. same_scope b i ∷ each bs i

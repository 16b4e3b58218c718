-- A design is either accepted or refused, and refused by one rule at one place.
use Rattle.std.proofs.Common.{◌≡◌, ℕ, suc, List, [], ◌∷◌, inl, inr, arith, ap, length, get_or, sym, ◌∙◌}
use Rattle.std.specs.Prelude.{Contains}
use Rattle.design_tree.specs.declared.design.DesignTree.{DesignTree}
use Rattle.design_tree.specs.declared.design.DesignTree.TheVariants as F
use Rattle.check_rules.specs.declared.rule.CheckRule.{CheckRule}
use Rattle.check_rules.specs.Checks.{Check, by_place, by_order, Accepts, Refuses, checks, checks_over}
use Rattle.check_rules.specs.declared.rule.CheckRule.TheVariants as R
use Rattle.check_rules.specs.declared.limits.TheConstants.{LARGEST_DESIGN, MAX_ENDPOINTS}
use Rattle.check_rules.specs.Counts.{stages_outside, BreaksCounts}
use Rattle.check_rules.specs.DeclaredTwice.{BreaksDeclaredTwice}
use Rattle.check_rules.specs.Dependencies.{BreaksDependencies}
use Rattle.check_rules.specs.Directions.{BreaksDirections}
use Rattle.check_rules.specs.Scopes.{Scope, scopes, bundles_of, services_of}
use Rattle.check_rules.specs.Signalling.{signalling_breaks}
use Rattle.check_rules.specs.Totals.{top_total, Exceeds}
use Rattle.check_rules.specs.Undeclared.{BreaksUndeclared}
use Rattle.check_rules.specs.Uses.{BreaksUsedTwice, BreaksUnused}
use Rattle.design_tree.specs.declared.declarations.Declaration.{Declaration}
use Rattle.design_tree.specs.declared.top.Top.{Top}
use Rattle.design_checks.specs.Law.{ReportOne, EachReportsOne}

-- one check: never kept and broken, and broken at one place
record IsDefinite (c : Check) : Type 0 where
  pub never_both : (at : ℕ) → c.Kept → c.Reported at → ⊥
  pub one : (at other : ℕ) → c.Reported at → c.Reported other → at ≡ other

place_definite : (rule : CheckRule) (Broken : ℕ → Type 0) → IsDefinite (by_place rule Broken)
place_definite rule Broken = record {
  never_both = λ at kept r. kept at r.here;
  one = λ at other r s. let a = r.first other s.here in let b = s.first at r.here in omega arith;
}

zero_more : (n : ℕ) → 0 ≡ suc n → ⊥
zero_more n e = omega arith

order_definite : (rule : CheckRule) (places : List ℕ) → IsDefinite (by_order rule places)
order_definite rule places = record {
  never_both = λ at kept r. empty at r.more (sym kept ∙ r.split);
  one = λ at other r s. same at other r.more s.more (sym r.split ∙ s.split);
}
  where
    empty : (at : ℕ) (more : List ℕ) → [] ≡ at ∷ more → ⊥
    empty at more e = zero_more (length more) (ap length e)

    same : (at other : ℕ) (more rest : List ℕ) → at ∷ more ≡ other ∷ rest → at ≡ other
    same at other more rest e = ap (λ (l : List ℕ). get_or l 0 0) e

none_reported : ReportOne []
none_reported = record { never_both = λ rule at kept r. r; one = λ rule other at another r s. absurd r }

more_reported : (c : Check) (cs : List Check) → IsDefinite c → ReportOne cs → ReportOne (c ∷ cs)
more_reported c cs definite more = record { never_both = both; one = one }
  where
    both : (rule : CheckRule) (at : ℕ) → Accepts (c ∷ cs) → Refuses (c ∷ cs) rule at → ⊥
    both rule at kept (inl here) = definite.never_both at kept.0 here.1
    both rule at kept (inr later) = more.never_both rule at kept.1 later.1

    one : (rule other : CheckRule) (at another : ℕ) → Refuses (c ∷ cs) rule at → Refuses (c ∷ cs) other another → (rule ≡ other) × (at ≡ another)
    one rule other at another (inl r) (inl s) = (r.0 ∙ sym s.0, definite.one at another r.1 s.1)
    one rule other at another (inl r) (inr s) = absurd (definite.never_both at s.0 r.1)
    one rule other at another (inr r) (inl s) = absurd (definite.never_both another r.0 s.1)
    one rule other at another (inr r) (inr s) = more.one rule other at another r.1 s.1

-- all checks of a design
over : (misfits : List Scope → List ℕ) (declarations : List Declaration) (top : Top) (bodies : List Scope) → ReportOne (checks_over misfits declarations top bodies)
over misfits declarations top bodies =
    let from_11 : ReportOne (by_place R.TooManyToClient (Exceeds MAX_ENDPOINTS (top_total declarations top).to_client top) ∷ []) = more_reported (by_place R.TooManyToClient (Exceeds MAX_ENDPOINTS (top_total declarations top).to_client top)) ([]) (place_definite R.TooManyToClient (Exceeds MAX_ENDPOINTS (top_total declarations top).to_client top)) none_reported in
    let from_10 : ReportOne (by_place R.TooManyToServer (Exceeds MAX_ENDPOINTS (top_total declarations top).to_server top) ∷ by_place R.TooManyToClient (Exceeds MAX_ENDPOINTS (top_total declarations top).to_client top) ∷ []) = more_reported (by_place R.TooManyToServer (Exceeds MAX_ENDPOINTS (top_total declarations top).to_server top)) (by_place R.TooManyToClient (Exceeds MAX_ENDPOINTS (top_total declarations top).to_client top) ∷ []) (place_definite R.TooManyToServer (Exceeds MAX_ENDPOINTS (top_total declarations top).to_server top)) from_11 in
    let from_9 : ReportOne (by_place R.TooLarge (Exceeds LARGEST_DESIGN (top_total declarations top).size top) ∷ by_place R.TooManyToServer (Exceeds MAX_ENDPOINTS (top_total declarations top).to_server top) ∷ by_place R.TooManyToClient (Exceeds MAX_ENDPOINTS (top_total declarations top).to_client top) ∷ []) = more_reported (by_place R.TooLarge (Exceeds LARGEST_DESIGN (top_total declarations top).size top)) (by_place R.TooManyToServer (Exceeds MAX_ENDPOINTS (top_total declarations top).to_server top) ∷ by_place R.TooManyToClient (Exceeds MAX_ENDPOINTS (top_total declarations top).to_client top) ∷ []) (place_definite R.TooLarge (Exceeds LARGEST_DESIGN (top_total declarations top).size top)) from_10 in
    let from_8 : ReportOne (by_order R.WrongType (misfits bodies) ∷ by_place R.TooLarge (Exceeds LARGEST_DESIGN (top_total declarations top).size top) ∷ by_place R.TooManyToServer (Exceeds MAX_ENDPOINTS (top_total declarations top).to_server top) ∷ by_place R.TooManyToClient (Exceeds MAX_ENDPOINTS (top_total declarations top).to_client top) ∷ []) = more_reported (by_order R.WrongType (misfits bodies)) (by_place R.TooLarge (Exceeds LARGEST_DESIGN (top_total declarations top).size top) ∷ by_place R.TooManyToServer (Exceeds MAX_ENDPOINTS (top_total declarations top).to_server top) ∷ by_place R.TooManyToClient (Exceeds MAX_ENDPOINTS (top_total declarations top).to_client top) ∷ []) (order_definite R.WrongType (misfits bodies)) from_9 in
    let from_7 : ReportOne (by_order R.WrongSignalling (signalling_breaks bodies) ∷ by_order R.WrongType (misfits bodies) ∷ by_place R.TooLarge (Exceeds LARGEST_DESIGN (top_total declarations top).size top) ∷ by_place R.TooManyToServer (Exceeds MAX_ENDPOINTS (top_total declarations top).to_server top) ∷ by_place R.TooManyToClient (Exceeds MAX_ENDPOINTS (top_total declarations top).to_client top) ∷ []) = more_reported (by_order R.WrongSignalling (signalling_breaks bodies)) (by_order R.WrongType (misfits bodies) ∷ by_place R.TooLarge (Exceeds LARGEST_DESIGN (top_total declarations top).size top) ∷ by_place R.TooManyToServer (Exceeds MAX_ENDPOINTS (top_total declarations top).to_server top) ∷ by_place R.TooManyToClient (Exceeds MAX_ENDPOINTS (top_total declarations top).to_client top) ∷ []) (order_definite R.WrongSignalling (signalling_breaks bodies)) from_8 in
    let from_6 : ReportOne (by_place R.DependsOnItself (BreaksDependencies bodies) ∷ by_order R.WrongSignalling (signalling_breaks bodies) ∷ by_order R.WrongType (misfits bodies) ∷ by_place R.TooLarge (Exceeds LARGEST_DESIGN (top_total declarations top).size top) ∷ by_place R.TooManyToServer (Exceeds MAX_ENDPOINTS (top_total declarations top).to_server top) ∷ by_place R.TooManyToClient (Exceeds MAX_ENDPOINTS (top_total declarations top).to_client top) ∷ []) = more_reported (by_place R.DependsOnItself (BreaksDependencies bodies)) (by_order R.WrongSignalling (signalling_breaks bodies) ∷ by_order R.WrongType (misfits bodies) ∷ by_place R.TooLarge (Exceeds LARGEST_DESIGN (top_total declarations top).size top) ∷ by_place R.TooManyToServer (Exceeds MAX_ENDPOINTS (top_total declarations top).to_server top) ∷ by_place R.TooManyToClient (Exceeds MAX_ENDPOINTS (top_total declarations top).to_client top) ∷ []) (place_definite R.DependsOnItself (BreaksDependencies bodies)) from_7 in
    let from_5 : ReportOne (by_place R.Unused (BreaksUnused bodies) ∷ by_place R.DependsOnItself (BreaksDependencies bodies) ∷ by_order R.WrongSignalling (signalling_breaks bodies) ∷ by_order R.WrongType (misfits bodies) ∷ by_place R.TooLarge (Exceeds LARGEST_DESIGN (top_total declarations top).size top) ∷ by_place R.TooManyToServer (Exceeds MAX_ENDPOINTS (top_total declarations top).to_server top) ∷ by_place R.TooManyToClient (Exceeds MAX_ENDPOINTS (top_total declarations top).to_client top) ∷ []) = more_reported (by_place R.Unused (BreaksUnused bodies)) (by_place R.DependsOnItself (BreaksDependencies bodies) ∷ by_order R.WrongSignalling (signalling_breaks bodies) ∷ by_order R.WrongType (misfits bodies) ∷ by_place R.TooLarge (Exceeds LARGEST_DESIGN (top_total declarations top).size top) ∷ by_place R.TooManyToServer (Exceeds MAX_ENDPOINTS (top_total declarations top).to_server top) ∷ by_place R.TooManyToClient (Exceeds MAX_ENDPOINTS (top_total declarations top).to_client top) ∷ []) (place_definite R.Unused (BreaksUnused bodies)) from_6 in
    let from_4 : ReportOne (by_place R.UsedTwice (BreaksUsedTwice bodies) ∷ by_place R.Unused (BreaksUnused bodies) ∷ by_place R.DependsOnItself (BreaksDependencies bodies) ∷ by_order R.WrongSignalling (signalling_breaks bodies) ∷ by_order R.WrongType (misfits bodies) ∷ by_place R.TooLarge (Exceeds LARGEST_DESIGN (top_total declarations top).size top) ∷ by_place R.TooManyToServer (Exceeds MAX_ENDPOINTS (top_total declarations top).to_server top) ∷ by_place R.TooManyToClient (Exceeds MAX_ENDPOINTS (top_total declarations top).to_client top) ∷ []) = more_reported (by_place R.UsedTwice (BreaksUsedTwice bodies)) (by_place R.Unused (BreaksUnused bodies) ∷ by_place R.DependsOnItself (BreaksDependencies bodies) ∷ by_order R.WrongSignalling (signalling_breaks bodies) ∷ by_order R.WrongType (misfits bodies) ∷ by_place R.TooLarge (Exceeds LARGEST_DESIGN (top_total declarations top).size top) ∷ by_place R.TooManyToServer (Exceeds MAX_ENDPOINTS (top_total declarations top).to_server top) ∷ by_place R.TooManyToClient (Exceeds MAX_ENDPOINTS (top_total declarations top).to_client top) ∷ []) (place_definite R.UsedTwice (BreaksUsedTwice bodies)) from_5 in
    let from_3 : ReportOne (by_place R.WrongDirection (BreaksDirections bodies) ∷ by_place R.UsedTwice (BreaksUsedTwice bodies) ∷ by_place R.Unused (BreaksUnused bodies) ∷ by_place R.DependsOnItself (BreaksDependencies bodies) ∷ by_order R.WrongSignalling (signalling_breaks bodies) ∷ by_order R.WrongType (misfits bodies) ∷ by_place R.TooLarge (Exceeds LARGEST_DESIGN (top_total declarations top).size top) ∷ by_place R.TooManyToServer (Exceeds MAX_ENDPOINTS (top_total declarations top).to_server top) ∷ by_place R.TooManyToClient (Exceeds MAX_ENDPOINTS (top_total declarations top).to_client top) ∷ []) = more_reported (by_place R.WrongDirection (BreaksDirections bodies)) (by_place R.UsedTwice (BreaksUsedTwice bodies) ∷ by_place R.Unused (BreaksUnused bodies) ∷ by_place R.DependsOnItself (BreaksDependencies bodies) ∷ by_order R.WrongSignalling (signalling_breaks bodies) ∷ by_order R.WrongType (misfits bodies) ∷ by_place R.TooLarge (Exceeds LARGEST_DESIGN (top_total declarations top).size top) ∷ by_place R.TooManyToServer (Exceeds MAX_ENDPOINTS (top_total declarations top).to_server top) ∷ by_place R.TooManyToClient (Exceeds MAX_ENDPOINTS (top_total declarations top).to_client top) ∷ []) (place_definite R.WrongDirection (BreaksDirections bodies)) from_4 in
    let from_2 : ReportOne (by_place R.CountOutOfRange (BreaksCounts bodies) ∷ by_place R.WrongDirection (BreaksDirections bodies) ∷ by_place R.UsedTwice (BreaksUsedTwice bodies) ∷ by_place R.Unused (BreaksUnused bodies) ∷ by_place R.DependsOnItself (BreaksDependencies bodies) ∷ by_order R.WrongSignalling (signalling_breaks bodies) ∷ by_order R.WrongType (misfits bodies) ∷ by_place R.TooLarge (Exceeds LARGEST_DESIGN (top_total declarations top).size top) ∷ by_place R.TooManyToServer (Exceeds MAX_ENDPOINTS (top_total declarations top).to_server top) ∷ by_place R.TooManyToClient (Exceeds MAX_ENDPOINTS (top_total declarations top).to_client top) ∷ []) = more_reported (by_place R.CountOutOfRange (BreaksCounts bodies)) (by_place R.WrongDirection (BreaksDirections bodies) ∷ by_place R.UsedTwice (BreaksUsedTwice bodies) ∷ by_place R.Unused (BreaksUnused bodies) ∷ by_place R.DependsOnItself (BreaksDependencies bodies) ∷ by_order R.WrongSignalling (signalling_breaks bodies) ∷ by_order R.WrongType (misfits bodies) ∷ by_place R.TooLarge (Exceeds LARGEST_DESIGN (top_total declarations top).size top) ∷ by_place R.TooManyToServer (Exceeds MAX_ENDPOINTS (top_total declarations top).to_server top) ∷ by_place R.TooManyToClient (Exceeds MAX_ENDPOINTS (top_total declarations top).to_client top) ∷ []) (place_definite R.CountOutOfRange (BreaksCounts bodies)) from_3 in
    let from_1 : ReportOne (by_place R.Undeclared (BreaksUndeclared (bundles_of declarations) (services_of declarations) bodies) ∷ by_place R.CountOutOfRange (BreaksCounts bodies) ∷ by_place R.WrongDirection (BreaksDirections bodies) ∷ by_place R.UsedTwice (BreaksUsedTwice bodies) ∷ by_place R.Unused (BreaksUnused bodies) ∷ by_place R.DependsOnItself (BreaksDependencies bodies) ∷ by_order R.WrongSignalling (signalling_breaks bodies) ∷ by_order R.WrongType (misfits bodies) ∷ by_place R.TooLarge (Exceeds LARGEST_DESIGN (top_total declarations top).size top) ∷ by_place R.TooManyToServer (Exceeds MAX_ENDPOINTS (top_total declarations top).to_server top) ∷ by_place R.TooManyToClient (Exceeds MAX_ENDPOINTS (top_total declarations top).to_client top) ∷ []) = more_reported (by_place R.Undeclared (BreaksUndeclared (bundles_of declarations) (services_of declarations) bodies)) (by_place R.CountOutOfRange (BreaksCounts bodies) ∷ by_place R.WrongDirection (BreaksDirections bodies) ∷ by_place R.UsedTwice (BreaksUsedTwice bodies) ∷ by_place R.Unused (BreaksUnused bodies) ∷ by_place R.DependsOnItself (BreaksDependencies bodies) ∷ by_order R.WrongSignalling (signalling_breaks bodies) ∷ by_order R.WrongType (misfits bodies) ∷ by_place R.TooLarge (Exceeds LARGEST_DESIGN (top_total declarations top).size top) ∷ by_place R.TooManyToServer (Exceeds MAX_ENDPOINTS (top_total declarations top).to_server top) ∷ by_place R.TooManyToClient (Exceeds MAX_ENDPOINTS (top_total declarations top).to_client top) ∷ []) (place_definite R.Undeclared (BreaksUndeclared (bundles_of declarations) (services_of declarations) bodies)) from_2 in
    let from_0 : ReportOne (by_place R.DeclaredTwice (BreaksDeclaredTwice declarations bodies) ∷ by_place R.Undeclared (BreaksUndeclared (bundles_of declarations) (services_of declarations) bodies) ∷ by_place R.CountOutOfRange (BreaksCounts bodies) ∷ by_place R.WrongDirection (BreaksDirections bodies) ∷ by_place R.UsedTwice (BreaksUsedTwice bodies) ∷ by_place R.Unused (BreaksUnused bodies) ∷ by_place R.DependsOnItself (BreaksDependencies bodies) ∷ by_order R.WrongSignalling (signalling_breaks bodies) ∷ by_order R.WrongType (misfits bodies) ∷ by_place R.TooLarge (Exceeds LARGEST_DESIGN (top_total declarations top).size top) ∷ by_place R.TooManyToServer (Exceeds MAX_ENDPOINTS (top_total declarations top).to_server top) ∷ by_place R.TooManyToClient (Exceeds MAX_ENDPOINTS (top_total declarations top).to_client top) ∷ []) = more_reported (by_place R.DeclaredTwice (BreaksDeclaredTwice declarations bodies)) (by_place R.Undeclared (BreaksUndeclared (bundles_of declarations) (services_of declarations) bodies) ∷ by_place R.CountOutOfRange (BreaksCounts bodies) ∷ by_place R.WrongDirection (BreaksDirections bodies) ∷ by_place R.UsedTwice (BreaksUsedTwice bodies) ∷ by_place R.Unused (BreaksUnused bodies) ∷ by_place R.DependsOnItself (BreaksDependencies bodies) ∷ by_order R.WrongSignalling (signalling_breaks bodies) ∷ by_order R.WrongType (misfits bodies) ∷ by_place R.TooLarge (Exceeds LARGEST_DESIGN (top_total declarations top).size top) ∷ by_place R.TooManyToServer (Exceeds MAX_ENDPOINTS (top_total declarations top).to_server top) ∷ by_place R.TooManyToClient (Exceeds MAX_ENDPOINTS (top_total declarations top).to_client top) ∷ []) (place_definite R.DeclaredTwice (BreaksDeclaredTwice declarations bodies)) from_1 in
    from_0

pub each_reports_one : EachReportsOne
each_reports_one misfits (F.Pipe p) =
    more_reported (by_place R.CountOutOfRange (Contains (stages_outside p.stages))) [] (place_definite R.CountOutOfRange (Contains (stages_outside p.stages))) none_reported
each_reports_one misfits (F.Modules declarations top) = over misfits declarations top (scopes declarations top)

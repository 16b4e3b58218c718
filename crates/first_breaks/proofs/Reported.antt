-- The first break that is computed is the one by which the checks refuse a design.
use Rattle.std.proofs.Common.{◌≡◌, ℕ, suc, List, [], ◌∷◌, length, get_or, refl, ap, sym, ◌∙◌, subst, inl, inr, arith}
use Rattle.std.specs.Prelude.{Option, Some, None, Contains, flat_map}
use Rattle.design_tree.specs.declared.design.DesignTree.TheVariants as F
use Rattle.design_tree.specs.declared.declarations.Declaration.{Declaration}
use Rattle.design_tree.specs.declared.top.Top.{Top}
use Rattle.name_tables.specs.FirstPlaces.{Reports, least}
use Rattle.name_tables.specs.PlaceLaws.{least_tells}
use Rattle.check_rules.specs.declared.rule.CheckRule.{CheckRule}
use Rattle.check_rules.specs.declared.rule.CheckRule.TheVariants as R
use Rattle.check_rules.specs.declared.limits.TheConstants.{LARGEST_DESIGN, MAX_ENDPOINTS}
use Rattle.check_rules.specs.Checks.{Check, by_place as check_by_place, by_order as check_by_order, Refuses, checks_over}
use Rattle.check_rules.specs.Scopes.{Scope, scopes, bundles_of, services_of}
use Rattle.check_rules.specs.DeclaredTwice.{name_spaces, BreaksDeclaredTwice}
use Rattle.check_rules.specs.Undeclared.{undeclared_places}
use Rattle.check_rules.specs.Counts.{stages_outside, scope_counts}
use Rattle.check_rules.specs.Directions.{scope_directions}
use Rattle.check_rules.specs.Uses.{scope_uses, BreaksUsedTwice, BreaksUnused}
use Rattle.check_rules.specs.Dependencies.{BreaksDependencies}
use Rattle.check_rules.specs.Signalling.{signalling_breaks}
use Rattle.check_rules.specs.Totals.{top_total, Exceeds}
use Rattle.first_breaks.specs.Places.{declared_twice, used_twice, unused, on_cycles, above}
use Rattle.first_breaks.specs.Breaks.{Break, break_at, first_of, findings_over, or_later, first_broken, break_of}
use Rattle.first_breaks.specs.Laws.{IsBreakOf, EachBreak}
use Rattle.first_breaks.proofs.Listed.{repeats_sound, repeats_complete, unused_sound, unused_complete, dependencies_sound, dependencies_complete, above_sound, above_complete}

-- ---- one check

-- what a check reports is the place: none where it is kept, and else the only one that is reported
abbrev Told : Check → Option ℕ → Type 0
Told c None = c.Kept × ((at : ℕ) → c.Reported at → ⊥)
Told c (Some at) = c.Reported at × (c.Kept → ⊥) × ((other : ℕ) → c.Reported other → at ≡ other)

told_first : (rule : CheckRule) (Broken : ℕ → Type 0) (place : Option ℕ) → Reports Broken place → Told (check_by_place rule Broken) place
told_first rule Broken None nowhere = (nowhere, λ at r. nowhere at r.here)
told_first rule Broken (Some at) first = (first, λ kept. kept at first.here, λ other r. let a = first.first other r.here in let b = r.first at first.here in omega arith)

told_by_place : (rule : CheckRule) (Broken : ℕ → Type 0) (places : List ℕ) → ((at : ℕ) → Contains places at → Broken at) → ((at : ℕ) → Broken at → Contains places at) → Told (check_by_place rule Broken) (least places)
told_by_place rule Broken places sound complete = told_first rule Broken (least places) (least_tells Broken places sound complete)

zero_more : (n : ℕ) → 0 ≡ suc n → ⊥
zero_more n e = omega arith

empty : (at : ℕ) (more : List ℕ) → [] ≡ at ∷ more → ⊥
empty at more e = zero_more (length more) (ap length e)

told_by_order : (rule : CheckRule) (places : List ℕ) → Told (check_by_order rule places) (first_of places)
told_by_order rule [] = (refl, λ at r. empty at r.more r.split)
told_by_order rule (at ∷ more) = (record { more = more; split = refl }, λ kept. empty at more (sym kept), λ other r. ap (λ (l : List ℕ). get_or l 0 0) r.split)

-- ---- several checks

none_broken : IsBreakOf [] None
none_broken = record { accepted = (λ e. tt, λ a. refl); refused = λ rule at. (λ e. absurd (cc), λ r. absurd r) }

one_broken : (rule other : CheckRule) (at another : ℕ) → Some (break_at rule at) ≡ Some (break_at other another) → break_at rule at ≡ break_at other another
one_broken rule other at another e = cc

with_check : (c : Check) (cs : List Check) (place : Option ℕ) (later : Option Break) → Told c place → IsBreakOf cs later → IsBreakOf (c ∷ cs) (or_later c.rule place later)
with_check c cs None later told more = record {
  accepted = (λ e. (told.0, more.accepted.0 e), λ a. more.accepted.1 a.1);
  refused = λ rule at. (λ e. inr (told.0, (more.refused rule at).0 e), back rule at);
}
  where
    back : (rule : CheckRule) (at : ℕ) → Refuses (c ∷ cs) rule at → later ≡ Some (break_at rule at)
    back rule at (inl here) = absurd (told.1 at here.1)
    back rule at (inr there) = (more.refused rule at).1 there.1
with_check c cs (Some first) later told more = record {
  accepted = (λ e. absurd (cc), λ a. absurd (told.1 a.0));
  refused = λ rule at. (to rule at, back rule at);
}
  where
    to : (rule : CheckRule) (at : ℕ) → Some (break_at c.rule first) ≡ Some (break_at rule at) → Refuses (c ∷ cs) rule at
    to rule at e =
        let same = one_broken c.rule rule first at e in
        inl (sym (ap (λ (b : Break). b.rule) same), subst c.Reported (ap (λ (b : Break). b.at) same) told.0)

    back : (rule : CheckRule) (at : ℕ) → Refuses (c ∷ cs) rule at → Some (break_at c.rule first) ≡ Some (break_at rule at)
    back rule at (inl here) = ap (λ r. Some (break_at r first)) (sym here.0) ∙ ap (λ n. Some (break_at rule n)) (told.2 at here.1)
    back rule at (inr there) = absurd (told.1 there.0)

-- ---- the checks of a design

-- a check by place, before some others
and_place : {cs : List Check} {later : Option Break} (rule : CheckRule) (Broken : ℕ → Type 0) (places : List ℕ) → ((at : ℕ) → Contains places at → Broken at) → ((at : ℕ) → Broken at → Contains places at) → IsBreakOf cs later
    → IsBreakOf (check_by_place rule Broken ∷ cs) (or_later rule (least places) later)
and_place {cs = cs} {later = later} rule Broken places sound complete more = with_check (check_by_place rule Broken) cs (least places) later (told_by_place rule Broken places sound complete) more

-- the same, where the places are a list by definition
and_list : {cs : List Check} {later : Option Break} (rule : CheckRule) (places : List ℕ) → IsBreakOf cs later → IsBreakOf (check_by_place rule (Contains places) ∷ cs) (or_later rule (least places) later)
and_list {cs = cs} {later = later} rule places more = and_place {cs = cs} {later = later} rule (Contains places) places (λ at c. c) (λ at c. c) more

-- a check by order
and_order : {cs : List Check} {later : Option Break} (rule : CheckRule) (places : List ℕ) → IsBreakOf cs later → IsBreakOf (check_by_order rule places ∷ cs) (or_later rule (first_of places) later)
and_order {cs = cs} {later = later} rule places more = with_check (check_by_order rule places) cs (first_of places) later (told_by_order rule places) more

-- a limit of the top
and_limit : {cs : List Check} {later : Option Break} (rule : CheckRule) (limit count : ℕ) (top : Top) → IsBreakOf cs later
    → IsBreakOf (check_by_place rule (Exceeds limit count top) ∷ cs) (or_later rule (least (above limit count top.name.at)) later)
and_limit {cs = cs} {later = later} rule limit count top more =
    and_place {cs = cs} {later = later} rule (Exceeds limit count top) (above limit count top.name.at) (above_sound limit count top) (above_complete limit count top) more

modules_break : (misfits : List Scope → List ℕ) (declarations : List Declaration) (top : Top) (bodies : List Scope) → IsBreakOf (checks_over misfits declarations top bodies) (first_broken (findings_over misfits declarations top bodies))
modules_break misfits declarations top bodies =
    and_place R.DeclaredTwice (BreaksDeclaredTwice declarations bodies) (declared_twice declarations bodies) (repeats_sound (name_spaces declarations bodies)) (repeats_complete (name_spaces declarations bodies))
    (and_list R.Undeclared (undeclared_places (bundles_of declarations) (services_of declarations) bodies)
    (and_list R.CountOutOfRange (flat_map scope_counts bodies)
    (and_list R.WrongDirection (flat_map scope_directions bodies)
    (and_place R.UsedTwice (BreaksUsedTwice bodies) (used_twice bodies) (repeats_sound (flat_map scope_uses bodies)) (repeats_complete (flat_map scope_uses bodies))
    (and_place R.Unused (BreaksUnused bodies) (unused bodies) (unused_sound bodies) (unused_complete bodies)
    (and_place R.DependsOnItself (BreaksDependencies bodies) (on_cycles bodies) (dependencies_sound bodies) (dependencies_complete bodies)
    (and_order R.WrongSignalling (signalling_breaks bodies)
    (and_order R.WrongType (misfits bodies)
    (and_limit R.TooLarge LARGEST_DESIGN (top_total declarations top).size top
    (and_limit R.TooManyToServer MAX_ENDPOINTS (top_total declarations top).to_server top
    (and_limit R.TooManyToClient MAX_ENDPOINTS (top_total declarations top).to_client top none_broken)))))))))))

pub each_break : EachBreak
unfolding break_of
each_break misfits (F.Pipe p) = and_list R.CountOutOfRange (stages_outside p.stages) none_broken
each_break misfits (F.Modules declarations top) = modules_break misfits declarations top (scopes declarations top)

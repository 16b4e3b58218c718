-- What is reported of a design that breaks rules.
use Rattle.std.specs.Prelude.{ℕ, Option, Some, None, List, [], ◌∷◌, option_map}
use Rattle.design_tree.specs.declared.declarations.Declaration.{Declaration}
use Rattle.design_tree.specs.declared.top.Top.{Top}
use Rattle.check_rules.specs.declared.rule.CheckRule.{CheckRule}
use Rattle.check_rules.specs.declared.rule.CheckRule.TheVariants as R
use Rattle.check_rules.specs.declared.limits.TheConstants.{LARGEST_DESIGN, MAX_ENDPOINTS}
use Rattle.check_rules.specs.Checks.{Check, by_place, by_order, Accepts, Refuses}
use Rattle.check_rules.specs.Counts.{BreaksCounts}
use Rattle.check_rules.specs.DeclaredTwice.{BreaksDeclaredTwice}
use Rattle.check_rules.specs.Dependencies.{BreaksDependencies}
use Rattle.check_rules.specs.Directions.{BreaksDirections}
use Rattle.check_rules.specs.Scopes.{Scope, bundles_of, services_of}
use Rattle.check_rules.specs.Signalling.{signalling_breaks}
use Rattle.check_rules.specs.Totals.{top_total, Exceeds}
use Rattle.check_rules.specs.Undeclared.{BreaksUndeclared}
use Rattle.check_rules.specs.Uses.{BreaksUsedTwice, BreaksUnused}
use Rattle.design_checks.specs.declared.bodies.BodyBreaks.{BodyBreaks}
use Rattle.design_checks.specs.declared.rule_break.RuleBreak.{RuleBreak}

-- a rule that is broken at the place
abbrev pub broken_at : CheckRule → ℕ → RuleBreak
broken_at rule at = record { rule = rule; at = at }

-- The first check that is broken is reported, with the place of its break, and none exactly where all are kept.
abbrev pub ReportsBreak : List Check → Option RuleBreak → Type 0
ReportsBreak checks None = Accepts checks
ReportsBreak checks (Some found) = Refuses checks found.rule found.at

-- the first break, or else the other
abbrev pub or_break : Option RuleBreak → Option RuleBreak → Option RuleBreak
or_break None other = other
or_break (Some found) other = Some found

-- what the bodies break, of what was found in them
abbrev pub order_break : BodyBreaks → Option RuleBreak
order_break b =
    or_break (option_map (broken_at R.DependsOnItself) b.cycle)
    (or_break (option_map (broken_at R.WrongSignalling) b.signal) (option_map (broken_at R.WrongType) b.misfit))

-- ---- the checks of a design in three parts

abbrev pub name_checks : List Declaration → List Scope → List Check
name_checks declarations bodies =
    by_place R.DeclaredTwice (BreaksDeclaredTwice declarations bodies)
    ∷ by_place R.Undeclared (BreaksUndeclared (bundles_of declarations) (services_of declarations) bodies)
    ∷ by_place R.CountOutOfRange (BreaksCounts bodies)
    ∷ by_place R.WrongDirection (BreaksDirections bodies)
    ∷ by_place R.UsedTwice (BreaksUsedTwice bodies)
    ∷ by_place R.Unused (BreaksUnused bodies)
    ∷ []

abbrev pub body_checks : (List Scope → List ℕ) → List Scope → List Check
body_checks misfits bodies =
    by_place R.DependsOnItself (BreaksDependencies bodies)
    ∷ by_order R.WrongSignalling (signalling_breaks bodies)
    ∷ by_order R.WrongType (misfits bodies)
    ∷ []

abbrev pub total_checks : List Declaration → Top → List Check
total_checks declarations top =
    by_place R.TooLarge (Exceeds LARGEST_DESIGN (top_total declarations top).size top)
    ∷ by_place R.TooManyToServer (Exceeds MAX_ENDPOINTS (top_total declarations top).to_server top)
    ∷ by_place R.TooManyToClient (Exceeds MAX_ENDPOINTS (top_total declarations top).to_client top)
    ∷ []

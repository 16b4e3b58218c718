-- The checks of a design in their order, and which break is reported.
use Rattle.std.specs.Prelude.{◌≡◌, ℕ, ◌⊎◌, List, [], ◌∷◌, Contains}
use Rattle.design_tree.specs.declared.design.DesignTree.{DesignTree}
use Rattle.design_tree.specs.declared.design.DesignTree.TheVariants as F
use Rattle.design_tree.specs.declared.declarations.Declaration.{Declaration}
use Rattle.design_tree.specs.declared.top.Top.{Top}
use Rattle.name_tables.specs.FirstPlaces.{IsFirstPlace, Nowhere}
use Rattle.check_rules.specs.declared.rule.CheckRule.{CheckRule}
use Rattle.check_rules.specs.declared.rule.CheckRule.TheVariants as R
use Rattle.check_rules.specs.declared.limits.TheConstants.{LARGEST_DESIGN, MAX_ENDPOINTS}
use Rattle.check_rules.specs.Scopes.{Scope, scopes, bundles_of, services_of}
use Rattle.check_rules.specs.DeclaredTwice.{BreaksDeclaredTwice}
use Rattle.check_rules.specs.Undeclared.{BreaksUndeclared}
use Rattle.check_rules.specs.Counts.{stages_outside, BreaksCounts}
use Rattle.check_rules.specs.Directions.{BreaksDirections}
use Rattle.check_rules.specs.Uses.{BreaksUsedTwice, BreaksUnused}
use Rattle.check_rules.specs.Dependencies.{BreaksDependencies}
use Rattle.check_rules.specs.Signalling.{signalling_breaks}
use Rattle.check_rules.specs.Totals.{top_total, Exceeds}

-- ---- one check

-- A rule, where its break is reported, and what it is that nothing breaks it.
pub record Check : Type 1 where
  pub rule : CheckRule
  pub Reported : ℕ → Type 0
  pub Kept : Type 0

-- A rule that is broken at some places of the text: the first of them is reported.
abbrev pub by_place : CheckRule → (ℕ → Type 0) → Check
by_place rule Broken = record { rule = rule; Reported = IsFirstPlace Broken; Kept = Nowhere Broken }

-- the first of the places, in the order of the list
pub record IsFirstOf (places : List ℕ) (at : ℕ) : Type 0 where
  pub more : List ℕ
  pub split : places ≡ at ∷ more

-- A rule whose breaks are found in an order of their own: the first in that order is reported.
abbrev pub by_order : CheckRule → List ℕ → Check
by_order rule places = record { rule = rule; Reported = IsFirstOf places; Kept = places ≡ [] }

-- ---- all checks, in their order

-- `misfits` are the places at which types do not fit, in the order in which bodies are checked.
abbrev pub checks_over : (List Scope → List ℕ) → List Declaration → Top → List Scope → List Check
checks_over misfits declarations top bodies =
    by_place R.DeclaredTwice (BreaksDeclaredTwice declarations bodies)
    ∷ by_place R.Undeclared (BreaksUndeclared (bundles_of declarations) (services_of declarations) bodies)
    ∷ by_place R.CountOutOfRange (BreaksCounts bodies)
    ∷ by_place R.WrongDirection (BreaksDirections bodies)
    ∷ by_place R.UsedTwice (BreaksUsedTwice bodies)
    ∷ by_place R.Unused (BreaksUnused bodies)
    ∷ by_place R.DependsOnItself (BreaksDependencies bodies)
    ∷ by_order R.WrongSignalling (signalling_breaks bodies)
    ∷ by_order R.WrongType (misfits bodies)
    ∷ by_place R.TooLarge (Exceeds LARGEST_DESIGN (top_total declarations top).size top)
    ∷ by_place R.TooManyToServer (Exceeds MAX_ENDPOINTS (top_total declarations top).to_server top)
    ∷ by_place R.TooManyToClient (Exceeds MAX_ENDPOINTS (top_total declarations top).to_client top)
    ∷ []

-- The checks of a design. Of a pipe, only the number of its stages is checked.
abbrev pub checks : (List Scope → List ℕ) → DesignTree → List Check
checks misfits (F.Pipe p) = by_place R.CountOutOfRange (Contains (stages_outside p.stages)) ∷ []
checks misfits (F.Modules declarations top) = checks_over misfits declarations top (scopes declarations top)

-- ---- what is reported

-- The first rule in the order that is broken is reported, where its break is.
abbrev pub Refuses : List Check → CheckRule → ℕ → Type 0
Refuses [] rule at = ⊥
Refuses (c ∷ cs) rule at = ((rule ≡ c.rule) × c.Reported at) ⊎ (c.Kept × Refuses cs rule at)

-- No rule is broken.
abbrev pub Accepts : List Check → Type 0
Accepts [] = Unit {0}
Accepts (c ∷ cs) = c.Kept × Accepts cs

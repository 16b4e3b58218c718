-- The first break of a design, computed.
use Rattle.std.specs.Prelude.{ℕ, Option, Some, None, List, [], ◌∷◌, flat_map}
use Rattle.design_tree.specs.declared.design.DesignTree.{DesignTree}
use Rattle.design_tree.specs.declared.design.DesignTree.TheVariants as F
use Rattle.design_tree.specs.declared.declarations.Declaration.{Declaration}
use Rattle.design_tree.specs.declared.top.Top.{Top}
use Rattle.name_tables.specs.FirstPlaces.{least}
use Rattle.check_rules.specs.declared.rule.CheckRule.{CheckRule}
use Rattle.check_rules.specs.declared.rule.CheckRule.TheVariants as R
use Rattle.check_rules.specs.declared.limits.TheConstants.{LARGEST_DESIGN, MAX_ENDPOINTS}
use Rattle.check_rules.specs.Scopes.{Scope, scopes, bundles_of, services_of}
use Rattle.check_rules.specs.Undeclared.{undeclared_places}
use Rattle.check_rules.specs.Counts.{stages_outside, scope_counts}
use Rattle.check_rules.specs.Directions.{scope_directions}
use Rattle.check_rules.specs.Signalling.{signalling_breaks}
use Rattle.check_rules.specs.Totals.{top_total}
use Rattle.first_breaks.specs.Places.{declared_twice, used_twice, unused, on_cycles, above}

-- a rule that is broken, and where that is reported
pub record Break : Type 0 where
  pub rule : CheckRule
  pub at : ℕ

abbrev pub break_at : CheckRule → ℕ → Break
break_at rule at = record { rule = rule; at = at }

-- a rule, and where its break is reported if it is broken
pub record Finding : Type 0 where
  pub rule : CheckRule
  pub place : Option ℕ

-- ---- the rules, each with the place of its break

-- the first of the places in the text
abbrev pub by_place : CheckRule → List ℕ → Finding
by_place rule places = record { rule = rule; place = least places }

abbrev pub first_of : List ℕ → Option ℕ
first_of [] = None
first_of (at ∷ more) = Some at

-- the first of the places in the order of the list
abbrev pub by_order : CheckRule → List ℕ → Finding
by_order rule places = record { rule = rule; place = first_of places }

-- The rules of a design in the order of the checks. `misfits` are the places at which types do not fit, in the order in
-- which bodies are checked.
abbrev pub findings_over : (List Scope → List ℕ) → List Declaration → Top → List Scope → List Finding
findings_over misfits declarations top bodies =
    by_place R.DeclaredTwice (declared_twice declarations bodies)
    ∷ by_place R.Undeclared (undeclared_places (bundles_of declarations) (services_of declarations) bodies)
    ∷ by_place R.CountOutOfRange (flat_map scope_counts bodies)
    ∷ by_place R.WrongDirection (flat_map scope_directions bodies)
    ∷ by_place R.UsedTwice (used_twice bodies)
    ∷ by_place R.Unused (unused bodies)
    ∷ by_place R.DependsOnItself (on_cycles bodies)
    ∷ by_order R.WrongSignalling (signalling_breaks bodies)
    ∷ by_order R.WrongType (misfits bodies)
    ∷ by_place R.TooLarge (above LARGEST_DESIGN (top_total declarations top).size top.name.at)
    ∷ by_place R.TooManyToServer (above MAX_ENDPOINTS (top_total declarations top).to_server top.name.at)
    ∷ by_place R.TooManyToClient (above MAX_ENDPOINTS (top_total declarations top).to_client top.name.at)
    ∷ []

abbrev pub findings : (List Scope → List ℕ) → DesignTree → List Finding
findings misfits (F.Pipe p) = by_place R.CountOutOfRange (stages_outside p.stages) ∷ []
findings misfits (F.Modules declarations top) = findings_over misfits declarations top (scopes declarations top)

-- ---- the first of them

-- the break of the rule at the place, or else a later one
abbrev pub or_later : CheckRule → Option ℕ → Option Break → Option Break
or_later rule None later = later
or_later rule (Some at) later = Some (break_at rule at)

abbrev pub first_broken : List Finding → Option Break
first_broken [] = None
first_broken (f ∷ fs) = or_later f.rule f.place (first_broken fs)

-- The first rule in the order of the checks that a design breaks, and where that is reported.
unfoldable pub break_of : (List Scope → List ℕ) → DesignTree → Option Break
break_of misfits tree = first_broken (findings misfits tree)

use Rattle.std.proofs.Common.{◌++◌, map, subst, ap, ◌∙◌}
use Rattle.std.specs.Prelude.{IfOk}
use Rattle.std.specs.List.{flat_map}
use Rattle.statement_checks.specs.Walks.{if_ok_then}
use Rattle.name_tables.specs.FirstPlaces.{Reports, least}
use Rattle.name_tables.specs.Lists.{repeats}
use Rattle.check_rules.specs.DeclaredTwice.{declaration_named, BreaksDeclaredTwice}
use Rattle.design_names.specs.Places.{declaration_repeats, body_repeats}
use Rattle.design_scopes.specs.Bodies.{bodies_in}
use Rattle.design_names.proofs.RuleLaws.{reports_declared_twice}
use Rattle.design_names.proofs.design_names.DesignNames.first_declared_twice.Goals as goal

pub returns : goal.returns
returns c = subst (λ d. IfOk c.first_declared_twice.result (Reports (BreaksDeclaredTwice d.declarations (bodies_in d)))) c.self.view_is
    (if_ok_then c.first_declared_twice.result c.first_declared_twice.ensures (λ first e. reports_declared_twice c.self.inside.declarations.now c.self.inside.top.now c.self.inside.bodies first c.self.invariant.bodies_are
    (e ∙ ap (λ bs. least (repeats (map declaration_named c.self.inside.declarations.now) ++ (flat_map declaration_repeats c.self.inside.declarations.now ++ flat_map body_repeats bs))) c.as_slice.ensures)))

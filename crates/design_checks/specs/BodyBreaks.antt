-- What is broken in the bodies of a design, body by body.
use Rattle.std.specs.Prelude.{◌≡◌, ℕ, Option, Some, None, List, flat_map}
use Rattle.name_tables.specs.FirstPlaces.{Reports, earlier}
use Rattle.element_order.specs.Orders.{ordered}
use Rattle.check_rules.specs.Scopes.{Scope}
use Rattle.check_rules.specs.Dependencies.{elements_of}
use Rattle.body_order.specs.BodyLaws.{BreaksInOne}
use Rattle.body_order.specs.Cycles.{BreaksCycle}
use Rattle.body_order.specs.Makers.{first_needs}
use Rattle.body_order.specs.Signals.{first_of, or_else, wrong_signals}
use Rattle.channel_typing.specs.Misfits.{scope_misfits}
use Rattle.design_checks.specs.declared.bodies.BodyBreaks.{BodyBreaks}

-- the earlier of two places, of those that there are
abbrev pub sooner : Option ℕ → Option ℕ → Option ℕ
sooner first None = first
sooner first (Some at) = earlier first at

abbrev pub or_first : Option ℕ → Option ℕ → Option ℕ
or_first = or_else

-- the references of a body that are taken with other signalling, in its order
abbrev pub body_signals : Scope → List ℕ
body_signals scope = wrong_signals (elements_of scope.statements) (ordered (first_needs (elements_of scope.statements))) scope.statements

-- what is broken in some bodies
pub record AreBreaksOf (misfits : List Scope → List ℕ) (bodies : List Scope) (b : BodyBreaks) : Type 0 where
  pub cycle : Reports (BreaksInOne bodies) b.cycle
  pub signal : b.signal ≡ first_of (flat_map body_signals bodies)
  pub misfit : b.misfit ≡ first_of (misfits bodies)

-- what is broken in one body
pub record AreBreaksOfBody (scope : Scope) (b : BodyBreaks) : Type 0 where
  pub cycle : Reports (BreaksCycle (elements_of scope.statements)) b.cycle
  pub signal : b.signal ≡ first_of (body_signals scope)
  pub misfit : b.misfit ≡ first_of (scope_misfits scope)

-- with what is broken in a body after those
abbrev pub both : BodyBreaks → BodyBreaks → BodyBreaks
both a b = record { cycle = sooner a.cycle b.cycle; signal = or_first a.signal b.signal; misfit = or_first a.misfit b.misfit }

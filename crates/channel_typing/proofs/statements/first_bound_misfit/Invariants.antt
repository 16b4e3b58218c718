use Rattle.std.proofs.Common.{◌≡◌, take}
use Rattle.std.specs.List.{flat_map}
use Rattle.body_order.specs.Signals.{first_of}
use Rattle.channel_typing.specs.Typing.{type_at, bound_misfits}
use Rattle.channel_typing.proofs.statements.first_bound_misfit.Given as goal

abbrev pub invariant-loop-binding : goal.invariant-loop-binding
invariant-loop-binding l = l.first ≡ first_of (flat_map (bound_misfits l.scope (type_at l.scope l.elements l.known) l.«module») (take l.binding-index l.bindings))

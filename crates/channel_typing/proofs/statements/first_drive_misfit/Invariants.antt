use Rattle.std.proofs.Common.{◌≡◌, take}
use Rattle.body_order.specs.Makers.{referred}
use Rattle.body_order.specs.Signals.{first_of}
use Rattle.channel_typing.specs.Typing.{type_at}
use Rattle.channel_typing.specs.Misfits.{drive_misfits}
use Rattle.channel_typing.proofs.statements.first_drive_misfit.Given as goal

abbrev pub invariant-loop-statement : goal.invariant-loop-statement
invariant-loop-statement l = l.first ≡ first_of (drive_misfits (type_at l.scope l.elements l.known) (referred (take l.statement-index l.statements)))

use Rattle.std.proofs.Common.{◌≡◌, take}
use Rattle.std.specs.Prelude.{filter, flat_map}
use Rattle.check_rules.specs.Signalling.{is_drive}
use Rattle.body_order.specs.Makers.{referred}
use Rattle.body_order.specs.Signals.{first_of, or_else, wrong_sources}
use Rattle.body_order.proofs.elements.Elements.wrong_in_drives.Given as goal

abbrev pub invariant-loop-statement : goal.invariant-loop-statement
invariant-loop-statement l = l.place ≡ or_else l.fn.first (first_of (flat_map (wrong_sources l.self) (filter is_drive (referred (take l.statement-index l.statements)))))

use Rattle.std.proofs.Common.{◌≡◌, map, take}
use Rattle.std.specs.Prelude.{flat_map}
use Rattle.name_tables.specs.Keys.{label_of}
use Rattle.design_scopes.specs.Bodies.{referred}
use Rattle.body_plans.specs.Plans.{sinks_of, drivers_of}
use Rattle.body_plans.proofs.outs.DriveTable.of.Given as goal

abbrev pub invariant-loop-statement : goal.invariant-loop-statement
invariant-loop-statement l = record {
  sinks : map label_of l.sinks ≡ flat_map sinks_of (referred (take l.statement-index l.statements));
  sources : referred l.sources ≡ flat_map drivers_of (referred (take l.statement-index l.statements));
}

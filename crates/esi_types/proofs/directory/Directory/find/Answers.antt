-- The answer is the one that is computed, and the other clauses follow from that.
use Rattle.std.proofs.Common.{rules, Some}
use Rattle.esi_types.specs.declared.directory.Side.TheVariants.{ToServer, ToClient}
use Rattle.esi_types.proofs.FindLaws.{none_found, first_found}
use Rattle.esi_types.proofs.directory.Directory.find.Goals as goal

pub returns-in-Some-clause-none : goal.returns-in-Some-clause-none
returns-in-Some-clause-none c = none_found c.args.self.now c.args.name.now (Some (ToServer, c.in-Some.index)) (search rules)

pub returns-in-Some-clause-first : goal.returns-in-Some-clause-first
returns-in-Some-clause-first c = first_found c.args.self.now c.args.name.now (Some (ToServer, c.in-Some.index)) (search rules)

pub returns-in_err-index-clause-none : goal.returns-in_err-index-clause-none
returns-in_err-index-clause-none c = none_found c.args.self.now c.args.name.now c.from_residual.result (search rules)

pub returns-clause-none : goal.returns-clause-none
returns-clause-none c = none_found c.args.self.now c.args.name.now (Some (ToClient, c.in_ok-index.index)) (search rules)

pub returns-clause-first : goal.returns-clause-first
returns-clause-first c = first_found c.args.self.now c.args.name.now (Some (ToClient, c.in_ok-index.index)) (search rules)

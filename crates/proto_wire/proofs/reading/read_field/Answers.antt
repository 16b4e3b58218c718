-- The clauses are laws of the tests in their order.
use Rattle.proto_wire.specs.FieldLaws.{field_clause, end_clause, refused_clause, onwards_clause, span_clause}
use Rattle.proto_wire.proofs.reading.read_field.Goals as goal

pub returns-clause-field : goal.returns-clause-field
returns-clause-field c = field_clause c.args.octets.now c.args.at c.field_at.result c.requires c.field_at.ensures

pub returns-clause-end : goal.returns-clause-end
returns-clause-end c = end_clause c.args.octets.now c.args.at c.field_at.result c.requires c.field_at.ensures

pub returns-clause-refused : goal.returns-clause-refused
returns-clause-refused c = refused_clause c.args.octets.now c.args.at c.field_at.result c.requires c.field_at.ensures

pub returns-clause-onwards : goal.returns-clause-onwards
returns-clause-onwards c = onwards_clause c.args.octets.now c.args.at c.field_at.result c.requires c.field_at.ensures

pub returns-clause-span : goal.returns-clause-span
returns-clause-span c = span_clause c.args.octets.now c.args.at c.field_at.result c.requires c.field_at.ensures

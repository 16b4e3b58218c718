use Rattle.proto_wire.specs.AllFieldsLaws.{all_fields}
use Rattle.proto_wire.proofs.laws.all_fields_law.Goals as goal

pub returns : goal.returns
returns c = all_fields

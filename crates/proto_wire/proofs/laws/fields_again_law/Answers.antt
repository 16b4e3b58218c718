use Rattle.proto_wire.specs.WrittenLaws.{fields_again}
use Rattle.proto_wire.proofs.laws.fields_again_law.Goals as goal

pub returns : goal.returns
returns c = fields_again

use Rattle.h2_layouts.specs.Writable.{writable_tested}
use Rattle.h2_layouts.proofs.writing.is_writable.Goals as goal

pub returns : goal.returns
returns c = writable_tested c.args.frame.now c.is_writable_by_type.result c.is_writable_by_type.ensures

use Rattle.std.proofs.Common.{arith, rules}
use Rattle.h2_layouts.proofs.Settings.{settings_more}
use Rattle.h2_layouts.proofs.settings_frame.settings_of.Goals as goal

pub settings-preserved : goal.settings-preserved
settings-preserved c =
    settings_more c.settings.pairs c.add.new.self _ c.settings.rest.now c.from_be_bytes.result c.from_be_bytes-in-len6-up.result
    (omega arith) c.from_be_bytes.ensures c.from_be_bytes-in-len6-up.ensures (search rules) c.settings.invariant

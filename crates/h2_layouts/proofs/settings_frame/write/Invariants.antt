use Rattle.h2_layouts.proofs.Settings.{IsWritten}
use Rattle.h2_layouts.proofs.settings_frame.write.Given as goal

abbrev pub invariant-loop-setting : goal.invariant-loop-setting
invariant-loop-setting l = IsWritten l.fn.pairs l.out l.at l.setting-index

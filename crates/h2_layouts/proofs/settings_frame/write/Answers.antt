use Rattle.std.proofs.Common.{rules, arith}
use Rattle.h2_layouts.proofs.Settings.{written_none, written_more, written_all}
use Rattle.h2_layouts.proofs.settings_frame.write.Goals as goal

pub loop-setting-init : goal.loop-setting-init
loop-setting-init c = written_none c.args.pairs.now c.payload_len.result c.args.out.now c.write_header.new.out c.payload_len.ensures c.requires.room c.write_header.ensures

pub loop-setting-preserved : goal.loop-setting-preserved
loop-setting-preserved c =
    written_more c.args.pairs.now c.loop-setting.out c.copy_from_slice.new.self c.loop-setting.at c.loop-setting.setting-index (record { id = 0; value = 0 })
    c.loop-setting.invariant c.loop-setting-test.true (search rules)

pub returns : goal.returns
returns c = written_all c.args.pairs.now c.loop-setting.out c.loop-setting.at c.loop-setting.setting-index c.loop-setting.invariant c.loop-setting-test.false (omega arith)

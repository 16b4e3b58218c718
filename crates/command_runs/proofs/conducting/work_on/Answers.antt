use Rattle.std.proofs.Common.{map}
use Rattle.std.specs.String.{string_bytes}
use Rattle.command_runs.specs.Outside.{FilesView, files_view}
use Rattle.command_runs.proofs.FollowLemmas.{Leaves, carries_leaves}
use Rattle.command_runs.proofs.conducting.work_on.Goals as goal

pub returns-in-Ok-clause-texts : goal.returns-in-Ok-clause-texts
returns-in-Ok-clause-texts g c =
    let before : FilesView = files_view (g.F.Files.text c.args.files.now) (g.F.Files.unreadable c.args.files.now) (g.F.Files.log c.args.files.now) (g.F.Files.read_faults c.args.files.now) (g.F.Files.write_faults c.args.files.now) in
    let now : FilesView = files_view (g.F.Files.text c.carry_out.new.files) (g.F.Files.unreadable c.carry_out.new.files) (g.F.Files.log c.carry_out.new.files) (g.F.Files.read_faults c.carry_out.new.files) (g.F.Files.write_faults c.carry_out.new.files) in
    let leaves : Leaves (map string_bytes c.args.names.now) (g.C.Command.account c.args.command.now).targets before now
    = carries_leaves _ _ _ _ _ _ _ _ _ c.in-Ok.ensures.within.1 c.carry_out.ensures.carries in
    leaves.texts

pub returns-in-Ok-clause-unreadables : goal.returns-in-Ok-clause-unreadables
returns-in-Ok-clause-unreadables g c =
    let before : FilesView = files_view (g.F.Files.text c.args.files.now) (g.F.Files.unreadable c.args.files.now) (g.F.Files.log c.args.files.now) (g.F.Files.read_faults c.args.files.now) (g.F.Files.write_faults c.args.files.now) in
    let now : FilesView = files_view (g.F.Files.text c.carry_out.new.files) (g.F.Files.unreadable c.carry_out.new.files) (g.F.Files.log c.carry_out.new.files) (g.F.Files.read_faults c.carry_out.new.files) (g.F.Files.write_faults c.carry_out.new.files) in
    let leaves : Leaves (map string_bytes c.args.names.now) (g.C.Command.account c.args.command.now).targets before now
    = carries_leaves _ _ _ _ _ _ _ _ _ c.in-Ok.ensures.within.1 c.carry_out.ensures.carries in
    leaves.unreadables

pub returns-in-Ok-clause-read_counts : goal.returns-in-Ok-clause-read_counts
returns-in-Ok-clause-read_counts g c =
    let before : FilesView = files_view (g.F.Files.text c.args.files.now) (g.F.Files.unreadable c.args.files.now) (g.F.Files.log c.args.files.now) (g.F.Files.read_faults c.args.files.now) (g.F.Files.write_faults c.args.files.now) in
    let now : FilesView = files_view (g.F.Files.text c.carry_out.new.files) (g.F.Files.unreadable c.carry_out.new.files) (g.F.Files.log c.carry_out.new.files) (g.F.Files.read_faults c.carry_out.new.files) (g.F.Files.write_faults c.carry_out.new.files) in
    let leaves : Leaves (map string_bytes c.args.names.now) (g.C.Command.account c.args.command.now).targets before now
    = carries_leaves _ _ _ _ _ _ _ _ _ c.in-Ok.ensures.within.1 c.carry_out.ensures.carries in
    leaves.reads

pub returns-in-Ok-clause-write_counts : goal.returns-in-Ok-clause-write_counts
returns-in-Ok-clause-write_counts g c =
    let before : FilesView = files_view (g.F.Files.text c.args.files.now) (g.F.Files.unreadable c.args.files.now) (g.F.Files.log c.args.files.now) (g.F.Files.read_faults c.args.files.now) (g.F.Files.write_faults c.args.files.now) in
    let now : FilesView = files_view (g.F.Files.text c.carry_out.new.files) (g.F.Files.unreadable c.carry_out.new.files) (g.F.Files.log c.carry_out.new.files) (g.F.Files.read_faults c.carry_out.new.files) (g.F.Files.write_faults c.carry_out.new.files) in
    let leaves : Leaves (map string_bytes c.args.names.now) (g.C.Command.account c.args.command.now).targets before now
    = carries_leaves _ _ _ _ _ _ _ _ _ c.in-Ok.ensures.within.1 c.carry_out.ensures.carries in
    leaves.writes

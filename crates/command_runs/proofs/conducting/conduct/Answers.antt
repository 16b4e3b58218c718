use Rattle.std.proofs.Common.{rules, List, ℕ, ap, length, take, map, IsErrOf, ◌∙◌}
use Rattle.std.specs.String.{string_bytes}
use Rattle.std.proofs.lemmas.List.{take-map}
use Rattle.esi_links.specs.ReadLog.{AddsNotesOf, AreReadThrough, AreReadToFault, AreReadToCut}
use Rattle.esi_links.specs.declared.stop.OutStop.TheVariants.{Fault, NoMemory}
use Rattle.command_runs.specs.declared.ending.Ending.TheVariants as endings
use Rattle.command_runs.specs.Account.{Account}
use Rattle.command_runs.specs.Outside.{FilesView, files_view}
use Rattle.command_runs.specs.Ran.{RoseAmong}
use Rattle.command_runs.specs.Reading.{AreRead}
use Rattle.command_runs.proofs.FollowLemmas.{comes_read, comes_unread, reads_through}
use Rattle.command_runs.proofs.ReadLemmas.{read_count}
use Rattle.command_runs.proofs.conducting.conduct.Goals as goal

pub work_on-requires-clause-texts : goal.work_on-requires-clause-texts
work_on-requires-clause-texts g c = read_count _ _ _ _ c.in-Ok.ensures.read ∙ ap length c.limits-limits.ensures.limits

pub returns-in-Ok-clause-comes : goal.returns-in-Ok-clause-comes
returns-in-Ok-clause-comes g c =
    let limits = c.limits-limits.ensures.limits in
    let account : Account = g.C.Command.account c.args.command.now in
    let reads : List (List ℕ) = take (length account.limits) (map string_bytes c.args.names.now) in
    let read : AreRead (g.F.Files.text c.args.files.now) account.limits reads c.in-Ok.texts = rw (← limits, take-map) c.in-Ok.ensures.read in
    let mid : FilesView = files_view (g.F.Files.text c.read_files.new.files) (g.F.Files.unreadable c.read_files.new.files) (g.F.Files.log c.read_files.new.files) (g.F.Files.read_faults c.read_files.new.files) (g.F.Files.write_faults c.read_files.new.files) in
    comes_read account reads _ c.in-Ok.texts _ mid _ _ _ _ _
    (g.met.C.Command.cut c.args.command.now) (g.met.C.Command.promised c.args.command.now) read c.in-Ok.ensures.same c.work_on.ensures.follows

pub returns-in-Ok-clause-reads : goal.returns-in-Ok-clause-reads
returns-in-Ok-clause-reads g c =
    let limits = c.limits-limits.ensures.limits in
    let account : Account = g.C.Command.account c.args.command.now in
    let through : AddsNotesOf (g.F.Files.log c.args.files.now) (g.F.Files.log c.read_files.new.files) (AreReadThrough account.limits (take (length account.limits) (map string_bytes c.args.names.now)))
    = rw (← limits, take-map) c.in-Ok.ensures.through in
    reads_through _ _ _ _ _ _ c.work_on.ensures.possible through c.work_on.ensures.log

pub returns-in-Ok-clause-readable : goal.returns-in-Ok-clause-readable
returns-in-Ok-clause-readable g c =
    let limits = c.limits-limits.ensures.limits in
    λ _. rw (← limits, take-map) c.in-Ok.ensures.readable

pub returns-in-Err-Fault-clause-comes : goal.returns-in-Err-Fault-clause-comes
returns-in-Err-Fault-clause-comes g c =
    let limits = c.limits-limits.ensures.limits in
    let account : Account = g.C.Command.account c.args.command.now in
    let reads : List (List ℕ) = take (length account.limits) (map string_bytes c.args.names.now) in
    let fault : IsErrOf c.read_files.result Fault = search rules in
    let rose : RoseAmong (g.F.Files.read_faults c.args.files.now) (g.F.Files.read_faults c.read_files.new.files) reads = rw (← limits, take-map) (c.read_files.ensures.rose fault) in
    rw c.without_report.ensures
    (comes_unread account reads _ _ _ _ endings.ReadFault (g.met.C.Command.promised c.args.command.now) (λ _. rose) c.read_files.ensures.texts)

pub returns-in-Err-Fault-clause-reads : goal.returns-in-Err-Fault-clause-reads
returns-in-Err-Fault-clause-reads g c =
    let limits = c.limits-limits.ensures.limits in
    let account : Account = g.C.Command.account c.args.command.now in
    let fault : IsErrOf c.read_files.result Fault = search rules in
    let failed : AddsNotesOf (g.F.Files.log c.args.files.now) (g.F.Files.log c.read_files.new.files) (AreReadToFault account.limits (take (length account.limits) (map string_bytes c.args.names.now)))
    = rw (← limits, take-map) (c.read_files.ensures.failed fault) in
    rw c.without_report.ensures failed

pub returns-in-Err-NoMemory-clause-comes : goal.returns-in-Err-NoMemory-clause-comes
returns-in-Err-NoMemory-clause-comes g c =
    let account : Account = g.C.Command.account c.args.command.now in
    let reads : List (List ℕ) = take (length account.limits) (map string_bytes c.args.names.now) in
    let lack : IsErrOf c.read_files.result NoMemory = search rules in
    let same = c.read_files.ensures.no_memory lack in
    rw c.without_report-in-Err-NoMemory.ensures
    (comes_unread account reads _ _ _ _ endings.NoMemory (g.met.C.Command.promised c.args.command.now) (λ _. same.quiet) c.read_files.ensures.texts)

pub returns-in-Err-NoMemory-clause-reads : goal.returns-in-Err-NoMemory-clause-reads
returns-in-Err-NoMemory-clause-reads g c =
    let limits = c.limits-limits.ensures.limits in
    let account : Account = g.C.Command.account c.args.command.now in
    let lack : IsErrOf c.read_files.result NoMemory = search rules in
    let cut : AddsNotesOf (g.F.Files.log c.args.files.now) (g.F.Files.log c.read_files.new.files) (AreReadToCut account.limits (take (length account.limits) (map string_bytes c.args.names.now)))
    = rw (← limits, take-map) (c.read_files.ensures.cut lack) in
    rw c.without_report-in-Err-NoMemory.ensures cut

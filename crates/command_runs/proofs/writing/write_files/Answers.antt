use Rattle.std.proofs.Common.{rules, IsErrOf, map}
use Rattle.std.specs.String.{string_bytes}
use Rattle.esi_links.specs.declared.stop.OutStop.TheVariants.{Fault, NoMemory}
use Rattle.command_runs.specs.CarryOut.{FailsAtFile, LacksAtFile}
use Rattle.command_runs.specs.Outside.{FilesView, files_view}
use Rattle.command_runs.proofs.PutLemmas.{named_at, puts_next, fails_next, lacks_next}
use Rattle.command_runs.proofs.writing.write_files.Goals as goal

pub write_file-requires : goal.write_file-requires
write_file-requires g c = named_at _ _ _ _ c.requires c.loop-file-test.true c.file-item.is

pub returns-in_err-write_file-clause-failed : goal.returns-in_err-write_file-clause-failed
returns-in_err-write_file-clause-failed g c =
    let before : FilesView = files_view (g.F.Files.text c.args.files.now) (g.F.Files.unreadable c.args.files.now) (g.F.Files.log c.args.files.now) (g.F.Files.read_faults c.args.files.now) (g.F.Files.write_faults c.args.files.now) in
    let mid : FilesView = files_view (g.F.Files.text c.loop-file.files) (g.F.Files.unreadable c.loop-file.files) (g.F.Files.log c.loop-file.files) (g.F.Files.read_faults c.loop-file.files) (g.F.Files.write_faults c.loop-file.files) in
    let now : FilesView = files_view (g.F.Files.text c.write_file.new.files) (g.F.Files.unreadable c.write_file.new.files) (g.F.Files.log c.write_file.new.files) (g.F.Files.read_faults c.write_file.new.files) (g.F.Files.write_faults c.write_file.new.files) in
    let failed : IsErrOf c.write_file.result Fault → FailsAtFile (map string_bytes c.args.names.now) c.args.written.now before now
    = λ fault. fails_next _ _ c.loop-file.file-index c.file-item.result before mid now c.loop-file-test.true c.file-item.is c.loop-file.invariant.written (c.write_file.ensures.failed fault) in
    search rules

pub returns-in_err-write_file-clause-no_memory : goal.returns-in_err-write_file-clause-no_memory
returns-in_err-write_file-clause-no_memory g c =
    let before : FilesView = files_view (g.F.Files.text c.args.files.now) (g.F.Files.unreadable c.args.files.now) (g.F.Files.log c.args.files.now) (g.F.Files.read_faults c.args.files.now) (g.F.Files.write_faults c.args.files.now) in
    let mid : FilesView = files_view (g.F.Files.text c.loop-file.files) (g.F.Files.unreadable c.loop-file.files) (g.F.Files.log c.loop-file.files) (g.F.Files.read_faults c.loop-file.files) (g.F.Files.write_faults c.loop-file.files) in
    let now : FilesView = files_view (g.F.Files.text c.write_file.new.files) (g.F.Files.unreadable c.write_file.new.files) (g.F.Files.log c.write_file.new.files) (g.F.Files.read_faults c.write_file.new.files) (g.F.Files.write_faults c.write_file.new.files) in
    let lacks : IsErrOf c.write_file.result NoMemory → LacksAtFile (map string_bytes c.args.names.now) c.args.written.now before now
    = λ lack. lacks_next _ _ c.loop-file.file-index before mid now c.loop-file-test.true c.loop-file.invariant.written (c.write_file.ensures.no_memory lack) in
    search rules

pub loop-file-preserved : goal.loop-file-preserved
loop-file-preserved g c = record {
  written = puts_next _ _ _ _ _ _ _ c.loop-file-test.true c.file-item.is c.loop-file.invariant.written c.in_ok-write_file.ensures.written;
  log = search rules;
}

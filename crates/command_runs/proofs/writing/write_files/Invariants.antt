-- The files so far were written, and none was read.
use Rattle.std.proofs.Common.{◌≡◌, take, map}
use Rattle.std.specs.String.{string_bytes}
use Rattle.command_runs.specs.CarryOut.{PutsTexts}
use Rattle.command_runs.specs.Outside.{files_view}
use Rattle.command_runs.proofs.writing.write_files.Given as goal

abbrev pub invariant-loop-file : goal.invariant-loop-file
invariant-loop-file g l = record {
  written : PutsTexts (map string_bytes l.names) (take l.file-index l.written)
      (files_view (g.F.Files.text l.fn.files) (g.F.Files.unreadable l.fn.files) (g.F.Files.log l.fn.files) (g.F.Files.read_faults l.fn.files) (g.F.Files.write_faults l.fn.files))
      (files_view (g.F.Files.text l.files) (g.F.Files.unreadable l.files) (g.F.Files.log l.files) (g.F.Files.read_faults l.files) (g.F.Files.write_faults l.files));
  log : g.F.Files.log l.files ≡ g.F.Files.log l.fn.files;
}

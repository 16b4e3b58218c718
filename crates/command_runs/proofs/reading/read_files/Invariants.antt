-- The files so far were read through, and all is as it was.
use Rattle.std.proofs.Common.{take, map}
use Rattle.std.specs.String.{string_bytes}
use Rattle.esi_links.specs.ReadLog.{AddsNotesOf, AreReadThrough}
use Rattle.command_runs.specs.Outside.{files_view, SameFiles}
use Rattle.command_runs.specs.Ran.{AreReadable}
use Rattle.command_runs.specs.Reading.{AreRead}
use Rattle.command_runs.proofs.reading.read_files.Given as goal

abbrev pub invariant-loop-at : goal.invariant-loop-at
invariant-loop-at g l = record {
  read : AreRead (g.F.Files.text l.fn.files) (take l.at l.limits) (take l.at (map string_bytes l.names)) l.texts;
  readable : AreReadable (g.F.Files.unreadable l.fn.files) (take l.at (map string_bytes l.names));
  through : AddsNotesOf (g.F.Files.log l.fn.files) (g.F.Files.log l.files) (AreReadThrough (take l.at l.limits) (take l.at (map string_bytes l.names)));
  same : SameFiles
      (files_view (g.F.Files.text l.fn.files) (g.F.Files.unreadable l.fn.files) (g.F.Files.log l.fn.files) (g.F.Files.read_faults l.fn.files) (g.F.Files.write_faults l.fn.files))
      (files_view (g.F.Files.text l.files) (g.F.Files.unreadable l.files) (g.F.Files.log l.files) (g.F.Files.read_faults l.files) (g.F.Files.write_faults l.files));
}

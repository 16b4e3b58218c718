use Rattle.stream_laws.proofs.WithinLaws.{stream_windows}
use Rattle.stream_laws.proofs.windows.windows_law.Goals as goal

-- src/windows.rt:13:1
pub returns-clause-stream : goal.returns-clause-stream
returns-clause-stream c = stream_windows

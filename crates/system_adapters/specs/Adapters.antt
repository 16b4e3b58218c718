-- What the adapters of the system tell and count.
use Rattle.std.specs.Prelude.{◌≡◌, ◌≢◌, ℕ, Result, Ok, Err, IfOk, IfErr}
use Rattle.std.specs.declared.io.Error.{Error}
use Rattle.std.specs.declared.io.ErrorKind.TheVariants.{OutOfMemory}
use Rattle.std.specs.IoError.{error_kind}
use Rattle.esi_links.specs.Counts.{one_more}
use Rattle.system_adapters.specs.declared.disk_files.DiskFiles.{DiskFiles}
use Rattle.system_adapters.specs.declared.std_sink.StdSink.{StdSink}
use Rattle.esi_links.specs.declared.stop.OutStop.{OutStop}
use Rattle.esi_links.specs.declared.stop.OutStop.TheVariants.{Fault, NoMemory}

-- The system's answer in the terms of the traits: a value is handed on, an error of the kind `OutOfMemory` is out of memory, and
-- every other error is a fault.
pub record Translates {T : Type 0} (answer : Result T Error) (result : Result T OutStop) : Type 0 where
  pub given : IfOk answer (λ value. result ≡ Ok value)
  pub no_memory : IfErr answer (λ error. error_kind error ≡ OutOfMemory → result ≡ Err NoMemory)
  pub fault : IfErr answer (λ error. error_kind error ≢ OutOfMemory → result ≡ Err Fault)

-- the count of faults after an answer: one more where it is a fault
abbrev pub after_answer : {T : Type 0} → ℕ → Result T OutStop → ℕ
after_answer count (Ok value) = count
after_answer count (Err Fault) = one_more count
after_answer count (Err NoMemory) = count

-- how many calls failed
abbrev pub disk_faults : {R : Type 0} → DiskFiles R → ℕ
disk_faults files = files.faults

-- how many writes failed
abbrev pub std_faults : {W : Type 0} → StdSink W → ℕ
std_faults sink = sink.faults

-- the writer
abbrev pub std_writer : {W : Type 0} → StdSink W → W
std_writer sink = sink.writer

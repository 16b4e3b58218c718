-- What the files and sinks in memory hold.
use Rattle.std.specs.Prelude.{ℕ, ◌-◌, min, List, [], Option, Some, None, Bool, true, false, Result, Ok, Err, length, unwrap_or}
use Rattle.std.specs.BTreeMap.{get_by_text}
use Rattle.esi_links.specs.declared.calls.Calls.{Calls}
use Rattle.esi_links.specs.declared.memory_files.MemoryFiles.{MemoryFiles}
use Rattle.esi_links.specs.declared.memory_sink.MemorySink.{MemorySink}
use Rattle.esi_links.specs.declared.sure_files.SureFiles.{SureFiles}
use Rattle.esi_links.specs.declared.sure_sink.SureSink.{SureSink}
use Rattle.esi_links.specs.declared.stop.OutStop.{OutStop}
use Rattle.esi_links.specs.declared.stop.OutStop.TheVariants.{Fault}

-- the text held under a name
abbrev pub memory_text : MemoryFiles → List ℕ → Option (List ℕ)
memory_text files name = get_by_text files.held name

-- the reads that were made, and those that are to fail
abbrev pub memory_reads : MemoryFiles → Calls
memory_reads files = files.reads

-- the writes that were made, and those that are to fail
abbrev pub memory_writes : MemoryFiles → Calls
memory_writes files = files.writes

-- how many reads failed, under all names together
abbrev pub memory_read_faults : MemoryFiles → List ℕ → ℕ
memory_read_faults files name = (memory_reads files).faults

-- how many writes failed, under all names together
abbrev pub memory_write_faults : MemoryFiles → List ℕ → ℕ
memory_write_faults files name = (memory_writes files).faults

-- the octets that were written
abbrev pub memory_octets : MemorySink → List ℕ
memory_octets sink = sink.octets

-- the writes that were made, and those that are to fail
abbrev pub memory_calls : MemorySink → Calls
memory_calls sink = sink.calls

-- how many octets one write takes at most, None: any number
abbrev pub memory_most : MemorySink → Option ℕ
memory_most sink = sink.most

-- at most a limit, where there is one
abbrev pub at_most : Option ℕ → ℕ → ℕ
at_most None count = count
at_most (Some limit) count = min limit count

-- they are told
abbrev pub memory_told : MemorySink → Option (List ℕ)
memory_told sink = Some (memory_octets sink)

-- how many writes failed
abbrev pub memory_faults : MemorySink → ℕ
memory_faults sink = (memory_calls sink).faults

-- the text held under a name
abbrev pub sure_text : SureFiles → List ℕ → Option (List ℕ)
sure_text files name = get_by_text files.held name

-- the file under a name, which is empty where no text is held
abbrev pub sure_file : SureFiles → List ℕ → List ℕ
sure_file files name = unwrap_or (sure_text files name) []

-- it is told under every name
abbrev pub sure_told : SureFiles → List ℕ → Option (List ℕ)
sure_told files name = Some (sure_file files name)

-- nothing ever failed
abbrev pub no_faults : SureFiles → List ℕ → ℕ
no_faults files name = 0

-- the octets that were written
abbrev pub sure_octets : SureSink → List ℕ
sure_octets sink = sink.octets

-- they are told
abbrev pub sure_sink_told : SureSink → Option (List ℕ)
sure_sink_told sink = Some (sure_octets sink)

-- nothing ever failed
abbrev pub no_sink_faults : SureSink → ℕ
no_sink_faults sink = 0

-- how many octets of a text stand from `at` on, as far as there is room
abbrev pub count_at : List ℕ → ℕ → ℕ → ℕ
count_at text at room = min room (length text - at)

-- a read fails exactly where its number is listed or no text is held
abbrev pub read_answer : Bool → Option (List ℕ) → ℕ → ℕ → Result ℕ OutStop
read_answer true held at room = Err Fault
read_answer false None at room = Err Fault
read_answer false (Some text) at room = Ok (count_at text at room)

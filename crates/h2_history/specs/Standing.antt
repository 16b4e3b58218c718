-- How a connection stands: what its history has left.
use Rattle.std.specs.Prelude.{ℕ, ◌-◌, ◌==◌, ◌&&◌, ◌%◌, min, nat_le, Bool, false, Option, Some, None, List, [], length, Result, Ok, Err, if◌then◌else◌}
use Rattle.esi_base.specs.declared.stop.Stop.{Stop}
use Rattle.hpack.specs.declared.stop.BlockRule.{BlockRule}
use Rattle.hpack.specs.Decoding.{Decoding}
use Rattle.hpack.specs.Encoding.{Writing, new_writing}
use Rattle.hpack.specs.Tables.{Table, new_table}
use Rattle.h2_flow.specs.declared.limits.TheConstants.{OPEN_STREAMS}
use Rattle.h2_flow.specs.Windows.{Windows, first_windows, may_send}
use Rattle.h2_frames.specs.Prefaces.{preface}
use Rattle.h2_frames.specs.Reading.{Reading, new_reading}
use Rattle.h2_history.specs.declared.header_block.HeaderBlock.{HeaderBlock}
use Rattle.h2_history.specs.declared.limits.TheConstants.{ROOM_FOR_DATA, UNLIMITED_STREAMS}
use Rattle.h2_layouts.specs.declared.role.Role.{Role}
use Rattle.h2_layouts.specs.declared.role.Role.TheVariants.{Server, Client}
use Rattle.stream_table.specs.declared.open_stream.OpenStream.{OpenStream}

pub record Standing : Type 0 where
  -- which end this is
  pub role : Role
  -- where the next frame stands, and the octets that were fed and not read
  pub reading : Reading
  -- the table of the header blocks that are read, or why they are read no more
  pub tables : Result Table (Stop BlockRule)
  -- what the encoder of header blocks keeps
  pub writing : Writing
  -- the windows, and the peer's last INITIAL_WINDOW_SIZE
  pub flow : Windows
  -- the open streams
  pub streams : List OpenStream
  -- the greatest stream that was opened, 0 before any
  pub greatest : ℕ
  -- the peer's last MAX_CONCURRENT_STREAMS, and whether a client has read a GOAWAY
  pub most : ℕ
  pub away : Bool
  -- the header block that is not whole
  pub block : Option HeaderBlock
  -- the error code with which the connection has ended
  pub broken : Option ℕ
  -- memory ran out while octets were read, so no further ones are
  pub failed : Bool
  -- the octets that were put and not taken
  pub output : List ℕ

-- what a client writes before its first frame
abbrev pub first_octets : Role → List ℕ
first_octets Server = []
first_octets Client = preface

-- before the first frame is put
abbrev pub first_standing : Role → Standing
first_standing role = record {
  role = role;
  reading = new_reading role;
  tables = Ok new_table;
  writing = new_writing;
  flow = first_windows;
  streams = [];
  greatest = 0;
  most = UNLIMITED_STREAMS;
  away = false;
  block = None;
  broken = None;
  failed = false;
  output = first_octets role;
}

-- a decoder's table, where it has not failed
abbrev pub table_or_stop : Option (Stop BlockRule) → Table → Result Table (Stop BlockRule)
table_or_stop None table = Ok table
table_or_stop (Some stop) table = Err stop

abbrev pub tables_of : Decoding → Result Table (Stop BlockRule)
tables_of decoding = table_or_stop decoding.failed decoding.table

-- nothing is written on a connection that has ended, so what its encoder keeps is nobody's
abbrev pub writing_of : Option ℕ → Writing → Writing
writing_of None writing = writing
writing_of (Some code) writing = new_writing

-- ---- questions

-- a stream with an odd identifier that is not above the greatest was opened: a client's streams are odd (RFC 9113,
-- section 5.1.1), and no server opens any, since it may not push
abbrev pub was_opened : ℕ → Standing → Bool
was_opened stream s = (stream % 2 == 1) && nat_le stream s.greatest

-- the last stream that the peer opened: none does at a client
abbrev pub last_stream_by : Role → ℕ → ℕ
last_stream_by Server greatest = greatest
last_stream_by Client greatest = 0

abbrev pub last_stream : Standing → ℕ
last_stream s = last_stream_by s.role s.greatest

-- how many octets of DATA may be put: the room that is left in the output
abbrev pub room : Standing → ℕ
room s = ROOM_FOR_DATA - length s.output

-- the least of the stream's window, the connection's and the room, or 0
abbrev pub may_put : ℕ → Standing → ℕ
may_put stream s = min (may_send stream s.flow) (room s)

-- how many streams a client has open at most: none is opened after a GOAWAY
abbrev pub stream_limit : Standing → ℕ
stream_limit s = if s.away then 0 else min s.most OPEN_STREAMS

-- Header blocks: how their frames are gathered, and what their lists come to.
use Rattle.std.specs.Prelude.{ℕ, ◌+◌, nat_lt, nat_le, Bool, true, false, Option, Some, None, List, [], ◌++◌, length, Result, Ok, Err, if◌then◌else◌}
use Rattle.esi_base.specs.declared.stop.Stop.{Stop}
use Rattle.esi_base.specs.declared.stop.Stop.TheVariants.{Refused, NoMemory}
use Rattle.header_lists.specs.declared.kind.ListKind.TheVariants.{Request, Reply, Trailers}
use Rattle.header_lists.specs.HeaderLists.{is_malformed, is_informational}
use Rattle.hpack.specs.declared.header.Header.{Header}
use Rattle.hpack.specs.declared.stop.BlockRule.{BlockRule}
use Rattle.hpack.specs.declared.stop.BlockRule.TheVariants.{ListTooLarge}
use Rattle.hpack.specs.BlockReading.{block_at}
use Rattle.hpack.specs.Representations.{Listing}
use Rattle.hpack.specs.Tables.{Table}
use Rattle.h2_history.specs.declared.header_block.HeaderBlock.{HeaderBlock}
use Rattle.h2_history.specs.declared.limits.TheConstants.{LONGEST_BLOCK, MOST_CONTINUATIONS}
use Rattle.h2_history.specs.declared.verdict.Verdict.{Verdict}
use Rattle.h2_history.specs.declared.verdict.Verdict.TheVariants.{ConnectionError, StreamError, Ignored, Accepted}
use Rattle.h2_history.specs.Puts.{ended_by_peer}
use Rattle.h2_history.specs.Standing.{Standing}
use Rattle.h2_layouts.specs.declared.code.TheConstants.{PROTOCOL_ERROR, COMPRESSION_ERROR, ENHANCE_YOUR_CALM}
use Rattle.h2_layouts.specs.declared.role.Role.{Role}
use Rattle.h2_layouts.specs.declared.role.Role.TheVariants.{Server, Client}
use Rattle.stream_table.specs.declared.open_stream.OpenStream.{OpenStream}
use Rattle.stream_table.specs.Rows.{row_of, with_row}

-- ---- gathering

-- something comes of the block's list where its HEADERS were accepted
abbrev pub is_accepted : Verdict → Bool
is_accepted Accepted = true
is_accepted verdict = false

abbrev pub block_begun : Verdict → ℕ → Bool → List ℕ → HeaderBlock
block_begun verdict stream end octets = record { stream = stream; end = end; wanted = is_accepted verdict; octets = octets; continued = 0 }

abbrev pub block_grown : List ℕ → HeaderBlock → HeaderBlock
block_grown octets block = record block { octets = block.octets ++ octets; continued = block.continued + 1 }

abbrev pub is_too_long : HeaderBlock → Bool
is_too_long block = nat_lt LONGEST_BLOCK (length block.octets)

-- it has had all the CONTINUATION frames that one may have
abbrev pub has_all_frames : HeaderBlock → Bool
has_all_frames block = nat_le MOST_CONTINUATIONS block.continued

-- ---- what the list of a block comes to

-- a request begins a stream at a server, a reply does at a client; informational replies may come before it, and are no
-- first list; a stream ends with none of them
abbrev pub first_list : Role → ℕ → Bool → List Header → Verdict
first_list Server stream end headers = if is_malformed Request headers then StreamError stream PROTOCOL_ERROR else Accepted
first_list Client stream end headers = if is_malformed Reply headers then StreamError stream PROTOCOL_ERROR
    else (if is_informational headers then (if end then StreamError stream PROTOCOL_ERROR else Ignored) else Accepted)

-- trailers end the stream
abbrev pub trailers : ℕ → Bool → List Header → Verdict
trailers stream end headers = if is_malformed Trailers headers then StreamError stream PROTOCOL_ERROR
    else (if end then Accepted else StreamError stream PROTOCOL_ERROR)

abbrev pub list_verdict : Role → HeaderBlock → List Header → Option OpenStream → Verdict
list_verdict role block headers None = Ignored
list_verdict role block headers (Some row) = if row.begun then trailers block.stream block.end headers else first_list role block.stream block.end headers

-- this end may have reset the stream meanwhile
abbrev pub row_wanted : HeaderBlock → Standing → Option OpenStream
row_wanted block s = if block.wanted then row_of block.stream s.streams else None

-- ---- the whole block

-- what it comes to, with its list, and how the connection stands then
pub record Completed : Type 0 where
  pub verdict : Verdict
  pub headers : List Header
  pub left : Standing

abbrev pub code_of_rule : BlockRule → ℕ
code_of_rule ListTooLarge = ENHANCE_YOUR_CALM
code_of_rule rule = COMPRESSION_ERROR

-- the stream has had its first list, and may be ended
abbrev pub begun_by_row : HeaderBlock → Option OpenStream → Standing → Standing
begun_by_row block None s = s
begun_by_row block (Some row) s =
    let begun : Standing = record s { streams = with_row (record row { begun = true }) s.streams } in
    if block.end then ended_by_peer block.stream begun else begun

abbrev pub seen_by_list : Verdict → HeaderBlock → Standing → Standing
seen_by_list Accepted block s = begun_by_row block (row_of block.stream s.streams) s
seen_by_list verdict block s = s

abbrev pub completed_with : Verdict → HeaderBlock → List Header → Standing → Completed
completed_with verdict block headers s = record { verdict = verdict; headers = headers; left = seen_by_list verdict block s }

-- the block is decoded in any case, since it changes the table
abbrev pub completed_by : Result Listing BlockRule → HeaderBlock → Standing → Completed
completed_by (Err rule) block s = record { verdict = ConnectionError (code_of_rule rule); headers = []; left = record s { tables = Err (Refused rule) } }
completed_by (Ok listing) block s =
    completed_with (list_verdict s.role block listing.headers (row_wanted block s)) block listing.headers (record s { tables = Ok listing.table })

-- a decoder that has failed reads nothing more: the connection has ended then
abbrev pub decoded_at : Result Table (Stop BlockRule) → List ℕ → Result Listing BlockRule
decoded_at (Ok table) octets = block_at table octets
decoded_at (Err (Refused rule)) octets = Err rule
decoded_at (Err NoMemory) octets = Err ListTooLarge

abbrev pub completed : HeaderBlock → Standing → Completed
completed block s = completed_by (decoded_at s.tables block.octets) block s

-- ---- one frame of a block

-- the peer takes more than one block may have
abbrev pub too_much : Standing → Completed
too_much s = record { verdict = ConnectionError ENHANCE_YOUR_CALM; headers = []; left = s }

-- the limits are checked at each frame, the list when the block is whole
abbrev pub fragment_read : Bool → HeaderBlock → Standing → Completed
fragment_read last block s = if is_too_long block then too_much s
    else (if last then completed block s else record { verdict = Ignored; headers = []; left = record s { block = Some block } })

-- CONTINUATION
abbrev pub continuation_read : Bool → List ℕ → HeaderBlock → Standing → Completed
continuation_read last octets block s = if has_all_frames block then too_much s else fragment_read last (block_grown octets block) s

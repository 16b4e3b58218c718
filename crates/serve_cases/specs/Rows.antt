-- Worked turns of the small server, and what they come to: each is computed by the rule.
use Rattle.std.proofs.Common.{◌≡◌, ℕ, zero, suc, ◌+◌, List, [], ◌∷◌, ◌++◌, refl, ap, sym, ◌∙◌}
use Rattle.cycle_rules.specs.Circuit.{Bits}
use Rattle.esi_links.specs.declared.links.Event.{Event}
use Rattle.esi_links.specs.declared.links.Event.TheVariants.{Opened, Bytes, Closed}
use Rattle.h2_layouts.specs.PayloadReading.{data_of, padded_headers, headers_of, priority_of, rst_stream_of, settings_frame_of, ping_of, goaway_of, window_update_of}
use Rattle.hpack.specs.BlockReading.{at_most, to_end, block_at}
use Rattle.hpack.specs.Encoding.{groups_of, integer_of, string_of, encoded_field, table_with_field}
use Rattle.hpack.specs.IntegerReading.{more_at, integer_at}
use Rattle.hpack.specs.RepresentationReading.{entry_at, indexed_at, entry_name_at, name_at, value_at, literal_at, update_at, read_as, representation_at}
use Rattle.hpack.specs.StaticTable.{static_table}
use Rattle.hpack.specs.StringReading.{head_at, body_at, string_at}
use Rattle.serve_acts.specs.declared.decline.Decline.TheVariants.{Status}
use Rattle.serve_cases.specs.Frames.{greeting, attach_on, value_on, reset_on}
use Rattle.serve_cases.specs.SmallReader.{small_reader}
use Rattle.serve_cases.specs.SmallServer.{small}
use Rattle.serve_cases.specs.Stored.{Stored}
use Rattle.serve_cases.specs.StoredRule.{stored_session}
use Rattle.serve_cases.specs.StoredRuleLaws.{session_is}
use Rattle.serve_cases.specs.Summaries.{Entry, Summary, summary, kept_summary, session_by, by_standing}
use Rattle.serve_rule.specs.Connection.{connection_of}
use Rattle.serve_rule.specs.Turns.{Turn}

-- each connection takes all that it is offered
abbrev pub takes_all : ℕ → ℕ
takes_all conn = 1000000

-- the turns of these events, the newest first
abbrev pub turns_of : List Event → List Turn
turns_of [] = []
turns_of (event ∷ events) = record { event = event; takes = takes_all } ∷ turns_of events

abbrev pub entry : ℕ → ℕ → ℕ → Entry
entry cycle conn stream = record { cycle = cycle; conn = conn; stream = stream }

-- so many values of connection 0, one in each cycle from this one on, on each second stream from this one on
abbrev pub entries_from : ℕ → ℕ → ℕ → List Entry
entries_from zero cycle stream = []
entries_from (suc count) cycle stream = entry cycle 0 stream ∷ entries_from count (cycle + 1) (stream + 2)

-- and so many, all in one cycle
abbrev pub entries_at : ℕ → ℕ → ℕ → List Entry
entries_at zero cycle stream = []
entries_at (suc count) cycle stream = entry cycle 0 stream ∷ entries_at count cycle (stream + 2)

abbrev pub numbers_from : ℕ → ℕ → List ℕ
numbers_from zero number = []
numbers_from (suc count) number = number ∷ numbers_from count (number + 2)

abbrev pub cycles_from : ℕ → ℕ → List ℕ
cycles_from zero cycle = []
cycles_from (suc count) cycle = cycle ∷ cycles_from count (cycle + 1)

-- what computing looks through: who unfolds it unfolds all of these
unfoldable pub all_computed : ℕ
unfolding data_of padded_headers headers_of priority_of rst_stream_of settings_frame_of ping_of goaway_of window_update_of at_most to_end block_at groups_of integer_of string_of encoded_field table_with_field more_at integer_at entry_at indexed_at entry_name_at name_at value_at literal_at update_at read_as representation_at static_table head_at body_at string_at connection_of stored_session
all_computed = 0

-- what the session that is kept with its answers comes to, the session comes to
pub from_kept : (turns : List Turn) (result : Summary) → kept_summary (stored_session small small_reader by_standing turns) ≡ result → summary (session_by turns) ≡ result
from_kept turns result is = sym (ap (λ (v : Stored (List (List Bits))). kept_summary v) (session_is small small_reader by_standing turns)) ∙ is

-- ---- one value: a connection attaches the channel and puts a value, in one piece of octets, and closes

abbrev pub one_value : List Turn
one_value = turns_of (Closed 0 ∷ Bytes 0 (greeting ++ (attach_on 1 ++ value_on 3 42)) ∷ Opened 0 ∷ [])

-- it is taken in the first cycle of that turn, and handed in the third
abbrev pub one_value_result : Summary
one_value_result = record {
  taken = entry 64 0 3 ∷ [];
  handed = 66 ∷ [];
  attached = 1;
  cycles = 192;
  numbers = 42 ∷ [];
  waiting = 0;
  octets = 0 ∷ 0 ∷ 0 ∷ 0 ∷ 3 ∷ 10 ∷ 1 ∷ 42 ∷ [];
  frames = 2;
  ends = 1;
  declines = [];
  window = 1048576;
}

one_value_kept : kept_summary (stored_session small small_reader by_standing one_value) ≡ one_value_result
unfolding all_computed
one_value_kept = refl

pub one_value_is : summary (session_by one_value) ≡ one_value_result
one_value_is = from_kept one_value one_value_result one_value_kept

-- ---- a second attachment of the channel, by another connection and, once the first stream was reset, by the first one

abbrev pub second_attachment : List Turn
second_attachment = turns_of (Bytes 0 (reset_on 1 ++ attach_on 3) ∷ Bytes 1 (greeting ++ attach_on 1) ∷ Opened 1 ∷ Bytes 0 (greeting ++ attach_on 1) ∷ Opened 0 ∷ [])

-- both are answered 6, and nothing more is attached
abbrev pub second_attachment_result : Summary
second_attachment_result = record {
  taken = [];
  handed = [];
  attached = 1;
  cycles = 320;
  numbers = [];
  waiting = 0;
  octets = [];
  frames = 0;
  ends = 0;
  declines = Status 6 ∷ Status 6 ∷ [];
  window = 1048576;
}

second_attachment_kept : kept_summary (stored_session small small_reader by_standing second_attachment) ≡ second_attachment_result
unfolding all_computed
second_attachment_kept = refl

pub second_attachment_is : summary (session_by second_attachment) ≡ second_attachment_result
second_attachment_is = from_kept second_attachment second_attachment_result second_attachment_kept

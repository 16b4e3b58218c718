-- Worked turns in which the rings are full: calls wait.
use Rattle.std.specs.Prelude.{◌≡◌, List, [], ◌∷◌, ◌++◌, refl}
use Rattle.esi_links.specs.declared.links.Event.TheVariants.{Opened, Bytes, Idle}
use Rattle.serve_cases.specs.Frames.{greeting, shut_greeting, attach_on, value_on, values_from, reset_on, update_on}
use Rattle.serve_cases.specs.Rows.{turns_of, entry, entries_from, entries_at, numbers_from, cycles_from, all_computed, from_kept}
use Rattle.serve_cases.specs.SmallReader.{small_reader}
use Rattle.serve_cases.specs.SmallServer.{small}
use Rattle.serve_cases.specs.StoredRule.{stored_session}
use Rattle.serve_cases.specs.Summaries.{Summary, summary, kept_summary, session_by, by_standing}
use Rattle.serve_rule.specs.Turns.{Turn}

-- ---- a call that waits is reset, while another connection's waits; then the channel is attached

-- Connection 0 puts 37 values, of which 36 are taken: 16 are in each ring and 2 in each stage. The last, on stream 73, waits, and
-- then a value of connection 1. Stream 73 is reset, and connection 1 attaches the channel.
abbrev pub reset_while_waiting : List Turn
reset_while_waiting = turns_of
    (Bytes 1 (attach_on 3)
    ∷ Bytes 0 (reset_on 73)
    ∷ Bytes 1 (greeting ++ value_on 1 200)
    ∷ Opened 1
    ∷ Bytes 0 (greeting ++ values_from 37 1)
    ∷ Opened 0
    ∷ [])

-- 37 values are taken and handed. The last is that of connection 1: it is taken in the cycle in which room comes to it. Stream 73
-- is not in the journal, and its octets are given back as all are.
abbrev pub reset_while_waiting_result : Summary
reset_while_waiting_result = record {
  taken = entries_at 16 64 1 ++ (entries_from 20 65 33 ++ entry 324 1 1 ∷ []);
  handed = cycles_from 37 320;
  attached = 1;
  cycles = 384;
  numbers = numbers_from 36 1 ++ 200 ∷ [];
  waiting = 0;
  octets = 0 ∷ 0 ∷ 0 ∷ 0 ∷ 0 ∷ [];
  frames = 74;
  ends = 37;
  declines = [];
  window = 1048576;
}

reset_while_waiting_kept : kept_summary (stored_session small small_reader by_standing reset_while_waiting) ≡ reset_while_waiting_result
unfolding all_computed
reset_while_waiting_kept = refl

pub reset_while_waiting_is : summary (session_by reset_while_waiting) ≡ reset_while_waiting_result
reset_while_waiting_is = from_kept reset_while_waiting reset_while_waiting_result reset_while_waiting_kept

-- ---- no window to send, behind 41 calls

-- A client lets nothing through on its streams, attaches the channel on stream 1 and puts 41 values; then four turns are idle.
abbrev pub shut_windows : List Turn
shut_windows = turns_of (Idle ∷ Idle ∷ Idle ∷ Idle ∷ Bytes 0 (shut_greeting ++ (attach_on 1 ++ values_from 41 3)) ∷ Opened 0 ∷ [])

-- 37 values are taken: 36 fill the rings and the stages, and one is handed, whose message waits. 4 calls wait, and their octets
-- are not given back. No reply has put DATA, and none has ended.
abbrev pub shut_windows_result : Summary
shut_windows_result = record {
  taken = entries_at 16 64 3 ++ entries_from 21 65 35;
  handed = 66 ∷ [];
  attached = 1;
  cycles = 384;
  numbers = 3 ∷ [];
  waiting = 4;
  octets = [];
  frames = 0;
  ends = 0;
  declines = [];
  window = 1048568;
}

shut_windows_kept : kept_summary (stored_session small small_reader by_standing shut_windows) ≡ shut_windows_result
unfolding all_computed
shut_windows_kept = refl

pub shut_windows_is : summary (session_by shut_windows) ≡ shut_windows_result
shut_windows_is = from_kept shut_windows shut_windows_result shut_windows_kept

-- ---- then a window of three octets, and later one of five more

abbrev pub opened_windows : List Turn
opened_windows = turns_of (Bytes 0 (update_on 1 5) ∷ Bytes 0 (update_on 1 3) ∷ Bytes 0 (shut_greeting ++ (attach_on 1 ++ values_from 41 3)) ∷ Opened 0 ∷ [])

-- the first brings one frame of DATA with three octets, the second one with the rest of the message, after which the next value
-- is handed, and so one more call is taken
abbrev pub opened_windows_result : Summary
opened_windows_result = record {
  taken = entries_at 16 64 3 ++ (entries_from 21 65 35 ++ entry 196 0 77 ∷ []);
  handed = 66 ∷ 192 ∷ [];
  attached = 1;
  cycles = 256;
  numbers = 3 ∷ 5 ∷ [];
  waiting = 3;
  octets = 0 ∷ 0 ∷ 0 ∷ 0 ∷ 3 ∷ 10 ∷ 1 ∷ 3 ∷ [];
  frames = 2;
  ends = 0;
  declines = [];
  window = 1048570;
}

opened_windows_kept : kept_summary (stored_session small small_reader by_standing opened_windows) ≡ opened_windows_result
unfolding all_computed
opened_windows_kept = refl

pub opened_windows_is : summary (session_by opened_windows) ≡ opened_windows_result
opened_windows_is = from_kept opened_windows opened_windows_result opened_windows_kept

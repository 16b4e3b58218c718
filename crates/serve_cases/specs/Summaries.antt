-- What a worked session comes to.
use Rattle.std.specs.Prelude.{ℕ, ◌+◌, List, [], ◌∷◌, ◌++◌, length, map, refl}
use Rattle.serve_acts.specs.Acts.{Act}
use Rattle.serve_acts.specs.Acts.Act.{Declines, Puts, Finishes}
use Rattle.serve_acts.specs.Attachments.{attachments, handed_on}
use Rattle.serve_acts.specs.Calls.{waiting}
use Rattle.serve_acts.specs.Journal.{Taken, Handed, all_taken, all_handed, cycles}
use Rattle.serve_acts.specs.Streams.{data_put}
use Rattle.serve_acts.specs.declared.decline.Decline.{Decline}
use Rattle.serve_cases.specs.SmallReader.{small_reader, brought_by}
use Rattle.serve_cases.specs.SmallServer.{small, small_replies, number_of}
use Rattle.serve_cases.specs.Stored.{Stored}
use Rattle.serve_cases.specs.StoredRule.{ByStanding}
use Rattle.serve_rule.specs.Connection.{stands}
use Rattle.serve_rule.specs.Moves.{own_moves}
use Rattle.serve_rule.specs.Turns.{Turn, session}

-- the cycle, connection and stream of a value that was taken
pub record Entry : Type 0 where
  pub cycle : ℕ
  pub conn : ℕ
  pub stream : ℕ

abbrev entry_of : Taken → Entry
entry_of taken = record { cycle = taken.cycle; conn = taken.call.conn; stream = taken.call.stream }

-- how often a reply put a frame of DATA, and how often one ended
abbrev data_frames : List Act → ℕ
data_frames [] = 0
data_frames (Puts conn stream octets ∷ t) = data_frames t + 1
data_frames (act ∷ t) = data_frames t

abbrev ended_replies : List Act → ℕ
ended_replies [] = 0
ended_replies (Finishes conn stream ∷ t) = ended_replies t + 1
ended_replies (act ∷ t) = ended_replies t

-- the answers that are a header list alone, in order
abbrev declines : List Act → List Decline
declines [] = []
declines (Declines conn stream flow decline ∷ t) = declines t ++ decline ∷ []
declines (act ∷ t) = declines t

pub record Summary : Type 0 where
  -- the journal: what was taken, in which cycles values were handed, how many streams were attached; how many cycles ran
  pub taken : List Entry
  pub handed : List ℕ
  pub attached : ℕ
  pub cycles : ℕ
  -- the numbers that were handed, in order, and how many calls wait
  pub numbers : List ℕ
  pub waiting : ℕ
  -- the octets of DATA on stream 1 of connection 0, the frames of DATA and the ends of replies on all streams, other answers
  pub octets : List ℕ
  pub frames : ℕ
  pub ends : ℕ
  pub declines : List Decline
  -- the window to receive of connection 0
  pub window : ℕ

-- with the window that is given
abbrev summary_with : ℕ → List Act → Summary
summary_with window t = record {
  taken = map entry_of (all_taken t);
  handed = map (λ (entry : Handed). entry.cycle) (all_handed t);
  attached = length (attachments t);
  cycles = cycles t;
  numbers = map number_of (handed_on 0 t);
  waiting = length (waiting 0 t);
  octets = data_put 0 1 t;
  frames = data_frames t;
  ends = ended_replies t;
  declines = declines t;
  window = window;
}

abbrev pub summary : List Act → Summary
summary t = summary_with (stands small_replies 0 t).flow.receive t

abbrev pub kept_summary : {S : Type 0} → Stored S → Summary
kept_summary v = summary_with v.conn_zero.stands.flow.receive v.acts

-- ---- sessions of the small server

abbrev pub session_by : List Turn → List Act
session_by turns = session small small_reader (own_moves small) turns

abbrev pub by_standing : ByStanding small small_reader
by_standing = record { brings = brought_by; is = λ c t. refl }

-- What a list of calls adds to one stream's windows, since it was opened.
use Rattle.std.proofs.Common.{◌≡◌, ◌≢◌, ℕ, ◌+◌, ◌-◌, ◌<◌, ◌≤◌, inl, inr, ℤ, pos, negsuc, ◌+ℤ◌, ◌-ℤ◌, ◌≤ℤ◌, Bool, true, false, cond, ◌&&◌, not, ltb, eqb, min, is_some, Option, Some, None, List, [], ◌∷◌, ◌++◌, length, refl, ap, sym, ◌∙◌, subst, lit≤, arith}
use Rattle.std.specs.Int.{int_min}
use Rattle.std.proofs.lemmas.Bool.{ltb-false, lt-ltb, le-ltb, cases_lt, eq-eqb, ne_eqb, eqb-true, eqb-false, and_parts, or_parts, cond-true, cond-false}
use Rattle.std.proofs.lemmas.Bool.Decides.{eqb_tells}
use Rattle.std.proofs.lemmas.Int.{ints}
use Rattle.h2_flow.specs.declared.limits.TheConstants.{FIRST_WINDOW, GREATEST_WINDOW, OPEN_STREAMS}
use Rattle.h2_flow.specs.declared.stream_windows.StreamWindows.{StreamWindows}
use Rattle.h2_flow.specs.Streams.{new_windows, windows_on, with_windows, without_stream, send_window_of, is_too_great, octets_of, stream_of}
use Rattle.h2_flow.specs.KeyedRows.{AreApart}
use Rattle.h2_flow.specs.KeyedRowLaws.{row_at-named, row_at-with_same, row_at-with_other, row_at-push_same, row_at-push_other, row_at-without_same, row_at-without_other, AreApart-with, AreApart-without, AreApart-push}
use Rattle.h2_flow.specs.Windows.{Windows, Answer, no_fault, fault_of_connection, fault_of_stream, first_windows, is_open, may_open, after_opening, may_send_on, receipt_on, update_on, after_sending_on, passes_some}
use Rattle.h2_flow.specs.History.{Call, Step, IsRun, only, total_since, stays_open, opens, closes, increment_for, octets_sent_on, octets_arrived_on, setting_after, is_open_after, stream_send_window, connection_send_window, AreStreamSums}
use Rattle.h2_flow.specs.History.Call.{OpenStream, CloseStream, Received, Resolve, Sent, Update, Initial}
use Rattle.h2_flow.specs.ConnectionSums.{run_is_summed, connection_sums}

-- a stream's windows are these sums
record HasSums (given spent arrived initial : ℕ) (row : StreamWindows) : Type 0 where
  credit : row.credit ≡ pos given -ℤ pos spent
  receive : row.receive + arrived ≡ FIRST_WINDOW
  bounded : send_window_of initial row ≤ℤ pos GREATEST_WINDOW

-- what is so at every moment: the stream is open as reported, and if it is, its windows are these sums
record Tracks (stream given spent arrived : ℕ) (is_it_open : Bool) (initial : ℕ) (rows : List StreamWindows) : Type 0 where
  apart : AreApart stream_of rows
  setting : initial ≤ GREATEST_WINDOW
  flag : is_some (windows_on stream rows) ≡ is_it_open
  sums : (row : StreamWindows) → windows_on stream rows ≡ Some row → HasSums given spent arrived initial row

-- the same sums, written otherwise
same_tracks : (stream i s r i' s' r' : ℕ) (o : Bool) (initial : ℕ) (rows : List StreamWindows) → Tracks stream i s r o initial rows → i' ≡ i → s' ≡ s → r' ≡ r → Tracks stream i' s' r' o initial rows
same_tracks stream i s r i' s' r' o initial rows tracks ei es er =
    subst (λ n. Tracks stream n s' r' o initial rows) (sym ei) (subst (λ n. Tracks stream i n r' o initial rows) (sym es) (subst (λ n. Tracks stream i s n o initial rows) (sym er) tracks))

-- where the stream is not open, nothing is said of sums
closed_tracks : (stream i s r i' s' r' : ℕ) (o : Bool) (initial : ℕ) (rows : List StreamWindows) → Tracks stream i s r o initial rows → windows_on stream rows ≡ None → Tracks stream i' s' r' o initial rows
closed_tracks stream i s r i' s' r' o initial rows tracks none = record {
  apart = tracks.apart;
  setting = tracks.setting;
  flag = tracks.flag;
  sums = λ row found. let no : None ≡ Some row = sym none ∙ found in absurd (cc no);
}

-- windows that are put in place of a stream's
put_tracks : (stream changed : ℕ) (new row : StreamWindows) (i s r i' s' r' : ℕ) (o : Bool) (initial : ℕ) (rows : List StreamWindows)
    → Tracks stream i s r o initial rows → windows_on changed rows ≡ Some row → new.stream ≡ changed
    → (changed ≡ stream → HasSums i s r initial row → HasSums i' s' r' initial new)
    → (changed ≢ stream → (i' ≡ i) × (s' ≡ s) × (r' ≡ r))
    → Tracks stream i' s' r' o initial (with_windows new rows)
put_tracks stream changed new row i s r i' s' r' o initial rows tracks found named mine others =
    elim (eqb_tells changed stream) [
      | inl h ↦
          let here : windows_on stream rows ≡ Some row = ap (λ t. windows_on t rows) (sym h.1) ∙ found in
          let put : windows_on stream (with_windows new rows) ≡ Some new =
          subst (λ t. windows_on t (with_windows new rows) ≡ Some new) (named ∙ h.1) (row_at-with_same stream_of new rows row (ap (λ t. windows_on t rows) named ∙ found)) in
          record {
            apart = AreApart-with stream_of new rows tracks.apart;
            setting = tracks.setting;
            flag = ap is_some put ∙ (sym (ap is_some here) ∙ tracks.flag);
            sums = λ other is. let same : new ≡ other = cc in subst (λ w. HasSums i' s' r' initial w) same (mine h.1 (tracks.sums row here));
          }
      | inr h ↦
          let stays : windows_on stream (with_windows new rows) ≡ windows_on stream rows = row_at-with_other stream_of stream new rows (λ e. h.1 (sym named ∙ e)) in
          let others_stay = others h.1 in
          same_tracks stream i s r i' s' r' o initial (with_windows new rows)
          (record {
            apart = AreApart-with stream_of new rows tracks.apart;
            setting = tracks.setting;
            flag = ap is_some stays ∙ tracks.flag;
            sums = λ other is. tracks.sums other (sym stays ∙ is);
          }) others_stay.0 others_stay.1 others_stay.2
    ]

-- `only` at the stream and at another
only_same : (stream other octets : ℕ) → other ≡ stream → only stream other octets ≡ octets
only_same stream other octets e = cond-true (eqb other stream) octets 0 (eq-eqb other stream e)

only_other : (stream other octets : ℕ) → other ≢ stream → only stream other octets ≡ 0
only_other stream other octets ne = cond-false (eqb other stream) octets 0 (ne_eqb other stream ne)

module _ (stream i s r : ℕ) (o : Bool) (positive : 0 < stream) where
  -- ---- DATA that arrived

  Receives : ℕ → ℕ → Answer → Type 0
  Receives other octets answer = Tracks stream (i + 0) (s + 0) (r + octets_arrived_on stream (Received other octets answer.fault)) o answer.windows.initial answer.windows.streams

  received_on_cases : (short : Bool) (row : StreamWindows) (other octets : ℕ) (w : Windows) → ltb row.receive octets ≡ short → windows_on other w.streams ≡ Some row → Tracks stream i s r o w.initial w.streams
      → Receives other octets (cond short (fault_of_stream w) (no_fault (record w { streams = with_windows (record row { receive = row.receive - octets }) w.streams })))
  unfolding Receives
  received_on_cases true row other octets w is found tracks = same_tracks stream i s r (i + 0) (s + 0) (r + 0) o w.initial w.streams tracks (omega arith) (omega arith) (omega arith)
  received_on_cases false row other octets w is found tracks =
      put_tracks stream other (record row { receive = row.receive - octets }) row i s r (i + 0) (s + 0) (r + only stream other octets) o w.initial w.streams tracks found (row_at-named stream_of other w.streams row found)
      (λ e has. record {
        credit = omega (arith, ints, has.credit);
        receive = omega (arith, only_same stream other octets e, has.receive, ltb-false row.receive octets is);
        bounded = has.bounded;
      })
      (λ ne. (omega arith, omega arith, omega (arith, only_other stream other octets ne)))

  received_on_tracks : (found : Option StreamWindows) (other octets : ℕ) (w : Windows) → windows_on other w.streams ≡ found → Tracks stream i s r o w.initial w.streams
      → Receives other octets (receipt_on found octets (record w { receive = w.receive - octets }))
  unfolding Receives
  received_on_tracks None other octets w is tracks =
      elim (eqb_tells other stream) [
        | inl h ↦ closed_tracks stream i s r (i + 0) (s + 0) (r + only stream other octets) o w.initial w.streams tracks (ap (λ t. windows_on t w.streams) (sym h.1) ∙ is)
        | inr h ↦ same_tracks stream i s r (i + 0) (s + 0) (r + only stream other octets) o w.initial w.streams tracks (omega arith) (omega arith) (omega (arith, only_other stream other octets h.1))
      ]
  received_on_tracks (Some row) other octets w is tracks = received_on_cases (ltb row.receive octets) row other octets (record w { receive = w.receive - octets }) refl is tracks

  received_after : (is_connection : Bool) (other octets : ℕ) (w : Windows) → eqb other 0 ≡ is_connection → Tracks stream i s r o w.initial w.streams → let rest : Windows = record w { receive = w.receive - octets } in
      Receives other octets (cond is_connection (no_fault rest) (receipt_on (windows_on other w.streams) octets rest))
  unfolding Receives
  received_after true other octets w is tracks =
      let ne : other ≢ stream = λ e. absurd (omega (arith, e, eqb-true other 0 is)) in
      same_tracks stream i s r (i + 0) (s + 0) (r + only stream other octets) o w.initial w.streams tracks (omega arith) (omega arith) (omega (arith, only_other stream other octets ne))
  received_after false other octets w is tracks = received_on_tracks (windows_on other w.streams) other octets w refl tracks

  received_cases : (short : Bool) (other octets : ℕ) (w : Windows) → Tracks stream i s r o w.initial w.streams → let rest : Windows = record w { receive = w.receive - octets } in
      Receives other octets (cond short (fault_of_connection w) (cond (eqb other 0) (no_fault rest) (receipt_on (windows_on other w.streams) octets rest)))
  unfolding Receives
  received_cases true other octets w tracks = same_tracks stream i s r (i + 0) (s + 0) (r + 0) o w.initial w.streams tracks (omega arith) (omega arith) (omega arith)
  received_cases false other octets w tracks = received_after (eqb other 0) other octets w refl tracks

  -- ---- DATA that was sent

  sent_tracks : (found : Option StreamWindows) (other octets : ℕ) (w : Windows) → windows_on other w.streams ≡ found → Tracks stream i s r o w.initial w.streams
      → let new = after_sending_on found octets w in Tracks stream (i + 0) (s + only stream other octets) (r + 0) o new.initial new.streams
  sent_tracks None other octets w is tracks =
      elim (eqb_tells other stream) [
        | inl h ↦ closed_tracks stream i s r (i + 0) (s + only stream other octets) (r + 0) o w.initial w.streams tracks (ap (λ t. windows_on t w.streams) (sym h.1) ∙ is)
        | inr h ↦ same_tracks stream i s r (i + 0) (s + only stream other octets) (r + 0) o w.initial w.streams tracks (omega arith) (omega (arith, only_other stream other octets h.1)) (omega arith)
      ]
  sent_tracks (Some row) other octets w is tracks =
      put_tracks stream other (record row { credit = row.credit -ℤ pos octets }) row i s r (i + 0) (s + only stream other octets) (r + 0) o w.initial w.streams tracks is (row_at-named stream_of other w.streams row is)
      (λ e has. record {
        credit = omega (arith, ints, only_same stream other octets e, has.credit);
        receive = omega (arith, has.receive);
        bounded = omega (arith, ints, has.bounded);
      })
      (λ ne. (omega arith, omega (arith, only_other stream other octets ne), omega arith))

  -- ---- WINDOW_UPDATE

  Updates : ℕ → ℕ → Answer → Type 0
  Updates other increment answer = Tracks stream (i + increment_for stream (Update other increment answer.fault)) (s + 0) (r + 0) o answer.windows.initial answer.windows.streams

  not_too_great : (window : ℤ) → is_too_great window ≡ false → window ≤ℤ pos GREATEST_WINDOW
  not_too_great window is = grind (arith, ints)

  updated_row : (great : Bool) (row : StreamWindows) (other increment : ℕ) (w : Windows) → is_too_great (send_window_of w.initial row +ℤ pos increment) ≡ great → windows_on other w.streams ≡ Some row → Tracks stream i s r o w.initial w.streams
      → Updates other increment (cond great (fault_of_stream w) (no_fault (record w { streams = with_windows (record row { credit = row.credit +ℤ pos increment }) w.streams })))
  unfolding Updates
  updated_row true row other increment w is found tracks = same_tracks stream i s r (i + 0) (s + 0) (r + 0) o w.initial w.streams tracks (omega arith) (omega arith) (omega arith)
  updated_row false row other increment w is found tracks =
      let within = not_too_great (send_window_of w.initial row +ℤ pos increment) is in
      put_tracks stream other (record row { credit = row.credit +ℤ pos increment }) row i s r (i + only stream other increment) (s + 0) (r + 0) o w.initial w.streams tracks found (row_at-named stream_of other w.streams row found)
      (λ e has. record {
        credit = omega (arith, ints, only_same stream other increment e, has.credit);
        receive = omega (arith, has.receive);
        bounded = omega (arith, ints, within);
      })
      (λ ne. (omega (arith, only_other stream other increment ne), omega arith, omega arith))

  updated_stream : (found : Option StreamWindows) (other increment : ℕ) (w : Windows) → windows_on other w.streams ≡ found → Tracks stream i s r o w.initial w.streams → Updates other increment (update_on found increment w)
  unfolding Updates
  updated_stream None other increment w is tracks =
      elim (eqb_tells other stream) [
        | inl h ↦ closed_tracks stream i s r (i + only stream other increment) (s + 0) (r + 0) o w.initial w.streams tracks (ap (λ t. windows_on t w.streams) (sym h.1) ∙ is)
        | inr h ↦ same_tracks stream i s r (i + only stream other increment) (s + 0) (r + 0) o w.initial w.streams tracks (omega (arith, only_other stream other increment h.1)) (omega arith) (omega arith)
      ]
  updated_stream (Some row) other increment w is tracks = updated_row (is_too_great (send_window_of w.initial row +ℤ pos increment)) row other increment w refl is tracks

  updated_connection : (great : Bool) (other increment : ℕ) (w : Windows) → other ≢ stream → Tracks stream i s r o w.initial w.streams → Updates other increment (cond great (fault_of_connection w) (no_fault (record w { send = w.send + increment })))
  unfolding Updates
  updated_connection true other increment w ne tracks = same_tracks stream i s r (i + 0) (s + 0) (r + 0) o w.initial w.streams tracks (omega arith) (omega arith) (omega arith)
  updated_connection false other increment w ne tracks =
      same_tracks stream i s r (i + only stream other increment) (s + 0) (r + 0) o w.initial w.streams tracks (omega (arith, only_other stream other increment ne)) (omega arith) (omega arith)

  updated_cases : (is_connection : Bool) (other increment : ℕ) (w : Windows) → eqb other 0 ≡ is_connection → Tracks stream i s r o w.initial w.streams
      → Updates other increment (cond is_connection (cond (ltb GREATEST_WINDOW (w.send + increment)) (fault_of_connection w) (no_fault (record w { send = w.send + increment }))) (update_on (windows_on other w.streams) increment w))
  unfolding Updates
  updated_cases true other increment w is tracks =
      let ne : other ≢ stream = λ e. absurd (omega (arith, e, eqb-true other 0 is)) in
      updated_connection (ltb GREATEST_WINDOW (w.send + increment)) other increment w ne tracks
  updated_cases false other increment w is tracks = updated_stream (windows_on other w.streams) other increment w refl tracks

  -- ---- SETTINGS

  Begins : Answer → Type 0
  Begins answer = Tracks stream (i + 0) (s + 0) (r + 0) o answer.windows.initial answer.windows.streams

  passes_none : (value : ℕ) (rows : List StreamWindows) (row : StreamWindows) → passes_some value rows ≡ false → windows_on stream rows ≡ Some row → is_too_great (send_window_of value row) ≡ false
  passes_none value [] row none found = cc
  passes_none value (first ∷ rows) row none found =
      let parts = or_parts (is_too_great (send_window_of value first)) (passes_some value rows) none in
      elim (eqb_tells first.stream stream) [
        | inl h ↦ let is : Some first ≡ Some row = sym (cond-true (eqb first.stream stream) (Some first) (windows_on stream rows) h.0) ∙ found in let same : first ≡ row = cc in subst (λ (w : StreamWindows). is_too_great (send_window_of value w) ≡ false) same parts.0
        | inr h ↦ passes_none value rows row parts.1 (sym (cond-false (eqb first.stream stream) (Some first) (windows_on stream rows) h.0) ∙ found)
      ]

  begun_cases : (great passes : Bool) (value : ℕ) (w : Windows) → ltb GREATEST_WINDOW value ≡ great → passes_some value w.streams ≡ passes → Tracks stream i s r o w.initial w.streams
      → Begins (cond great (fault_of_stream w) (cond passes (fault_of_stream w) (no_fault (record w { initial = value }))))
  unfolding Begins
  begun_cases true passes value w is none tracks = same_tracks stream i s r (i + 0) (s + 0) (r + 0) o w.initial w.streams tracks (omega arith) (omega arith) (omega arith)
  begun_cases false true value w is none tracks = same_tracks stream i s r (i + 0) (s + 0) (r + 0) o w.initial w.streams tracks (omega arith) (omega arith) (omega arith)
  begun_cases false false value w is none tracks = record {
    apart = tracks.apart;
    setting = ltb-false GREATEST_WINDOW value is;
    flag = tracks.flag;
    sums = λ row found. let has = tracks.sums row found in record {
      credit = omega (arith, ints, has.credit);
      receive = omega (arith, has.receive);
      bounded = not_too_great (send_window_of value row) (passes_none value w.streams row none found);
    };
  }

  -- ---- streams that open and close

  opened_tracks : (is_it : Bool) (other : ℕ) (w : Windows) → eqb other stream ≡ is_it → windows_on other w.streams ≡ None → Tracks stream i s r o w.initial w.streams
      → Tracks stream (cond is_it 0 (i + 0)) (cond is_it 0 (s + 0)) (cond is_it 0 (r + 0)) (cond is_it true o) w.initial (w.streams ++ new_windows other ∷ [])
  opened_tracks true other w is after_closing tracks =
      let same : other ≡ stream = eqb-true other stream is in
      let put : windows_on stream (w.streams ++ new_windows other ∷ []) ≡ Some (new_windows other) = row_at-push_same stream_of stream (new_windows other) w.streams same (ap (λ t. windows_on t w.streams) (sym same) ∙ after_closing) in
      record {
        apart = AreApart-push stream_of (new_windows other) w.streams tracks.apart after_closing;
        setting = tracks.setting;
        flag = ap is_some put;
        sums = λ row found. let that : new_windows other ≡ row = cc in
            subst (λ w'. HasSums 0 0 0 w.initial w') that (record { credit = refl; receive = refl; bounded = omega (arith, ints, tracks.setting) });
      }
  opened_tracks false other w is after_closing tracks =
      let stays : windows_on stream (w.streams ++ new_windows other ∷ []) ≡ windows_on stream w.streams = row_at-push_other stream_of stream (new_windows other) w.streams (eqb-false other stream is) in
      same_tracks stream i s r (i + 0) (s + 0) (r + 0) o w.initial (w.streams ++ new_windows other ∷ [])
      (record {
        apart = AreApart-push stream_of (new_windows other) w.streams tracks.apart after_closing;
        setting = tracks.setting;
        flag = ap is_some stays ∙ tracks.flag;
        sums = λ row found. tracks.sums row (sym stays ∙ found);
      }) (omega arith) (omega arith) (omega arith)

  closes_tracks : (is_it : Bool) (other : ℕ) (w : Windows) → eqb other stream ≡ is_it → Tracks stream i s r o w.initial w.streams
      → Tracks stream (i + 0) (s + 0) (r + 0) (cond is_it false o) w.initial (without_stream other w.streams)
  closes_tracks true other w is tracks =
      let same : other ≡ stream = eqb-true other stream is in
      let gone : windows_on stream (without_stream other w.streams) ≡ None = ap (λ t. windows_on stream (without_stream t w.streams)) same ∙ row_at-without_same stream_of stream w.streams tracks.apart in
      record {
        apart = AreApart-without stream_of other w.streams tracks.apart;
        setting = tracks.setting;
        flag = ap is_some gone;
        sums = λ row found. let no : None ≡ Some row = sym gone ∙ found in absurd (cc no);
      }
  closes_tracks false other w is tracks =
      let stays : windows_on stream (without_stream other w.streams) ≡ windows_on stream w.streams = row_at-without_other stream_of stream other w.streams (eqb-false other stream is) in
      same_tracks stream i s r (i + 0) (s + 0) (r + 0) o w.initial (without_stream other w.streams)
      (record {
        apart = AreApart-without stream_of other w.streams tracks.apart;
        setting = tracks.setting;
        flag = ap is_some stays ∙ tracks.flag;
        sums = λ row found. tracks.sums row (sym stays ∙ found);
      }) (omega arith) (omega arith) (omega arith)

-- ---- one call, and all of them

-- what is so after a call
TracksBehind : ℕ → Call → ℕ → ℕ → ℕ → Bool → Windows → Type 0
TracksBehind stream call i s r o w =
    Tracks stream (cond (opens stream call) 0 (i + increment_for stream call)) (cond (opens stream call) 0 (s + octets_sent_on stream call)) (cond (opens stream call) 0 (r + octets_arrived_on stream call)) (cond (opens stream call) true (cond (closes stream call) false o)) w.initial w.streams

not_open : (stream : ℕ) (w : Windows) → not (is_open stream w) ≡ true → windows_on stream w.streams ≡ None
not_open stream w is = elim (windows_on stream w.streams) as (λ found. not (is_some found) ≡ true → found ≡ None) [ None ↦ λ _. refl | Some row ↦ λ no. absurd (cc no) ] is

open_step : (stream other i s r : ℕ) (o : Bool) → 0 < stream → (may : Bool) (w : Windows) → may_open other w ≡ may → Tracks stream i s r o w.initial w.streams
    → TracksBehind stream (OpenStream other may) i s r o (cond may (record w { streams = w.streams ++ new_windows other ∷ [] }) w)
unfolding TracksBehind
open_step stream other i s r o positive true w is tracks =
    let after_closing = not_open other w (and_parts (ltb 0 other) (not (is_open other w)) (and_parts (ltb 0 other && not (is_open other w)) (ltb (length w.streams) OPEN_STREAMS) is).0).1 in
    opened_tracks stream i s r o positive (eqb other stream) other w refl after_closing tracks
open_step stream other i s r o positive false w is tracks = same_tracks stream i s r (i + 0) (s + 0) (r + 0) o w.initial w.streams tracks (omega arith) (omega arith) (omega arith)

step_tracks : (call : Call) (stream i s r : ℕ) (o : Bool) (old new : Windows) → 0 < stream → Step old call new → Tracks stream i s r o old.initial old.streams → TracksBehind stream call i s r o new
unfolding TracksBehind Receives Updates Begins
step_tracks (OpenStream other opens) stream i s r o old new positive step tracks =
    subst (λ w. TracksBehind stream (OpenStream other opens) i s r o w) (sym step.1)
    (subst (λ b. TracksBehind stream (OpenStream other b) i s r o (after_opening other old)) (sym step.0) (open_step stream other i s r o positive (may_open other old) old refl tracks))
step_tracks (CloseStream other) stream i s r o old new positive step tracks =
    subst (λ w. TracksBehind stream (CloseStream other) i s r o w) (sym step) (closes_tracks stream i s r o positive (eqb other stream) other old refl tracks)
step_tracks (Received other octets fault) stream i s r o old new positive step tracks =
    subst (λ (answer : Answer). TracksBehind stream (Received other octets answer.fault) i s r o answer.windows) (sym step) (received_cases stream i s r o positive (ltb old.receive octets) other octets old tracks)
step_tracks (Resolve octets increment) stream i s r o old new positive step tracks =
    subst (λ w. TracksBehind stream (Resolve octets increment) i s r o w) (sym step.1) (same_tracks stream i s r (i + 0) (s + 0) (r + 0) o old.initial old.streams tracks (omega arith) (omega arith) (omega arith))
step_tracks (Sent other octets) stream i s r o old new positive step tracks =
    subst (λ w. TracksBehind stream (Sent other octets) i s r o w) (sym step.1) (sent_tracks stream i s r o positive (windows_on other old.streams) other octets old refl tracks)
step_tracks (Update other increment fault) stream i s r o old new positive step tracks =
    subst (λ (answer : Answer). TracksBehind stream (Update other increment answer.fault) i s r o answer.windows) (sym step) (updated_cases stream i s r o positive (eqb other 0) other increment old refl tracks)
step_tracks (Initial value fault) stream i s r o old new positive step tracks =
    subst (λ (answer : Answer). TracksBehind stream (Initial value answer.fault) i s r o answer.windows) (sym step) (begun_cases stream i s r o positive (ltb GREATEST_WINDOW value) (passes_some value old.streams) value old refl refl tracks)

run_tracks : (calls : List Call) (stream i s r : ℕ) (o : Bool) (old new : Windows) → 0 < stream → IsRun old calls new → Tracks stream i s r o old.initial old.streams
    → Tracks stream (total_since stream (increment_for stream) i calls) (total_since stream (octets_sent_on stream) s calls) (total_since stream (octets_arrived_on stream) r calls) (stays_open stream o calls) new.initial new.streams
unfolding TracksBehind
run_tracks [] stream i s r o old new positive same tracks = subst (λ (w : Windows). Tracks stream i s r o w.initial w.streams) same tracks
run_tracks (call ∷ calls) stream i s r o old new positive (between, (step, run)) tracks =
    run_tracks calls stream _ _ _ _ between new positive run (step_tracks call stream i s r o old between positive step tracks)

first_tracks : (stream : ℕ) → Tracks stream 0 0 0 false first_windows.initial first_windows.streams
first_tracks stream = record {
  apart = tt;
  setting = lit≤ tt;
  flag = refl;
  sums = λ row found. let no : None ≡ Some row = found in absurd (cc no);
}

-- the lesser of a window and the connection's, or 0
lesser : (window : ℤ) (send : ℕ) → min (octets_of window) send ≡ octets_of (int_min window (pos send))
lesser (pos n) send =
    elim (cases_lt send n) [
      | inl lt ↦ let least : min n send ≡ send = omega arith in least ∙ ap (λ b. octets_of (cond b (pos send) (pos n))) (sym (lt-ltb send n lt))
      | inr le ↦ let least : min n send ≡ n = omega arith in least ∙ ap (λ b. octets_of (cond b (pos send) (pos n))) (sym (le-ltb send n le))
    ]
lesser (negsuc n) send = omega arith

may_send_is : (found : Option StreamWindows) (w : Windows) (o : Bool) (stream_window connection_window : ℤ) → is_some found ≡ o → ((row : StreamWindows) → found ≡ Some row → send_window_of w.initial row ≡ stream_window) → pos w.send ≡ connection_window
    → may_send_on found w ≡ cond o (octets_of (int_min stream_window connection_window)) 0
may_send_is None w o stream_window connection_window is windows send = ap (λ b. cond b (octets_of (int_min stream_window connection_window)) 0) is
may_send_is (Some row) w o stream_window connection_window is windows send =
    lesser (send_window_of w.initial row) w.send
    ∙ (ap (λ z. octets_of (int_min z (pos w.send))) (windows row refl)
    ∙ (ap (λ z. octets_of (int_min stream_window z)) send
    ∙ ap (λ b. cond b (octets_of (int_min stream_window connection_window)) 0) is))

pub stream_sums : (new : Windows) (calls : List Call) (stream : ℕ) → 0 < stream → IsRun first_windows calls new → AreStreamSums stream calls new
stream_sums new calls stream positive run =
    let tracks = run_tracks calls stream 0 0 0 false first_windows new positive run (first_tracks stream) in
    let sums = run_is_summed first_windows new calls run in
    let window : (row : StreamWindows) → windows_on stream new.streams ≡ Some row → send_window_of new.initial row ≡ stream_send_window stream calls =
    λ row found. ap (λ n. pos n +ℤ row.credit) sums.setting ∙ ap (λ z. pos (setting_after FIRST_WINDOW calls) +ℤ z) (tracks.sums row found).credit in
    record {
      is_open = tracks.flag;
      send = window;
      receive = λ row found. omega (arith, ints, (tracks.sums row found).receive);
      bounded = λ row found. (tracks.sums row found).bounded;
      may_send = may_send_is (windows_on stream new.streams) new (is_open_after stream calls) (stream_send_window stream calls) (connection_send_window calls) tracks.flag window (connection_sums new calls run).send;
    }

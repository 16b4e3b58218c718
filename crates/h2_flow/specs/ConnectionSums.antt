-- What a list of calls adds to the connection's windows and to the setting.
use Rattle.std.proofs.Common.{◌≡◌, ℕ, ◌+◌, ◌-◌, ◌≤◌, pos, ◌+ℤ◌, Bool, true, false, cond, ltb, eqb, Option, Some, None, List, [], ◌∷◌, ◌++◌, refl, lit≤, ap, sym, ◌∙◌, subst, arith}
use Rattle.std.proofs.lemmas.Bool.{ltb-false}
use Rattle.std.proofs.lemmas.Int.{ints}
use Rattle.h2_flow.specs.declared.limits.TheConstants.{GREATEST_WINDOW}
use Rattle.h2_flow.specs.declared.stream_windows.StreamWindows.{StreamWindows}
use Rattle.h2_flow.specs.Streams.{new_windows, windows_on, with_windows, send_window_of, is_too_great}
use Rattle.h2_flow.specs.Windows.{Windows, AreBounded, Answer, no_fault, fault_of_connection, fault_of_stream, first_windows, may_open, may_send, may_send_on, answer_at_receipt, receipt_on, answer_at_update, update_on, after_sending, after_sending_on, answer_at_setting, passes_some}
use Rattle.h2_flow.specs.History.{Call, Step, IsRun, IsSummed, only, increment_for, octets_sent, octets_arrived, octets_resolved, setting_after, AreConnectionSums}
use Rattle.h2_flow.specs.History.Call.{OpenStream, CloseStream, Received, Resolve, Sent, Update, Initial}

-- what one call adds to the connection's windows, and to the setting
record Adds (old : Windows) (call : Call) (new : Windows) : Type 0 where
  send : new.send + octets_sent call ≡ old.send + increment_for 0 call
  receive : new.receive + octets_arrived call ≡ old.receive + octets_resolved call
  setting : new.initial ≡ setting_after old.initial (call ∷ [])

-- ---- DATA that arrived

Receives : ℕ → ℕ → Windows → Answer → Type 0
Receives stream octets w answer = Adds w (Received stream octets answer.fault) answer.windows

received_on_cases : (short : Bool) (row : StreamWindows) (stream octets : ℕ) (w : Windows) → octets ≤ w.receive → let rest : Windows = record w { receive = w.receive - octets } in
    Receives stream octets w (cond short (fault_of_stream rest) (no_fault (record rest { streams = with_windows (record row { receive = row.receive - octets }) w.streams })))
unfolding Receives
received_on_cases true row stream octets w within = record { send = refl; receive = omega arith; setting = refl }
received_on_cases false row stream octets w within = record { send = refl; receive = omega arith; setting = refl }

received_on_adds : (found : Option StreamWindows) (stream octets : ℕ) (w : Windows) → octets ≤ w.receive → Receives stream octets w (receipt_on found octets (record w { receive = w.receive - octets }))
unfolding Receives
received_on_adds None stream octets w within = record { send = refl; receive = omega arith; setting = refl }
received_on_adds (Some row) stream octets w within = received_on_cases (ltb row.receive octets) row stream octets w within

received_after : (is_connection : Bool) (stream octets : ℕ) (w : Windows) → octets ≤ w.receive → let rest : Windows = record w { receive = w.receive - octets } in
    Receives stream octets w (cond is_connection (no_fault rest) (receipt_on (windows_on stream w.streams) octets rest))
unfolding Receives
received_after true stream octets w within = record { send = refl; receive = omega arith; setting = refl }
received_after false stream octets w within = received_on_adds (windows_on stream w.streams) stream octets w within

received_cases : (short : Bool) (stream octets : ℕ) (w : Windows) → ltb w.receive octets ≡ short → let rest : Windows = record w { receive = w.receive - octets } in
    Receives stream octets w (cond short (fault_of_connection w) (cond (eqb stream 0) (no_fault rest) (receipt_on (windows_on stream w.streams) octets rest)))
unfolding Receives
received_cases true stream octets w is = record { send = refl; receive = omega arith; setting = refl }
received_cases false stream octets w is = received_after (eqb stream 0) stream octets w (ltb-false w.receive octets is)

received_adds : (stream octets : ℕ) (w : Windows) → Receives stream octets w (answer_at_receipt stream octets w)
received_adds stream octets w = received_cases (ltb w.receive octets) stream octets w refl

-- ---- DATA that was sent

sent_adds_on : (found : Option StreamWindows) (stream octets : ℕ) (w : Windows) → octets ≤ may_send_on found w → Adds w (Sent stream octets) (after_sending_on found octets w)
sent_adds_on None stream octets w within = record { send = omega arith; receive = refl; setting = refl }
sent_adds_on (Some row) stream octets w within = record { send = omega arith; receive = refl; setting = refl }

sent_adds : (stream octets : ℕ) (w : Windows) → octets ≤ may_send stream w → Adds w (Sent stream octets) (after_sending stream octets w)
sent_adds stream octets w within = sent_adds_on (windows_on stream w.streams) stream octets w within

-- ---- WINDOW_UPDATE

Updates : ℕ → ℕ → Windows → Answer → Type 0
Updates stream increment w answer = Adds w (Update stream increment answer.fault) answer.windows

updated_connection : (great : Bool) (stream increment : ℕ) (w : Windows) → eqb stream 0 ≡ true → Updates stream increment w (cond great (fault_of_connection w) (no_fault (record w { send = w.send + increment })))
unfolding Updates
updated_connection true stream increment w is = record { send = refl; receive = refl; setting = refl }
updated_connection false stream increment w is =
    let all : only 0 stream increment ≡ increment = ap (λ b. cond b increment 0) is in
    record { send = omega arith; receive = refl; setting = refl }

updated_row : (great : Bool) (row : StreamWindows) (stream increment : ℕ) (w : Windows) → eqb stream 0 ≡ false → Updates stream increment w (cond great (fault_of_stream w) (no_fault (record w { streams = with_windows (record row { credit = row.credit +ℤ pos increment }) w.streams })))
unfolding Updates
updated_row true row stream increment w is = record { send = refl; receive = refl; setting = refl }
updated_row false row stream increment w is =
    let none : only 0 stream increment ≡ 0 = ap (λ b. cond b increment 0) is in
    record { send = omega arith; receive = refl; setting = refl }

updated_stream : (found : Option StreamWindows) (stream increment : ℕ) (w : Windows) → eqb stream 0 ≡ false → Updates stream increment w (update_on found increment w)
unfolding Updates
updated_stream None stream increment w is =
    let none : only 0 stream increment ≡ 0 = ap (λ b. cond b increment 0) is in
    record { send = omega arith; receive = refl; setting = refl }
updated_stream (Some row) stream increment w is = updated_row (is_too_great (send_window_of w.initial row +ℤ pos increment)) row stream increment w is

updated_cases : (is_connection : Bool) (stream increment : ℕ) (w : Windows) → eqb stream 0 ≡ is_connection
    → Updates stream increment w (cond is_connection (cond (ltb GREATEST_WINDOW (w.send + increment)) (fault_of_connection w) (no_fault (record w { send = w.send + increment }))) (update_on (windows_on stream w.streams) increment w))
unfolding Updates
updated_cases true stream increment w is = updated_connection (ltb GREATEST_WINDOW (w.send + increment)) stream increment w is
updated_cases false stream increment w is = updated_stream (windows_on stream w.streams) stream increment w is

updated_adds : (stream increment : ℕ) (w : Windows) → Updates stream increment w (answer_at_update stream increment w)
updated_adds stream increment w = updated_cases (eqb stream 0) stream increment w refl

-- ---- SETTINGS, and streams that open

Begins : ℕ → Windows → Answer → Type 0
Begins value w answer = Adds w (Initial value answer.fault) answer.windows

begun_cases : (great passes : Bool) (value : ℕ) (w : Windows) → Begins value w (cond great (fault_of_stream w) (cond passes (fault_of_stream w) (no_fault (record w { initial = value }))))
unfolding Begins
begun_cases true passes value w = record { send = refl; receive = refl; setting = refl }
begun_cases false true value w = record { send = refl; receive = refl; setting = refl }
begun_cases false false value w = record { send = refl; receive = refl; setting = refl }

begun_adds : (value : ℕ) (w : Windows) → Begins value w (answer_at_setting value w)
begun_adds value w = begun_cases (ltb GREATEST_WINDOW value) (passes_some value w.streams) value w

opened_adds : (may opens : Bool) (stream : ℕ) (w with_one : Windows) → with_one.send ≡ w.send → with_one.receive ≡ w.receive → with_one.initial ≡ w.initial → Adds w (OpenStream stream opens) (cond may with_one w)
opened_adds true opens stream w with_one send receive initial = record { send = omega arith; receive = omega arith; setting = initial }
opened_adds false opens stream w with_one send receive initial = record { send = refl; receive = refl; setting = refl }

-- ---- one call, and all of them

step_adds : (call : Call) (old new : Windows) → Step old call new → Adds old call new
unfolding Receives Updates Begins
step_adds (OpenStream stream opens) old new step =
    subst (λ w. Adds old (OpenStream stream opens) w) (sym step.1)
    (opened_adds (may_open stream old) opens stream old (record old { streams = old.streams ++ new_windows stream ∷ [] }) refl refl refl)
step_adds (CloseStream stream) old new step =
    subst (λ w. Adds old (CloseStream stream) w) (sym step) (record { send = refl; receive = refl; setting = refl })
step_adds (Received stream octets fault) old new step =
    subst (λ (answer : Answer). Adds old (Received stream octets answer.fault) answer.windows) (sym step) (received_adds stream octets old)
step_adds (Resolve octets increment) old new step =
    subst (λ w. Adds old (Resolve octets increment) w) (sym step.1) (record { send = refl; receive = omega (arith, step.0); setting = refl })
step_adds (Sent stream octets) old new step =
    subst (λ w. Adds old (Sent stream octets) w) (sym step.1) (sent_adds stream octets old step.0)
step_adds (Update stream increment fault) old new step =
    subst (λ (answer : Answer). Adds old (Update stream increment answer.fault) answer.windows) (sym step) (updated_adds stream increment old)
step_adds (Initial value fault) old new step =
    subst (λ (answer : Answer). Adds old (Initial value answer.fault) answer.windows) (sym step) (begun_adds value old)

-- the setting after a call and further ones
setting_step : (call : Call) (value : ℕ) (calls : List Call) → setting_after value (call ∷ calls) ≡ setting_after (setting_after value (call ∷ [])) calls
setting_step (Initial other None) value calls = refl
setting_step (Initial other (Some fault)) value calls = refl
setting_step call value calls = refl

pub run_is_summed : (old new : Windows) (calls : List Call) → IsRun old calls new → IsSummed old calls new
run_is_summed old new [] same = subst (λ w. IsSummed old [] w) same (record { send = refl; receive = refl; setting = refl })
run_is_summed old new (call ∷ calls) (between, (step, run)) =
    let adds = step_adds call old between step in
    let rest = run_is_summed between new calls run in
    record {
      send = omega (arith, adds.send, rest.send);
      receive = omega (arith, adds.receive, rest.receive);
      setting = rest.setting ∙ (ap (λ value. setting_after value calls) adds.setting ∙ sym (setting_step call old.initial calls));
    }

-- ---- neither the setting nor a window of the connection passes the greatest

update_on_keeps : (great : Bool) (w other : Windows) → other.send ≡ w.send → (cond great (fault_of_stream w) (no_fault other)).windows.send ≡ w.send
update_on_keeps true w other same = refl
update_on_keeps false w other same = same

update_stream_keeps : (found : Option StreamWindows) (increment : ℕ) (w : Windows) → (update_on found increment w).windows.send ≡ w.send
update_stream_keeps None increment w = refl
update_stream_keeps (Some row) increment w =
    update_on_keeps (is_too_great (send_window_of w.initial row +ℤ pos increment)) w (record w { streams = with_windows (record row { credit = row.credit +ℤ pos increment }) w.streams }) refl

update_connection_within : (great : Bool) (increment : ℕ) (w : Windows) → ltb GREATEST_WINDOW (w.send + increment) ≡ great → w.send ≤ GREATEST_WINDOW
    → (cond great (fault_of_connection w) (no_fault (record w { send = w.send + increment }))).windows.send ≤ GREATEST_WINDOW
update_connection_within true increment w is within = within
update_connection_within false increment w is within = ltb-false GREATEST_WINDOW (w.send + increment) is

update_within : (is_connection : Bool) (stream increment : ℕ) (w : Windows) → w.send ≤ GREATEST_WINDOW
    → (cond is_connection (cond (ltb GREATEST_WINDOW (w.send + increment)) (fault_of_connection w) (no_fault (record w { send = w.send + increment }))) (update_on (windows_on stream w.streams) increment w)).windows.send ≤ GREATEST_WINDOW
update_within true stream increment w within = update_connection_within (ltb GREATEST_WINDOW (w.send + increment)) increment w refl within
update_within false stream increment w within = omega (arith, update_stream_keeps (windows_on stream w.streams) increment w)

setting_within : (great passes : Bool) (value : ℕ) (w : Windows) → ltb GREATEST_WINDOW value ≡ great → w.initial ≤ GREATEST_WINDOW
    → (cond great (fault_of_stream w) (cond passes (fault_of_stream w) (no_fault (record w { initial = value })))).windows.initial ≤ GREATEST_WINDOW
setting_within true passes value w is within = within
setting_within false true value w is within = within
setting_within false false value w is within = ltb-false GREATEST_WINDOW value is

step_bounded : (call : Call) (old new : Windows) → Step old call new → AreBounded old → AreBounded new
step_bounded (Resolve octets increment) old new step bounded =
    subst AreBounded (sym step.1) (record { initial = bounded.initial; send = bounded.send; receive = omega (arith, bounded.receive) })
step_bounded (Update stream increment fault) old new step bounded =
    let adds = step_adds (Update stream increment fault) old new step in
    record {
      initial = omega (arith, adds.setting, bounded.initial);
      send = subst (λ (answer : Answer). answer.windows.send ≤ GREATEST_WINDOW) (sym step) (update_within (eqb stream 0) stream increment old bounded.send);
      receive = omega (arith, adds.receive, bounded.receive);
    }
step_bounded (Initial value fault) old new step bounded =
    let adds = step_adds (Initial value fault) old new step in
    record {
      initial = subst (λ (answer : Answer). answer.windows.initial ≤ GREATEST_WINDOW) (sym step) (setting_within (ltb GREATEST_WINDOW value) (passes_some value old.streams) value old refl bounded.initial);
      send = omega (arith, adds.send, bounded.send);
      receive = omega (arith, adds.receive, bounded.receive);
    }
step_bounded call old new step bounded =
    let adds = step_adds call old new step in
    record {
      initial = omega (arith, adds.setting, bounded.initial);
      send = omega (arith, adds.send, bounded.send);
      receive = omega (arith, adds.receive, bounded.receive);
    }

run_bounded : (calls : List Call) (old new : Windows) → IsRun old calls new → AreBounded old → AreBounded new
run_bounded [] old new same bounded = subst AreBounded same bounded
run_bounded (call ∷ calls) old new (between, (step, run)) bounded = run_bounded calls between new run (step_bounded call old between step bounded)

pub connection_sums : (new : Windows) (calls : List Call) → IsRun first_windows calls new → AreConnectionSums calls new
connection_sums new calls run =
    let sums = run_is_summed first_windows new calls run in
    record {
      setting = sums.setting;
      send = omega (arith, ints, sums.send);
      receive = omega (arith, ints, sums.receive);
      bounded = run_bounded calls first_windows new run (record { initial = lit≤ tt; send = lit≤ tt; receive = lit≤ tt });
    }

-- The tests of the code's calls report the faults that are due.
use Rattle.std.proofs.Common.{◌≡◌, ℕ, ◌+◌, ◌-◌, ◌<◌, ◌≤◌, inl, inr, ℤ, pos, ◌+ℤ◌, ◌<ℤ◌, Bool, true, false, cond, ltb, eqb, Option, Some, None, IsSomeAnd, refl, ap, sym, ◌∙◌, subst, arith}
use Rattle.std.proofs.lemmas.Bool.{ltb-true, ltb-false, eqb-true, eqb-false}
use Rattle.std.proofs.lemmas.List.Folds.{Any-from_list_any, list_any-from_Any}
use Rattle.std.proofs.lemmas.Int.{ints}
use Rattle.h2_flow.specs.declared.ledger.FlowFault.{FlowFault}
use Rattle.h2_flow.specs.declared.limits.TheConstants.{GREATEST_WINDOW}
use Rattle.h2_flow.specs.declared.stream_windows.StreamWindows.{StreamWindows}
use Rattle.h2_flow.specs.Streams.{windows_on, with_windows, send_window_of, is_too_great}
use Rattle.h2_flow.specs.Windows.{Windows, no_fault, fault_of_connection, fault_of_stream, answer_at_receipt, receipt_on, answer_at_update, update_on, answer_at_setting, passes_some}
use Rattle.h2_flow.specs.Faults.{connection_fault, stream_fault, IsCheckedAtReceipt, IsCheckedAtUpdate, IsCheckedAtSetting}

whole_of : Option FlowFault → Bool
whole_of None = false
whole_of (Some fault) = fault.whole

-- the two faults are two
not_both : connection_fault ≡ stream_fault → ⊥
unfolding whole_of
not_both e = let no : true ≡ false = ap whole_of e in cc

-- what the test of a window says
great_true : (window : ℤ) → is_too_great window ≡ true → pos GREATEST_WINDOW <ℤ window
great_true window is = grind (arith, ints)

great_false : (window : ℤ) → is_too_great window ≡ false → pos GREATEST_WINDOW <ℤ window → ⊥
great_false window is past = grind (arith, ints)

great_from : (window : ℤ) → pos GREATEST_WINDOW <ℤ window → is_too_great window ≡ true
great_from window past = grind (arith, ints)

-- ---- DATA that arrived

receipt_row : (short : Bool) (stream octets : ℕ) (row : StreamWindows) (w : Windows) → octets ≤ w.receive → 0 < stream → ltb row.receive octets ≡ short → windows_on stream w.streams ≡ Some row → let rest : Windows = record w { receive = w.receive - octets } in
    IsCheckedAtReceipt stream octets w (cond short (fault_of_stream rest) (no_fault (record rest { streams = with_windows (record row { receive = row.receive - octets }) w.streams })))
receipt_row true stream octets row w within positive is found = record {
  of_connection = (λ e. absurd (not_both (sym e)), λ below. absurd (omega arith));
  of_stream = (λ e. (within, (positive, subst (λ (o : Option StreamWindows). IsSomeAnd o (λ r. r.receive < octets)) (sym found) (ltb-true row.receive octets is))), λ h. refl);
  unchanged = λ e. absurd (not_both (sym e));
  counted = λ e. refl;
}
receipt_row false stream octets row w within positive is found = record {
  of_connection = (λ e. absurd (cc e), λ below. absurd (omega arith));
  of_stream = (λ e. absurd (cc e), λ h. let below : row.receive < octets = subst (λ (o : Option StreamWindows). IsSomeAnd o (λ r. r.receive < octets)) found h.1.1 in absurd (omega (arith, ltb-false row.receive octets is)));
  unchanged = λ e. absurd (cc e);
  counted = λ e. absurd (cc e);
}

receipt_found : (found : Option StreamWindows) (stream octets : ℕ) (w : Windows) → octets ≤ w.receive → 0 < stream → windows_on stream w.streams ≡ found
    → IsCheckedAtReceipt stream octets w (receipt_on found octets (record w { receive = w.receive - octets }))
receipt_found None stream octets w within positive found = record {
  of_connection = (λ e. absurd (cc e), λ below. absurd (omega arith));
  of_stream = (λ e. absurd (cc e), λ h. absurd (subst (λ (o : Option StreamWindows). IsSomeAnd o (λ r. r.receive < octets)) found h.1.1));
  unchanged = λ e. absurd (cc e);
  counted = λ e. absurd (cc e);
}
receipt_found (Some row) stream octets w within positive found = receipt_row (ltb row.receive octets) stream octets row w within positive refl found

receipt_after : (is_connection : Bool) (stream octets : ℕ) (w : Windows) → octets ≤ w.receive → eqb stream 0 ≡ is_connection → let rest : Windows = record w { receive = w.receive - octets } in
    IsCheckedAtReceipt stream octets w (cond is_connection (no_fault rest) (receipt_on (windows_on stream w.streams) octets rest))
receipt_after true stream octets w within is = record {
  of_connection = (λ e. absurd (cc e), λ below. absurd (omega arith));
  of_stream = (λ e. absurd (cc e), λ h. absurd (omega (arith, h.1.0, eqb-true stream 0 is)));
  unchanged = λ e. absurd (cc e);
  counted = λ e. absurd (cc e);
}
receipt_after false stream octets w within is =
    let ne = eqb-false stream 0 is in
    let positive : 0 < stream = omega arith in
    receipt_found (windows_on stream w.streams) stream octets w within positive refl

receipt_cases : (short : Bool) (stream octets : ℕ) (w : Windows) → ltb w.receive octets ≡ short → let rest : Windows = record w { receive = w.receive - octets } in
    IsCheckedAtReceipt stream octets w (cond short (fault_of_connection w) (cond (eqb stream 0) (no_fault rest) (receipt_on (windows_on stream w.streams) octets rest)))
receipt_cases true stream octets w is = record {
  of_connection = (λ e. ltb-true w.receive octets is, λ below. refl);
  of_stream = (λ e. absurd (not_both e), λ h. absurd (omega (arith, h.0, ltb-true w.receive octets is)));
  unchanged = λ e. refl;
  counted = λ e. absurd (not_both e);
}
receipt_cases false stream octets w is = receipt_after (eqb stream 0) stream octets w (ltb-false w.receive octets is) refl

pub receipt_law : (stream octets : ℕ) (w : Windows) → IsCheckedAtReceipt stream octets w (answer_at_receipt stream octets w)
receipt_law stream octets w = receipt_cases (ltb w.receive octets) stream octets w refl

-- ---- WINDOW_UPDATE

update_connection : (great : Bool) (stream increment : ℕ) (w : Windows) → stream ≡ 0 → ltb GREATEST_WINDOW (w.send + increment) ≡ great
    → IsCheckedAtUpdate stream increment w (cond great (fault_of_connection w) (no_fault (record w { send = w.send + increment })))
update_connection true stream increment w zero is = record {
  of_connection = (λ e. (zero, ltb-true GREATEST_WINDOW (w.send + increment) is), λ h. refl);
  of_stream = (λ e. absurd (not_both e), λ h. absurd (omega (arith, h.0, zero)));
  unchanged = λ ne. refl;
}
update_connection false stream increment w zero is = record {
  of_connection = (λ e. absurd (cc e), λ h. absurd (omega (arith, h.1, ltb-false GREATEST_WINDOW (w.send + increment) is)));
  of_stream = (λ e. absurd (cc e), λ h. absurd (omega (arith, h.0, zero)));
  unchanged = λ ne. absurd (ne refl);
}

update_row : (great : Bool) (stream increment : ℕ) (row : StreamWindows) (w : Windows) → 0 < stream → is_too_great (send_window_of w.initial row +ℤ pos increment) ≡ great → windows_on stream w.streams ≡ Some row
    → IsCheckedAtUpdate stream increment w (cond great (fault_of_stream w) (no_fault (record w { streams = with_windows (record row { credit = row.credit +ℤ pos increment }) w.streams })))
update_row true stream increment row w positive is found = record {
  of_connection = (λ e. absurd (not_both (sym e)), λ h. absurd (omega (arith, h.0, positive)));
  of_stream = (λ e. (positive, subst (λ (o : Option StreamWindows). IsSomeAnd o (λ r. pos GREATEST_WINDOW <ℤ (send_window_of w.initial r +ℤ pos increment))) (sym found) (great_true (send_window_of w.initial row +ℤ pos increment) is)), λ h. refl);
  unchanged = λ ne. refl;
}
update_row false stream increment row w positive is found = record {
  of_connection = (λ e. absurd (cc e), λ h. absurd (omega (arith, h.0, positive)));
  of_stream = (λ e. absurd (cc e), λ h. absurd (great_false (send_window_of w.initial row +ℤ pos increment) is (subst (λ (o : Option StreamWindows). IsSomeAnd o (λ r. pos GREATEST_WINDOW <ℤ (send_window_of w.initial r +ℤ pos increment))) found h.1)));
  unchanged = λ ne. absurd (ne refl);
}

update_found : (found : Option StreamWindows) (stream increment : ℕ) (w : Windows) → 0 < stream → windows_on stream w.streams ≡ found → IsCheckedAtUpdate stream increment w (update_on found increment w)
update_found None stream increment w positive found = record {
  of_connection = (λ e. absurd (cc e), λ h. absurd (omega (arith, h.0, positive)));
  of_stream = (λ e. absurd (cc e), λ h. absurd (subst (λ (o : Option StreamWindows). IsSomeAnd o (λ r. pos GREATEST_WINDOW <ℤ (send_window_of w.initial r +ℤ pos increment))) found h.1));
  unchanged = λ ne. absurd (ne refl);
}
update_found (Some row) stream increment w positive found = update_row (is_too_great (send_window_of w.initial row +ℤ pos increment)) stream increment row w positive refl found

update_cases : (is_connection : Bool) (stream increment : ℕ) (w : Windows) → eqb stream 0 ≡ is_connection
    → IsCheckedAtUpdate stream increment w (cond is_connection (cond (ltb GREATEST_WINDOW (w.send + increment)) (fault_of_connection w) (no_fault (record w { send = w.send + increment }))) (update_on (windows_on stream w.streams) increment w))
update_cases true stream increment w is = update_connection (ltb GREATEST_WINDOW (w.send + increment)) stream increment w (eqb-true stream 0 is) refl
update_cases false stream increment w is =
    let ne = eqb-false stream 0 is in
    let positive : 0 < stream = omega arith in
    update_found (windows_on stream w.streams) stream increment w positive refl

pub update_law : (stream increment : ℕ) (w : Windows) → IsCheckedAtUpdate stream increment w (answer_at_update stream increment w)
update_law stream increment w = update_cases (eqb stream 0) stream increment w refl

-- ---- SETTINGS

setting_cases : (great passes : Bool) (value : ℕ) (w : Windows) → ltb GREATEST_WINDOW value ≡ great → passes_some value w.streams ≡ passes
    → IsCheckedAtSetting value w (cond great (fault_of_stream w) (cond passes (fault_of_stream w) (no_fault (record w { initial = value }))))
setting_cases true passes value w is some = record {
  of_connection = λ e. not_both (sym e);
  of_stream = (λ e. inl (ltb-true GREATEST_WINDOW value is), λ h. refl);
  unchanged = λ ne. refl;
}
setting_cases false true value w is some =
    let at = Any-from_list_any (λ row. is_too_great (send_window_of value row)) w.streams some in
    record {
      of_connection = λ e. not_both (sym e);
      of_stream = (λ e. inr (at.0, at.1, at.2, at.3, great_true (send_window_of value at.1) at.4), λ h. refl);
      unchanged = λ ne. refl;
    }
setting_cases false false value w is some = record {
  of_connection = λ e. cc e;
  of_stream = (
    λ e. absurd (cc e),
    λ h. elim h [
      | inl past ↦ absurd (omega (arith, past, ltb-false GREATEST_WINDOW value is))
      | inr at ↦
          let found = list_any-from_Any (λ row. is_too_great (send_window_of value row)) w.streams (at.0, at.1, at.2, at.3, great_from (send_window_of value at.1) at.4) in
          let no : true ≡ false = sym found ∙ some in absurd (cc no)
    ],
  );
  unchanged = λ ne. absurd (ne refl);
}

pub setting_law : (value : ℕ) (w : Windows) → IsCheckedAtSetting value w (answer_at_setting value w)
setting_law value w = setting_cases (ltb GREATEST_WINDOW value) (passes_some value w.streams) value w refl refl

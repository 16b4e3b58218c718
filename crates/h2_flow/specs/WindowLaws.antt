-- Windows as signed numbers.
use Rattle.std.proofs.Common.{◌≡◌, ℕ, ◌≤◌, ◌⊎◌, inl, inr, ℤ, pos, negsuc, ◌≤ℤ◌, Option, Some, subst, arith}
use Rattle.std.proofs.lemmas.Int.{ints}
use Rattle.h2_flow.specs.declared.limits.TheConstants.{GREATEST_WINDOW}
use Rattle.h2_flow.specs.declared.stream_windows.StreamWindows.{StreamWindows}
use Rattle.h2_flow.specs.Streams.{send_window_of, octets_of, windows_on}
use Rattle.h2_flow.specs.Windows.{Windows, may_send, may_send_on}

-- octets that may be sent are no more than the window, or none
pub within_window : (octets : ℕ) (window : ℤ) → octets ≤ octets_of window → (octets ≡ 0) ⊎ (pos octets ≤ℤ window)
within_window octets (pos n) within = inr (omega (arith, ints))
within_window octets (negsuc n) within = inl (omega arith)

-- and the other way round
within_octets : (octets : ℕ) (window : ℤ) → pos octets ≤ℤ window → octets ≤ octets_of window
within_octets octets (pos n) within = omega (arith, ints)
within_octets octets (negsuc n) within = absurd (omega (arith, ints))

-- a greater setting lets no fewer octets be sent
wider : (octets initial setting : ℕ) (row : StreamWindows) → initial ≤ setting → octets ≤ octets_of (send_window_of initial row) → octets ≤ octets_of (send_window_of setting row)
wider octets initial setting row above within =
    elim (within_window octets (send_window_of initial row) within) [
      | inl none ↦ omega arith
      | inr some ↦ within_octets octets (send_window_of setting row) (omega (arith, ints))
    ]

-- what may be sent is no more than the window is under the greatest setting
pub may_spend : (w : Windows) (stream octets : ℕ) (row : StreamWindows) → windows_on stream w.streams ≡ Some row → w.initial ≤ GREATEST_WINDOW → octets ≤ may_send stream w
    → octets ≤ octets_of (send_window_of GREATEST_WINDOW row)
may_spend w stream octets row found bounded within =
    let most : octets ≤ may_send_on (Some row) w = subst (λ (o : Option StreamWindows). octets ≤ may_send_on o w) found within in
    wider octets w.initial GREATEST_WINDOW row bounded (omega arith)

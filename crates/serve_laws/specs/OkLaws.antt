-- Trailers that say OK stand on a connection only where a reply ended.
use Rattle.std.proofs.Common.{◌≡◌, ℕ, ◌==◌, ◌&&◌, ◌||◌, cond, Bool, true, false, List, [], ◌∷◌, ◌++◌, refl, ap, sym, ◌∙◌}
use Rattle.hpack.specs.declared.header.Header.{Header}
use Rattle.h2_history.specs.History.{Entry, outs, turn_entries}
use Rattle.h2_history.specs.Puts.{Put, placed_all}
use Rattle.h2_history.specs.Puts.Put.{Plain, Headers}
use Rattle.h2_history.specs.Standing.{Standing}
use Rattle.h2_history.specs.Verdicts.{update_due}
use Rattle.h2_layouts.specs.declared.frame.Frame.TheVariants.{Content, Reset}
use Rattle.serve_acts.specs.Acts.{Act}
use Rattle.serve_acts.specs.Acts.Act.{Happens, Sends, Reads, Takes, Refuses, Declines, Lists, Attaches, Puts, Finishes, Resets, Returns}
use Rattle.serve_acts.specs.Histories.{history, stood, answer, entries_of, entries_of_event, is_at}
use Rattle.serve_acts.specs.Legal.{IsLegal, Allowed}
use Rattle.serve_acts.specs.Served.{Served}
use Rattle.serve_acts.specs.Streams.{is_finished}
use Rattle.serve_acts.specs.declared.decline.Decline.TheVariants.{Status}
use Rattle.serve_acts.specs.declared.limits.TheConstants.{RESOURCE_EXHAUSTED}
use Rattle.serve_laws.specs.ControlFrames.{Each, IsControl, placed_each, outs_each, update_control, turn_control}
use Rattle.serve_laws.specs.Filters.{any_joined}
use Rattle.serve_laws.specs.Wire.{puts_in, is_ok, holds_ok}
use Rattle.serve_laws.specs.WireLaws.{puts_joined, event_control}
use Rattle.serve_laws.specs.Written.{AreReplies}

module _ {S : Type 0} (served : Served S) (says_ok : List Header → Bool) (facts : AreReplies served.replies says_ok) where
  abbrev IsNoOk : ℕ → Put → Type 0
  IsNoOk s put = is_ok says_ok s put ≡ false

  control_no_ok : (s : ℕ) (put : Put) → IsControl put → IsNoOk s put
  control_no_ok s (Plain (Content stream end octets flow)) is = absurd is
  control_no_ok s (Plain frame) is = refl
  control_no_ok s (Headers stream end headers) is = absurd is

  all_no_ok : (s : ℕ) (puts : List Put) → Each IsControl puts → Each (IsNoOk s) puts
  all_no_ok s [] is = tt
  all_no_ok s (put ∷ puts) is = (control_no_ok s put is.0, all_no_ok s puts is.1)

  headers_no_ok : (b : Bool) (headers : List Header) → says_ok headers ≡ false → (b && says_ok headers) ≡ false
  headers_no_ok true headers e = e
  headers_no_ok false headers e = refl

  placed_no_ok : (s : ℕ) (puts : List Put) (st : Standing) → Each (IsNoOk s) puts → Each (IsNoOk s) (puts_in (outs (placed_all puts st)))
  placed_no_ok s puts st is = outs_each (IsNoOk s) (placed_all puts st) (placed_each (IsNoOk s) (λ code u. refl) puts st is)

  answer_no_ok : (s stream : ℕ) (end : Bool) (flow : ℕ) (headers : List Header) → says_ok headers ≡ false → Each (IsNoOk s) (answer stream end flow headers)
  answer_no_ok s stream end flow headers e = (headers_no_ok (stream == s) headers e, all_no_ok s (update_due flow) (update_control flow))

  abbrev is_end : Act → Bool
  is_end (Finishes conn stream) = true
  is_end act = false

  act_no_ok : (s : ℕ) (act : Act) (st : Standing) (t : List Act) → Allowed served act t → is_end act ≡ false → Each (IsNoOk s) (puts_in (entries_of served.replies act st))
  act_no_ok s (Finishes conn stream) st t may is = cc
  act_no_ok s (Puts conn stream octets) st t may is = (refl, tt)
  act_no_ok s (Reads conn) st t may is = all_no_ok s (puts_in (turn_entries st)) (turn_control st)
  act_no_ok s (Takes call) st t may is = placed_no_ok s (answer call.stream false call.flow served.replies.begin) st (answer_no_ok s call.stream false call.flow served.replies.begin facts.begin)
  act_no_ok s (Refuses call) st t may is =
      placed_no_ok s (answer call.stream true call.flow (served.replies.decline (Status RESOURCE_EXHAUSTED))) st
      (answer_no_ok s call.stream true call.flow (served.replies.decline (Status RESOURCE_EXHAUSTED)) (facts.decline (Status RESOURCE_EXHAUSTED) refl))
  act_no_ok s (Declines conn stream flow decline) st t may is =
      placed_no_ok s (answer stream true flow (served.replies.decline decline)) st (answer_no_ok s stream true flow (served.replies.decline decline) (facts.decline decline may.failed))
  act_no_ok s (Lists conn stream flow text) st t may is = placed_no_ok s (answer stream false flow served.replies.begin) st (answer_no_ok s stream false flow served.replies.begin facts.begin)
  act_no_ok s (Attaches channel conn stream flow) st t may is = placed_no_ok s (answer stream false flow served.replies.begin) st (answer_no_ok s stream false flow served.replies.begin facts.begin)
  act_no_ok s (Resets conn stream code) st t may is = placed_no_ok s (Plain (Reset stream code) ∷ []) st (refl, tt)
  act_no_ok s (Returns conn stream octets) st t may is = placed_no_ok s (update_due octets) st (all_no_ok s (update_due octets) (update_control octets))
  act_no_ok s (Sends conn octets) st t may is = tt
  act_no_ok s act st t may is = tt

  none_ok : (s : ℕ) (puts : List Put) → Each (IsNoOk s) puts → holds_ok says_ok s puts ≡ false
  none_ok s [] is = refl
  none_ok s (put ∷ puts) is = simp is.0 (none_ok s puts is.1)

  or_left : (b d : Bool) → d ≡ false → (b || d) ≡ b
  or_left true d e = refl
  or_left false d e = e

  -- nothing is added
  ok_more : (s : ℕ) (history entries : List Entry) → Each (IsNoOk s) (puts_in entries) → holds_ok says_ok s (puts_in (history ++ entries)) ≡ holds_ok says_ok s (puts_in history)
  ok_more s history entries is =
      ap (λ (l : List Put). holds_ok says_ok s l) (puts_joined history entries)
      ∙ (any_joined (is_ok says_ok s) (puts_in history) (puts_in entries)
      ∙ or_left (holds_ok says_ok s (puts_in history)) (holds_ok says_ok s (puts_in entries)) (none_ok s (puts_in entries) is))

  ok_step : (b : Bool) (s : ℕ) (history entries : List Entry) → Each (IsNoOk s) (puts_in entries) → holds_ok says_ok s (puts_in (history ++ cond b entries [])) ≡ holds_ok says_ok s (puts_in history)
  ok_step true s history entries is = ok_more s history entries is
  ok_step false s history entries is = ok_more s history [] tt

  finishes_by : (b d : Bool) (c s conn stream : ℕ) (t : List Act) → (stream == s) ≡ d
      → (holds_ok says_ok s (puts_in (history served.replies c t)) ≡ true → is_finished c s t ≡ true)
      → holds_ok says_ok s (puts_in (history served.replies c t ++ cond b (entries_of served.replies (Finishes conn stream) (stood (history served.replies c t))) [])) ≡ true
      → cond (b && d) true (is_finished c s t) ≡ true
  finishes_by true true c s conn stream t e rest any = refl
  finishes_by true false c s conn stream t e rest any =
      let st : Standing = stood (history served.replies c t) in
      rest (sym (ok_more s (history served.replies c t) (entries_of served.replies (Finishes conn stream) st)
      (placed_no_ok s (Headers stream true served.replies.trailers ∷ []) st (ap (λ (b : Bool). b && says_ok served.replies.trailers) e, tt))) ∙ any)
  finishes_by false d c s conn stream t e rest any = rest (sym (ok_more s (history served.replies c t) [] tt) ∙ any)

  pub ok_finished : (c s : ℕ) (t : List Act) → IsLegal served t → holds_ok says_ok s (puts_in (history served.replies c t)) ≡ true → is_finished c s t ≡ true
  ok_finished c s [] legal any = cc
  ok_finished c s (Happens event ∷ t) legal any =
      ok_finished c s t legal.1 (sym (ok_more s (history served.replies c t) (entries_of_event c event t) (all_no_ok s (puts_in (entries_of_event c event t)) (event_control c event t))) ∙ any)
  ok_finished c s (Finishes conn stream ∷ t) legal any = finishes_by (conn == c) (stream == s) c s conn stream t refl (λ e. ok_finished c s t legal.1 e) any
  ok_finished c s (act ∷ t) legal any =
      ok_finished c s t legal.1 (sym (ok_step (is_at c act) s (history served.replies c t) (entries_of served.replies act (stood (history served.replies c t))) (act_no_ok s act (stood (history served.replies c t)) t legal.0 refl)) ∙ any)

-- What stands on a connection is what the acts put there: their DATA, and their trailers.
use Rattle.std.proofs.Common.{◌≡◌, ℕ, ◌==◌, ◌&&◌, cond, Bool, true, false, List, [], ◌∷◌, ◌++◌, refl, ap, sym, ◌∙◌, append_assoc, append-nil}
use Rattle.hpack.specs.declared.header.Header.{Header}
use Rattle.esi_links.specs.declared.links.Event.{Event}
use Rattle.esi_links.specs.declared.links.Event.TheVariants.{Opened, Bytes}
use Rattle.h2_history.specs.History.{Entry, first_puts, outs, turn_entries}
use Rattle.h2_history.specs.History.Entry.{Fed, In, Out, Took}
use Rattle.h2_history.specs.Puts.{Put, placed_all}
use Rattle.h2_history.specs.Puts.Put.{Plain, Headers}
use Rattle.h2_history.specs.Runs.{data_put as data_frame}
use Rattle.h2_history.specs.Standing.{Standing}
use Rattle.h2_history.specs.Verdicts.{update_due}
use Rattle.h2_layouts.specs.declared.frame.Frame.TheVariants.{Content, Reset}
use Rattle.h2_layouts.specs.declared.role.Role.TheVariants.{Server}
use Rattle.serve_acts.specs.Acts.{Act}
use Rattle.serve_acts.specs.Acts.Act.{Happens, Sends, Reads, Takes, Refuses, Declines, Lists, Attaches, Puts, Finishes, Resets, Returns}
use Rattle.serve_acts.specs.Connections.{is_connected, opened, connections, admits}
use Rattle.serve_acts.specs.Histories.{history, stood, answer, entries_of, entries_of_event, is_at}
use Rattle.serve_acts.specs.Served.{Replies}
use Rattle.serve_acts.specs.Streams.{data_put}
use Rattle.serve_acts.specs.declared.decline.Decline.TheVariants.{Status}
use Rattle.serve_acts.specs.declared.limits.TheConstants.{RESOURCE_EXHAUSTED}
use Rattle.serve_laws.specs.ControlFrames.{Each, IsControl, placed_each, outs_each, update_control, turn_control}
use Rattle.serve_laws.specs.Wire.{puts_in, content_of, content}

pub puts_joined : (first rest : List Entry) → puts_in (first ++ rest) ≡ puts_in first ++ puts_in rest
puts_joined [] rest = refl
puts_joined (Fed octets ∷ first) rest = puts_joined first rest
puts_joined (In frame ∷ first) rest = puts_joined first rest
puts_joined (Out put ∷ first) rest = ap (λ (l : List Put). put ∷ l) (puts_joined first rest)
puts_joined (Took octets ∷ first) rest = puts_joined first rest

pub content_joined : (s : ℕ) (puts others : List Put) → content s (puts ++ others) ≡ content s puts ++ content s others
content_joined s [] others = refl
content_joined s (put ∷ puts) others = ap (λ (l : List ℕ). content_of s put ++ l) (content_joined s puts others) ∙ sym (append_assoc (content_of s put) (content s puts) (content s others))

-- ---- frames without DATA

abbrev HasNoContent : Put → Type 0
HasNoContent (Plain (Content stream end octets flow)) = ⊥
HasNoContent put = Unit {0}

control_bare : (put : Put) → IsControl put → HasNoContent put
control_bare (Plain (Content stream end octets flow)) is = is
control_bare (Plain frame) is = tt
control_bare (Headers stream end headers) is = tt

pub all_bare : (puts : List Put) → Each IsControl puts → Each HasNoContent puts
all_bare [] is = tt
all_bare (put ∷ puts) is = (control_bare put is.0, all_bare puts is.1)

no_content : (s : ℕ) (put : Put) → HasNoContent put → content_of s put ≡ []
no_content s (Plain (Content stream end octets flow)) is = absurd is
no_content s (Plain frame) is = refl
no_content s (Headers stream end headers) is = refl

none_content : (s : ℕ) (puts : List Put) → Each HasNoContent puts → content s puts ≡ []
none_content s [] is = refl
none_content s (put ∷ puts) is = simp (no_content s put is.0) (none_content s puts is.1)

placed_bare : (puts : List Put) (s : Standing) → Each HasNoContent puts → Each HasNoContent (puts_in (outs (placed_all puts s)))
placed_bare puts s is = outs_each HasNoContent (placed_all puts s) (placed_each HasNoContent (λ code u. tt) puts s is)

answer_bare : (stream : ℕ) (end : Bool) (flow : ℕ) (headers : List Header) → Each HasNoContent (answer stream end flow headers)
answer_bare stream end flow headers = (tt, all_bare (update_due flow) (update_control flow))

-- the act puts no DATA
abbrev is_data : Act → Bool
is_data (Puts conn stream octets) = true
is_data act = false

bare_act : (replies : Replies) (act : Act) (s : Standing) → is_data act ≡ false → Each HasNoContent (puts_in (entries_of replies act s))
bare_act replies (Puts conn stream octets) s is = cc
bare_act replies (Reads conn) s is = all_bare (puts_in (turn_entries s)) (turn_control s)
bare_act replies (Takes call) s is = placed_bare (answer call.stream false call.flow replies.begin) s (answer_bare call.stream false call.flow replies.begin)
bare_act replies (Refuses call) s is = placed_bare (answer call.stream true call.flow (replies.decline (Status RESOURCE_EXHAUSTED))) s (answer_bare call.stream true call.flow (replies.decline (Status RESOURCE_EXHAUSTED)))
bare_act replies (Declines conn stream flow decline) s is = placed_bare (answer stream true flow (replies.decline decline)) s (answer_bare stream true flow (replies.decline decline))
bare_act replies (Lists conn stream flow text) s is = placed_bare (answer stream false flow replies.begin) s (answer_bare stream false flow replies.begin)
bare_act replies (Attaches channel conn stream flow) s is = placed_bare (answer stream false flow replies.begin) s (answer_bare stream false flow replies.begin)
bare_act replies (Finishes conn stream) s is = placed_bare (Headers stream true replies.trailers ∷ []) s (tt, tt)
bare_act replies (Resets conn stream code) s is = placed_bare (Plain (Reset stream code) ∷ []) s (tt, tt)
bare_act replies (Returns conn stream octets) s is = placed_bare (update_due octets) s (all_bare (update_due octets) (update_control octets))
bare_act replies (Sends conn octets) s is = tt
bare_act replies act s is = tt

event_control_by : (b : Bool) (entries : List Entry) → Each IsControl (puts_in entries) → Each IsControl (puts_in (cond b entries []))
event_control_by true entries is = is
event_control_by false entries is = tt

pub event_control : (c : ℕ) (event : Event) (t : List Act) → Each IsControl (puts_in (entries_of_event c event t))
event_control c (Opened conn) t = event_control_by ((conn == c) && ((conn == opened t) && admits (connections t))) (outs (first_puts Server)) (tt, (tt, tt))
event_control c (Bytes conn octets) t = event_control_by ((conn == c) && is_connected c t) (Fed octets ∷ []) tt
event_control c event t = tt

content_more : (s : ℕ) (history entries : List Entry) → Each HasNoContent (puts_in entries) → content s (puts_in (history ++ entries)) ≡ content s (puts_in history)
content_more s history entries is =
    ap (λ (l : List Put). content s l) (puts_joined history entries)
    ∙ (content_joined s (puts_in history) (puts_in entries)
    ∙ (ap (λ (l : List ℕ). content s (puts_in history) ++ l) (none_content s (puts_in entries) is) ∙ append-nil (content s (puts_in history))))

content_step : (b : Bool) (s : ℕ) (history entries : List Entry) → Each HasNoContent (puts_in entries) → content s (puts_in (history ++ cond b entries [])) ≡ content s (puts_in history)
content_step true s history entries is = content_more s history entries is
content_step false s history entries is = content_more s history [] tt

-- ---- DATA

puts_by : (b d : Bool) (c s conn stream : ℕ) (octets : List ℕ) (history : List Entry) (put : List ℕ) → (stream == s) ≡ d → content s (puts_in history) ≡ put
    → content s (puts_in (history ++ cond b (Out (data_frame stream octets) ∷ []) [])) ≡ cond (b && d) (put ++ octets) put
puts_by true true c s conn stream octets history put e is =
    ap (λ (l : List Put). content s l) (puts_joined history (Out (data_frame stream octets) ∷ []))
    ∙ (content_joined s (puts_in history) (data_frame stream octets ∷ []) ∙ simp (e, is, append-nil octets) refl)
puts_by true false c s conn stream octets history put e is =
    ap (λ (l : List Put). content s l) (puts_joined history (Out (data_frame stream octets) ∷ []))
    ∙ (content_joined s (puts_in history) (data_frame stream octets ∷ []) ∙ simp (e, is, append-nil put) refl)
puts_by false d c s conn stream octets history put e is = content_more s history [] tt ∙ is

-- the DATA of a stream on its connection is what the acts put there
pub content_is : (replies : Replies) (c s : ℕ) (t : List Act) → content s (puts_in (history replies c t)) ≡ data_put c s t
content_is replies c s [] = refl
content_is replies c s (Happens event ∷ t) = content_more s (history replies c t) (entries_of_event c event t) (all_bare (puts_in (entries_of_event c event t)) (event_control c event t)) ∙ content_is replies c s t
content_is replies c s (Puts conn stream octets ∷ t) = puts_by (conn == c) (stream == s) c s conn stream octets (history replies c t) (data_put c s t) refl (content_is replies c s t)
content_is replies c s (act ∷ t) = content_step (is_at c act) s (history replies c t) (entries_of replies act (stood (history replies c t))) (bare_act replies act (stood (history replies c t)) refl) ∙ content_is replies c s t

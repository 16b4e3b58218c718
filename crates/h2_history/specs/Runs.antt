-- Lists of calls of a connection, each with the entries that it adds to the history.
use Rattle.std.specs.Prelude.{◌≡◌, ℕ, ◌+◌, ◌≤◌, Bool, true, false, List, [], ◌∷◌, ◌++◌, length, drop}
use Rattle.hpack.specs.declared.header.Header.{Header}
use Rattle.h2_frames.specs.Reading.{fed_with}
use Rattle.h2_history.specs.declared.event.CallEvent.{CallEvent}
use Rattle.h2_history.specs.History.{Entry, outs, after, turn_entries, IsReported, IsAtRest}
use Rattle.h2_history.specs.History.Entry.{Fed, In, Out, Took}
use Rattle.h2_history.specs.Puts.{Put, octets_put, out, offer_all, placed_all}
use Rattle.h2_history.specs.Puts.Put.{Plain, Headers}
use Rattle.h2_history.specs.Sending.{given_back}
use Rattle.h2_history.specs.Standing.{Standing, may_put}
use Rattle.h2_layouts.specs.declared.frame.Frame.TheVariants.{Content, Reset}

-- what a call of the end offers: a header list by `head` or `open_call`, the end of a stream by `finish`, its reset by `reset`,
-- octets of DATA that are given back by `give_back`
pub data Offered : Type 0 where
  HeaderList : (stream : ℕ) (end : Bool) (headers : List Header) → Offered
  EndOfStream : (stream : ℕ) → Offered
  ResetOfStream : (stream code : ℕ) → Offered
  OctetsBack : (stream octets : ℕ) → Offered

-- the frames of it, as the connection stands
abbrev pub puts_of : Offered → Standing → List Put
puts_of (HeaderList stream end headers) s = Headers stream end headers ∷ []
puts_of (EndOfStream stream) s = Plain (Content stream true [] 0) ∷ []
puts_of (ResetOfStream stream code) s = Plain (Reset stream code) ∷ []
puts_of (OctetsBack stream octets) s = given_back stream octets s

-- a call that changed something: octets that are fed; an event that is reported, or nothing further; frames that are offered;
-- DATA that is put by `poll_send`; output that is taken
pub data Call : Type 0 where
  Feed : (octets : List ℕ) → Call
  Report : (event : CallEvent) → Call
  Rest : Call
  Offer : (offer : Offered) → Call
  Send : (stream : ℕ) (octets : List ℕ) → Call
  Take : (octets : ℕ) → Call

-- what was read and put in turns that reported nothing
abbrev pub quiet_entries : Standing → List Standing → List Entry
quiet_entries old [] = []
quiet_entries old (next ∷ others) = turn_entries old ++ quiet_entries next others

abbrev pub rest_entries : {old new : Standing} → IsAtRest old new → List Entry
rest_entries {old} {new} rest = quiet_entries old rest.reaches.turns

abbrev pub reported_entries : {old new : Standing} {event : CallEvent} → IsReported old new event → List Entry
reported_entries {old} {new} {event} reported = quiet_entries old reported.reaches.turns ++ turn_entries reported.last

abbrev pub data_put : ℕ → List ℕ → Put
data_put stream octets = Plain (Content stream false octets (length octets))

-- the call found the one, added these entries, and left the other
abbrev pub Step : Standing → Call → List Entry → Standing → Type 0
Step old (Feed octets) entries new = (entries ≡ Fed octets ∷ []) × (new ≡ record old { reading = fed_with octets old.reading })
Step old (Report event) entries new = (reported : IsReported old new event) × (entries ≡ reported_entries reported)
Step old Rest entries new = (rest : IsAtRest old new) × (entries ≡ rest_entries rest)
Step old (Offer offer) entries new = (entries ≡ outs (placed_all (puts_of offer old) old)) × (new ≡ offer_all (puts_of offer old) old)
Step old (Send stream octets) entries new = (entries ≡ Out (data_put stream octets) ∷ []) × (length octets ≤ may_put stream old) × (new ≡ out (data_put stream octets) old)
Step old (Take octets) entries new = (entries ≡ Took octets ∷ []) × (octets ≤ length old.output) × (new ≡ record old { output = drop octets old.output })

-- a call, and those after it
pub record Steps (old : Standing) (call : Call) (entries : List Entry) (Others : Standing → List Entry → Type 0) : Type 0 where
  pub between : Standing
  pub first : List Entry
  pub rest : List Entry
  pub step : Step old call first between
  pub others : Others between rest
  pub joined : entries ≡ first ++ rest

-- the calls, one after another, lead from the one to the other, and these are the entries of all
abbrev pub IsRun : Standing → List Call → List Entry → Standing → Type 0
IsRun old [] entries new = (entries ≡ []) × (old ≡ new)
IsRun old (call ∷ calls) entries new = Steps old call entries (λ between rest. IsRun between calls rest new)

-- ---- sums over a history

-- the octets of the frames that were put, in order
abbrev pub octets_out : List Entry → Standing → List ℕ
octets_out [] s = []
octets_out (Out put ∷ entries) s = octets_put s.writing put ++ octets_out entries (after (Out put) s)
octets_out (Fed octets ∷ entries) s = octets_out entries (after (Fed octets) s)
octets_out (In frame ∷ entries) s = octets_out entries (after (In frame) s)
octets_out (Took octets ∷ entries) s = octets_out entries (after (Took octets) s)

-- how many octets were taken to be sent
abbrev pub octets_taken : List Entry → ℕ
octets_taken [] = 0
octets_taken (Took octets ∷ entries) = octets + octets_taken entries
octets_taken (Fed octets ∷ entries) = octets_taken entries
octets_taken (In frame ∷ entries) = octets_taken entries
octets_taken (Out put ∷ entries) = octets_taken entries

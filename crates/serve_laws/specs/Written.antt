-- How the peer reads what was sent to it: the facts of frames, of header lists and of messages on which the laws rest.
use Rattle.std.specs.Prelude.{◌≡◌, ℕ, Bool, true, false, List, [], ◌∷◌, flat_map}
use Rattle.cycle_rules.specs.Circuit.{Bits}
use Rattle.hpack.specs.declared.header.Header.{Header}
use Rattle.h2_history.specs.History.{Entry}
use Rattle.h2_history.specs.Puts.{Put}
use Rattle.h2_history.specs.Runs.{octets_out}
use Rattle.h2_history.specs.Standing.{first_standing}
use Rattle.h2_layouts.specs.declared.role.Role.TheVariants.{Server}
use Rattle.serve_acts.specs.Prefixes.{Begins}
use Rattle.serve_acts.specs.Served.{Replies, is_failure}
use Rattle.serve_acts.specs.declared.decline.Decline.{Decline}
use Rattle.serve_laws.specs.Wire.{puts_in}

-- each word passes the test
abbrev pub AreWords : (Bits → Bool) → List Bits → Type 0
AreWords test [] = Unit {0}
AreWords test (word ∷ words) = (test word ≡ true) × AreWords test words

-- `read` gives the frames, HEADERS with their header lists, that stand whole in octets. Of each prefix of the octets of the frames
-- that were put it gives a prefix of these frames.
pub record ReadsFrames (read : List ℕ → List Put) (history : List Entry) : Type 0 where
  pub reads : (octets : List ℕ) → Begins octets (octets_out history (first_standing Server)) → Begins (read octets) (puts_in history)

-- `values` gives the values in the messages of a channel that stand whole in octets. Where these are a prefix of the messages of
-- words that the channel takes, they are a prefix of those words.
pub record ReadsValues (IsWord : ℕ → Bits → Bool) (message : ℕ → Bits → List ℕ) (values : ℕ → List ℕ → List Bits) : Type 0 where
  pub reads : (channel : ℕ) (words : List Bits) (octets : List ℕ) → AreWords (IsWord channel) words → Begins octets (flat_map (message channel) words) → Begins (values channel octets) words

-- which header lists say that a call went well: the trailers do, and neither what begins a reply nor a status of failure
pub record AreReplies (replies : Replies) (says_ok : List Header → Bool) : Type 0 where
  pub trailers : says_ok replies.trailers ≡ true
  pub begin : says_ok replies.begin ≡ false
  pub decline : (decline : Decline) → is_failure decline ≡ true → says_ok (replies.decline decline) ≡ false
